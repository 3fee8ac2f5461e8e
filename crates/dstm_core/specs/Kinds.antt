-- Kinds of event, told apart by where they stand among all of them.
use Rattle.std.specs.Prelude.{ℕ, ◌==◌, ◌||◌, Bool, false, List, [], ◌∷◌}
use Rattle.dstm_core.specs.declared.event.Kind.{Kind}
use Rattle.dstm_core.specs.declared.event.Kind.TheVariants.{Enrol, Stamp, Rank, Begin, LookObj, LookOwner, LookStatus, LookRank, LookOld, LookHigh, LookNew, PutOwner, PutOld, Install, LookNumber, Check, LookSelf, Release, PutHigh, PutNew, Validating, Draw, Commit, Kill, Quit, Pause, Resume}

-- where a kind stands among all of them
abbrev pub order_of : Kind → ℕ
order_of Enrol = 0
order_of Stamp = 1
order_of Rank = 2
order_of Begin = 3
order_of LookObj = 4
order_of LookOwner = 5
order_of LookStatus = 6
order_of LookRank = 7
order_of LookOld = 8
order_of LookHigh = 9
order_of LookNew = 10
order_of PutOwner = 11
order_of PutOld = 12
order_of Install = 13
order_of LookNumber = 14
order_of Check = 15
order_of LookSelf = 16
order_of Release = 17
order_of PutHigh = 18
order_of PutNew = 19
order_of Validating = 20
order_of Draw = 21
order_of Commit = 22
order_of Kill = 23
order_of Quit = 24
order_of Pause = 25
order_of Resume = 26

-- the kind is one of these
abbrev pub is_one_of : List Kind → Kind → Bool
is_one_of [] kind = false
is_one_of (k ∷ kinds) kind = order_of kind == order_of k || is_one_of kinds kind
