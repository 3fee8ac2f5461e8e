-- What a run did: the values that words name, the entry of each attempt that commits, sights, and the law.
use Rattle.std.specs.Prelude.{◌≡◌, ℕ, ◌+◌, ◌-◌, ◌==◌, ◌&&◌, Bool, true, false, List, [], ◌∷◌, ◌++◌, length, reverse, if◌then◌else◌}
use Rattle.dstm_model.specs.declared.value.Val.{Val}
use Rattle.dstm_model.specs.Map.{Entry, value_at, KeepsLaw}
use Rattle.dstm_machines.specs.Histories.{gathered}
use Rattle.dstm_machines.specs.Traces.{Each}
use Rattle.dstm_core.specs.Events.{Event}
use Rattle.dstm_core.specs.declared.event.Kind.{Kind}
use Rattle.dstm_core.specs.declared.event.Kind.TheVariants.{LookNumber, LookSelf, PutNew, Draw}
use Rattle.dstm_core.specs.declared.shape.Shape.{Shape}
use Rattle.dstm_core.specs.declared.state.Read.{Read}
use Rattle.dstm_core.specs.declared.state.Write.{Write}
use Rattle.dstm_core.specs.declared.status.Status.TheVariants as status
use Rattle.dstm_core.specs.Runs.{local, Core}
use Rattle.dstm_core.specs.State.{LocalState, given, own_attempt}
use Rattle.dstm_core.specs.Traces.{word}
use Rattle.dstm_core.specs.Words.{code_of}
use Rattle.dstm_core.specs.Words.Word.{ObjectWord, StatusWord, OwnerWord, OldWord, LowWord, HighWord}

-- ---- versions and values

-- the value that the new words of locator l hold after a run
abbrev pub new_value : Shape → List Event → ℕ → Val
new_value shape run l = record { low = word shape run (LowWord l); high = word shape run (HighWord l) }

-- the value of a version of object o: its first value, or the new value of a locator
abbrev pub version_value : Shape → List Val → List Event → ℕ → ℕ → Val
version_value shape start run o v = if v == 0 then value_at start o else new_value shape run (v - 1)

-- the version that an object's word x stands for: 0, its locator where the owner is committed, else the old one
abbrev pub current_version : Shape → List Event → ℕ → ℕ
current_version shape run x =
    if x == 0 then 0
    else if word shape run (StatusWord (word shape run (OwnerWord (x - 1)))) == code_of status.Committed then x
    else word shape run (OldWord (x - 1))

-- the current value of object o after a run
abbrev pub current_value : Shape → List Val → List Event → ℕ → Val
current_value shape start run o =
    version_value shape start run o (current_version shape run (word shape run (ObjectWord o)))

-- ---- entries and the history

abbrev pub read_values : Shape → List Val → List Event → List Read → List (ℕ × Val)
read_values shape start run [] = []
read_values shape start run (r ∷ rs) =
    (r.object, version_value shape start run r.object r.version) ∷ read_values shape start run rs

abbrev pub old_values : Shape → List Val → List Event → List Write → List (ℕ × Val)
old_values shape start run [] = []
old_values shape start run (w ∷ ws) =
    (w.object, version_value shape start run w.object w.old) ∷ old_values shape start run ws

abbrev pub new_values : Shape → List Event → List Write → List (ℕ × Val)
new_values shape run [] = []
new_values shape run (w ∷ ws) = (w.object, new_value shape run w.locator) ∷ new_values shape run ws

-- the entry of an attempt by its caller's state: its reads are the values of the versions recorded and of the
-- old versions of the objects written, its writes the new values. The run tells what these versions hold.
abbrev pub entry_of : Shape → List Val → List Event → LocalState → Entry
entry_of shape start run state = record {
  reads = read_values shape start run state.reads ++ old_values shape start run state.writes;
  writes = new_values shape run state.writes;
}

abbrev pub is_draw : Kind → Bool
is_draw Draw = true
is_draw kind = false

-- the attempt has drawn its number
abbrev pub drawn : Shape → List Event → ℕ → Bool
drawn shape [] a = false
drawn shape (event ∷ before) a =
    if is_draw event.kind && (own_attempt shape (local shape before event.caller) == a)
    then true
    else drawn shape before a

-- the attempt commits in the run: its status is committed in the end
abbrev pub will_of : Shape → List Event → ℕ → Bool
will_of shape run a = word shape run (StatusWord a) == code_of status.Committed

-- the event is the Draw of an attempt that commits, as `will` tells
abbrev pub commits_at : Shape → (ℕ → Bool) → Event → List Event → Bool
commits_at shape will event before =
    is_draw event.kind && will (own_attempt shape (local shape before event.caller))

-- the entry of the attempt that makes an event
abbrev pub entry_at : Shape → List Val → List Event → Event → List Event → Entry
entry_at shape start run event before = entry_of shape start run (local shape before event.caller)

-- the entries of the attempts that commit, as `will` tells, and have their Draw among some events: the newest
-- draw first. The whole run tells what the versions hold.
abbrev pub history : Shape → List Val → (ℕ → Bool) → List Event → List Event → List Entry
history shape start will run before = gathered (commits_at shape will) (entry_at shape start run) before

-- the prefix of the history at a place of a run, in the order of the draws: `before` is what stands before it
abbrev pub prefix_at : Shape → List Val → List Event → List Event → List Entry
prefix_at shape start run before = reverse (history shape start (will_of shape run) run before)

-- the history of a run, in the order of the draws
abbrev pub history_of : Shape → List Val → List Event → List Entry
history_of shape start run = prefix_at shape start run run

-- ---- sights

-- the event completes a pass. Each of its Checks found the recorded word, since the attempt is not stale; and
-- it finds the status that the attempt was given last.
pub record IsSight (shape : Shape) (before : List Event) (event : Event) : Type 0 where
  pub kind : event.kind ≡ LookSelf
  pub found : event.found ≡ given (local shape before event.caller).phase

abbrev pub is_look_number : Kind → Bool
is_look_number LookNumber = true
is_look_number kind = false

-- what stands before the last LookNumber of caller c: the place of the sight that completes its pass
abbrev pub pass_place : ℕ → List Event → List Event
pass_place c [] = []
pass_place c (event ∷ before) =
    if (event.caller == c) && is_look_number event.kind then before else pass_place c before

-- what a sight covers: the reads recorded and the old values of the objects written
abbrev pub seen : Shape → List Val → List Event → List Event → ℕ → List (ℕ × Val)
seen shape start run before c = (entry_of shape start run (local shape before c)).reads

-- ---- the law

-- with each attempt's last PutNew its entry keeps the law
abbrev pub PutsLawfully : Shape → List Val → (List Val → Type 0) → Event → List Event → Type 0
PutsLawfully shape start holds event before =
    event.kind ≡ PutNew →
    (local shape before event.caller).written + 1 ≡ length (local shape before event.caller).writes →
    KeepsLaw holds shape.objects (entry_of shape start (event ∷ before) (local shape before event.caller))

abbrev pub Lawful : Shape → List Val → (List Val → Type 0) → List Event → Type 0
Lawful shape start holds trace = Each (PutsLawfully shape start holds) trace

-- a core run of a shape, first values and a law
pub record CoreRun (shape : Shape) (start : List Val) (holds : List Val → Type 0) (run : List Event) : Type 0 where
  pub values : length start ≡ shape.objects
  pub core : Core shape run
  pub law : Lawful shape start holds run
