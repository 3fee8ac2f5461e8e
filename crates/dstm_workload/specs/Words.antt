-- The words of a workload's text.
use Rattle.std.specs.Prelude.{ℕ, ◌&&◌, nat_le, List, [], ◌∷◌, Option, codes, find}
use Rattle.std.specs.Str.{bytes_eq}
use Rattle.dstm_workload.specs.declared.word.Word.{Word}
use Rattle.dstm_workload.specs.declared.word.Word.TheVariants.{Workers, Bank, List as ListWord, Tree, Tx}
use Rattle.dstm_workload.specs.declared.word.Word.TheVariants.{Transfer, Balance, Total, Insert, Remove}
use Rattle.dstm_workload.specs.declared.word.Word.TheVariants.{Member, Put, Get, Await, OrElse, Semicolon}

abbrev pub spelling : Word → List ℕ
spelling Workers = codes "workers"
spelling Bank = codes "bank"
spelling ListWord = codes "list"
spelling Tree = codes "tree"
spelling Tx = codes "tx"
spelling Transfer = codes "transfer"
spelling Balance = codes "balance"
spelling Total = codes "total"
spelling Insert = codes "insert"
spelling Remove = codes "remove"
spelling Member = codes "member"
spelling Put = codes "put"
spelling Get = codes "get"
spelling Await = codes "await"
spelling OrElse = codes "orelse"
spelling Semicolon = codes ";"

-- the first version that has the word
abbrev pub since : Word → ℕ
since Put = 2
since Get = 2
since Await = 3
since OrElse = 3
since word = 1

abbrev pub words : List Word
words =
    Workers ∷ Bank ∷ ListWord ∷ Tree ∷ Tx ∷ Transfer ∷ Balance ∷ Total ∷ Insert ∷ Remove ∷ Member ∷ Put ∷ Get
    ∷ Await ∷ OrElse ∷ Semicolon ∷ []

-- the word that is spelled so
unfoldable pub word_spelled : List ℕ → Option Word
word_spelled field = find (λ word. bytes_eq (spelling word) field) words

-- the word that a field is, if the version has one there
unfoldable pub word_of : ℕ → List ℕ → Option Word
word_of version field = find (λ word. bytes_eq (spelling word) field && nat_le (since word) version) words
