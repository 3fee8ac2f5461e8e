-- The tables of a text: the kinds of its operands, and the form of each operation.
use Rattle.std.specs.Prelude.{ℕ, ◌-◌, ◌^◌, Bool, true, false, is_some, List, [], ◌∷◌, Option, Some, None}
use Rattle.dstm_model.specs.declared.op.Which.{Which}
use Rattle.dstm_model.specs.declared.op.Which.TheVariants as which
use Rattle.dstm_model.specs.declared.op.Cond.TheVariants as cond
use Rattle.dstm_model.specs.declared.op.Op.{Op}
use Rattle.dstm_model.specs.declared.op.Op.TheVariants as op
use Rattle.dstm_workload.specs.declared.word.Word.{Word}
use Rattle.dstm_workload.specs.declared.word.Word.TheVariants as word
use Rattle.dstm_workload.specs.declared.known.Known.{Known}
use Rattle.dstm_workload.specs.Known.{layout_of}

-- ---- operands

-- the kinds of operands: those of operations, and the numbers of declarations
pub data Kind : Type 0 where
  Account : Kind
  Amount : Kind
  Key : Kind
  Value : Kind
  Structure : Kind
  WorkerCount : Kind
  AccountCount : Kind
  Opening : Kind
  ListSize : Kind
  TreeSize : Kind

-- what an operand is: a structure, or a number
abbrev pub Operand : Kind → Type 0
Operand Structure = Which
Operand kind = ℕ

-- operands of these kinds
abbrev pub Operands : List Kind → Type 0
Operands [] = Unit {0}
Operands (kind ∷ kinds) = Operand kind × Operands kinds

-- the least and the greatest number of a kind
abbrev pub least : Kind → ℕ
least WorkerCount = 1
least AccountCount = 1
least ListSize = 1
least TreeSize = 1
least kind = 0

abbrev pub most : Known → Kind → ℕ
most known Account = (layout_of known).accounts - 1
most known Amount = 9999999999999
most known Key = 1048574
most known Value = 2 ^ 64 - 1
most known Structure = 0
most known WorkerCount = 32
most known AccountCount = 4096
most known Opening = 1000000000
most known ListSize = 1024
most known TreeSize = 65535

-- a number that a semicolon ends
abbrev pub is_of_operation : Kind → Bool
is_of_operation Account = true
is_of_operation Amount = true
is_of_operation Key = true
is_of_operation Value = true
is_of_operation kind = false

-- ---- forms

-- what has to be declared before an operation, beside the structure that it names
pub data Need : Type 0 where
  Bank : Need
  ListNodes : Need
  TreeNodes : Need
  Nothing : Need

abbrev pub is_met : Known → Need → Bool
is_met known Bank = is_some known.bank
is_met known ListNodes = is_some known.list
is_met known TreeNodes = is_some known.tree
is_met known Nothing = true

-- how an operation is written: its words, what it needs, its operands, and what they make
pub record Form : Type 0 where
  pub words : List Word
  pub needs : Need
  pub kinds : List Kind
  pub makes : Operands kinds → Op

abbrev pub transfer : Form
transfer = record {
  words = word.Transfer ∷ [];
  needs = Bank;
  kinds = Account ∷ Account ∷ Amount ∷ [];
  makes = λ x. op.Transfer x.0 x.1.0 x.1.1.0;
}

abbrev pub balance : Form
balance = record {
  words = word.Balance ∷ [];
  needs = Bank;
  kinds = Account ∷ [];
  makes = λ x. op.Balance x.0;
}

abbrev pub total : Form
total = record { words = word.Total ∷ []; needs = Bank; kinds = []; makes = λ x. op.Total }

-- a word, a structure and a key
abbrev pub on_key : Word → (Which → ℕ → Op) → Form
on_key w makes = record {
  words = w ∷ [];
  needs = Nothing;
  kinds = Structure ∷ Key ∷ [];
  makes = λ x. makes x.0 x.1.0;
}

abbrev pub insert : Form
insert = on_key word.Insert (λ w key. op.Insert w key)

abbrev pub remove : Form
remove = on_key word.Remove (λ w key. op.Remove w key)

abbrev pub member : Form
member = on_key word.Member (λ w key. op.Member w key)

abbrev pub put : Form
put = record {
  words = word.Put ∷ [];
  needs = TreeNodes;
  kinds = Key ∷ Value ∷ [];
  makes = λ x. op.Put x.0 x.1.0;
}

abbrev pub get : Form
get = record { words = word.Get ∷ []; needs = TreeNodes; kinds = Key ∷ []; makes = λ x. op.Get x.0 }

abbrev pub await_balance : Form
await_balance = record {
  words = word.Await ∷ word.Balance ∷ [];
  needs = Bank;
  kinds = Account ∷ Amount ∷ [];
  makes = λ x. op.Await (cond.Balance x.0 x.1.0);
}

-- a key of a structure is awaited
abbrev pub await_key : Need → Word → Which → Form
await_key need w structure = record {
  words = word.Await ∷ w ∷ [];
  needs = need;
  kinds = Key ∷ [];
  makes = λ x. op.Await (cond.Key structure x.0);
}

abbrev pub await_list : Form
await_list = await_key ListNodes word.List which.List

abbrev pub await_tree : Form
await_tree = await_key TreeNodes word.Tree which.Tree

-- between two branches
abbrev pub orelse : Form
orelse = record { words = word.OrElse ∷ []; needs = Nothing; kinds = []; makes = λ x. op.OrElse }

-- the form of an operation that one word begins, and of a condition
abbrev pub begun_by : Word → Option Form
begun_by word.Transfer = Some transfer
begun_by word.Balance = Some balance
begun_by word.Total = Some total
begun_by word.Insert = Some insert
begun_by word.Remove = Some remove
begun_by word.Member = Some member
begun_by word.Put = Some put
begun_by word.Get = Some get
begun_by other = None

abbrev pub awaited_by : Word → Option Form
awaited_by word.Balance = Some await_balance
awaited_by word.List = Some await_list
awaited_by word.Tree = Some await_tree
awaited_by other = None

-- ---- operations

-- a function of an operation's form and operands
abbrev pub by_form : {A : Type 0} → ((form : Form) → Operands form.kinds → A) → Op → A
by_form f (op.Transfer source target amount) = f transfer (source, (target, (amount, tt)))
by_form f (op.Balance account) = f balance (account, tt)
by_form f op.Total = f total tt
by_form f (op.Insert w key) = f insert (w, (key, tt))
by_form f (op.Remove w key) = f remove (w, (key, tt))
by_form f (op.Member w key) = f member (w, (key, tt))
by_form f (op.Put key value) = f put (key, (value, tt))
by_form f (op.Get key) = f get (key, tt)
by_form f (op.Await (cond.Balance account least)) = f await_balance (account, (least, tt))
by_form f (op.Await (cond.Key which.List key)) = f await_list (key, tt)
by_form f (op.Await (cond.Key which.Tree key)) = f await_tree (key, tt)
by_form f op.OrElse = f orelse tt
