-- What is known among the lines so far, one line on.
use Rattle.std.proofs.Common.{◌≡◌, ℕ, ◌+◌, false, List, [], ◌∷◌, ◌++◌, length, filter, Option, Some, None, is_some}
use Rattle.std.proofs.Common.{decimal, codes, refl, ap, ◌∙◌, arith, add-zero, length-append}
use Rattle.std.specs.{List.filter_map, Option.option_map}
use Rattle.std.proofs.lemmas.{List.Elements.filter-append, List.Elements.filter_map-append, List.map-append}
use Rattle.dstm_text.proofs.NumberLaws.{number_of-decimal}
use Rattle.dstm_workload.specs.declared.known.Known.{Known}
use Rattle.dstm_workload.specs.Entry.{Entry}
use Rattle.dstm_workload.specs.Entry as entry
use Rattle.dstm_workload.specs.Entries.{header_of}
use Rattle.dstm_workload.specs.Known.{IsKnown, nothing_known, with_entry, known_with}
use Rattle.dstm_workload.specs.Reading.{begins_with, first_of, number_in, bank_in, known_of}
use Rattle.dstm_workload.specs.Writing.{fields_of_ops}
use Rattle.dstm_workload.proofs.EntryLaws.{fields_of_entry, Comes, Told, header_again}

abbrev Fields : Type 0
Fields = List (List ℕ)

abbrev with_name : List ℕ → List Fields → List Fields
with_name name tolds = filter (begins_with name) tolds

-- what is known from these lines' fields
abbrev known_in : List Fields → Known
known_in tolds = record {
  version = first_of (filter_map header_of tolds);
  workers = option_map (number_in 1) (first_of (with_name (codes "workers") tolds));
  bank = option_map bank_in (first_of (with_name (codes "bank") tolds));
  list = option_map (number_in 1) (first_of (with_name (codes "list") tolds));
  tree = option_map (number_in 1) (first_of (with_name (codes "tree") tolds));
  transactions = length (with_name (codes "tx") tolds);
}

-- ---- the first of two

abbrev either : {A : Type 0} → Option A → Option A → Option A
either (Some x) o = Some x
either None o = o

either_none : {A : Type 0} (o : Option A) → either o None ≡ o
either_none o = grind arith

either_new : {A : Type 0} (o : Option A) (x : A) → is_some o ≡ false → either o (Some x) ≡ Some x
either_new o x none = grind arith

first-append : {A : Type 0} (xs ys : List A) → first_of (xs ++ ys) ≡ either (first_of xs) (first_of ys)
first-append xs ys = grind arith

map-either : {A B : Type 0} (f : A → B) (o p : Option A) →
    option_map f (either o p) ≡ either (option_map f o) (option_map f p)
map-either f o p = grind arith

-- ---- what is known of two runs of lines

abbrev both : Known → Known → Known
both a b = record {
  version = either a.version b.version;
  workers = either a.workers b.workers;
  bank = either a.bank b.bank;
  list = either a.list b.list;
  tree = either a.tree b.tree;
  transactions = a.transactions + b.transactions;
}

known-append : (xs ys : List (List ℕ)) → known_of (xs ++ ys) ≡ both (known_of xs) (known_of ys)
known-append xs ys =
    simp (filter-append, map-append, filter_map-append, first-append, map-either, length-append)

both_nothing : (k : Known) → both k nothing_known ≡ k
both_nothing k = simp (either_none, add-zero)

-- ---- an entry

no_header : (field : List ℕ) (fields : List (List ℕ)) → header_of (codes "tx" ∷ field ∷ fields) ≡ None
no_header field fields = grind arith

ruleset beside = (either_none, add-zero)

-- what is known with its line
with_line : (k : Known) (line : ℕ) (o : Option ℕ) (e : Entry) → k.version ≡ o → Comes o k line e →
    both k (known_in (fields_of_entry e ∷ [])) ≡ with_entry k e
with_line k line None (entry.Version v) is comes = rw (header_again v comes.0 comes.1, is) (simp beside)
with_line k line None other is comes = absurd comes
with_line k line (Some version) (entry.Version v) is comes = absurd comes
with_line k line (Some version) (entry.Workers n) is comes =
    rw (number_of-decimal n (omega arith), either_new k.workers n comes.1) (simp beside)
with_line k line (Some version) (entry.Bank bank) is comes =
    let accounts = number_of-decimal bank.accounts (omega arith) in
    let opening = number_of-decimal bank.opening (omega arith) in
    rw (accounts, opening, either_new k.bank bank comes.1) (simp beside)
with_line k line (Some version) (entry.List n) is comes =
    rw (number_of-decimal n (omega arith), either_new k.list n comes.1) (simp beside)
with_line k line (Some version) (entry.Tree n) is comes =
    rw (number_of-decimal n (omega arith), either_new k.tree n comes.1) (simp beside)
with_line k line (Some version) (entry.Transaction job) is comes =
    rw (no_header (decimal job.worker) (fields_of_ops false job.ops)) (simp beside)

-- ---- one line on

pub known_told : (before : List (List ℕ)) (line : ℕ) (text : List ℕ) (told : Option Entry) →
    Told (known_of before) line text told →
    known_of (before ++ text ∷ []) ≡ known_with (known_of before) told
known_told before line text told tells = known-append before (text ∷ []) ∙ more told tells
  where
    nothing : Told (known_of before) line text None → known_of (text ∷ []) ≡ nothing_known
    nothing said = grind arith

    more : (t : Option Entry) → Told (known_of before) line text t →
        both (known_of before) (known_of (text ∷ [])) ≡ known_with (known_of before) t
    more None said = ap (both (known_of before)) (nothing said) ∙ both_nothing (known_of before)
    more (Some e) said =
        let known = known_of before in rw (said.0, said.1.1) (with_line known line known.version e refl said.1.0)

-- what is known stays in its range
pub known_stays : (k : Known) (line : ℕ) (o : Option ℕ) (e : Entry) → IsKnown k → Comes o k line e →
    IsKnown (with_entry k e)
known_stays k line None (entry.Version v) h comes = search
known_stays k line None other h comes = absurd comes
known_stays k line (Some version) (entry.Transaction job) h comes = search arith
known_stays k line (Some version) other h comes = search
