-- The options of a table as the parser's arguments, and the rows that it keeps of those that were given.
use Rattle.std.proofs.Common.{◌≡◌, ◌∙◌, ◌||◌, ℕ, Bool, true, false, cond, List, [], ◌∷◌, ◌++◌, find, fold, map, Option, Some, None, option_map, codes, bytes_eq, append-nil, is_some, refl, sym, ap, true≢false}
use Rattle.std.specs.List.{list_any}
use Rattle.std.specs.Option.{option_or}
use Rattle.std.proofs.lemmas.Slice.Eq.{bytes_eq-Decides}
use Rattle.std.proofs.lemmas.List.Folds.{find-append}
use Rattle.clap.specs.Walk.{Row, Rule, arg_by_id, arg_by_index, arg_by_long, arg_by_short, at_row, has_row, more_values, with_default, with_values, without}
use Rattle.clap.specs.Simple.{filled, filled_from, with_index}
use Rattle.clap.specs.declared.builder.value_parser.Reading.TheVariants.{AsWritten}
use Rattle.clap.specs.declared.parser.matches.ValueSource.{ValueSource}
use Rattle.clap.specs.declared.parser.matches.ValueSource.TheVariants.{CommandLine, DefaultValue}
use Rattle.clap.proofs.WalkLemmas.{list_any-map}
use Rattle.dstm_command.specs.Options.{Choice, Given, Table, Text, flag, is_given, name_of, option_named, valued}
use Rattle.dstm_command.specs.Parsers.{option_rule}

pub or_false : (a b : Bool) → (a || b) ≡ false → (a ≡ false) × (b ≡ false)
or_false true b e = absurd (true≢false e)
or_false false b e = (refl, e)

-- ---- arguments

abbrev pub arg : Choice → Rule
arg c = with_index 1 (filled (option_rule c))

abbrev pub args : Table → List Rule
args table = filled_from 1 (map option_rule table)

pub by_long : (table : Table) (name : Text) → arg_by_long (args table) name ≡ option_map arg (option_named table name)
by_long [] name = refl
by_long (c ∷ rest) name = elim (bytes_eq (name_of c) name) as
    (λ b. cond (b || false) (Some (arg c)) (arg_by_long (args rest) name)
    ≡ option_map arg (cond b (Some c) (option_named rest name))) [ true ↦ refl | false ↦ by_long rest name ]

pub by_id : (table : Table) (name : Text) → arg_by_id (args table) name ≡ option_map arg (option_named table name)
by_id [] name = refl
by_id (c ∷ rest) name = elim (bytes_eq (name_of c) name) as
    (λ b. cond b (Some (arg c)) (arg_by_id (args rest) name)
    ≡ option_map arg (cond b (Some c) (option_named rest name))) [ true ↦ refl | false ↦ by_id rest name ]

pub by_index : (table : Table) (i : ℕ) → arg_by_index (args table) i ≡ None
by_index [] i = refl
by_index (c ∷ rest) i = by_index rest i

pub by_short : (table : Table) (x : ℕ) → arg_by_short (args table) x ≡ None
by_short [] x = refl
by_short (c ∷ rest) x = by_short rest x

-- ---- rows

abbrev pub row_from : ValueSource → Text × Text → Row
row_from s g = record { id = g.0; values = g.1 ∷ []; count = None; source = Some s; reading = AsWritten }

-- the rows of what was given
abbrev pub rows : Given → List Row
rows = map (row_from CommandLine)

pub has_given : (name : Text) (given : Given) → has_row name (rows given) ≡ is_given name given
has_given name given = sym (list_any-map (λ r. bytes_eq r.id name) (row_from CommandLine) given)

-- at an id that has no row
no_row : (id : Text) (change : Row → List Row) (missing rows : List Row) → has_row id rows ≡ false →
    at_row id change missing rows ≡ rows ++ missing
no_row id change missing [] none = refl
no_row id change missing (r ∷ rows) none =
    let parts = or_false (bytes_eq r.id id) _ none in
    ap (λ b. cond b (change r ++ rows) (r ∷ at_row id change missing rows)) parts.0
    ∙ ap (λ rs. r ∷ rs) (no_row id change missing rows parts.1)

new_row : (s : ValueSource) (g : Text × Text) (rows : List Row) → has_row g.0 rows ≡ false →
    with_values g.0 AsWritten s (g.1 ∷ []) rows ≡ rows ++ row_from s g ∷ []
new_row s g rows none = no_row g.0 (more_values s (g.1 ∷ [])) _ rows none

rows_more : (given : Given) (g : Text × Text) → rows given ++ row_from CommandLine g ∷ [] ≡ rows (given ++ g ∷ [])
rows_more [] g = refl
rows_more (x ∷ given) g = ap (λ rs. row_from CommandLine x ∷ rs) (rows_more given g)

-- a use of an option that was not given before
pub used_once : (given : Given) (name text : Text) → is_given name given ≡ false →
    with_values name AsWritten CommandLine (text ∷ []) (without name (rows given)) ≡ rows (given ++ (name, text) ∷ [])
used_once given name text none =
    let free : has_row name (rows given) ≡ false = has_given name given ∙ none in
    ap (with_values name AsWritten CommandLine (text ∷ [])) (no_row name (λ _. []) [] (rows given) free ∙ append-nil (rows given))
    ∙ new_row CommandLine (name, text) (rows given) free ∙ rows_more given (name, text)

-- ---- defaults

abbrev named : Text → Row → Bool
named name r = bytes_eq r.id name

abbrev pub found : Text → List Row → Option Row
found name = find (named name)

pub any_found : {X : Type 0} (p : X → Bool) (xs : List X) → list_any p xs ≡ is_some (find p xs)
any_found p [] = refl
any_found p (x ∷ xs) = elim (p x) as
    (λ b. (b || list_any p xs) ≡ is_some (cond b (Some x) (find p xs))) [ true ↦ refl | false ↦ any_found p xs ]

-- the row of a flag that was not given
abbrev pub default_row : Text → Row
default_row name = row_from DefaultValue (name, codes "false")

abbrev pub default_of : Text → Choice → Option Row
default_of name (valued n) = None
default_of name (flag n) = cond (bytes_eq n name) (Some (default_row n)) None

abbrev pub default_in : Text → Table → Option Row
default_in name [] = None
default_in name (c ∷ rest) = option_or (default_of name c) (default_in name rest)

or_none : (o : Option Row) → o ≡ option_or o None
or_none None = refl
or_none (Some r) = refl

or_assoc : (a b d : Option Row) → option_or (option_or a b) d ≡ option_or a (option_or b d)
or_assoc None b d = refl
or_assoc (Some r) b d = refl

pub same_if : {X : Type 0} (b : Bool) (x : X) → cond b x x ≡ x
same_if true x = refl
same_if false x = refl

found_default : (name : Text) (c : Choice) (rs : List Row) →
    found name (with_default rs (arg c)) ≡ option_or (found name rs) (default_of name c)
found_default name (valued n) rs = ap (found name) (same_if (has_row n rs) rs) ∙ or_none (found name rs)
found_default name (flag n) rs = go (has_row n rs) refl
  where
    there : has_row n rs ≡ true → (o : Option Row) → found name rs ≡ o → (b : Bool) → bytes_eq n name ≡ b →
        o ≡ option_or o (cond b (Some (default_row n)) None)
    there has (Some r) e b is = refl
    there has None e false is = refl
    there has None e true is =
        let same : n ≡ name = (bytes_eq-Decides _ _).0 is in
        absurd (true≢false (sym has ∙ ap (λ n. has_row n rs) same ∙ any_found (named name) rs ∙ ap is_some e))

    go : (b : Bool) → has_row n rs ≡ b →
        found name (cond b rs (with_values n AsWritten DefaultValue (codes "false" ∷ []) rs))
        ≡ option_or (found name rs) (default_of name (flag n))
    go true has = there has (found name rs) refl (bytes_eq n name) refl
    go false free =
        ap (found name) (new_row DefaultValue (n, codes "false") rs free)
        ∙ find-append (named name) rs (default_row n ∷ [])

pub found_finished : (name : Text) (table : Table) (rs : List Row) →
    found name (fold with_default rs (args table)) ≡ option_or (found name rs) (default_in name table)
found_finished name [] rs = or_none (found name rs)
found_finished name (c ∷ rest) rs =
    found_finished name rest (with_default rs (arg c))
    ∙ ap (λ o. option_or o (default_in name rest)) (found_default name c rs)
    ∙ or_assoc (found name rs) (default_of name c) (default_in name rest)
