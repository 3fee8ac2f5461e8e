-- What a whole parse of a table's options gives, and when it fails.
use Rattle.std.proofs.Common.{◌≡◌, ◌≢◌, ◌∙◌, ◌||◌, ◌&&◌, not, Bool, true, false, cond, List, [], ◌∷◌, fold, find, map, String, Global, string_bytes, Option, Some, None, is_some, is_ok, option_map, option_and_then, slice_get, Result, IfOk, IsErrOf, ok_or, codes, bytes_eq, refl, sym, ap, ap₂, subst, true≢false}
use Rattle.std.specs.List.{list_any}
use Rattle.std.specs.Option.{option_or}
use Rattle.std.proofs.lemmas.Slice.Eq.{bytes_eq-Decides}
use Rattle.std.proofs.lemmas.Str.{IsUtf8-string_bytes}
use Rattle.clap.specs.Values.{bool_text}
use Rattle.clap.specs.Walk.{Row, Text, idle, nothing_held, Walk, has_row, row_text, rows_of, with_default}
use Rattle.clap.specs.Kinds.{Kinds, check_kinds, or_else}
use Rattle.clap.specs.Takes.{is_given as is_used}
use Rattle.clap.specs.Faults.{defaults_fault, fault_of, given_default_fault, settle_fault, walk_fault}
use Rattle.clap.specs.Simple.{built, matches_of}
use Rattle.clap.specs.declared.parser.matches.Found.{Found}
use Rattle.clap.specs.declared.parser.matches.ValueSource.TheVariants.{CommandLine}
use Rattle.clap.proofs.FaultLemmas.{leaf_fault}
use Rattle.clap.proofs.WalkLemmas.{find-map, first_value-rows, one_text-rows}
use Rattle.dstm_command.specs.CommandLine.{is_two_hyphens}
use Rattle.dstm_command.specs.Options.{Choice, Given, Table, flag, name_of, option_named, options_in, valued}
use Rattle.dstm_command.specs.Parsers.{Holds, is_flag, options_app}
use Rattle.dstm_command.specs.declared.command.WordsError.{WordsError}
use Rattle.dstm_command.specs.declared.command.WordsError.TheVariants.{Usage}
use Rattle.dstm_command.proofs.OptionRows.{any_found, arg, args, default_in, default_of, default_row, found, found_finished, or_false, row_from, rows}
use Rattle.dstm_command.proofs.OptionTurns.{fails, shape, stands}
use Rattle.dstm_command.proofs.OptionWords.{Agrees, AreWords, Proper, agrees, between, ends, refused, rows_at, inside, some_none, taken, total}

pub or_nothing : (a : Kinds) → or_else a [] ≡ a
or_nothing [] = refl
or_nothing (k ∷ ks) = refl

pub fails_not : (k : Kinds) → fails k ≡ true → k ≡ [] → ⊥
fails_not k f e = true≢false (sym f ∙ ap fails e)

-- the words of a command line are words for the parser
pub are_words : (words : List (String Global)) → list_any is_two_hyphens (map string_bytes words) ≡ false →
    AreWords (map string_bytes words)
are_words [] plain = tt
are_words (word ∷ rest) plain =
    let parts = or_false (is_two_hyphens (string_bytes word)) _ plain in
    (record { goes_on = parts.0; text = IsUtf8-string_bytes word }, are_words rest parts.1)

-- ---- faults after the walk

no_default_fault : (table : Table) (rs : List Row) → defaults_fault rs (args table) ≡ []
unfolding defaults_fault
no_default_fault [] rs = refl
no_default_fault (valued n ∷ rest) rs =
    ap₂ or_else (true_or (has_row n rs)) (no_default_fault rest (with_default rs (arg (valued n))))
  where
    true_or : (b : Bool) → cond (b || true) [] (given_default_fault (arg (valued n)) []) ≡ []
    true_or true = refl
    true_or false = refl
no_default_fault (flag n ∷ rest) rs =
    ap₂ or_else (either (has_row n rs)) (no_default_fault rest (with_default rs (arg (flag n))))
  where
    either : (b : Bool) → cond (b || false) [] (given_default_fault (arg (flag n)) (codes "false" ∷ [])) ≡ []
    either true = refl
    either false = refl

none_required : (table : Table) (rs : List Row) → list_any (λ a. a.required && not (is_used a.id rs)) (args table) ≡ false
none_required [] rs = refl
none_required (c ∷ rest) rs = none_required rest rs

abbrev start : Walk
start = stands idle nothing_held

fault_is : (table : Table) (words : List Text) → fault_of (options_app table) words ≡ total table start words
fault_is table words = leaf_fault (built (options_app table)) nothing_held words refl
    ∙ ap₂ (λ d (b : Bool). or_else (walk_fault (shape table) [] start words) (or_else (settle_fault (args table) false (ends table start words))
    (or_else d (check_kinds false false b))))
    (no_default_fault table (rows_at table start words)) (none_required table _)
    ∙ ap (or_else (walk_fault (shape table) [] start words))
    (or_nothing (settle_fault (args table) false (ends table start words)))

parse : (table : Table) (words : List Text) → AreWords words → Agrees table words start (options_in table words)
parse table words all = agrees table words [] None start all (λ name text is e. absurd (some_none (sym e))) (between [] None refl refl)

-- ---- what is found

abbrev first_in : Option Row → Option Text
first_in = option_and_then (λ r. slice_get r.values 0)

no_default : (name : Text) (table : Table) → list_any (is_flag name) table ≡ false → default_in name table ≡ None
no_default name [] none = refl
no_default name (valued n ∷ rest) none = no_default name rest none
no_default name (flag n ∷ rest) none =
    let parts = or_false (bytes_eq n name) _ none in
    ap₂ (λ b d. option_or (cond b (Some (default_row n)) None) d) parts.0 (no_default name rest parts.1)

flag_default : (name : Text) (table : Table) → option_named table name ≡ Some (flag name) →
    default_in name table ≡ Some (default_row name)
flag_default name [] is = absurd (some_none (sym is))
flag_default name (c ∷ rest) is = go (bytes_eq (name_of c) name) refl is (flag_default name rest)
  where
    other : (c : Choice) → bytes_eq (name_of c) name ≡ false → default_of name c ≡ None
    other (valued n) e = refl
    other (flag n) e = ap (λ b. cond b (Some (default_row n)) None) e

    go : (b : Bool) → bytes_eq (name_of c) name ≡ b → cond b (Some c) (option_named rest name) ≡ Some (flag name) →
        (option_named rest name ≡ Some (flag name) → default_in name rest ≡ Some (default_row name))
        → option_or (default_of name c) (default_in name rest) ≡ Some (default_row name)
    go true e is more = ap (λ c. option_or (default_of name c) (default_in name rest)) (inside is)
        ∙ ap (λ b. option_or (cond b (Some (default_row name)) None) (default_in name rest)) ((bytes_eq-Decides name name).1 refl)
    go false e is more = ap (λ d. option_or d (default_in name rest)) (other c e) ∙ more is

-- the parser's matches have what was given
holds : (table : Table) (given : Given) (f : Found) → Proper table given →
    rows_of f ≡ fold with_default (rows given) (args table) → Holds table f given
holds table given f proper rows_are = record {
  value = λ name none. first_value-rows f name
      ∙ ap first_in (final name ∙ ap (option_or (old name)) (no_default name table none)) ∙ valued_is (entry name);
  flags = λ name is. one_text-rows f name
      ∙ ap (option_and_then row_text) (final name ∙ ap (option_or (old name)) (flag_default name table is))
      ∙ flag_is name (entry name) (λ t e. proper name t is e)
      ∙ ap (λ b. Some (bool_text b)) (sym (any_found (λ g. bytes_eq g.0 name) given));
}
  where
    entry : Text → Option (Text × Text)
    entry name = find (λ g. bytes_eq g.0 name) given

    old : Text → Option Row
    old name = option_map (row_from CommandLine) (entry name)

    final : (name : Text) → found name (rows_of f) ≡ option_or (old name) (default_in name table)
    final name = ap (found name) rows_are ∙ found_finished name table (rows given)
        ∙ ap (λ o. option_or o (default_in name table)) (sym (find-map (λ r. bytes_eq r.id name) (row_from CommandLine) given))

    valued_is : (o : Option (Text × Text)) →
        first_in (option_or (option_map (row_from CommandLine) o) None) ≡ option_map (λ g. g.1) o
    valued_is None = refl
    valued_is (Some g) = refl

    flag_is : (name : Text) (o : Option (Text × Text)) →
        ((t : Text) → option_map (λ g. g.1) o ≡ Some t → t ≡ codes "true")
        → option_and_then row_text (option_or (option_map (row_from CommandLine) o) (Some (default_row name)))
        ≡ Some (bool_text (is_some o))
    flag_is name None is = refl
    flag_is name (Some g) is = ap (λ t. Some t) (is g.1 refl)

-- ---- the parse

-- what the program makes of the matches is what the words say
pub result_is : (table : Table) (words : List Text) (f : Found) → AreWords words →
    fault_of (options_app table) words ≡ [] → rows_of f ≡ matches_of (options_app table) words
    → (given : Given) × (options_in table words ≡ Some given) × Holds table f given
result_is table words f all none rows_are = go (options_in table words) refl (parse table words all)
  where
    go : (o : Option Given) → options_in table words ≡ o → Agrees table words start o →
        (given : Given) × (options_in table words ≡ Some given) × Holds table f given
    go o is (refused fault) = absurd (fails_not _ fault (sym (fault_is table words) ∙ none))
    go o is (taken given proper passes leaves) = (
      given,
      is,
      holds table given f proper
          (rows_are ∙ ap (λ rs. fold with_default rs (args table)) leaves),
    )

-- words that the parser refuses are no options
pub none_read : (table : Table) (words : List Text) → AreWords words → fault_of (options_app table) words ≢ [] →
    options_in table words ≡ None
none_read table words all some = go (options_in table words) refl (parse table words all)
  where
    go : (o : Option Given) → options_in table words ≡ o → Agrees table words start o → options_in table words ≡ None
    go o is (refused fault) = is
    go o is (taken given proper passes leaves) = absurd (some (fault_is table words ∙ passes))

-- ---- the answer

pub answer_ok : {X : Type 0} (r x : Option X) (res : Result X WordsError) → res ≡ ok_or r Usage → r ≡ x →
    IfOk res (λ v. x ≡ Some v)
answer_ok (Some v) x res is same = subst (λ res. IfOk res (λ v. x ≡ Some v)) (sym is) (sym same)
answer_ok None x res is same = subst (λ res. IfOk res (λ v. x ≡ Some v)) (sym is) tt

pub answer_usage : {X : Type 0} (r x : Option X) (res : Result X WordsError) → res ≡ ok_or r Usage → r ≡ x →
    IsErrOf res Usage → x ≡ None
answer_usage None x res is same usage = sym same
answer_usage (Some v) x res is same usage = absurd (true≢false (ap is_ok (sym is ∙ usage)))
