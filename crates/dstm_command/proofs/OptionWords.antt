-- The parser of a table's options takes the words exactly where they are options, and keeps what they say.
use Rattle.std.proofs.Common.{◌≡◌, ◌∙◌, ◌||◌, ◌⊎◌, ◌==◌, ℕ, Bool, true, false, cond, if◌then◌else◌, List, [], ◌∷◌, ◌++◌, find, fold, Option, Some, None, is_some, option_map, option_and_then, slice_get, chars, codes, unwrap_or, bytes_eq, refl, sym, ap, ap₂, subst, true≢false, inl, inr, eqb-true}
use Rattle.std.specs.Option.{option_map_or, option_or}
use Rattle.std.specs.Str.{IsUtf8, encode_utf8_all}
use Rattle.std.proofs.lemmas.List.Folds.{find-append}
use Rattle.std.proofs.lemmas.Slice.Eq.{bytes_eq-Decides}
use Rattle.std.proofs.lemmas.Str.{chars_past_char, encodes-chars}
use Rattle.clap.specs.Lexer.{is_short_word, long_of, short_of}
use Rattle.clap.specs.Walk.{Held, Row, Rule, Text, Walk, idle, settled, settled_rows, used, walked, with_values, without, has_row}
use Rattle.clap.specs.Walk.{option as option_waits}
use Rattle.clap.specs.Kinds.{Kinds, or_else}
use Rattle.clap.specs.Faults.{settle_fault, use_fault, walk_fault}
use Rattle.clap.specs.declared.parser.matches.ValueSource.TheVariants.{CommandLine}
use Rattle.clap.specs.declared.builder.value_parser.Reading.TheVariants.{AsWritten}
use Rattle.dstm_command.specs.Options.{Choice, Given, Meaning, Table, flag, gives, gone_on, is_given, meaning_as, meaning_of, name_of, option_named, options_from, valued, value_of, wrong}
use Rattle.dstm_command.proofs.OptionRows.{arg, args, has_given, rows, used_once}
use Rattle.dstm_command.proofs.OptionTurns.{Turn, asking_turn, asks_turn, bundle_fails, doomed_option, fails, first_fails, flag_turn, held_at, long_is, option_turn, other_fails, other_is, repeats, settled_value, settling_value, shape, stands, turn, use_turn, value_turn, valued_turn, wants_value}

pub some_none : {X : Type 0} {x : X} → Some x ≡ None → ⊥
some_none e = true≢false (ap is_some e)

pub inside : {X : Type 0} {x y : X} → Some x ≡ Some y → x ≡ y
inside {x = x} e = ap (λ o. unwrap_or o x) e

-- ---- words

-- a word that the parser reads as an option or a value
pub record IsWord (word : Text) : Type 0 where
  pub goes_on : bytes_eq word (45 ∷ 45 ∷ []) ≡ false
  pub text : IsUtf8 word

abbrev pub AreWords : List Text → Type 0
AreWords [] = Unit {0}
AreWords (word ∷ rest) = IsWord word × AreWords rest

-- what follows a lone hyphen is not empty
short_shape : (word : Text) → (short_of word ≡ None) ⊎ ((x : ℕ) × (xs : Text) × (short_of word ≡ Some (x ∷ xs)) × (word ≡ 45 ∷ x ∷ xs))
short_shape [] = inl refl
short_shape (a ∷ rest) = go (a == 45) refl
  where
    beyond : (rest : Text) → a ≡ 45 → (a == 45) ≡ true → (short_of (a ∷ rest) ≡ None) ⊎ ((x : ℕ) × (xs : Text) × (short_of (a ∷ rest) ≡ Some (x ∷ xs)) × (a ∷ rest ≡ 45 ∷ x ∷ xs))
    beyond [] same e = inl (rw e refl)
    beyond (x ∷ xs) same e = second (x == 45) refl
      where
        second : (b : Bool) → (x == 45) ≡ b → (short_of (a ∷ x ∷ xs) ≡ None) ⊎ ((y : ℕ) × (ys : Text) × (short_of (a ∷ x ∷ xs) ≡ Some (y ∷ ys)) × (a ∷ x ∷ xs ≡ 45 ∷ y ∷ ys))
        second true is = inl (rw (e, is) refl)
        second false is = inr (x, xs, rw (e, is) refl, ap (λ n. n ∷ x ∷ xs) same)

    go : (b : Bool) → (a == 45) ≡ b → (short_of (a ∷ rest) ≡ None) ⊎ ((x : ℕ) × (xs : Text) × (short_of (a ∷ rest) ≡ Some (x ∷ xs)) × (a ∷ rest ≡ 45 ∷ x ∷ xs))
    go true e = beyond rest (eqb-true _ _ e) e
    go false e = inl (rw e refl)

-- and begins with a character
first_char : (x : ℕ) (xs : Text) → IsUtf8 (45 ∷ x ∷ xs) → (c : ℕ) × (slice_get (chars (x ∷ xs)) 0 ≡ Some c)
unfolding lib.Utf8.encode
first_char x xs text = go (chars (x ∷ xs))
    (ap encode_utf8_all (sym (chars_past_char (45 ∷ x ∷ xs) (x ∷ xs) 45 text refl)) ∙ encodes-chars (45 ∷ x ∷ xs) text)
  where
    go : (cs : List ℕ) → encode_utf8_all (45 ∷ cs) ≡ 45 ∷ x ∷ xs → (c : ℕ) × (slice_get cs 0 ≡ Some c)
    go [] e = let whole : 45 ∷ [] ≡ 45 ∷ x ∷ xs = e in absurd (cc)
    go (c ∷ cs) e = (c, refl)

-- ---- what the words say

-- the option of a name has that name
name_is : (table : Table) (name : Text) (c : Choice) → option_named table name ≡ Some c → name_of c ≡ name
name_is [] name c e = absurd (some_none (sym e))
name_is (d ∷ rest) name c e = go (bytes_eq (name_of d) name) refl e (name_is rest name c)
  where
    go : (b : Bool) → bytes_eq (name_of d) name ≡ b → cond b (Some d) (option_named rest name) ≡ Some c →
        (option_named rest name ≡ Some c → name_of c ≡ name) → name_of c ≡ name
    go true is e more = ap name_of (sym (inside e)) ∙ (bytes_eq-Decides _ _).0 is
    go false is e more = more e

-- a flag has the value `true`
abbrev pub Proper : Table → Given → Type 0
Proper table given = (name text : Text) → option_named table name ≡ Some (flag name) →
    value_of name given ≡ Some text → text ≡ codes "true"

-- so has the option that is given
abbrev IsProperOne : Table → Text → Text → Type 0
IsProperOne table name text = option_named table name ≡ Some (flag name) → text ≡ codes "true"

proper_more : (table : Table) (given : Given) (name text : Text) → Proper table given → IsProperOne table name text →
    Proper table (given ++ (name, text) ∷ [])
proper_more table given name text proper one n t is e =
    go (find (λ g. bytes_eq g.0 n) given) refl (bytes_eq name n) refl
    (sym (ap (option_map (λ g. g.1)) (find-append (λ g. bytes_eq g.0 n) given ((name, text) ∷ []))) ∙ e)
  where
    go : (old : Option (Text × Text)) → find (λ g. bytes_eq g.0 n) given ≡ old → (b : Bool) → bytes_eq name n ≡ b →
        option_map (λ g. g.1) (option_or old (cond b (Some (name, text)) None)) ≡ Some t → t ≡ codes "true"
    go (Some g) had b same e = proper n t is (ap (option_map (λ g. g.1)) had ∙ e)
    go None had true same e =
        let named : name ≡ n = (bytes_eq-Decides _ _).0 same in
        sym (inside e) ∙ one (subst (λ n. option_named table n ≡ Some (flag n)) (sym named) is)
    go None had false same e = absurd (some_none (sym e))

-- ---- the walk

module _ (table : Table) where
  abbrev pub ends : Walk → List Text → Held
  ends w words = (fold (walked (args table) []) w words).held

  -- the fault of the words, and the use of what is pending at their end
  abbrev pub total : Walk → List Text → Kinds
  total w words = or_else (walk_fault (shape table) [] w words) (settle_fault (args table) false (ends w words))

  abbrev pub rows_at : Walk → List Text → List Row
  rows_at w words = (settled (args table) (ends w words)).rows

  total_nothing : (w : Walk) → total w [] ≡ settle_fault (args table) false w.held
  unfolding walk_fault
  total_nothing w = refl

  total_turn : (w : Walk) (word : Text) (rest : List Text) → total w (word ∷ rest)
      ≡ or_else (or_else (turn table w word).0 (walk_fault (shape table) [] (turn table w word).1 rest))
      (settle_fault (args table) false (ends (turn table w word).1 rest))
  unfolding walk_fault
  total_turn w word rest = refl

  turned : (w w' : Walk) (word : Text) (rest : List Text) → turn table w word ≡ ([], w') →
      total w (word ∷ rest) ≡ total w' rest
  turned w w' word rest e =
      total_turn w word rest
      ∙ ap (λ (t : Turn). or_else (or_else t.0 (walk_fault (shape table) [] t.1 rest))
      (settle_fault (args table) false (ends t.1 rest))) e

  turn_fails : (w : Walk) (word : Text) (rest : List Text) → fails (turn table w word).0 ≡ true →
      fails (total w (word ∷ rest)) ≡ true
  turn_fails w word rest e = ap fails (total_turn w word rest) ∙ first_fails _ _ (first_fails _ _ e)

-- where the parser stands when options were given: what is pending can be used and leaves their rows, or one of
-- them waits for its value
pub data Stands (table : Table) (given : Given) : Option Text → Walk → Type 0 where
  between : (rs : List Row) (p : Option (Text × List Text)) → settle_fault (args table) false (held_at rs p) ≡ [] →
      settled_rows (args table) p rs ≡ rows given → Stands table given None (stands idle (held_at rs p))
  waits : (name : Text) → option_named table name ≡ Some (valued name) →
      Stands table given (Some name) (stands (option_waits name) (held_at (rows given) (Some (name, []))))

abbrev Onward : Type 0
Onward = Given → Option Text → Option Given

-- what a turn comes to, beside what its word means
pub data Met (table : Table) (given : Given) (m : Meaning) (t : Turn) : Type 0 where
  stops : fails t.0 ≡ true → ((on : Onward) → gone_on given on m ≡ None) → Met table given m t
  goes : (more : Given) (asked : Option Text) (w : Walk) → Proper table more → Stands table more asked w → t ≡ ([], w)
      → ((on : Onward) → gone_on given on m ≡ on more asked) → Met table given m t
  dooms : (rs : List Row) (p : Option (Text × List Text)) → t ≡ ([], stands idle (held_at rs p)) →
      fails (settle_fault (args table) false (held_at rs p)) ≡ true → ((on : Onward) → gone_on given on m ≡ None)
      → Met table given m t

module _ (table : Table) (given : Given) (proper : Proper table given) where
  abbrev once : Text → Text → Bool → Option Given
  once name text again = if again then None else Some (given ++ (name, text) ∷ [])

  abbrev onward : Onward → Option Given → Option Given
  onward on = option_and_then (λ more. on more None)

  -- an option is used at once
  uses : (name text : Text) (a : Rule) (values : List Text) → IsProperOne table name text →
      use_fault false a values (rows given) ≡ repeats (has_row name (rows given))
      → used a values (rows given) ≡ with_values name AsWritten CommandLine (text ∷ []) (without name (rows given))
      → Met table given (gives name text) (use_turn table a values [] (rows given))
  uses name text a values one fault usage = go (is_given name given) refl
    where
      fault_is : (b : Bool) → is_given name given ≡ b → use_fault false a values (rows given) ≡ repeats b
      fault_is b e = fault ∙ ap repeats (has_given name given ∙ e)

      go : (b : Bool) → is_given name given ≡ b → Met table given (gives name text) (use_turn table a values [] (rows given))
      go true e = stops (ap (λ k. fails (or_else k [])) (fault_is true e)) (λ on. ap (λ b. onward on (once name text b)) e)
      go false e = goes (given ++ (name, text) ∷ []) None _ (proper_more table given name text proper one)
          (between (rows (given ++ (name, text) ∷ [])) None refl refl)
          (ap₂ (λ (k : Kinds) rs. (or_else k [], stands idle (held_at rs None))) (fault_is false e)
          (usage ∙ used_once given name text e))
          (λ on. ap (λ b. onward on (once name text b)) e)

  met_option : (word n : Text) (v : Option Text) (rs : List Row) (p : Option (Text × List Text)) (c : Option Choice) →
      settle_fault (args table) false (held_at rs p) ≡ [] → settled_rows (args table) p rs ≡ rows given →
      option_named table n ≡ c → Met table given (meaning_as c v) (option_turn table word v idle (held_at rs p) (option_map arg c))
  met_option word n v rs p None settles leaves is = stops refl (λ on. refl)
  met_option word n (Some t) rs p (Some (valued m)) settles leaves is =
      let here : option_named table m ≡ Some (valued m) =
      subst (λ k. option_named table k ≡ Some (valued m)) (sym (name_is table n (valued m) is)) is in
      subst (Met table given (gives m t)) (sym (valued_turn table m t word rs p
      ∙ ap₂ (use_turn table (arg (valued m)) (t ∷ [])) settles leaves))
      (uses m t (arg (valued m)) (t ∷ []) (λ e. absurd (differs (inside (sym here ∙ e)))) refl refl)
    where
      differs : valued m ≡ flag m → ⊥
      differs e = cc
  met_option word n None rs p (Some (valued m)) settles leaves is =
      let here : option_named table m ≡ Some (valued m) =
      subst (λ k. option_named table k ≡ Some (valued m)) (sym (name_is table n (valued m) is)) is in
      goes given (Some m) _ proper (waits m here)
      (asks_turn table m word rs p ∙ ap₂ (asking_turn table m) settles leaves) (λ on. refl)
  met_option word n None rs p (Some (flag m)) settles leaves is =
      subst (Met table given (gives m (codes "true"))) (sym (flag_turn table m word rs p
      ∙ ap₂ (use_turn table (arg (flag m)) []) settles leaves))
      (uses m (codes "true") (arg (flag m)) [] (λ e. refl) refl refl)
  met_option word n (Some t) rs p (Some (flag m)) settles leaves is = stops refl (λ on. refl)

  -- a word where an option may stand
  met_first : (word : Text) (rs : List Row) (p : Option (Text × List Text)) → IsWord word →
      settle_fault (args table) false (held_at rs p) ≡ [] → settled_rows (args table) p rs ≡ rows given →
      (l : Option (Text × Option Text)) → long_of word ≡ l
      → Met table given (meaning_of table None word) (turn table (stands idle (held_at rs p)) word)
  met_first word rs p is settles leaves (Some (n, v)) l =
      let means : meaning_of table None word ≡ meaning_as (option_named table n) v =
      ap (λ l. option_map_or (λ p. meaning_as (option_named table p.0) p.1) l wrong) l in
      subst (λ m. Met table given m (turn table (stands idle (held_at rs p)) word)) (sym means)
      (subst (Met table given (meaning_as (option_named table n) v))
      (sym (long_is table word n v idle (held_at rs p) is.goes_on l))
      (met_option word n v rs p (option_named table n) settles leaves refl))
  met_first word rs p is settles leaves None l =
      stops (ap (λ (t : Turn). fails t.0) (other_is table word (short_of word) idle (held_at rs p) is.goes_on l refl)
      ∙ other_fails table word (short_of word) rs p (elim (short_shape word) [ inl e ↦ inl e | inr t ↦ inr (t.0, t.1, t.2) ]))
      (λ on. ap (λ l. gone_on given on (option_map_or (λ p. meaning_as (option_named table p.0) p.1) l wrong)) l)

  -- a word where the value of an option is to stand
  met_value : (name word : Text) → IsWord word → option_named table name ≡ Some (valued name) →
      (l : Option (Text × Option Text)) → long_of word ≡ l
      → Met table given (meaning_of table (Some name) word)
      (turn table (stands (option_waits name) (held_at (rows given) (Some (name, [])))) word)
  met_value name word is here (Some (n, v)) l = stops
      (ap (λ (t : Turn). fails t.0) (long_is table word n v (option_waits name) (held_at (rows given) (Some (name, []))) is.goes_on l)
      ∙ doomed_option table word v (option_waits name) (held_at (rows given) (Some (name, []))) (option_named table n)
      (wants_value table name (rows given) here))
      (λ on. ap (λ l. gone_on given on (if is_some l || is_short_word word then wrong else gives name word)) l)
  met_value name word is here None l = go (short_shape word)
    where
      h : Held
      h = held_at (rows given) (Some (name, []))

      means : (s : Option Text) → short_of word ≡ s →
          meaning_of table (Some name) word ≡ (if is_some s then wrong else gives name word)
      means s e = ap₂ (λ (l : Option (Text × Option Text)) (s : Option Text).
          if is_some l || is_some s then wrong else gives name word) l e

      settles : (again : Bool) → is_given name given ≡ again →
          settle_fault (args table) false (held_at (rows given) (Some (name, word ∷ []))) ≡ repeats again
      settles again e = settling_value table name word (rows given) here ∙ ap repeats (has_given name given ∙ e)

      as_value : (again : Bool) → is_given name given ≡ again →
          Met table given (gives name word) ([], stands idle (held_at (rows given) (Some (name, word ∷ []))))
      as_value true e = dooms (rows given) (Some (name, word ∷ [])) refl (ap fails (settles true e))
          (λ on. ap (λ b. onward on (once name word b)) e)
      as_value false e = goes (given ++ (name, word) ∷ []) None _
          (proper_more table given name word proper (λ f. absurd (differs (inside (sym here ∙ f)))))
          (between (rows given) (Some (name, word ∷ [])) (settles false e)
          (settled_value table name word (rows given) here ∙ used_once given name word e))
          refl (λ on. ap (λ b. onward on (once name word b)) e)
        where
          differs : valued name ≡ flag name → ⊥
          differs e = cc

      go : (short_of word ≡ None) ⊎ ((x : ℕ) × (xs : Text) × (short_of word ≡ Some (x ∷ xs)) × (word ≡ 45 ∷ x ∷ xs)) →
          Met table given (meaning_of table (Some name) word) (turn table (stands (option_waits name) h) word)
      go (inl none) =
          subst (λ m. Met table given m (turn table (stands (option_waits name) h) word)) (sym (means None none))
          (subst (Met table given (gives name word))
          (sym (other_is table word None (option_waits name) h is.goes_on l none ∙ value_turn table name word (rows given) here))
          (as_value (is_given name given) refl))
      go (inr t) =
          let first = first_char t.0 t.1 (subst IsUtf8 t.3 is.text) in
          stops (ap (λ (t : Turn). fails t.0) (other_is table word (Some (t.0 ∷ t.1)) (option_waits name) h is.goes_on l t.2)
          ∙ bundle_fails table word t.0 first.0 t.1 (option_waits name) (rows given) (Some (name, [])) first.1)
          (λ on. ap (gone_on given on) (means (Some (t.0 ∷ t.1)) t.2))

met : (table : Table) (given : Given) (asked : Option Text) (w : Walk) (word : Text) → Proper table given → IsWord word →
    Stands table given asked w → Met table given (meaning_of table asked word) (turn table w word)
met table given asked w word proper is (between rs p settles leaves) =
    met_first table given proper word rs p is settles leaves (long_of word) refl
met table given asked w word proper is (waits name here) = met_value table given proper name word is here (long_of word) refl

-- ---- all the words

-- where what is pending cannot be used, the parser refuses whatever follows
doomed : (table : Table) (words : List Text) (rs : List Row) (p : Option (Text × List Text)) → AreWords words →
    fails (settle_fault (args table) false (held_at rs p)) ≡ true
    → fails (total table (stands idle (held_at rs p)) words) ≡ true
doomed table [] rs p all e = ap fails (total_nothing table (stands idle (held_at rs p))) ∙ e
doomed table (word ∷ rest) rs p all e = turn_fails table _ word rest (go (long_of word) refl)
  where
    h : Held
    h = held_at rs p

    go : (l : Option (Text × Option Text)) → long_of word ≡ l → fails (turn table (stands idle h) word).0 ≡ true
    go (Some (n, v)) l = ap (λ (t : Turn). fails t.0) (long_is table word n v idle h all.0.goes_on l)
        ∙ doomed_option table word v idle h (option_named table n) e
    go None l = ap (λ (t : Turn). fails t.0) (other_is table word (short_of word) idle h all.0.goes_on l refl)
        ∙ other_fails table word (short_of word) rs p (elim (short_shape word) [ inl e ↦ inl e | inr t ↦ inr (t.0, t.1, t.2) ])

-- the parser takes the words and has the rows of the options that they give, or it refuses them and they give none
pub data Agrees (table : Table) (words : List Text) (w : Walk) : Option Given → Type 0 where
  taken : (given : Given) → Proper table given → total table w words ≡ [] → rows_at table w words ≡ rows given →
      Agrees table words w (Some given)
  refused : fails (total table w words) ≡ true → Agrees table words w None

pub agrees : (table : Table) (words : List Text) (given : Given) (asked : Option Text) (w : Walk) → AreWords words →
    Proper table given → Stands table given asked w → Agrees table words w (options_from table given asked words)
agrees table [] given asked w all proper (between rs p settles leaves) =
    taken given proper (total_nothing table (stands idle (held_at rs p)) ∙ settles) leaves
agrees table [] given asked w all proper (waits name here) =
    refused (ap fails (total_nothing table w) ∙ wants_value table name (rows given) here)
agrees table (word ∷ rest) given asked w all proper is = go (met table given asked w word proper all.0 is)
    (λ more asked w proper is. agrees table rest more asked w all.1 proper is)
  where
    on : Onward
    on more next = options_from table more next rest

    answer : Option Given
    answer = gone_on given on (meaning_of table asked word)

    go : Met table given (meaning_of table asked word) (turn table w word) →
        ((more : Given) (asked : Option Text) (w : Walk) → Proper table more → Stands table more asked w →
        Agrees table rest w (options_from table more asked rest))
        → Agrees table (word ∷ rest) w answer
    go (stops fault none) later =
        subst (Agrees table (word ∷ rest) w) (sym (none on)) (refused (turn_fails table w word rest fault))
    go (dooms rs p turn_is fault none) later =
        subst (Agrees table (word ∷ rest) w) (sym (none on))
        (refused (ap fails (turned table w _ word rest turn_is) ∙ doomed table rest rs p all.1 fault))
    go (goes more next w' good is turn_is same) later =
        subst (Agrees table (word ∷ rest) w) (sym (same on)) (via (later more next w' good is))
      where
        via : Agrees table rest w' (options_from table more next rest) →
            Agrees table (word ∷ rest) w (options_from table more next rest)
        via a = elim a as (λ o a. Agrees table (word ∷ rest) w o) [
          | taken given proper none leaves ↦ taken given proper (turned table w w' word rest turn_is ∙ none)
              (ap (λ (t : Turn). rows_at table t.1 rest) turn_is ∙ leaves)
          | refused fault ↦ refused (ap fails (turned table w w' word rest turn_is) ∙ fault)
        ]
