-- One turn of the parser of a table's options, by what its word is.
use Rattle.std.proofs.Common.{◌≡◌, ◌∙◌, ◌&&◌, ◌⊎◌, ℕ, Bool, true, false, not, if◌then◌else◌, nat_lt, List, [], ◌∷◌, length, Option, Some, None, option_map, slice_get, chars, drop, encode_utf8, bytes_eq, refl, sym, ap, true≢false, inl, inr}
use Rattle.std.specs.Option.{option_map_or}
use Rattle.std.proofs.lemmas.Slice.Eq.{bytes_eq-Decides}
use Rattle.clap.specs.Lexer.{long_of, short_of}
use Rattle.clap.specs.Walk.{Held, Row, Rule, Step, Text, Waiting, Walk, after_flag, after_step, arg_by_short, bundle_met, bundle_step, idle, long_met, long_or_other, next, option, option_word, plain, positional, settled_rows, short_or_plain, trailing, used, used_by_id, value, walked}
use Rattle.clap.specs.Kinds.{Kinds, or_else}
use Rattle.clap.specs.Faults.{bundle_fault, bundle_step_fault, flag_word_fault, flags_fault, long_fault, positional_fault, settle_fault, short_fault, step_fault, stray_fault, turn_fault, use_fault}
use Rattle.clap.specs.Simple.{Shape, built}
use Rattle.clap.specs.declared.error.kind.ErrorKind.TheVariants.{ArgumentConflict}
use Rattle.dstm_command.specs.Options.{Choice, Table, flag, option_named, valued}
use Rattle.dstm_command.specs.Parsers.{options_app}
use Rattle.dstm_command.proofs.OptionRows.{arg, args, by_id, by_index, by_long, by_short}

-- ---- faults

abbrev pub fails : Kinds → Bool
fails [] = false
fails (k ∷ ks) = true

pub first_fails : (a b : Kinds) → fails a ≡ true → fails (or_else a b) ≡ true
first_fails [] b e = absurd (true≢false (sym e))
first_fails (k ∷ ks) b e = refl

-- an option that is used once more
abbrev pub repeats : Bool → Kinds
repeats again = or_else (if again && not false then ArgumentConflict ∷ [] else []) []

-- ---- states

-- between two words: the rows, the option that is waiting to be used, and what takes the next word
abbrev pub held_at : List Row → Option (Text × List Text) → Held
held_at rows pending = record { rows = rows; pending = pending; skip = 0 }

abbrev pub stands : Waiting → Held → Walk
stands waiting h = record { held = h; waiting = waiting; position = 1; is_trailing = false; stopped = None }

-- the kinds of the fault of a turn, and the state after it
abbrev pub Turn : Type 0
Turn = Kinds × Walk

module _ (table : Table) where
  abbrev pub shape : Shape
  shape = (built (options_app table)).top

  abbrev pub turn : Walk → Text → Turn
  turn w word = (turn_fault shape [] w word, walked (args table) [] w word)

  abbrev after : Text → Waiting → Held → Kinds → Held × Step → Turn
  after word waiting h kinds met =
      (or_else kinds (step_fault shape 1 met.0 met.1), after_step (args table) word (stands waiting h) met.0 met.1)

  -- any other word, with what follows its hyphen if it begins with one
  abbrev pub other_turn : Text → Option Text → Waiting → Held → Turn
  other_turn word s waiting h =
      after word waiting h (option_map_or (λ flags. bundle_fault (args table) false flags h) s [])
      (short_or_plain (args table) waiting word s h)

  abbrev dash_turn : Text → Waiting → Held → Bool → Turn
  dash_turn word waiting h dash =
      after word waiting h (if dash then [] else flag_word_fault (args table) false (long_of word) word h)
      (if dash then (h, trailing 1) else long_or_other (args table) waiting word (long_of word) h)

  abbrev pub lexed_turn : Text → Waiting → Held → Option (Text × Option Text) → Turn
  lexed_turn word waiting h lexed =
      after word waiting h (flag_word_fault (args table) false lexed word h)
      (long_or_other (args table) waiting word lexed h)

  turn_is : (word : Text) (waiting : Waiting) (h : Held) →
      turn (stands waiting h) word ≡ dash_turn word waiting h (bytes_eq word (45 ∷ 45 ∷ []))
  unfolding walked
  turn_is word idle h = refl
  turn_is word (option id) h = refl
  turn_is word positional h = refl

  -- a word that is not `--`
  pub lexed_is : (word : Text) (waiting : Waiting) (h : Held) → bytes_eq word (45 ∷ 45 ∷ []) ≡ false →
      turn (stands waiting h) word ≡ lexed_turn word waiting h (long_of word)
  lexed_is word waiting h e = turn_is word waiting h ∙ ap (dash_turn word waiting h) e

  -- a word `--NAME` or `--NAME=VALUE`, by its option
  abbrev pub option_turn : Text → Option Text → Waiting → Held → Option Rule → Turn
  option_turn word v waiting h a =
      after word waiting h (long_fault (args table) false a v h)
      (after_flag (args table) waiting word (long_met (args table) a v h).0 (long_met (args table) a v h).1)

  pub long_is : (word n : Text) (v : Option Text) (waiting : Waiting) (h : Held) →
      bytes_eq word (45 ∷ 45 ∷ []) ≡ false → long_of word ≡ Some (n, v)
      → turn (stands waiting h) word ≡ option_turn word v waiting h (option_map arg (option_named table n))
  long_is word n v waiting h e l = lexed_is word waiting h e ∙ ap (lexed_turn word waiting h) l
      ∙ ap (option_turn word v waiting h) (by_long table n)

  pub other_is : (word : Text) (s : Option Text) (waiting : Waiting) (h : Held) →
      bytes_eq word (45 ∷ 45 ∷ []) ≡ false → long_of word ≡ None → short_of word ≡ s
      → turn (stands waiting h) word ≡ other_turn word s waiting h
  other_is word s waiting h e l is = lexed_is word waiting h e ∙ ap (lexed_turn word waiting h) l
      ∙ ap (λ s. other_turn word s waiting h) is

  -- ---- uses

  -- the turn that uses an argument, where what waited to be used has this fault and leaves these rows
  abbrev pub use_turn : Rule → List Text → Kinds → List Row → Turn
  use_turn a values settling rs =
      (or_else (or_else settling (use_fault false a values rs)) [], stands idle (held_at (used a values rs) None))

  abbrev settling : List Row → Option (Text × List Text) → Kinds
  settling rs p = settle_fault (args table) false (held_at rs p)

  abbrev settled_as : List Row → Option (Text × List Text) → List Row
  settled_as rs p = settled_rows (args table) p rs

  pub valued_turn : (m t word : Text) (rs : List Row) (p : Option (Text × List Text)) →
      option_turn word (Some t) idle (held_at rs p) (Some (arg (valued m)))
      ≡ use_turn (arg (valued m)) (t ∷ []) (settling rs p) (settled_as rs p)
  valued_turn m t word rs p = refl

  pub flag_turn : (m word : Text) (rs : List Row) (p : Option (Text × List Text)) →
      option_turn word None idle (held_at rs p) (Some (arg (flag m)))
      ≡ use_turn (arg (flag m)) [] (settling rs p) (settled_as rs p)
  flag_turn m word rs p = refl

  abbrev pub asking_turn : Text → Kinds → List Row → Turn
  asking_turn m settling rs = (or_else settling [], stands (option m) (held_at rs (Some (m, []))))

  pub asks_turn : (m word : Text) (rs : List Row) (p : Option (Text × List Text)) →
      option_turn word None idle (held_at rs p) (Some (arg (valued m)))
      ≡ asking_turn m (settling rs p) (settled_as rs p)
  asks_turn m word rs p = refl

  -- the option that waits for its value gets it
  pub value_turn : (n word : Text) (rs : List Row) → option_named table n ≡ Some (valued n) →
      other_turn word None (option n) (held_at rs (Some (n, [])))
      ≡ ([], stands idle (held_at rs (Some (n, word ∷ []))))
  value_turn n word rs is = ap by (by_id table n ∙ ap (option_map arg) is)
      ∙ ap (λ (b : Bool). ([], stands (if nat_lt (if b then 1 else 0) 1 then option n else idle) (held_at rs (Some (n, word ∷ [])))))
      ((bytes_eq-Decides n n).1 refl)
    where
      h : Held
      h = held_at rs (Some (n, []))

      by : Option Rule → Turn
      by a = after word (option n) h [] ((option_word a n word h).0, next (option_word a n word h).1)

  pub settling_value : (n t : Text) (rs : List Row) → option_named table n ≡ Some (valued n) →
      settling rs (Some (n, t ∷ [])) ≡ use_fault false (arg (valued n)) (t ∷ []) rs
  settling_value n t rs is =
      ap (λ a. option_map_or (λ a. use_fault false a (t ∷ []) rs) a []) (by_id table n ∙ ap (option_map arg) is)

  pub settled_value : (n t : Text) (rs : List Row) → option_named table n ≡ Some (valued n) →
      settled_as rs (Some (n, t ∷ [])) ≡ used (arg (valued n)) (t ∷ []) rs
  settled_value n t rs is = ap (λ a. used_by_id a (t ∷ []) rs) (by_id table n ∙ ap (option_map arg) is)

  pub wants_value : (n : Text) (rs : List Row) → option_named table n ≡ Some (valued n) →
      fails (settling rs (Some (n, []))) ≡ true
  wants_value n rs is =
      ap (λ a. fails (option_map_or (λ a. use_fault false a [] rs) a [])) (by_id table n ∙ ap (option_map arg) is)

  -- ---- words that are refused

  -- where what is pending cannot be used, each option is refused
  pub doomed_option : (word : Text) (v : Option Text) (waiting : Waiting) (h : Held) (c : Option Choice) →
      fails (settle_fault (args table) false h) ≡ true
      → fails (option_turn word v waiting h (option_map arg c)).0 ≡ true
  doomed_option word v waiting h None e = refl
  doomed_option word None waiting h (Some (valued m)) e = first_fails _ _ e
  doomed_option word (Some t) waiting h (Some (valued m)) e = first_fails _ _ (first_fails _ _ e)
  doomed_option word None waiting h (Some (flag m)) e = first_fails _ _ (first_fails _ _ e)
  doomed_option word (Some t) waiting h (Some (flag m)) e = refl

  -- a bundle of short flags, by its first character
  abbrev bundled : Text → ℕ → Text → Waiting → Held → Option ℕ → Turn
  bundled word x xs waiting h first =
      after word waiting h
      (bundle_step_fault (args table) false first (x ∷ xs) 0 h (flags_fault (args table) false (length xs)))
      (after_flag (args table) waiting word
      (bundle_step (args table) first (x ∷ xs) 0 plain h (bundle_met (args table) (length xs))).0
      (bundle_step (args table) first (x ∷ xs) 0 plain h (bundle_met (args table) (length xs))).1)

  bundle_is : (word : Text) (x : ℕ) (xs : Text) (waiting : Waiting) (rs : List Row) (p : Option (Text × List Text))
      → other_turn word (Some (x ∷ xs)) waiting (held_at rs p)
      ≡ bundled word x xs waiting (held_at rs p) (slice_get (chars (x ∷ xs)) 0)
  unfolding flags_fault bundle_met
  bundle_is word x xs waiting rs p = refl

  no_short : (c : ℕ) (rest : Text) (h : Held) (more : Held → Kinds) →
      fails (short_fault (args table) false (arg_by_short (args table) c) rest h more) ≡ true
  no_short c rest h more = ap (λ a. fails (short_fault (args table) false a rest h more)) (by_short table c)

  some_char : (word : Text) (x c : ℕ) (xs : Text) (waiting : Waiting) (h : Held) →
      fails (bundled word x xs waiting h (Some c)).0 ≡ true
  some_char word x c xs waiting h =
      let rest : Text = drop (length (encode_utf8 c)) (x ∷ xs) in
      let more : Held → Kinds = flags_fault (args table) false (length xs) rest 0 in
      first_fails (short_fault (args table) false (arg_by_short (args table) c) rest h more)
      _ (no_short c rest h more)

  stray : (h : Held) → fails (step_fault shape 1 h value) ≡ true
  stray h = ap (λ a. fails (option_map_or (λ a. positional_fault (args table) false a h) a (stray_fault shape)))
      (by_index table 1)

  -- a word that is no option is refused where an option may stand
  pub other_fails : (word : Text) (s : Option Text) (rs : List Row) (p : Option (Text × List Text)) →
      ((s ≡ None) ⊎ ((x : ℕ) × (xs : Text) × (s ≡ Some (x ∷ xs))))
      → fails (other_turn word s idle (held_at rs p)).0 ≡ true
  other_fails word s rs p (inl none) =
      ap (λ s. fails (other_turn word s idle (held_at rs p)).0) none ∙ stray (held_at rs p)
  other_fails word s rs p (inr t) =
      ap (λ s. fails (other_turn word s idle (held_at rs p)).0) t.2
      ∙ ap (λ (t : Turn). fails t.0) (bundle_is word t.0 t.1 idle rs p)
      ∙ go (slice_get (chars (t.0 ∷ t.1)) 0)
    where
      go : (first : Option ℕ) → fails (bundled word t.0 t.1 idle (held_at rs p) first).0 ≡ true
      go None = stray (held_at rs p)
      go (Some c) = some_char word t.0 c t.1 idle (held_at rs p)

  -- a bundle is no value
  pub bundle_fails : (word : Text) (x c : ℕ) (xs : Text) (waiting : Waiting) (rs : List Row)
      (p : Option (Text × List Text)) → slice_get (chars (x ∷ xs)) 0 ≡ Some c
      → fails (other_turn word (Some (x ∷ xs)) waiting (held_at rs p)).0 ≡ true
  bundle_fails word x c xs waiting rs p is =
      ap (λ (t : Turn). fails t.0) (bundle_is word x xs waiting rs p)
      ∙ ap (λ first. fails (bundled word x xs waiting (held_at rs p) first).0) is
      ∙ some_char word x c xs waiting (held_at rs p)
