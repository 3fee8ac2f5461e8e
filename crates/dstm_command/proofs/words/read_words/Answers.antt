use Rattle.std.proofs.Common.{◌≡◌, ◌∙◌, ◌<◌, ◌≤◌, ◌-◌, Bool, true, false, if◌then◌else◌, List, [], ◌∷◌, Option, None, String, Global, length, take, drop, take_all, get_or, map, string_bytes, refl, sym, ap, ap₂, arith}
use Rattle.std.specs.List.{list_any}
use Rattle.std.proofs.lemmas.Result.{IfOk-weaker}
use Rattle.clap.proofs.WalkLemmas.{list_any-map}
use Rattle.dstm_command.specs.CommandLine.{command_named, command_of, is_two_hyphens}
use Rattle.dstm_command.specs.Options.{Text}
use Rattle.dstm_command.specs.declared.command.Command.{Command}
use Rattle.dstm_command.proofs.words.read_words.Goals as goal

abbrev text : String Global → Text
text word = string_bytes word

short_line : (words : List (String Global)) → length words < 2 → command_of (map text words) ≡ None
short_line [] few = refl
short_line (program ∷ []) few = refl
short_line (program ∷ name ∷ words) few = absurd (omega arith)

-- the words after the command's name
abbrev rest_of : List (String Global) → List (String Global)
rest_of words = take (length words - 2) (drop 2 words)

abbrev has_dashes : List (String Global) → Bool
has_dashes words = list_any (λ word. is_two_hyphens (text word)) words

abbrev line : Bool → Text → List Text → Option Command
line dashes name words = if dashes then None else command_named name words

long_line : (words : List (String Global)) (name : String Global) (dashes : Bool) → 2 ≤ length words →
    name ≡ get_or words 1 name
    → has_dashes (rest_of words) ≡ dashes →
    command_of (map text words) ≡ line dashes (text name) (map text (rest_of words))
long_line [] name dashes many is has = absurd (omega arith)
long_line (program ∷ []) name dashes many is has = absurd (omega arith)
long_line (program ∷ named ∷ words) name dashes many is has =
    let whole : rest_of (program ∷ named ∷ words) ≡ words =
    take_all (length (program ∷ named ∷ words) - 2) words (omega arith) in
    ap₂ (λ (n : String Global) (w : List (String Global)). line (list_any is_two_hyphens (map text w)) (text n)
    (map text w)) (sym is) (sym whole)
    ∙ ap (λ b. line b (text name) (map text (rest_of (program ∷ named ∷ words))))
    (sym (list_any-map is_two_hyphens text (rest_of (program ∷ named ∷ words))) ∙ has)

pub returns-in_default-clause-usage : goal.returns-in_default-clause-usage
returns-in_default-clause-usage c = λ _. short_line c.args.words.now c.in_default.len_below

pub returns-then-has_two_hyphens-clause-usage : goal.returns-then-has_two_hyphens-clause-usage
returns-then-has_two_hyphens-clause-usage c = λ _.
    long_line c.args.words.now c.name-item.result true c.in-len2-up.len_at_least c.name-item.is
    (sym c.has_two_hyphens.ensures ∙ c.if-has_two_hyphens.true)

pub read_command-requires : goal.read_command-requires
read_command-requires c =
    sym (list_any-map is_two_hyphens text (rest_of c.args.words.now)) ∙ sym c.has_two_hyphens.ensures
    ∙ c.if-has_two_hyphens.false

pub returns-clause-ok : goal.returns-clause-ok
returns-clause-ok c =
    let at = long_line c.args.words.now c.name-item.result false c.in-len2-up.len_at_least c.name-item.is
    (sym c.has_two_hyphens.ensures ∙ c.if-has_two_hyphens.false) in
    let named = ap (λ n. command_named n (map text (rest_of c.args.words.now))) (sym c.as_str.ensures.value) in
    IfOk-weaker c.read_command.result _ _ (λ command h. at ∙ named ∙ h) c.read_command.ensures.ok

pub returns-clause-usage : goal.returns-clause-usage
returns-clause-usage c = λ usage.
    let at = long_line c.args.words.now c.name-item.result false c.in-len2-up.len_at_least c.name-item.is
    (sym c.has_two_hyphens.ensures ∙ c.if-has_two_hyphens.false) in
    let named = ap (λ n. command_named n (map text (rest_of c.args.words.now))) (sym c.as_str.ensures.value) in
    at ∙ named ∙ c.read_command.ensures.usage usage
