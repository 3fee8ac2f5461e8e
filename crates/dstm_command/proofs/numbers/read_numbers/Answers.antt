use Rattle.std.proofs.Common.{◌≡◌, ◌≢◌, List, [], ◌∷◌, None, String, Global, length, map, string_bytes, refl, arith}
use Rattle.dstm_command.specs.CommandLine.{spec_in}
use Rattle.dstm_command.proofs.numbers.read_numbers.Goals as goal

other_count : (words : List (String Global)) → length words ≢ 3 → spec_in (map string_bytes words) ≡ None
other_count (seed ∷ count ∷ workers ∷ []) other = absurd (other refl)
other_count [] other = refl
other_count (seed ∷ []) other = refl
other_count (seed ∷ count ∷ []) other = refl
other_count (seed ∷ count ∷ workers ∷ word ∷ words) other = refl

pub returns-in_default-clause-usage : goal.returns-in_default-clause-usage
returns-in_default-clause-usage c = λ _. other_count c.args.words.now (λ e. omega arith)

pub returns-in_default-2-clause-usage : goal.returns-in_default-2-clause-usage
returns-in_default-2-clause-usage c = λ _. other_count c.args.words.now (λ e. omega arith)
