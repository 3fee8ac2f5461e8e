use Rattle.std.proofs.Common.{◌≡◌, ◌≢◌, ◌∙◌, ap, List, [], map, string_bytes, sym, subst, Option, option_and_then, rules}
use Rattle.clap.specs.Words.{App, fault_of, found_of, matches_of}
use Rattle.dstm_command.specs.CommandLine.{run_of, run_options}
use Rattle.dstm_command.specs.Options.{Text, options_in}
use Rattle.dstm_options.specs.declared.options.Options.{Options as Chosen}
use Rattle.dstm_command.proofs.OptionParses.{answer_ok, answer_usage, are_words, none_read, result_is}
use Rattle.dstm_command.proofs.options.read_options.Goals as goal

pub returns : goal.returns
returns c =
    let words : List Text = map string_bytes c.args.words.now in
    let app_is = c.in_ok-options_command.ensures in
    let read = result_is run_options words (found_of c.in_ok-matches.matches) (are_words c.args.words.now c.requires)
    (subst (λ (a : App). fault_of a words ≡ []) app_is c.in_ok-matches.ensures.taken)
    (c.in_ok-matches.ensures.ok ∙ ap (λ (a : App). matches_of a words) app_is) in
    let given : Option Chosen = option_and_then run_of (options_in run_options words) in
    let same : c.options_matched.result ≡ given = c.options_matched.ensures read.0 read.2
    ∙ ap (option_and_then run_of) (sym read.1) in
    record {
      ok = answer_ok c.options_matched.result given c.ok_or.result c.ok_or.ensures.value same;
      usage = answer_usage c.options_matched.result given c.ok_or.result c.ok_or.ensures.value same;
    }

pub returns-in_err-matches-clause-usage : goal.returns-in_err-matches-clause-usage
returns-in_err-matches-clause-usage c = λ usage.
    let words : List Text = map string_bytes c.args.words.now in
    ap (option_and_then run_of) (none_read run_options words (are_words c.args.words.now c.requires)
    (subst (λ (a : App). fault_of a words ≢ []) c.in_ok-options_command.ensures
    (c.in_err-matches.ensures.usage (let h = c.from_residual-in_err-matches.ensures in search rules))))
