use Rattle.std.proofs.Common.{List, ℕ, ◌++◌, codes, decimal, ap, sym, ◌∙◌, append_assoc}
use Rattle.dstm_report.specs.declared.verdict.Verdict.{Verdict}
use Rattle.dstm_cli.specs.Command.{verdict_text}
use Rattle.dstm_cli.proofs.output.push_verdict.Goals as goal

pub returns-in_ok-push-in-NotLawful : goal.returns-in_ok-push-in-NotLawful
returns-in_ok-push-in-NotLawful c =
    let before = c.args.text.now.items in
    let opening : List ℕ = codes "not lawful: line " in
    let number : List ℕ = decimal c.in-NotLawful.line in
    c.in_ok-push-in-NotLawful.ensures.items
    ∙ ap (λ (text : List ℕ). text ++ codes "\n")
    (c.in_ok-push_decimal-in-NotLawful.ensures.ok
    ∙ ap (λ (text : List ℕ). text ++ number) c.in_ok-extend_from_slice-in-NotLawful.ensures.items
    ∙ append_assoc before opening number)
    ∙ append_assoc before (opening ++ number) (codes "\n")
    ∙ ap (λ (verdict : Verdict). before ++ verdict_text verdict) (sym c.in-NotLawful.is)
