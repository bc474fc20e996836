use Rattle.std.proofs.Common.{◌≡◌, ◌+◌, ◌*◌, ◌^◌, ◌∙◌}
use Rattle.learn_report.specs.Index.{numbered}
use Rattle.learn_report.proofs.waiting.number_of.Goals as goal

pub returns-clause-value : goal.returns-clause-value
unfolding numbered
returns-clause-value c =
    let key : c.from.result ≡ c.args.report.now.0 * 2 ^ 48 + c.args.report.now.1 = c.from.ensures ∙ c.in_vlan.ensures.value in
    let p : c.from-2.result ≡ c.args.report.now.2 = c.from-2.ensures ∙ c.number.ensures.value in
    λ i. key i * 256 + p i
