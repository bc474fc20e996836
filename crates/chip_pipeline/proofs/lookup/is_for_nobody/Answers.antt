use Rattle.std.proofs.Common.{◌||◌, sym, ap, ◌∙◌}
use Rattle.std.specs.Prelude.{◌==◌}
use Rattle.br_model.specs.Forward.Targets.{pause_address}
use Rattle.chip_pipeline.proofs.lookup.is_for_nobody.Goals as goal

pub returns-then-is_for_bridges : goal.returns-then-is_for_bridges
returns-then-is_for_bridges c d dom t stands = c.if-is_for_bridges.true
    ∙ sym (ap (λ b. b || c.args.head.now.dst == pause_address) (sym (c.is_for_bridges.ensures d dom t stands) ∙ c.if-is_for_bridges.true))

pub returns-else-is_for_bridges : goal.returns-else-is_for_bridges
returns-else-is_for_bridges c d dom t stands =
    ap (λ n. n == pause_address) c.number.ensures.value ∙ sym (ap (λ b. b || c.args.head.now.dst == pause_address) (sym (c.is_for_bridges.ensures d dom t stands) ∙ c.if-is_for_bridges.false))
