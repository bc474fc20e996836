use Rattle.std.proofs.Common.{◌&&◌, sym, ◌∙◌}
use Rattle.std.specs.Prelude.{◌==◌}
use Rattle.br_model.specs.Forward.Targets.{bridge_group_address, pause_address, is_for_the_host}
use Rattle.chip_pipeline.proofs.Truth.{either, or-last}
use Rattle.chip_pipeline.proofs.traps.is_reserved.Goals as goal

pub returns-then-is_for_bridges : goal.returns-then-is_for_bridges
returns-then-is_for_bridges c d dom t stands =
    c.if-is_for_bridges.true
    ∙ either (c.args.head.now.dst == pause_address) (is_for_the_host c.args.head.now.dst) ((c.args.head.now.dst == bridge_group_address) && t.stp) (sym (c.is_for_bridges.ensures d dom t stands)
    ∙ c.if-is_for_bridges.true)

pub returns-else-is_for_bridges : goal.returns-else-is_for_bridges
returns-else-is_for_bridges c d dom t stands =
    c.is_always_reserved.ensures
    ∙ or-last (c.args.head.now.dst == pause_address) (is_for_the_host c.args.head.now.dst) ((c.args.head.now.dst == bridge_group_address) && t.stp) (sym (c.is_for_bridges.ensures d dom t stands)
    ∙ c.if-is_for_bridges.false)
