use Rattle.std.proofs.Common.{◌&&◌, ap, ◌∙◌}
use Rattle.std.specs.Prelude.{◌==◌}
use Rattle.br_model.specs.Forward.Admission.{has_valid_source, is_up}
use Rattle.br_model.specs.Forward.Targets.{bridge_group_address}
use Rattle.chip_tables.specs.declared.rows.PortRow.{PortRow}
use Rattle.chip_pipeline.proofs.Truth.{both, neither}
use Rattle.chip_pipeline.proofs.traps.is_for_tree.Goals as goal

pub returns-then-is_for_bridges : goal.returns-then-is_for_bridges
returns-then-is_for_bridges c d dom t stands =
    c.speaks.ensures
    ∙ ap (λ (r : PortRow). r.up && has_valid_source c.args.head.now) (c.requires ∙ stands.ports c.args.port c.number-number.ensures.below)
    ∙ both (c.args.head.now.dst == bridge_group_address) t.stp (is_up t c.args.port && has_valid_source c.args.head.now) c.is_for_bridges.result
    (c.is_for_bridges.ensures d dom t stands) c.if-is_for_bridges.true

pub returns-else-is_for_bridges : goal.returns-else-is_for_bridges
returns-else-is_for_bridges c d dom t stands =
    neither (c.args.head.now.dst == bridge_group_address) t.stp (is_up t c.args.port && has_valid_source c.args.head.now) c.is_for_bridges.result
    (c.is_for_bridges.ensures d dom t stands) c.if-is_for_bridges.false
