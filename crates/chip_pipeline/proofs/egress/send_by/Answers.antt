use Rattle.std.proofs.Common.{◌≡◌, ◌&&◌, cond, sym, ap, ◌∙◌}
use Rattle.br_model.specs.Forward.Targets.{has_flag, isolated}
use Rattle.port_sets.specs.Numbers.{has_number}
use Rattle.chip_tables.specs.declared.rows.PortRow.{PortRow}
use Rattle.chip_tables.specs.Rows.{port_at, vlan_at}
use Rattle.chip_tables.specs.Stands.{ports_where}
use Rattle.chip_tables.specs.Flags.{row_has_flag}
use Rattle.chip_pipeline.specs.PortRows.{row_takes}
use Rattle.chip_pipeline.proofs.Leaving.{many-out}
use Rattle.chip_pipeline.proofs.Reading.{flag-is}
use Rattle.chip_pipeline.proofs.egress.send_by.Goals as goal
use Rattle.chip_pipeline.proofs.egress.send_by.Goals.{then-alone, else-alone}

pub returns : goal.returns
returns c d dom t head msg at leads stays =
    let alone : c.is_isolated-alone.result ≡ has_flag t c.args.port isolated =
    c.is_isolated-alone.ensures ∙ ap (λ (r : PortRow). row_has_flag r isolated) c.requires.row ∙ flag-is d dom t c.args.tables.now at.stands c.args.port isolated c.number-number.ensures.below in
    let bit : c.if-alone.elsewhere ≡ cond c.is_isolated-alone.result c.args.fan.now.isolated c.args.fan.now.plain =
    elim c.if-alone.branch [
      | then-alone w ↦ w.elsewhere-is ∙ sym (ap (λ b. cond b c.args.fan.now.isolated c.args.fan.now.plain) w.if-alone.true)
      | else-alone w ↦ w.elsewhere-is ∙ sym (ap (λ b. cond b c.args.fan.now.isolated c.args.fan.now.plain) w.if-alone.false)
    ] in
    many-out d dom c.args.tables.now t c.args.port c.args.vid head msg c.args.fan.now at c.number-number.ensures.below c.requires.range leads
    c.reached-ports.result c.class_by.result c.if-alone.elsewhere c.is_empty.result stays
    (c.reached-ports.ensures ∙ ap (λ a. ports_where (λ q. has_number c.args.fan.now.ports q && row_takes c.args.port a (vlan_at c.args.tables.now c.args.vid) q (port_at c.args.tables.now q))) alone)
    (bit ∙ ap (λ b. cond b c.args.fan.now.isolated c.args.fan.now.plain) alone) c.is_empty.ensures c.class_by.ensures
