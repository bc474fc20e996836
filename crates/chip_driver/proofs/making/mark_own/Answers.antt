use Rattle.std.proofs.Common.{refl, ap, ◌∙◌}
use Rattle.chip_driver.specs.Making.{idle}
use Rattle.chip_driver.proofs.Starting.{marked_one}
use Rattle.chip_driver.proofs.making.mark_own.Goals as goal

pub loop-n-preserved : goal.loop-n-preserved
loop-n-preserved c =
    marked_one c.args.own.now c.loop-n.n c.loop-n.n _ c.args.tables.now c.loop-n.tables c.set_port_numbered.new.self c.loop-n.invariant refl (c.idle.ensures
    ∙ ap idle c.has.ensures.value) c.set_port_numbered.ensures.row c.set_port_numbered.ensures.rest
