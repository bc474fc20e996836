use Rattle.std.proofs.Common.{refl}
use Rattle.std.specs.Prelude.{◌==◌}
use Rattle.lemmas.proofs.Tests.{and_last}
use Rattle.chip_driver.specs.Settled.{same_fan}
use Rattle.chip_driver.specs.Renewing.{edited, follows}
use Rattle.chip_driver.proofs.Renewing.{renewed_alike, renewed_none, renewed_one}
use Rattle.chip_driver.proofs.fans.refresh_row.Goals as goal

pub returns-then-touched : goal.returns-then-touched
returns-then-touched c =
    let v = c.args.v in
    let edit = edited c.edit_of-edit.result in
    renewed_alike (λ w. w == v) c.args.fan c.args.touched edit (follows c.args.shadow.now c.args.port c.args.member) c.args.tables.now _
    c.if-touched.true c.edit_of-edit.ensures
    (renewed_one (λ w. w == v) v c.args.fan edit c.args.tables.now _ c.edit_fan.ensures (λ w in_range. refl))

pub returns-else-touched : goal.returns-else-touched
returns-else-touched c =
    renewed_none _ (follows c.args.shadow.now c.args.port c.args.member) c.args.tables.now
    (λ w in_range k. and_last (w == c.args.v) (same_fan k c.args.fan) c.args.touched c.if-touched.false)
