use Rattle.chip_driver.proofs.FanRows.{made_row}
use Rattle.chip_driver.proofs.fans.fan_to.Goals as goal

pub returns : goal.returns
returns c =
    made_row c.args.shadow.now c.args.members c.args.targets _ _ _ _ _ _ _ _ _ _ c.with.ensures c.and-eligible.ensures c.without.ensures c.minus-free.ensures c.minus-elsewhere.ensures
    c.and.ensures c.and-2.ensures c.is_empty.ensures c.and-3.ensures c.is_empty-2.ensures
