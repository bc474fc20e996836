use Rattle.chip_driver.proofs.FanRows.{are_sets}
use Rattle.chip_driver.proofs.fans.Sets.of.Goals as goal

pub returns : goal.returns
returns c =
    are_sets c.args.shadow.now c.args.fan _ _ _ _ _ _ _ c.wanted-targets.ensures c.minus-others.ensures c.with.ensures c.and-plain.ensures c.and.ensures c.without.ensures c.minus.ensures
