use Rattle.chip_driver.proofs.FanRows.{put_together}
use Rattle.chip_driver.proofs.fans.Sets.row.Goals as goal

pub returns : goal.returns
returns c = put_together c.args.self.now c.args.members _ _ _ _ _ c.and.ensures c.and-2.ensures c.is_empty.ensures c.and-3.ensures c.is_empty-2.ensures
