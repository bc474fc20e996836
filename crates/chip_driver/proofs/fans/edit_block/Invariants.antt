use Rattle.std.specs.Prelude.{◌&&◌}
use Rattle.chip_driver.specs.Settled.{same_fan}
use Rattle.chip_driver.specs.Renewing.{edited, Renews}
use Rattle.chip_driver.proofs.Seen.{in_block}
use Rattle.chip_driver.proofs.fans.edit_block.Given as goal

abbrev pub invariant-loop-n : goal.invariant-loop-n
invariant-loop-n l = Renews (λ w k. in_block l.i l.yielded w && same_fan k l.fn.fan) (λ k. edited l.edit) l.initial.tables l.tables
