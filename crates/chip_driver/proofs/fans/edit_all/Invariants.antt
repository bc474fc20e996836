use Rattle.std.specs.Prelude.{◌&&◌}
use Rattle.chip_driver.specs.Settled.{same_fan}
use Rattle.chip_driver.specs.Renewing.{edited, Renews}
use Rattle.chip_driver.proofs.Seen.{in_blocks}
use Rattle.chip_driver.proofs.fans.edit_all.Given as goal

abbrev pub invariant-loop-i : goal.invariant-loop-i
invariant-loop-i l = Renews (λ w k. in_blocks l.joined l.fn.port l.yielded w && same_fan k l.fn.fan) (λ k. edited l.edit) l.initial.tables l.tables
