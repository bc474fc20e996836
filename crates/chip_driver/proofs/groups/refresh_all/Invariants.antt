use Rattle.std.specs.Prelude.{◌&&◌}
use Rattle.chip_driver.specs.GroupRows.{is_among, is_member}
use Rattle.chip_driver.proofs.GroupLoop.{SoFar}
use Rattle.chip_driver.proofs.groups.refresh_all.Given as goal

abbrev pub invariant-loop-i : goal.invariant-loop-i
invariant-loop-i l = SoFar (λ k. is_among l.vid k.0 && is_member l.groups l.fn.p k) l.shadow l.groups l.i l.initial.tables l.tables
