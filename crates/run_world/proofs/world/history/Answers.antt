use Rattle.std.proofs.Common.{subst, sym}
use Rattle.br_model.specs.Table.Limits.{AreWithin}
use Rattle.br_model.proofs.Table.Within.{within_of}
use Rattle.run_world.proofs.world.history.Goals as goal

pub returns-clause-within : goal.returns-clause-within
returns-clause-within c =
    let stands = c.stands.ensures.world.history in
    subst AreWithin (sym c.history.ensures) (within_of c.args.plane.now.world.history stands.few stands.fits)
