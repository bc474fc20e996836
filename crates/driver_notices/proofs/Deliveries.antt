-- A driver is told at once of what isn't deferred.
use Rattle.std.proofs.Common.{◌≡◌, None, Some, refl}
use Rattle.std.specs.Prelude.{if◌then◌else◌}
use Rattle.br_model.specs.declared.change.Change.{Change}
use Rattle.br_model.specs.declared.change.Change.TheVariants.{AddrDel}
use Rattle.br_model.specs.declared.domains.Edition.{Edition}
use Rattle.br_model.specs.declared.domains.Edition.TheVariants.{One, Two}
use Rattle.br_model.specs.Table.Change.{deferred}
use Rattle.switchdev_notify.specs.Notices.{notice, told_in}

pub told-delivered : (edition : Edition) (c : Change) → told_in edition (notice c) ≡ (if deferred edition c then None else Some c)
told-delivered One (AddrDel vid mac) = refl
told-delivered One c = refl
told-delivered Two (AddrDel vid mac) = refl
told-delivered Two c = refl
