-- A change that fits the software tables is one that the chip's driver takes, and they stay alike.
use Rattle.std.proofs.Common.{◌≡◌, false, cond, None, Some, ap}
use Rattle.std.specs.Prelude.{IsTrue}
use Rattle.br_model.specs.declared.change.Change.{Change}
use Rattle.br_model.specs.declared.change.Change.TheVariants as changes
use Rattle.br_model.specs.declared.domains.Edition.{Edition}
use Rattle.br_model.specs.Table.Change.{deferred}
use Rattle.br_model.specs.Table.Domains.{Domains}
use Rattle.br_model.specs.Table.Limits.{fits}
use Rattle.br_model.specs.Table.Table.{Table, apply}
use Rattle.br_model.proofs.Table.AddressRoom.{HasRoom, room-apply}
use Rattle.chip_driver.specs.Drives.{Driven, Drives, IsTaken}
use Rattle.chip_driver.proofs.Taking.{taken}
use Rattle.switchdev_notify.specs.Notices.{notice, told_in}
use Rattle.table_tests.specs.Alike.{AreAlike}

room : (domains : Domains) (driver : Driven) (t : Table) (c : Change) → AreAlike domains driver t → IsTrue (fits t c) → HasRoom (apply t c).addr
room domains driver t c alike fit = room-apply t c (record { ascend = alike.ascend; few = alike.few }) fit

pub takes : (domains : Domains) (driver : Driven) (t : Table) (c : Change) → AreAlike domains driver t → IsTrue (fits t c) → IsTaken driver c
takes domains driver t c alike fit = taken domains driver t c alike.stands (λ now. fit) (room domains driver t c alike fit).few

pub stay : (domains : Domains) (old new : Driven) (t : Table) (c : Change) → AreAlike domains old t → IsTrue (fits t c) → Drives domains new (apply t c) → AreAlike domains new (apply t c)
stay domains old new t c alike fit stands =
    let after : HasRoom (apply t c).addr = room domains old t c alike fit in
    record { stands = stands; ascend = after.ascend; few = after.few }

-- a change that isn't deferred is told
pub told-now : (e : Edition) (c : Change) → deferred e c ≡ false → told_in e (notice c) ≡ Some c
told-now e (changes.AddrPut a b c d) now = absurd (cc)
told-now e (changes.AddrDel a b) now = absurd (cc)
told-now e c now = ap (λ x. cond x None (Some c)) now
