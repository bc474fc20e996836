use Rattle.std.proofs.Common.{◌∙◌, sym, ap, subst}
use Rattle.std.specs.Ordering.{nat_cmp}
use Rattle.mdb_snoop.specs.Database.{ending_soon}
use Rattle.mdb_snoop.specs.Places.{IsSound, flat}
use Rattle.mdb_snoop.proofs.Flat.{soon-at, soon-gap}
use Rattle.mdb_snoop.proofs.Search.{written}
use Rattle.mdb_snoop.proofs.Sound.{fit-at, fit-soon, sound-with}
use Rattle.mdb_snoop.proofs.sections.leave_soon.Goals as goal

pub returns-in-Ok-clause-members : goal.returns-in-Ok-clause-members
returns-in-Ok-clause-members c =
    let at = rw c.deref.ensures.value at c.in-Ok.ensures.found in
    ap flat (written _ _ _ _ at (λ ms. ending_soon nat_cmp ms c.args.port c.args.end) c.leave_soon_at.ensures.items) ∙ soon-at _ _ _ c.args.port at c.args.end

pub returns-in-Ok-clause-sound : goal.returns-in-Ok-clause-sound
returns-in-Ok-clause-sound c =
    let at = rw c.deref.ensures.value at c.in-Ok.ensures.found in
    subst IsSound (sym (written _ _ _ _ at (λ ms. ending_soon nat_cmp ms c.args.port c.args.end) c.leave_soon_at.ensures.items))
    (sound-with _ _ _ c.requires.sound at _ (fit-soon at.members c.args.port c.args.end (fit-at _ _ _ c.requires.sound at)))

pub returns-in-Err-clause-members : goal.returns-in-Err-clause-members
returns-in-Err-clause-members c = soon-gap _ _ _ c.args.port (rw c.deref.ensures.value at c.in-Err.ensures.gap) c.args.end
