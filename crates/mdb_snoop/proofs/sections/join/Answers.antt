use Rattle.std.proofs.Common.{◌∷◌, [], ◌∙◌, sym, ap, refl, arith, subst}
use Rattle.std.specs.Ordering.{nat_cmp}
use Rattle.mdb_snoop.specs.Database.{joined_until}
use Rattle.mdb_snoop.specs.Places.{IsSound, flat}
use Rattle.mdb_snoop.proofs.Flat.{with_before, join-at, join-gap}
use Rattle.mdb_snoop.proofs.Search.{absent, written}
use Rattle.mdb_snoop.proofs.Sound.{fit-at, fit-joined, sound-with, sound-before}
use Rattle.mdb_snoop.proofs.sections.join.Goals as goal

pub insert_at-requires-clause-room : goal.insert_at-requires-clause-room
insert_at-requires-clause-room g c =
    let room = c.requires.room (absent _ _ _ (rw c.deref.ensures.value at c.in-Err.ensures.gap)) in
    omega (arith, room, c.requires.capacity)

pub returns-in-Ok-clause-members : goal.returns-in-Ok-clause-members
returns-in-Ok-clause-members g c =
    let at = rw c.deref.ensures.value at c.in-Ok.ensures.found in
    ap flat (written _ _ _ _ at (λ ms. joined_until nat_cmp ms c.args.port c.args.end) c.join_at.ensures.items) ∙ join-at _ _ _ c.args.port at c.args.end

pub returns-in-Ok-clause-sound : goal.returns-in-Ok-clause-sound
returns-in-Ok-clause-sound g c =
    let at = rw c.deref.ensures.value at c.in-Ok.ensures.found in
    subst IsSound (sym (written _ _ _ _ at (λ ms. joined_until nat_cmp ms c.args.port c.args.end) c.join_at.ensures.items))
    (sound-with _ _ _ c.requires.sound at _ (fit-joined at.members c.args.port c.args.end (fit-at _ _ _ c.requires.sound at)))

pub returns-in-Err-clause-members : goal.returns-in-Err-clause-members
returns-in-Err-clause-members g c =
    let gap = rw c.deref.ensures.value at c.in-Err.ensures.gap in
    ap flat (c.insert_at.ensures.items ∙ ap (λ ms. with_before c.args.sections.now.items c.args.key c.in-Err.place ms) c.of.ensures) ∙ join-gap _ _ _ c.args.port gap c.args.end

pub returns-in-Err-clause-sound : goal.returns-in-Err-clause-sound
returns-in-Err-clause-sound g c =
    let gap = rw c.deref.ensures.value at c.in-Err.ensures.gap in
    subst IsSound (sym (c.insert_at.ensures.items ∙ ap (λ ms. with_before c.args.sections.now.items c.args.key c.in-Err.place ms) c.of.ensures))
    (sound-before _ _ _ c.requires.sound gap ((c.args.port, c.args.end) ∷ []) refl (c.requires.room (absent _ _ _ gap)))
