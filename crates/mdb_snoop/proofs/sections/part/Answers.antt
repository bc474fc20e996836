use Rattle.std.proofs.Common.{◌≡◌, false, true, ◌∙◌, sym, ap, subst, is_some}
use Rattle.std.specs.Ordering.{nat_cmp}
use Rattle.br_model.specs.Data.Maps.{get, without}
use Rattle.mdb_snoop.specs.Places.{IsSound, flat, has_some}
use Rattle.mdb_snoop.proofs.Flat.{get-at, without-at, get-gap, without-gap}
use Rattle.mdb_snoop.proofs.Search.{written, left_out}
use Rattle.mdb_snoop.proofs.Sound.{fit-at, fit-without, sound-with, sound-without}
use Rattle.mdb_snoop.proofs.sections.part.Goals as goal

pub returns-then-has_other-clause-there : goal.returns-then-has_other-clause-there
returns-then-has_other-clause-there g c =
    let at = rw c.deref.ensures.value at c.in-Ok.ensures.found in
    c.has-there.ensures ∙ ap (λ s. is_some (get nat_cmp s.1 c.args.port)) (c.index.ensures ∙ at.reads _) ∙ ap is_some (sym (get-at _ _ _ c.args.port at))

pub returns-then-has_other-clause-members : goal.returns-then-has_other-clause-members
returns-then-has_other-clause-members g c =
    let at = rw c.deref.ensures.value at c.in-Ok.ensures.found in
    ap flat (written _ _ _ _ at (λ ms. without nat_cmp ms c.args.port) c.part_at.ensures.items) ∙ without-at _ _ _ c.args.port at

pub returns-then-has_other-clause-sound : goal.returns-then-has_other-clause-sound
returns-then-has_other-clause-sound g c =
    let at = rw c.deref.ensures.value at c.in-Ok.ensures.found in
    let some : has_some (without nat_cmp at.members c.args.port) ≡ true = sym (c.has_other.ensures ∙ ap (λ s. has_some (without nat_cmp s.1 c.args.port)) (c.index-in-Ok.ensures ∙ at.reads _))
    ∙ c.if-has_other.true in
    subst IsSound (sym (written _ _ _ _ at (λ ms. without nat_cmp ms c.args.port) c.part_at.ensures.items))
    (sound-with _ _ _ c.requires.sound at _ (fit-without at.members c.args.port (fit-at _ _ _ c.requires.sound at) some))

pub returns-else-has_other-clause-there : goal.returns-else-has_other-clause-there
returns-else-has_other-clause-there g c =
    let at = rw c.deref.ensures.value at c.in-Ok.ensures.found in
    c.has-there.ensures ∙ ap (λ s. is_some (get nat_cmp s.1 c.args.port)) (c.index.ensures ∙ at.reads _) ∙ ap is_some (sym (get-at _ _ _ c.args.port at))

pub returns-else-has_other-clause-members : goal.returns-else-has_other-clause-members
returns-else-has_other-clause-members g c =
    let at = rw c.deref.ensures.value at c.in-Ok.ensures.found in
    let last : has_some (without nat_cmp at.members c.args.port) ≡ false = sym (c.has_other.ensures ∙ ap (λ s. has_some (without nat_cmp s.1 c.args.port)) (c.index-in-Ok.ensures ∙ at.reads _))
    ∙ c.if-has_other.false in
    left_out _ _ _ _ c.args.port at last c.remove.ensures.by_index.2

pub returns-else-has_other-clause-sound : goal.returns-else-has_other-clause-sound
returns-else-has_other-clause-sound g c =
    let at = rw c.deref.ensures.value at c.in-Ok.ensures.found in
    subst IsSound (sym c.remove.ensures.by_index.2) (sound-without _ _ _ c.requires.sound at)

pub returns-in-Err-clause-there : goal.returns-in-Err-clause-there
returns-in-Err-clause-there g c = ap is_some (sym (get-gap _ _ _ c.args.port (rw c.deref.ensures.value at c.in-Err.ensures.gap)))

pub returns-in-Err-clause-members : goal.returns-in-Err-clause-members
returns-in-Err-clause-members g c = without-gap _ _ _ c.args.port (rw c.deref.ensures.value at c.in-Err.ensures.gap)
