use Rattle.std.proofs.Common.{ℕ, List, None, length, get_or, set, sym, ap, subst, ◌∙◌, ◌+◌, arith}
use Rattle.std.proofs.lemmas.List.Edits.{length-insert}
use Rattle.open_addressing.specs.Hashed.{key_in}
use Rattle.open_addressing.specs.Indexed.{is_taken, named_by, Halves, IsIndexed}
use Rattle.open_addressing.specs.Zipped.{key_of}
use Rattle.open_addressing.proofs.Hashed.{home-is}
use Rattle.open_addressing.proofs.Indexed.{slot-read, enters_slot, enters_list, taken, more_slots}
use Rattle.open_addressing.proofs.Sound.{key-within, key-set, key-kept}
use Rattle.open_addressing.proofs.index.Index.enter.Goals as goal

pub home-slot-requires : goal.home-slot-requires
home-slot-requires g c = record { some = c.requires.index.some; few = c.requires.index.few }

pub get-requires : goal.get-requires
get-requires g c = omega (arith, c.home-slot.ensures.within, c.requires.index.sized)

pub rank-place-requires : goal.rank-place-requires
rank-place-requires g c =
    let cells = g.C.Cells.cells c.args.cells.now in
    let rest = c.args.self.now.rest.items in
    record {
      key = c.requires.key;
      within = rw c.as_slice.ensures.value (λ j h. key-within cells (get_or rest j 0) (c.requires.index.listed j h));
      ascending = rw c.as_slice.ensures.value c.requires.index.ascending;
    }

pub insert_at-requires-clause-within : goal.insert_at-requires-clause-within
insert_at-requires-clause-within g c = omega (arith, c.rank-place.ensures.within, ap length c.as_slice.ensures.value)

pub set-requires : goal.set-requires
set-requires g c = omega (arith, c.home-slot.ensures.within, c.requires.index.sized)

pub returns-then-is_taken-clause-index : goal.returns-then-is_taken-clause-index
returns-then-is_taken-clause-index g c v is =
    let s = c.args.self.now in
    let k : ℕ = g.C.Cells.number c.args.key.now in
    let p : ℕ = c.args.cell in
    let cells = g.C.Cells.cells c.args.cells.now in
    let at : ℕ → ℕ = key_in key_of None cells in
    let h = home-is g.C.Cells.hash s.bits k c.hash.result c.home-slot.result c.home-slot.ensures.value c.hash.ensures in
    let read = slot-read g.C.Cells.hash s.bits at s.slots s.rest.items c.requires.index k c.home-slot.result c.get.result h c.get.ensures in
    let halves = subst (λ (r : List ℕ). Halves at r k c.rank-place.result c.rank-place.result) c.as_slice.ensures.value c.rank-place.ensures in
    subst (λ (r : List ℕ). IsIndexed g.C.Cells.hash s.bits (key_in key_of None (set cells p v)) s.slots r) (sym c.insert_at.ensures.items)
    (enters_list g.C.Cells.hash s.bits at s.slots s.rest.items c.requires.index (key_in key_of None (set cells p v)) k p (λ i ne. key-kept cells p v i ne)
    c.requires.key c.requires.empty c.requires.small (key-set cells p v c.requires.within ∙ is)
    c.rank-place.result (ap is_taken read ∙ sym c.is_taken.ensures ∙ c.if-is_taken.true) halves.within halves.below halves.from c.requires.absent)

pub returns-then-is_taken-clause-named : goal.returns-then-is_taken-clause-named
returns-then-is_taken-clause-named g c =
    let rest = c.args.self.now.rest.items in
    let long = length-insert rest c.rank-place.result c.args.cell (omega (arith, c.rank-place.ensures.within, ap length c.as_slice.ensures.value)) in
    let now = ap length c.insert_at.ensures.items in
    omega arith

pub returns-else-is_taken-clause-index : goal.returns-else-is_taken-clause-index
returns-else-is_taken-clause-index g c v is =
    let s = c.args.self.now in
    let k : ℕ = g.C.Cells.number c.args.key.now in
    let p : ℕ = c.args.cell in
    let cells = g.C.Cells.cells c.args.cells.now in
    let at : ℕ → ℕ = key_in key_of None cells in
    let h = home-is g.C.Cells.hash s.bits k c.hash.result c.home-slot.result c.home-slot.ensures.value c.hash.ensures in
    let read = slot-read g.C.Cells.hash s.bits at s.slots s.rest.items c.requires.index k c.home-slot.result c.get.result h c.get.ensures in
    subst (λ (l : List ℕ). IsIndexed g.C.Cells.hash s.bits (key_in key_of None (set cells p v)) l s.rest.items) (sym (c.set.ensures ∙ ap (λ n. set s.slots n (p + 1)) h))
    (enters_slot g.C.Cells.hash s.bits at s.slots s.rest.items c.requires.index (key_in key_of None (set cells p v)) k p (λ i ne. key-kept cells p v i ne)
    c.requires.key c.requires.empty c.requires.small (key-set cells p v c.requires.within ∙ is) (ap is_taken read ∙ sym c.is_taken.ensures ∙ c.if-is_taken.false))

pub returns-else-is_taken-clause-named : goal.returns-else-is_taken-clause-named
returns-else-is_taken-clause-named g c =
    let s = c.args.self.now in
    let k : ℕ = g.C.Cells.number c.args.key.now in
    let at : ℕ → ℕ = key_in key_of None (g.C.Cells.cells c.args.cells.now) in
    let h = home-is g.C.Cells.hash s.bits k c.hash.result c.home-slot.result c.home-slot.ensures.value c.hash.ensures in
    let read = slot-read g.C.Cells.hash s.bits at s.slots s.rest.items c.requires.index k c.home-slot.result c.get.result h c.get.ensures in
    let here = ap (λ n. get_or s.slots n 0) h ∙ read in
    ap (λ (l : List ℕ). named_by l s.rest.items) c.set.ensures
    ∙ more_slots s.slots s.rest.items c.home-slot.result (c.args.cell + 1) (omega (arith, c.home-slot.ensures.within, c.requires.index.sized))
    (ap is_taken here ∙ sym c.is_taken.ensures ∙ c.if-is_taken.false) (taken (c.args.cell + 1) (λ z. absurd (omega arith)) (λ z. absurd (omega (arith, c.requires.small))))
