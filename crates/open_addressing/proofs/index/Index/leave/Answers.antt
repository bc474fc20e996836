use Rattle.std.proofs.Common.{◌≡◌, ◌≢◌, ℕ, List, None, length, get_or, set, refl, sym, ap, subst, ◌∙◌, ◌+◌, ◌<◌, arith}
use Rattle.std.proofs.lemmas.List.Edits.{length-remove}
use Rattle.open_addressing.specs.Hashed.{key_in}
use Rattle.open_addressing.specs.Indexed.{left, is_taken, named_by, IsIndexed}
use Rattle.open_addressing.specs.Zipped.{key_of}
use Rattle.open_addressing.proofs.Hashed.{home-is}
use Rattle.open_addressing.proofs.Indexed.{slot-read, leaves_slot, leaves_list, stands, taken, not_left, less_slots}
use Rattle.open_addressing.proofs.Sound.{key-within, key-set, key-kept}
use Rattle.open_addressing.proofs.index.Index.leave.Goals as goal

pub home-slot-requires : goal.home-slot-requires
home-slot-requires g c = record { some = c.requires.index.some; few = c.requires.index.few }

pub get-requires : goal.get-requires
get-requires g c = omega (arith, c.home-slot.ensures.within, c.requires.index.sized)

pub set-requires : goal.set-requires
set-requires g c = omega (arith, c.home-slot.ensures.within, c.requires.index.sized)

pub listed-requires : goal.listed-requires
listed-requires g c =
    let cells = g.C.Cells.cells c.args.cells.now in
    let rest = c.args.self.now.rest.items in
    record {
      key = c.requires.key;
      within = rw c.as_slice.ensures.value (λ j h. key-within cells (get_or rest j 0) (c.requires.index.listed j h));
      ascending = rw c.as_slice.ensures.value c.requires.index.ascending;
    }

pub returns-then-from-cell-clause-index : goal.returns-then-from-cell-clause-index
returns-then-from-cell-clause-index g c =
    let s = c.args.self.now in
    let k : ℕ = g.C.Cells.number c.args.key.now in
    let p : ℕ = c.args.cell in
    let cells = g.C.Cells.cells c.args.cells.now in
    let at : ℕ → ℕ = key_in key_of None cells in
    let h = home-is g.C.Cells.hash s.bits k c.hash.result c.home-slot.result c.home-slot.ensures.value c.hash.ensures in
    let read = slot-read g.C.Cells.hash s.bits at s.slots s.rest.items c.requires.index k c.home-slot.result c.get.result h c.get.ensures in
    subst (λ (l : List ℕ). IsIndexed g.C.Cells.hash s.bits (key_in key_of None (set cells p None)) l s.rest.items) (sym (c.set.ensures ∙ ap (λ n. set s.slots n left) h))
    (leaves_slot g.C.Cells.hash s.bits at s.slots s.rest.items c.requires.index (key_in key_of None (set cells p None)) k p (λ i ne. key-kept cells p None i ne)
    (λ z. c.requires.key (sym c.requires.here ∙ z)) c.requires.here (key-set cells p None c.requires.within) (read ∙ (let e : c.get.result ≡ p + 1 = omega arith in e)))

pub returns-then-from-cell-clause-named : goal.returns-then-from-cell-clause-named
returns-then-from-cell-clause-named g c =
    let s = c.args.self.now in
    let k : ℕ = g.C.Cells.number c.args.key.now in
    let p : ℕ = c.args.cell in
    let at : ℕ → ℕ = key_in key_of None (g.C.Cells.cells c.args.cells.now) in
    let fits = c.requires.index.small p (λ z. c.requires.key (sym c.requires.here ∙ z)) in
    let h = home-is g.C.Cells.hash s.bits k c.hash.result c.home-slot.result c.home-slot.ensures.value c.hash.ensures in
    let read = slot-read g.C.Cells.hash s.bits at s.slots s.rest.items c.requires.index k c.home-slot.result c.get.result h c.get.ensures in
    let here = ap (λ n. get_or s.slots n 0) h ∙ read ∙ (let e : c.get.result ≡ p + 1 = omega arith in e) in
    ap (λ (l : List ℕ). named_by l s.rest.items + 1) c.set.ensures
    ∙ less_slots s.slots s.rest.items c.home-slot.result left (omega (arith, c.home-slot.ensures.within, c.requires.index.sized))
    (ap is_taken here ∙ taken (p + 1) (λ z. absurd (omega arith)) (λ z. absurd (omega arith))) not_left

pub unreachable-requires : goal.unreachable-requires
unreachable-requires g c =
    let s = c.args.self.now in
    let k : ℕ = g.C.Cells.number c.args.key.now in
    let p : ℕ = c.args.cell in
    let at : ℕ → ℕ = key_in key_of None (g.C.Cells.cells c.args.cells.now) in
    let h = home-is g.C.Cells.hash s.bits k c.hash.result c.home-slot.result c.home-slot.ensures.value c.hash.ensures in
    let read = slot-read g.C.Cells.hash s.bits at s.slots s.rest.items c.requires.index k c.home-slot.result c.get.result h c.get.ensures in
    stands g.C.Cells.hash s.bits at s.slots s.rest.items c.requires.index k p c.requires.key c.requires.here
    (λ e. (let other : c.get.result ≢ p + 1 = λ z. absurd (omega arith) in other (sym read ∙ e)))
    (subst (λ (r : List ℕ). (j : ℕ) → j < length r → at (get_or r j 0) ≢ k) c.as_slice.ensures.value (c.in-None.ensures.none refl))

pub returns-in-Some-clause-index : goal.returns-in-Some-clause-index
returns-in-Some-clause-index g c =
    let s = c.args.self.now in
    let k : ℕ = g.C.Cells.number c.args.key.now in
    let p : ℕ = c.args.cell in
    let cells = g.C.Cells.cells c.args.cells.now in
    let at : ℕ → ℕ = key_in key_of None cells in
    let h = home-is g.C.Cells.hash s.bits k c.hash.result c.home-slot.result c.home-slot.ensures.value c.hash.ensures in
    let read = slot-read g.C.Cells.hash s.bits at s.slots s.rest.items c.requires.index k c.home-slot.result c.get.result h c.get.ensures in
    let at_place = subst (λ (r : List ℕ). at (get_or r c.in-Some.place 0) ≡ k) c.as_slice.ensures.value c.in-Some.ensures.some.1 in
    subst (λ (r : List ℕ). IsIndexed g.C.Cells.hash s.bits (key_in key_of None (set cells p None)) s.slots r) (sym c.remove.ensures.items)
    (leaves_list g.C.Cells.hash s.bits at s.slots s.rest.items c.requires.index (key_in key_of None (set cells p None)) k p (λ i ne. key-kept cells p None i ne)
    (λ z. c.requires.key (sym c.requires.here ∙ z)) c.requires.here (key-set cells p None c.requires.within)
    c.in-Some.place (λ e. (let other : c.get.result ≢ p + 1 = λ z. absurd (omega arith) in other (sym read ∙ e)))
    (omega (arith, c.in-Some.ensures.some.0, ap length c.as_slice.ensures.value)) at_place)

pub returns-in-Some-clause-named : goal.returns-in-Some-clause-named
returns-in-Some-clause-named g c =
    let rest = c.args.self.now.rest.items in
    let short = length-remove rest c.in-Some.place (omega (arith, c.in-Some.ensures.some.0, ap length c.as_slice.ensures.value)) in
    let now = ap length c.remove.ensures.items in
    omega arith
