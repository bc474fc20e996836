use Rattle.std.proofs.Common.{◌≡◌, ◌≢◌, ℕ, List, None, length, get_or, refl, sym, ap, subst, ◌∙◌, ◌<◌, arith}
use Rattle.std.proofs.lemmas.List.{get_or_read}
use Rattle.open_addressing.specs.Hashed.{key_in}
use Rattle.open_addressing.specs.Zipped.{key_of}
use Rattle.open_addressing.proofs.Hashed.{home-is}
use Rattle.open_addressing.proofs.Indexed.{slot-read, slot-cell, missed, never}
use Rattle.open_addressing.proofs.Sound.{key-within}
use Rattle.open_addressing.proofs.index.Index.find.Goals as goal

pub home-requires : goal.home-requires
home-requires g c = record { some = c.requires.index.some; few = c.requires.index.few }

pub get-slot-requires : goal.get-slot-requires
get-slot-requires g c = omega (arith, c.home.ensures.within, c.requires.index.sized)

pub returns-then-slot-eq-NEVER-clause-absent : goal.returns-then-slot-eq-NEVER-clause-absent
returns-then-slot-eq-NEVER-clause-absent g c _ =
    let s = c.args.self.now in
    let k : ℕ = g.C.Cells.number c.args.key.now in
    let at : ℕ → ℕ = key_in key_of None (g.C.Cells.cells c.args.cells.now) in
    let h = home-is g.C.Cells.hash s.bits k c.hash.result c.home.result c.home.ensures.value c.hash.ensures in
    let read = slot-read g.C.Cells.hash s.bits at s.slots s.rest.items c.requires.index k c.home.result c.get-slot.result h c.get-slot.ensures in
    never g.C.Cells.hash s.bits at s.slots s.rest.items c.requires.index k c.requires.key (read ∙ c.if-slot-eq-NEVER.true)

pub named-requires : goal.named-requires
named-requires g c =
    let s = c.args.self.now in
    let k : ℕ = g.C.Cells.number c.args.key.now in
    let cells = g.C.Cells.cells c.args.cells.now in
    let at : ℕ → ℕ = key_in key_of None cells in
    let h = home-is g.C.Cells.hash s.bits k c.hash.result c.home.result c.home.ensures.value c.hash.ensures in
    let read = slot-read g.C.Cells.hash s.bits at s.slots s.rest.items c.requires.index k c.home.result c.get-slot.result h c.get-slot.ensures in
    record {
      key = c.requires.key;
      within = λ full. key-within cells _ (slot-cell g.C.Cells.hash s.bits at s.slots s.rest.items c.requires.index k c.get-slot.result read full);
    }

pub listed-requires : goal.listed-requires
listed-requires g c =
    let s = c.args.self.now in
    let cells = g.C.Cells.cells c.args.cells.now in
    let at : ℕ → ℕ = key_in key_of None cells in
    record {
      key = c.requires.key;
      within = rw c.as_slice.ensures.value (λ j h. key-within cells (get_or s.rest.items j 0) (c.requires.index.listed j h));
      ascending = rw c.as_slice.ensures.value c.requires.index.ascending;
    }

pub returns-in_err-place-in-None-clause-absent : goal.returns-in_err-place-in-None-clause-absent
returns-in_err-place-in-None-clause-absent g c _ =
    let s = c.args.self.now in
    let k : ℕ = g.C.Cells.number c.args.key.now in
    let at : ℕ → ℕ = key_in key_of None (g.C.Cells.cells c.args.cells.now) in
    let h = home-is g.C.Cells.hash s.bits k c.hash.result c.home.result c.home.ensures.value c.hash.ensures in
    let read = slot-read g.C.Cells.hash s.bits at s.slots s.rest.items c.requires.index k c.home.result c.get-slot.result h c.get-slot.ensures in
    missed g.C.Cells.hash s.bits at s.slots s.rest.items c.requires.index k c.get-slot.result c.requires.key read (c.in-None.ensures.none refl)
    (subst (λ (r : List ℕ). (j : ℕ) → j < length r → at (get_or r j 0) ≢ k) c.as_slice.ensures.value (c.in_err-place-in-None.ensures.none refl))

pub index-requires : goal.index-requires
index-requires g c = omega (arith, c.in_ok-place-in-None.ensures.some.0, ap length c.as_slice.ensures.value, c.args.self.now.rest.ok.0)

pub returns-in_ok-place-in-None-clause-found : goal.returns-in_ok-place-in-None-clause-found
returns-in_ok-place-in-None-clause-found g c =
    let s = c.args.self.now in
    let cells = g.C.Cells.cells c.args.cells.now in
    let at : ℕ → ℕ = key_in key_of None cells in
    let place : ℕ = c.in_ok-place-in-None.place in
    let within : place < length s.rest.items = omega (arith, c.in_ok-place-in-None.ensures.some.0, ap length c.as_slice.ensures.value) in
    let same : c.from.result ≡ c.index.result.now = omega arith in
    let read : c.from.result ≡ get_or s.rest.items place 0 = same ∙ get_or_read s.rest.items place c.index.result.now within c.index.ensures 0 in
    let here = ap at (read ∙ ap (λ (r : List ℕ). get_or r place 0) (sym c.as_slice.ensures.value)) ∙ c.in_ok-place-in-None.ensures.some.1 in
    (key-within cells c.from.result (λ z. c.requires.key (sym here ∙ z)), here)
