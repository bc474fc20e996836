use Rattle.std.proofs.Common.{◌≢◌, ℕ, List, Option, None, ap, sym, subst, ◌∙◌, arith}
use Rattle.std.specs.Ordering.{nat_cmp}
use Rattle.std.specs.FinMap.Entries.{put}
use Rattle.open_addressing.specs.Hashed.{key_in}
use Rattle.open_addressing.specs.Finite.{Table}
use Rattle.open_addressing.specs.Zipped.{key_of}
use Rattle.open_addressing.proofs.Sound.{sound-new}
use Rattle.open_addressing.proofs.Entries.{entries-put}
use Rattle.open_addressing.proofs.Roomy.{roomy}
use Rattle.open_addressing.proofs.map.Map.add.Goals as goal

pub take-i-requires : goal.take-i-requires
take-i-requires g c = omega (arith, c.self.invariant.0.spare.within, c.self.invariant.0.spare.small)

pub enter-requires : goal.enter-requires
enter-requires g c =
    let m = c.self.inside in
    let cells = g.C.Cells.cells m.cells in
    let k : ℕ = g.C.Cells.number c.args.key.now in
    let sound = c.self.invariant.0 in
    let none = subst (λ (cs : List (Option (ℕ × g.row.V.Denot))). (i : ℕ) → key_in key_of None cs i ≢ k) (sym (ap (λ (t : Table g.row.V.Denot). t.cells) c.self.view_is)) c.requires.none in
    let room = roomy m.used m.room cells sound.cells c.args.self.now c.self.view_is k c.requires.key (λ i _. none i) (λ _. c.requires.room) in
    let uses = c.take-i.ensures.uses (key_in key_of None cells) m.used m.room sound.spare room in
    record {
      index = sound.index;
      key = c.requires.key;
      within = omega (arith, uses.within, sound.cells.sized);
      small = omega (arith, uses.within, sound.spare.small);
      empty = uses.empty;
      absent = none;
      room = omega (arith, sound.named, room, c.self.invariant.1);
    }

pub put-requires-clause-within : goal.put-requires-clause-within
put-requires-clause-within g c =
    let m = c.self.inside in
    let cells = g.C.Cells.cells m.cells in
    let k : ℕ = g.C.Cells.number c.args.key.now in
    let sound = c.self.invariant.0 in
    let none = subst (λ (cs : List (Option (ℕ × g.row.V.Denot))). (i : ℕ) → key_in key_of None cs i ≢ k) (sym (ap (λ (t : Table g.row.V.Denot). t.cells) c.self.view_is)) c.requires.none in
    let room = roomy m.used m.room cells sound.cells c.args.self.now c.self.view_is k c.requires.key (λ i _. none i) (λ _. c.requires.room) in
    let uses = c.take-i.ensures.uses (key_in key_of None cells) m.used m.room sound.spare room in
    omega (arith, uses.within, sound.cells.sized)

pub invariant_of-self : goal.invariant_of-self
invariant_of-self g c =
    let m = c.self.inside in
    let cells = g.C.Cells.cells m.cells in
    let k : ℕ = g.C.Cells.number c.args.key.now in
    let sound = c.self.invariant.0 in
    let none = subst (λ (cs : List (Option (ℕ × g.row.V.Denot))). (i : ℕ) → key_in key_of None cs i ≢ k) (sym (ap (λ (t : Table g.row.V.Denot). t.cells) c.self.view_is)) c.requires.none in
    let room = roomy m.used m.room cells sound.cells c.args.self.now c.self.view_is k c.requires.key (λ i _. none i) (λ _. c.requires.room) in
    let uses = c.take-i.ensures.uses (key_in key_of None cells) m.used m.room sound.spare room in
    let r = sound-new g.C.Cells.hash m.index.bits m.index.slots m.index.rest.items m.spare.fresh m.spare.free.items m.used m.room cells sound
    c.take-i.result k c.args.value
    (g.C.Cells.cells c.put.new.self) c.enter.new.self.bits c.enter.new.self.slots c.enter.new.self.rest.items c.take-i.new.self.fresh c.take-i.new.self.free.items
    uses c.requires.key none room c.put.ensures c.enter.ensures.index c.enter.ensures.named in
    (r.0, omega (arith, c.self.invariant.1, c.enter.ensures.room), omega (arith, c.self.invariant.2, c.take-i.ensures.room))

pub returns : goal.returns
returns g c =
    let m = c.self.inside in
    let cells = g.C.Cells.cells m.cells in
    let k : ℕ = g.C.Cells.number c.args.key.now in
    let new = g.C.Cells.cells c.put.new.self in
    let sound = c.self.invariant.0 in
    let none = subst (λ (cs : List (Option (ℕ × g.row.V.Denot))). (i : ℕ) → key_in key_of None cs i ≢ k) (sym (ap (λ (t : Table g.row.V.Denot). t.cells) c.self.view_is)) c.requires.none in
    let room = roomy m.used m.room cells sound.cells c.args.self.now c.self.view_is k c.requires.key (λ i _. none i) (λ _. c.requires.room) in
    let uses = c.take-i.ensures.uses (key_in key_of None cells) m.used m.room sound.spare room in
    let r = sound-new g.C.Cells.hash m.index.bits m.index.slots m.index.rest.items m.spare.fresh m.spare.free.items m.used m.room cells sound
    c.take-i.result k c.args.value new c.enter.new.self.bits c.enter.new.self.slots c.enter.new.self.rest.items c.take-i.new.self.fresh c.take-i.new.self.free.items
    uses c.requires.key none room c.put.ensures c.enter.ensures.index c.enter.ensures.named in
    let made : List (ℕ × g.row.V.Denot) → Table g.row.V.Denot = λ es. record { entries = es; room = m.room; cells = new } in
    let puts : Table g.row.V.Denot → Table g.row.V.Denot = λ t. record { entries = put nat_cmp k c.args.value t.entries; room = t.room; cells = new } in
    ap made (entries-put cells new k c.args.value c.requires.key r.1) ∙ ap puts c.self.view_is
