use Rattle.std.proofs.Common.{◌≢◌, ℕ, ◌-◌, not, List, refl, ap, sym, ◌∙◌, eqb, cond, None, arith}
use Rattle.std.specs.Ordering.{nat_cmp, eq_by_cmp}
use Rattle.std.specs.FinMap.Entries.{find, where_key}
use Rattle.open_addressing.specs.Hashed.{key_in}
use Rattle.open_addressing.specs.Zipped.{key_of}
use Rattle.open_addressing.specs.Finite.{Table, value_at}
use Rattle.open_addressing.proofs.Finite.{value-kept, value-found, value-absent, used-pos}
use Rattle.open_addressing.proofs.Sound.{sound-out}
use Rattle.open_addressing.proofs.Entries.{find-entries_of, entries-without}
use Rattle.open_addressing.proofs.map.Map.take.Goals as goal

pub returns-in_err-i-clause-value : goal.returns-in_err-i-clause-value
returns-in_err-i-clause-value g c =
    let m = c.self.inside in
    let cells = g.C.Cells.cells m.cells in
    let k : ℕ = g.C.Cells.number c.args.key.now in
    c.from_residual.ensures ∙ sym (find-entries_of cells k c.requires ∙ value-absent cells k (λ i _. c.in_err-i.ensures.absent refl i))
    ∙ ap (λ (t : Table g.row.V.Denot). find nat_cmp k t.entries) c.self.view_is

pub returns-in_err-i-clause-rest : goal.returns-in_err-i-clause-rest
returns-in_err-i-clause-rest g c =
    let m = c.self.inside in
    let cells = g.C.Cells.cells m.cells in
    let k : ℕ = g.C.Cells.number c.args.key.now in
    let made : List (ℕ × g.row.V.Denot) → Table g.row.V.Denot = λ es. record { entries = es; room = m.room; cells = cells } in
    let takes : Table g.row.V.Denot → Table g.row.V.Denot = λ t. record { entries = where_key nat_cmp (λ q. not (eq_by_cmp nat_cmp k q)) t.entries; room = t.room; cells = t.cells } in
    sym c.self.view_is
    ∙ ap made (entries-without cells cells k (λ q qs. value-kept cells k q (value-absent cells k (λ i _. c.in_err-i.ensures.absent refl i))))
    ∙ ap takes c.self.view_is

pub give-requires : goal.give-requires
give-requires g c =
    let m = c.self.inside in
    let cells = g.C.Cells.cells m.cells in
    let sound = c.self.invariant.0 in
    let f = c.in_ok-i.ensures.found in
    let some : key_in key_of None cells c.in_ok-i.i ≢ 0 = λ e. c.requires (sym f.1 ∙ e) in
    let small = sound.index.small c.in_ok-i.i some in
    let pos = used-pos m.used m.room cells sound.cells c.in_ok-i.i f.0 some in
    record { small = omega arith; room = omega (arith, sound.spare.counted, sound.spare.within, c.self.invariant.2) }

pub overflow_sub-self : goal.overflow_sub-self
overflow_sub-self g c =
    let m = c.self.inside in
    let f = c.in_ok-i.ensures.found in
    used-pos m.used m.room (g.C.Cells.cells m.cells) c.self.invariant.0.cells c.in_ok-i.i f.0 (λ e. c.requires (sym f.1 ∙ e))

pub invariant_of-self : goal.invariant_of-self
invariant_of-self g c =
    let m = c.self.inside in
    let f = c.in_ok-i.ensures.found in
    let r = sound-out g.C.Cells.hash m.index.bits m.index.slots m.index.rest.items m.spare.fresh m.spare.free.items m.used m.room (g.C.Cells.cells m.cells) c.self.invariant.0
    c.in_ok-i.i (m.used - 1) (g.C.Cells.cells c.clear.new.self) c.leave.new.self.bits c.leave.new.self.slots c.leave.new.self.rest.items c.give.new.self.fresh c.give.new.self.free.items
    f.0 (λ e. c.requires (sym f.1 ∙ e)) c.clear.ensures c.leave.ensures.index c.leave.ensures.named c.give.ensures.fresh c.give.ensures.free refl in
    (r.0, omega (arith, c.self.invariant.1, c.leave.ensures.room), omega (arith, c.self.invariant.2, c.give.ensures.room))

pub returns-clause-value : goal.returns-clause-value
returns-clause-value g c =
    let m = c.self.inside in
    let cells = g.C.Cells.cells m.cells in
    let k : ℕ = g.C.Cells.number c.args.key.now in
    let f = c.in_ok-i.ensures.found in
    sym (find-entries_of cells k c.requires ∙ value-found cells c.self.invariant.0.cells.apart k c.in_ok-i.i c.requires f.0 f.1 ∙ c.value-value.ensures)
    ∙ ap (λ (t : Table g.row.V.Denot). find nat_cmp k t.entries) c.self.view_is

pub returns-clause-rest : goal.returns-clause-rest
returns-clause-rest g c =
    let m = c.self.inside in
    let cells = g.C.Cells.cells m.cells in
    let new = g.C.Cells.cells c.clear.new.self in
    let k : ℕ = g.C.Cells.number c.args.key.now in
    let f = c.in_ok-i.ensures.found in
    let r = sound-out g.C.Cells.hash m.index.bits m.index.slots m.index.rest.items m.spare.fresh m.spare.free.items m.used m.room cells c.self.invariant.0
    c.in_ok-i.i (m.used - 1) new c.leave.new.self.bits c.leave.new.self.slots c.leave.new.self.rest.items c.give.new.self.fresh c.give.new.self.free.items
    f.0 (λ e. c.requires (sym f.1 ∙ e)) c.clear.ensures c.leave.ensures.index c.leave.ensures.named c.give.ensures.fresh c.give.ensures.free refl in
    let made : List (ℕ × g.row.V.Denot) → Table g.row.V.Denot = λ es. record { entries = es; room = m.room; cells = new } in
    let takes : Table g.row.V.Denot → Table g.row.V.Denot = λ t. record { entries = where_key nat_cmp (λ q. not (eq_by_cmp nat_cmp k q)) t.entries; room = t.room; cells = new } in
    ap made (entries-without cells new k (λ q qs. r.1 q qs ∙ ap (λ k. cond (eqb k q) None (value_at cells q)) f.1)) ∙ ap takes c.self.view_is
