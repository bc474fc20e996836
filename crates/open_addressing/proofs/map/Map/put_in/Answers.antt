use Rattle.std.proofs.Common.{ℕ, List, Option, ap, sym, subst, ◌∙◌}
use Rattle.std.specs.Ordering.{nat_cmp}
use Rattle.std.specs.FinMap.Entries.{put}
use Rattle.open_addressing.specs.Finite.{Table, Holds}
use Rattle.open_addressing.proofs.Sound.{sound-over}
use Rattle.open_addressing.proofs.Entries.{entries-put}
use Rattle.open_addressing.proofs.map.Map.put_in.Goals as goal

pub put-requires-clause-within : goal.put-requires-clause-within
put-requires-clause-within g c =
    let k : ℕ = g.C.Cells.number c.args.key.now in
    (subst (λ (cells : List (Option (ℕ × g.row.V.Denot))). Holds cells c.args.i k) (sym (ap (λ (t : Table g.row.V.Denot). t.cells) c.self.view_is)) c.requires.holds).0

pub invariant_of-self : goal.invariant_of-self
invariant_of-self g c =
    let m = c.self.inside in
    let k : ℕ = g.C.Cells.number c.args.key.now in
    let f = subst (λ (cells : List (Option (ℕ × g.row.V.Denot))). Holds cells c.args.i k) (sym (ap (λ (t : Table g.row.V.Denot). t.cells) c.self.view_is)) c.requires.holds in
    let r = sound-over g.C.Cells.hash m.index.bits m.index.slots m.index.rest.items m.spare.fresh m.spare.free.items m.used m.room (g.C.Cells.cells m.cells) c.self.invariant.0
    c.args.i k c.args.value (g.C.Cells.cells c.put.new.self) f.0 c.requires.key f.1 c.put.ensures in
    (r.0, c.self.invariant.1, c.self.invariant.2)

pub returns : goal.returns
returns g c =
    let m = c.self.inside in
    let cells = g.C.Cells.cells m.cells in
    let k : ℕ = g.C.Cells.number c.args.key.now in
    let new = g.C.Cells.cells c.put.new.self in
    let f = subst (λ (cells : List (Option (ℕ × g.row.V.Denot))). Holds cells c.args.i k) (sym (ap (λ (t : Table g.row.V.Denot). t.cells) c.self.view_is)) c.requires.holds in
    let r = sound-over g.C.Cells.hash m.index.bits m.index.slots m.index.rest.items m.spare.fresh m.spare.free.items m.used m.room cells c.self.invariant.0
    c.args.i k c.args.value new f.0 c.requires.key f.1 c.put.ensures in
    let made : List (ℕ × g.row.V.Denot) → Table g.row.V.Denot = λ es. record { entries = es; room = m.room; cells = new } in
    let puts : Table g.row.V.Denot → Table g.row.V.Denot = λ t. record { entries = put nat_cmp k c.args.value t.entries; room = t.room; cells = new } in
    ap made (entries-put cells new k c.args.value c.requires.key r.1) ∙ ap puts c.self.view_is
