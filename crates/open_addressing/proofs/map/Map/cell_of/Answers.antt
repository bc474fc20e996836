use Rattle.std.proofs.Common.{◌≢◌, ℕ, List, Option, None, ap, sym, subst, ◌∙◌}
use Rattle.std.specs.Prelude.{IfSome}
use Rattle.std.specs.Ordering.{nat_cmp}
use Rattle.std.specs.FinMap.Entries.{find}
use Rattle.open_addressing.specs.Hashed.{key_in}
use Rattle.open_addressing.specs.Finite.{Table, Holds}
use Rattle.open_addressing.specs.Zipped.{key_of}
use Rattle.open_addressing.proofs.Finite.{value-absent}
use Rattle.open_addressing.proofs.Entries.{find-entries_of}
use Rattle.open_addressing.proofs.map.Map.cell_of.Goals as goal

pub returns-clause-found : goal.returns-clause-found
returns-clause-found g c =
    subst (λ (cells : List (Option (ℕ × g.row.V.Denot))). IfSome c.find.result (λ i. Holds cells i (g.C.Cells.number c.args.key.now))) (ap (λ (t : Table g.row.V.Denot). t.cells) c.self.view_is) c.find.ensures.found

pub returns-clause-absent : goal.returns-clause-absent
returns-clause-absent g c none =
    let k : ℕ = g.C.Cells.number c.args.key.now in
    let cells = g.C.Cells.cells c.self.inside.cells in
    sym (ap (λ (t : Table g.row.V.Denot). find nat_cmp k t.entries) c.self.view_is) ∙ find-entries_of cells k c.requires ∙ value-absent cells k (λ i _. c.find.ensures.absent none i)

pub returns-clause-none : goal.returns-clause-none
returns-clause-none g c none =
    subst (λ (cells : List (Option (ℕ × g.row.V.Denot))). (i : ℕ) → key_in key_of None cells i ≢ g.C.Cells.number c.args.key.now) (ap (λ (t : Table g.row.V.Denot). t.cells) c.self.view_is) (c.find.ensures.absent none)
