use Rattle.std.proofs.Common.{length, sym, ap, ◌∙◌}
use Rattle.lemmas.proofs.Tests.{true_from_T}
use Rattle.open_addressing.specs.Finite.{Table}
use Rattle.open_addressing.proofs.Entries.{length-entries_of, sorted-entries_of}
use Rattle.open_addressing.proofs.map.Map.len.Goals as goal

pub returns-clause-value : goal.returns-clause-value
returns-clause-value g c =
    let m = c.self.inside in
    sym (length-entries_of (g.C.Cells.cells m.cells) c.self.invariant.0.cells.apart ∙ c.self.invariant.0.cells.counted) ∙ ap (λ (t : Table g.row.V.Denot). length t.entries) c.self.view_is

pub returns-clause-ascending : goal.returns-clause-ascending
returns-clause-ascending g c =
    let m = c.self.inside in
    rw (← c.self.view_is) (true_from_T _ (sorted-entries_of (g.C.Cells.cells m.cells)))
