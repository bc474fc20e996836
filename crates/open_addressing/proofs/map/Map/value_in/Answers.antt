use Rattle.std.proofs.Common.{◌≡◌, ◌≢◌, ℕ, ◌<◌, List, Option, None, Some, length, refl, ap, sym, subst, ◌∙◌}
use Rattle.std.specs.Ordering.{nat_cmp}
use Rattle.std.specs.FinMap.Entries.{find}
use Rattle.open_addressing.specs.Hashed.{key_in}
use Rattle.open_addressing.specs.Finite.{Table}
use Rattle.open_addressing.specs.Zipped.{key_of}
use Rattle.open_addressing.proofs.Finite.{value-found}
use Rattle.open_addressing.proofs.Entries.{find-entries_of}
use Rattle.open_addressing.proofs.map.Map.value_in.Goals as goal

pub returns : goal.returns
returns g c =
    let cells = g.C.Cells.cells c.self.inside.cells in
    let i : ℕ = c.args.i in
    let same = sym (ap (λ (t : Table g.row.V.Denot). t.cells) c.self.view_is) in
    let used = subst (λ (cs : List (Option (ℕ × g.row.V.Denot))). key_in key_of None cs i ≢ 0) same c.requires.used in
    let within = subst (λ (cs : List (Option (ℕ × g.row.V.Denot))). i < length cs) same c.requires.within in
    subst (λ (t : Table g.row.V.Denot). find nat_cmp (key_in key_of None t.cells i) t.entries ≡ Some c.value.result) c.self.view_is
    (find-entries_of cells (key_in key_of None cells i) used ∙ value-found cells c.self.invariant.0.cells.apart (key_in key_of None cells i) i used within refl ∙ c.value.ensures)
