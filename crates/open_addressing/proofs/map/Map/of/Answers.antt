use Rattle.std.proofs.Common.{ℕ, List, ap}
use Rattle.open_addressing.specs.Finite.{Table}
use Rattle.open_addressing.proofs.Entries.{entries-made}
use Rattle.open_addressing.proofs.Sound.{sound-none}
use Rattle.open_addressing.proofs.map.Map.of.Goals as goal

pub invariant_of-result : goal.invariant_of-result
invariant_of-result g c = (
  sound-none g.C.Cells.hash c.in_ok-index.index.bits c.in_ok-index.index.slots c.in_ok-index.index.rest.items c.in_ok-spare.spare.fresh c.in_ok-spare.spare.free.items c.args.count
      c.args.room (g.C.Cells.cells c.args.cells)
      g.met.C.Cells.hashes c.in_ok-index.ensures.blank c.in_ok-spare.ensures.fresh c.in_ok-spare.ensures.none c.in_ok-index.ensures.small c.requires.room c.requires.empty,
  c.in_ok-index.ensures.room,
  c.in_ok-spare.ensures.room,
)

pub returns : goal.returns
returns g c =
    let made : List (ℕ × g.row.V.Denot) → Table g.row.V.Denot = λ es. record { entries = es; room = c.args.room; cells = g.C.Cells.cells c.args.cells } in
    ap made (entries-made _ _ c.requires.empty)
