use Rattle.std.proofs.Common.{arith, refl, sym, ◌+◌, ◌-◌, ◌/◌, ℕ, ◌∙◌}
use Rattle.br_model.specs.Table.GroupPairs.{group_pair_cmp}
use Rattle.mdb_snoop.proofs.Cuts.{above_place, below_place}
use Rattle.br_model.proofs.Table.GroupOrders.{pair_total}
use Rattle.mdb_snoop.proofs.Search.{is_at}
use Rattle.mdb_snoop.proofs.sections.place_of.Goals as goal

pub loop-low-preserved-in-Less : goal.loop-low-preserved-in-Less
loop-low-preserved-in-Less g c =
    let k = c.loop-low.invariant in
    let i : ℕ = c.loop-low.low + (c.loop-low.high - c.loop-low.low) / 2 in (
      omega arith,
      omega arith,
      k.2,
      above_place group_pair_cmp pair_total c.args.sections.now c.args.key.now i c.index-sections-middle.result _ c.requires (omega arith) refl (sym c.order.ensures ∙ c.in-Less.is),
    )

pub loop-low-preserved : goal.loop-low-preserved
loop-low-preserved g c =
    let k = c.loop-low.invariant in
    let i : ℕ = c.loop-low.low + (c.loop-low.high - c.loop-low.low) / 2 in (
      omega arith,
      k.1,
      below_place group_pair_cmp pair_total c.args.sections.now c.args.key.now i c.index-sections-middle.result _ c.requires (omega arith) refl (sym c.order.ensures ∙ c.in-Greater.is),
      k.3,
    )

pub returns-in-Equal-clause-found : goal.returns-in-Equal-clause-found
returns-in-Equal-clause-found g c =
    let i : ℕ = c.loop-low.low + (c.loop-low.high - c.loop-low.low) / 2 in
    is_at c.args.sections.now c.args.key.now i c.index-sections-middle.result _ c.requires (omega (arith, c.loop-low.invariant.1)) refl (sym c.order.ensures ∙ c.in-Equal.is)
