use Rattle.std.proofs.Common.{ℕ, List, length, map, ap, ◌∙◌, arith, length-append}
use Rattle.std.proofs.lemmas.List.{length-map}
use Rattle.br_model.specs.declared.change.Change.{Change}
use Rattle.port_sets.proofs.Building.{yielded_members}
use Rattle.bridge_state.specs.Following.{state_change}
use Rattle.bridge_state.proofs.Following.{fewer_seen}
use Rattle.bridge_state.proofs.spanning_tree.add_states.Goals as goal

pub push_reserved-requires : goal.push_reserved-requires
push_reserved-requires c =
    let fewer = fewer_seen c.args.moved _ _ _ c.loop-number.yielded _ _ (c.into_iter-number-iterator.ensures.into_iter_gives
    ∙ c.iter-number-items.ensures.members) c.loop-number.yielded_by c.in-Some.is c.next.ensures.steps in
    omega (
      arith,
      c.requires,
      fewer,
      c.iter-number-items.ensures.few,
      ap (λ (l : List ℕ). length l) c.iter-number-items.ensures.members,
      c.loop-number.invariant.capacity,
      ap (λ (l : List Change). length l) c.loop-number.invariant.states,
      length-append c.args.changes.now.items (map (state_change c.args.tree.now) c.loop-number.yielded),
      length-map c.loop-number.yielded (state_change c.args.tree.now),
      c.args.changes.now.ok.0,
      c.loop-number.changes.ok.0,
    )

pub returns-clause-few : goal.returns-clause-few
returns-clause-few c =
    let all = yielded_members c.args.moved _ _ _ c.loop-number.yielded _ (c.into_iter-number-iterator.ensures.into_iter_gives
    ∙ c.iter-number-items.ensures.members) c.loop-number.yielded_by c.in-None.is c.next.ensures.steps in
    omega (
      arith,
      c.iter-number-items.ensures.few,
      ap (λ (l : List ℕ). length l) (c.iter-number-items.ensures.members),
      ap (λ (l : List ℕ). length l) all,
      ap (λ (l : List Change). length l) c.loop-number.invariant.states,
      length-append c.args.changes.now.items (map (state_change c.args.tree.now) c.loop-number.yielded),
      length-map c.loop-number.yielded (state_change c.args.tree.now),
    )
