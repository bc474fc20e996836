use Rattle.std.proofs.Common.{◌≡◌, ℕ, List, ◌++◌, sym, ap, ◌∙◌}
use Rattle.std.specs.List.{flat_map}
use Rattle.port_sets.proofs.Building.{yielded_members}
use Rattle.vlan_groups.specs.Joined.{vids_in}
use Rattle.vlan_groups.proofs.Walks.{block_vids, vids-block, next-block, used_blocks}
use Rattle.vlan_groups.proofs.joined.Joined.vids_of.Goals as goal

pub loop-i-preserved : goal.loop-i-preserved
loop-i-preserved c =
    let blocks = c.args.self.now in
    let p = c.args.port in
    let i = c.in-Some.i in
    let seen = c.loop-i.yielded in
    c.in_ok-push_block.ensures.added
    ∙ ap (λ (vs : List ℕ). vs ++ vids_in i c.block.result) c.loop-i.invariant
    ∙ ap (λ (vs : List ℕ). flat_map (block_vids blocks p) seen ++ vs) (vids-block blocks p i c.block.result c.push_block.ensures.ordered c.block.ensures)
    ∙ sym (next-block blocks p i seen)

pub returns : goal.returns
returns c =
    let all : c.loop-i.yielded ≡ c.used.result =
    yielded_members c.used.result _ _ _ c.loop-i.yielded _ (c.into_iter-i-iterator.ensures.into_iter_gives ∙ c.iter-i-items.ensures.members) c.loop-i.yielded_by c.in-None.is c.next.ensures.steps in
    c.loop-i.invariant
    ∙ ap (λ (ys : List ℕ). flat_map (block_vids c.args.self.now c.args.port) ys) all
    ∙ used_blocks c.args.self.now c.args.port c.used.result c.iter-i-items.ensures.ordered c.used.ensures
