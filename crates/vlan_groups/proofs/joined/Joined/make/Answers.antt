use Rattle.std.proofs.Common.{◌≡◌, List, ℕ, [], replicate, ap, ◌∙◌}
use Rattle.lists.specs.Padded.{padded}
use Rattle.lists.proofs.Filling.{padded-none}
use Rattle.vlan_groups.specs.Joined.{block_count}
use Rattle.vlan_groups.proofs.UsedSets.{none_used}
use Rattle.vlan_groups.proofs.joined.Joined.make.Goals as goal

-- no block was written
blank : (blocks : List (List ℕ)) → blocks ≡ [] → padded [] block_count blocks ≡ replicate block_count []
blank blocks none = ap (padded [] block_count) none ∙ padded-none [] block_count

pub invariant_of-result : goal.invariant_of-result
invariant_of-result c = (
  none_used (padded [] block_count c.in_ok-blocks.blocks.items) c.in_ok-used.used.items (blank c.in_ok-blocks.blocks.items c.in_ok-blocks.ensures.items) c.in_ok-used.ensures,
  c.in_ok-blocks.ensures.capacity,
)

pub returns : goal.returns
returns c = blank c.in_ok-blocks.blocks.items c.in_ok-blocks.ensures.items
