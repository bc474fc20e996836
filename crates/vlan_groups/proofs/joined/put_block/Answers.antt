use Rattle.std.proofs.Common.{◌≡◌, List, ℕ, set, subst}
use Rattle.lists.specs.Padded.{padded}
use Rattle.vlan_groups.specs.Joined.{block_count}
use Rattle.vlan_groups.proofs.joined.put_block.Goals as goal

pub returns-clause-blocks : goal.returns-clause-blocks
returns-clause-blocks c =
    subst (λ (b : List ℕ). padded b block_count c.put_item.new.items.items ≡ set (padded b block_count c.args.blocks.now.items) c.args.place c.args.block) c.empty.ensures
    (c.put_item.ensures.items block_count)
