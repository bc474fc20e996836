use Rattle.std.proofs.Common.{List, ℕ, get_or, ap, ◌∙◌}
use Rattle.lists.specs.Padded.{padded}
use Rattle.vlan_groups.specs.Joined.{block_count}
use Rattle.vlan_groups.proofs.joined.block_in.Goals as goal

pub returns : goal.returns
returns c = c.item_or.ensures.padded block_count c.requires ∙ ap (λ (b : List ℕ). get_or (padded b block_count c.args.blocks.now) c.args.place b) c.empty.ensures
