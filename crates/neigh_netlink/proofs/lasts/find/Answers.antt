use Rattle.std.proofs.Common.{ap, sym, ◌∙◌}
use Rattle.std.specs.Ordering.{nat_cmp}
use Rattle.std.specs.FinMap.Entries.{find}
use Rattle.open_addressing.proofs.Pairs.{get-by_pair}
use Rattle.neigh_netlink.proofs.lasts.find.Goals as goal

pub returns : goal.returns
returns c =
    let es = c.args.lasts.now.entries in
    c.get.ensures ∙ ap (λ q. find nat_cmp q es) c.pack.ensures.value ∙ sym (get-by_pair c.args.key.now c.pack.ensures.below es)
