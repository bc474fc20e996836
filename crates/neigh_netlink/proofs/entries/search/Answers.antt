use Rattle.std.proofs.Common.{rules}
use Rattle.std.proofs.lemmas.List.Sorted.{answers_always}
use Rattle.neigh_netlink.proofs.Cuts.{searched}
use Rattle.neigh_netlink.proofs.entries.search.Goals as goal

-- the closure gives an entry's key
pub returns : goal.returns
returns c =
    let facts = c.binary_search_by_key.ensures in
    let by_key = facts.position (λ e. e.0) (answers_always _ _ _ (λ f a r g called. search rules)) in
    searched _ c.args.key.now c.requires _ facts.bound by_key
