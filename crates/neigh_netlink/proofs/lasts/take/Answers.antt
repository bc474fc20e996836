use Rattle.std.proofs.Common.{not, ap, sym, ◌∙◌}
use Rattle.std.specs.Ordering.{nat_cmp, eq_by_cmp}
use Rattle.std.specs.FinMap.Entries as entries
use Rattle.open_addressing.specs.Finite.{Table}
use Rattle.open_addressing.specs.Pairs.{by_pair}
use Rattle.open_addressing.proofs.Pairs.{get-by_pair, without-by_pair}
use Rattle.neigh_netlink.specs.declared.lasts.Last.{Last}
use Rattle.neigh_netlink.proofs.lasts.take.Goals as goal

pub returns-clause-entry : goal.returns-clause-entry
returns-clause-entry c =
    let es = c.args.lasts.now.entries in
    c.take.ensures.value ∙ ap (λ q. entries.find nat_cmp q es) c.pack.ensures.value ∙ sym (get-by_pair c.args.key.now c.pack.ensures.below es)

pub returns-clause-entries : goal.returns-clause-entries
returns-clause-entries c =
    let es = c.args.lasts.now.entries in
    ap (λ (t : Table Last). by_pair t.entries) c.take.ensures.rest
    ∙ ap (λ q. by_pair (entries.where_key nat_cmp (λ k. not (eq_by_cmp nat_cmp q k)) es)) c.pack.ensures.value
    ∙ sym (without-by_pair c.args.key.now c.pack.ensures.below es)
