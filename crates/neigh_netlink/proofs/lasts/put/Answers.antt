use Rattle.std.proofs.Common.{ap, sym, subst, ◌∙◌, ◌<◌}
use Rattle.std.specs.Ordering.{nat_cmp}
use Rattle.std.specs.FinMap.Entries as entries
use Rattle.open_addressing.specs.Finite.{Table}
use Rattle.open_addressing.specs.Pairs.{by_pair}
use Rattle.open_addressing.proofs.Pairs.{get-by_pair, put-by_pair, length-by_pair}
use Rattle.neigh_netlink.specs.declared.lasts.Last.{Last}
use Rattle.neigh_netlink.proofs.lasts.put.Goals as goal

pub insert-requires-clause-room : goal.insert-requires-clause-room
insert-requires-clause-room c = λ none.
    let es = c.args.lasts.now.entries in
    subst (λ n. n < c.args.lasts.now.room) (length-by_pair es)
    (c.requires (get-by_pair c.args.key.now c.pack.ensures.below es ∙ ap (λ q. entries.find nat_cmp q es) (sym c.pack.ensures.value) ∙ none))

pub returns-clause-entries : goal.returns-clause-entries
returns-clause-entries c =
    let es = c.args.lasts.now.entries in
    ap (λ (t : Table Last). by_pair t.entries) c.insert.ensures.entries
    ∙ ap (λ q. by_pair (entries.put nat_cmp q c.args.last es)) c.pack.ensures.value
    ∙ sym (put-by_pair c.args.key.now c.pack.ensures.below c.args.last es)
