use Rattle.std.proofs.Common.{sym, ap, ◌∙◌, ◌++◌, ◌∷◌, take, drop, ◌+◌}
use Rattle.br_model.proofs.Data.PairKeys.{same_cmp}
use Rattle.neigh_netlink.specs.Neighbours.{Key, Neighbours}
use Rattle.neigh_netlink.proofs.Cuts.{put_at, put_gap, get_gap, set-splits, ascending-put}
use Rattle.neigh_netlink.proofs.entries.put_in.Goals as goal

pub insert_at-requires-clause-room : goal.insert_at-requires-clause-room
insert_at-requires-clause-room c = c.requires.room (get_gap _ _ _ (rw c.deref.ensures.value at c.in-Err.ensures.gap))

pub returns-in-Ok-clause-items : goal.returns-in-Ok-clause-items
returns-in-Ok-clause-items c =
    let es : Neighbours = c.args.entries.now.items in
    let at = rw c.deref.ensures.value at c.in-Ok.ensures.found in
    set-splits es c.in-Ok.at _ at.within
    ∙ ap (λ (k : Key). take c.in-Ok.at es ++ (k, c.args.entry) ∷ drop (c.in-Ok.at + 1) es) (same_cmp c.args.key at.entry.0 at.same)
    ∙ sym (put_at es c.args.key c.in-Ok.at at c.args.entry)

pub returns-in-Ok-clause-sorted : goal.returns-in-Ok-clause-sorted
returns-in-Ok-clause-sorted c = rw (returns-in-Ok-clause-items c) (ascending-put c.args.entries.now.items c.args.key c.args.entry c.requires.sorted)

pub returns-in-Err-clause-items : goal.returns-in-Err-clause-items
returns-in-Err-clause-items c = c.insert_at.ensures.items ∙ sym (put_gap c.args.entries.now.items c.args.key c.in-Err.at c.args.entry (rw c.deref.ensures.value at c.in-Err.ensures.gap))

pub returns-in-Err-clause-sorted : goal.returns-in-Err-clause-sorted
returns-in-Err-clause-sorted c = rw (returns-in-Err-clause-items c) (ascending-put c.args.entries.now.items c.args.key c.args.entry c.requires.sorted)
