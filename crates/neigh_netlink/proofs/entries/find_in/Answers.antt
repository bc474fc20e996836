use Rattle.std.proofs.Common.{sym, ap, ◌∙◌, Some}
use Rattle.neigh_netlink.proofs.Cuts.{get_at, get_gap}
use Rattle.neigh_netlink.proofs.entries.find_in.Goals as goal

pub returns-in-Ok : goal.returns-in-Ok
returns-in-Ok c =
    let at = c.in-Ok.ensures.found in
    ap (λ x. Some x.1) (at.reads _) ∙ sym (get_at _ _ _ at)

pub returns-in-Err : goal.returns-in-Err
returns-in-Err c = sym (get_gap _ _ _ c.in-Err.ensures.gap)
