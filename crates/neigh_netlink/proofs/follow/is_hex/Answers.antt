use Rattle.std.proofs.Common.{sym, ◌∙◌}
use Rattle.neigh_netlink.proofs.LineWords.{hex-behind}
use Rattle.neigh_netlink.proofs.follow.is_hex.Goals as goal

pub loop-rest-preserved : goal.loop-rest-preserved
loop-rest-preserved c =
    hex-behind c.loop-rest.rest.now c.in-len2-up.len_at_least (sym c.is_digit.ensures ∙ c.if-not-is_digit.false) (sym c.is_digit-else-not-is_digit.ensures ∙ c.if-not-is_digit-2.false)
    ∙ c.loop-rest.invariant
