use Rattle.std.proofs.Common.{sym, ◌∙◌}
use Rattle.neigh_netlink.proofs.LineWords.{none-say, other-say}
use Rattle.neigh_netlink.proofs.follow.other_digits.Goals as goal

pub returns-then-is_hex : goal.returns-then-is_hex
returns-then-is_hex c = other-say c.args.digits.now c.requires (sym c.is_hex.ensures ∙ c.if-is_hex.true)

pub returns : goal.returns
returns c = none-say c.args.digits.now (sym c.is_hex.ensures ∙ c.if-is_hex.false)
