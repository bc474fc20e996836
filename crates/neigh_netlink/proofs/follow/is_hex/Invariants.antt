use Rattle.std.proofs.Common.{◌≡◌, is_some, length}
use Rattle.br_model.specs.Data.Digits.{bytes_from_hex}
use Rattle.neigh_netlink.proofs.follow.is_hex.Given as goal

abbrev pub invariant-loop-rest : goal.invariant-loop-rest
invariant-loop-rest l = is_some (bytes_from_hex l.rest) ≡ is_some (bytes_from_hex l.digits)

abbrev pub decreases-loop-rest : goal.decreases-loop-rest
decreases-loop-rest l = length l.rest
