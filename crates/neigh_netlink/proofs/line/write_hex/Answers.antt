use Rattle.std.proofs.Common.{arith, ◌∙◌}
use Rattle.neigh_netlink.proofs.line.write_hex.Goals as goal
use Rattle.br_model.proofs.Data.Hex.{encode_lower-is}

pub returns-clause-bytes : goal.returns-clause-bytes
returns-clause-bytes c = λ k. omega (arith, c.type_inv.bytes k)

pub returns-clause-value : goal.returns-clause-value
returns-clause-value c = c.in-Ok.ensures.written ∙ encode_lower-is c.args.bytes.now (returns-clause-bytes c)
