use Rattle.std.proofs.Common.{◌∙◌, arith}
use Rattle.stp_core.proofs.Unions.{alone}
use Rattle.stp_core.proofs.events.only.Goals as goal

pub returns : goal.returns
returns c = c.with.ensures ∙ alone c.args.p c.empty.result c.empty.ensures (omega (arith, c.requires))
