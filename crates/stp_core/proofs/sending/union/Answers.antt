use Rattle.std.proofs.Common.{◌∙◌}
use Rattle.stp_core.proofs.Unions.{union-is}
use Rattle.stp_core.proofs.sending.union.Goals as goal

pub returns : goal.returns
returns c = c.or.ensures ∙ union-is c.args.a c.args.b c.members_ascend.ensures.ordered c.members_ascend-2.ensures.below
