use Rattle.plane_parts.proofs.Leaving.{shared_by}
use Rattle.plane_parts.proofs.sending.Egress.of_share.Goals as goal

pub returns : goal.returns
returns c t port bytes head on decided id = shared_by c.args.domains.now t port id bytes head c.args.verdict.now c.share.result decided (c.share.ensures port on)
