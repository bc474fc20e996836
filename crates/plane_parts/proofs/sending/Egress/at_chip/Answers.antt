use Rattle.plane_parts.proofs.Leaving.{sent_at_chip}
use Rattle.plane_parts.proofs.sending.Egress.at_chip.Goals as goal

pub returns : goal.returns
returns c domains t port bytes head vid ports set id = sent_at_chip domains t port id bytes head c.args.vid c.args.ports c.args.untagged vid ports set
