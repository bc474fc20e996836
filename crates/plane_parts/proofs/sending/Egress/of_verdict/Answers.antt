use Rattle.hwdom_marks.specs.Marks.{domain_marked}
use Rattle.plane_parts.proofs.Leaving.{sent_by}
use Rattle.plane_parts.proofs.sending.Egress.of_verdict.Goals as goal

pub returns : goal.returns
returns c t port bytes head decided id =
    sent_by c.args.domains.now t port id bytes head c.args.verdict.now (domain_marked c.args.mark) c.remaining.result decided c.remaining.ensures
