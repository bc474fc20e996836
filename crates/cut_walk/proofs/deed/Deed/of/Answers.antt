use Rattle.std.proofs.Common.{◌∙◌}
use Rattle.cut_walk.proofs.Deeds.{deed_ports}
use Rattle.cut_walk.proofs.deed.Deed.of.Goals as goal

pub returns-clause-ports : goal.returns-clause-ports
returns-clause-ports c t port bytes head on decides =
    c.share.ensures port on ∙ deed_ports c.args.domains.now t port bytes head c.args.verdict.now decides
