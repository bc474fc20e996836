use Rattle.std.proofs.Common.{◌∙◌, sym, ap}
use Rattle.br_model.specs.Tree.Step.{received_at}
use Rattle.stp_core.proofs.parameters.Parameters.receive_at.Goals as goal

pub returns-in-Config : goal.returns-in-Config
returns-in-Config c = c.receive_config.ensures ∙ sym (ap (received_at c.args.self.now c.args.now (c.args.p, c.args.x.now)) c.in-Config.is)
