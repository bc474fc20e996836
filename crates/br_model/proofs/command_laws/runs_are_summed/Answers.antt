use Rattle.br_model.proofs.Worked.Commands.{none_summed, one_summed}
use Rattle.br_model.proofs.command_laws.runs_are_summed.Goals as goal

pub returns : goal.returns
returns c = record { none = none_summed; one = one_summed }
