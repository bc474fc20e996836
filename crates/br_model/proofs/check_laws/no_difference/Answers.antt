use Rattle.br_model.proofs.Program.Differences.{only_told, always_yes}
use Rattle.br_model.proofs.check_laws.no_difference.Goals as goal

pub returns : goal.returns
returns c = record { only = only_told; always = always_yes }
