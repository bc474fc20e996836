use Rattle.br_model.proofs.Worked.Rows.{isolated_ports}
use Rattle.br_model.proofs.laws.isolated_ports.Goals as goal

pub returns : goal.returns
returns c = isolated_ports
