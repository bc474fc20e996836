use Rattle.br_model.proofs.Worked.Rows.{destination_on_its_ingress_port}
use Rattle.br_model.proofs.laws.destination_on_its_ingress_port.Goals as goal

pub returns : goal.returns
returns c = destination_on_its_ingress_port
