use Rattle.br_model.proofs.Worked.Snooping as rows
use Rattle.br_model.proofs.snoop_laws.report_at_a_chip_port.Goals as goal

pub returns : goal.returns
returns c = rows.report_at_a_chip_port
