use Rattle.br_model.proofs.Worked.Snooping as rows
use Rattle.br_model.proofs.snoop_laws.mld_report.Goals as goal

pub returns : goal.returns
returns c = rows.mld_report
