use Rattle.br_model.proofs.Text.Reading.{read_line}
use Rattle.br_model.proofs.laws.line_after_line.Goals as goal

pub returns : goal.returns
returns c = read_line
