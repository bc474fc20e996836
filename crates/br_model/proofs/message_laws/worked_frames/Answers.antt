use Rattle.br_model.proofs.Worked.Messages.{read_worked_1, read_worked_2, read_worked_3, read_worked_4}
use Rattle.br_model.proofs.message_laws.worked_frames.Goals as goal

pub returns : goal.returns
returns c = record { worked_1 = read_worked_1; worked_2 = read_worked_2; worked_3 = read_worked_3; worked_4 = read_worked_4 }
