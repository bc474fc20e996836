use Rattle.br_model.proofs.Worked.Endings.{parts}
use Rattle.br_model.proofs.ending_laws.parts_of_a_transcript.Goals as goal

pub returns : goal.returns
returns c = parts
