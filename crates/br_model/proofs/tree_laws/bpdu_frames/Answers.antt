use Rattle.br_model.proofs.Worked.Tree.{frames_read, frames_are_written}
use Rattle.br_model.proofs.tree_laws.bpdu_frames.Goals as goal

pub returns : goal.returns
returns c = record { read = frames_read; written = frames_are_written }
