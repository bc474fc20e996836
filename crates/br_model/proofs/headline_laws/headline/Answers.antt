use Rattle.br_model.proofs.Plane.FrameLines.{by-chip, by-software, step-moves, unread, run-entry, zero-none, run-none}
use Rattle.br_model.proofs.Plane.Once.{run-lines}
use Rattle.br_model.proofs.headline_laws.headline.Goals as goal

pub returns : goal.returns
returns c = record {
  chip = by-chip;
  software = by-software;
  step = step-moves;
  unread = unread;
  each = run-entry;
  zero = zero-none;
  others = run-none;
  once = λ setup steps. (run-lines setup steps).once;
}
