use Rattle.br_model.specs.Plane.Runs.{run}
use Rattle.br_model.proofs.Table.AddressRoom.{few-front}
use Rattle.br_model.proofs.Table.GroupRoom.{few_pairs-front}
use Rattle.br_model.proofs.Plane.Applied.{run-world}
use Rattle.br_model.proofs.Table.Standing.{stands-of, within-stands}
use Rattle.br_model.proofs.history_laws.limits_hold.Goals as goal

pub returns : goal.returns
returns c = record {
  within = λ h k. within-stands h k;
  stands = stands-of;
  world = λ w k. within-stands w.history k.history;
  run = λ setup steps. within-stands (run setup steps).0.history (run-world setup steps).history;
  changes = λ setup steps. (run-world setup steps).history.few;
  addresses = λ setup steps. few-front (run setup steps).0.history (within-stands (run setup steps).0.history (run-world setup steps).history);
  pairs = λ setup steps. few_pairs-front (run setup steps).0.history (within-stands (run setup steps).0.history (run-world setup steps).history);
}
