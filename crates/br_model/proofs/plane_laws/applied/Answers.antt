use Rattle.br_model.proofs.Plane.Applied.{run-setup, run-applies}
use Rattle.br_model.proofs.plane_laws.applied.Goals as goal
use Rattle.std.proofs.Common.{sym, ap, ◌∙◌}
use Rattle.br_model.specs.Table.Cut.{cut}
use Rattle.br_model.specs.Table.Setup.{Setup}
use Rattle.br_model.specs.Table.Table.{table}
use Rattle.br_model.specs.Plane.Runs.{run}

pub returns : goal.returns
returns c = record {
  table = λ setup steps dom d at. (run-applies setup steps dom d at).table ∙ sym (ap (λ (s : Setup). table (cut s.domains.edition (run setup steps).0.history d.count)) (run-setup setup steps));
  synchronous = λ setup steps dom d at. (run-applies setup steps dom d at).synchronous;
  deferred = λ setup steps dom d at. (run-applies setup steps dom d at).deferred;
}
