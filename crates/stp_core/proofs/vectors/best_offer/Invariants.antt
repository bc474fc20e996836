use Rattle.std.proofs.Common.{◌≡◌, ◌≤◌, take}
use Rattle.std.specs.List.{filter_map}
use Rattle.std.specs.Option.{ForSome}
use Rattle.br_model.specs.Table.Domains.{last_port}
use Rattle.br_model.specs.Tree.Vectors.{candidate, least}
use Rattle.stp_core.specs.Places.{entries_at}
use Rattle.stp_core.proofs.vectors.best_offer.Given as goal

abbrev pub invariant-loop-p : goal.invariant-loop-p
invariant-loop-p l = record {
  best : l.best ≡ least (filter_map (candidate l.id) (entries_at 0 (take l.p l.places)));
  last : ForSome l.best (λ c. c.port ≤ last_port);
}
