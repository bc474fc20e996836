-- How many changes may be deferred.
use Rattle.std.proofs.Common.{◌≡◌, ℕ, ◌<◌, List, Some, arith}
use Rattle.std.proofs.lemmas.List.Sums.{length-filter, count_by-le-length}
use Rattle.br_model.specs.declared.change.Change.{Change}
use Rattle.br_model.specs.declared.domains.Edition.{Edition}
use Rattle.br_model.specs.Table.Change.{deferred}
use Rattle.br_model.specs.Table.Cut.{deferred_at}
use Rattle.br_model.specs.Table.Limits.{AreWithin, most_changes}
use Rattle.br_model.proofs.Table.Cuts.{deferred_at-deferred}

pub count_below : (edition : Edition) (H : List Change) (k : ℕ) (d : Change) → AreWithin H → deferred_at edition H k ≡ Some d → k < most_changes
count_below edition H k d is at = omega (arith, is.few, (deferred_at-deferred edition H k d at).1, length-filter (deferred edition) H, count_by-le-length (deferred edition) H)
