-- What is kept beside the entries, and holds of them.
use Rattle.std.specs.Prelude.{◌≡◌, ℕ, Bool, true, List}
use Rattle.std.specs.Ordering.{nat_cmp}
use Rattle.std.specs.FinMap.Entries.{is_sorted}
use Rattle.fdb_core.specs.declared.entries.Entry.{Entry}
use Rattle.fdb_core.specs.Packing.{AreKeys}
use Rattle.fdb_core.specs.Counts.{AreCounts}
use Rattle.fdb_core.specs.Places.{Place, IsTold, is_settled}

pub record AreKept (es : List (ℕ × Entry)) (counts : List ℕ) (complete : Bool) (latest : ℕ) (places : List Place) : Type 0 where
  pub keys : AreKeys es
  pub sorted : is_sorted nat_cmp es ≡ true
  pub counted : AreCounts counts es
  pub told : IsTold complete latest places es
  pub settled : is_settled es places ≡ true
