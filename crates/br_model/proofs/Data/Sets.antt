-- Sets of ports are sets of the definitions.
use Rattle.std.proofs.Common.{◌≡◌, ℕ, ◌||◌, List, [], ◌∷◌, refl, ap₂}
use Rattle.std.specs.Cmp.{unsigned_tied}
use Rattle.std.specs.Ordering.{nat_cmp}
use Rattle.port_sets.specs.Numbers.{has_number}
use Rattle.br_model.specs.Data.Maps.{has}

pub has-is : (xs : List ℕ) (n : ℕ) → has nat_cmp xs n ≡ has_number xs n
has-is [] n = refl
has-is (x ∷ xs) n = ap₂ ◌||◌ (unsigned_tied n x) (has-is xs n)
