-- A port's state, kept or not.
use Rattle.std.proofs.Common.{◌≡◌, ℕ, ◌==◌, Option, None, Some, refl}
use Rattle.std.specs.Option.{option_eq, unwrap_or}
use Rattle.br_model.specs.Forward.Admission.{forwarding}

pub forwarding-is : (o : Option ℕ) → (unwrap_or o 0 == forwarding) ≡ option_eq (λ x y. x == y) o (Some forwarding)
forwarding-is None = refl
forwarding-is (Some n) = refl
