-- What a call gives.
use Rattle.std.proofs.Common.{◌≡◌, ℕ, Bool, List, subst}
use Rattle.switchbr_c.specs.Calls.{Tells}

-- the text is that of the definition
pub tells_so : (a b : Bool) (x y : List ℕ) (size most : ℕ) (old new : List ℕ) (len status : ℕ) → a ≡ b → x ≡ y → Tells a x size most old new len status → Tells b y size most old new len status
tells_so a b x y size most old new len status well text h =
    subst (λ (c : Bool). Tells c y size most old new len status) well (subst (λ (t : List ℕ). Tells a t size most old new len status) text h)
