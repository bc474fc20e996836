-- The bytes of a number are below 256.
use Rattle.std.proofs.Common.{◌≡◌, ℕ, zero, suc, ◌/◌, ◌^◌, ◌<◌, Bool, true, refl, ap, ◌∙◌, arith}
use Rattle.std.proofs.Math.Nat.{mod-lt}
use Rattle.std.specs.Prelude.{nat_lt, ◌&&◌}
use Rattle.std.specs.Int.{byte_at, bytes_high_first}
use Rattle.std.specs.List.{list_all}
use Rattle.std.proofs.lemmas.Bool.{lt-ltb}

abbrev pub is_byte : ℕ → Bool
is_byte b = nat_lt b 256

small : (k x : ℕ) → byte_at k x < 256
small zero x = mod-lt x (omega arith)
small (suc k) x = mod-lt (x / 256 ^ suc k) (omega arith)

pub all_bytes : (k x : ℕ) → list_all is_byte (bytes_high_first k x) ≡ true
all_bytes zero x = refl
all_bytes (suc k) x = ap (λ b. b && list_all is_byte (bytes_high_first k x)) (lt-ltb (byte_at k x) 256 (small k x)) ∙ all_bytes k x
