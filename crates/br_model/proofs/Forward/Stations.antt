-- A station's address is none of the reserved ones, which are groups'.
use Rattle.std.proofs.Common.{◌≡◌, ℕ, ◌/◌, ◌%◌, ◌^◌, ◌<◌, ◌≤◌, ◌==◌, true, false, sym, ap, ◌∙◌, arith, inl, inr}
use Rattle.std.specs.Cmp.{first_so, second_so}
use Rattle.std.proofs.lemmas.Bool.{cases_Bool, ne_eqb, ltb-true, leb-true}
use Rattle.br_model.specs.Data.Numbers.{is_multicast}
use Rattle.br_model.specs.Forward.Targets.{pause_address, is_for_the_host}

pub other : (a n : ℕ) → is_multicast a ≡ false → is_multicast n ≡ true → (a == n) ≡ false
other a n station group = ne_eqb a n (λ e. absurd (cc (ap is_multicast e)))

pub not-reserved : (a : ℕ) → is_multicast a ≡ false → is_for_the_host a ≡ false
not-reserved a station = elim (cases_Bool (is_for_the_host a)) [
  | inl e ↦
      let low : pause_address < a = ltb-true pause_address a (first_so _ _ e) in
      let high : a ≤ 0x0180C200000F = leb-true a 0x0180C200000F (second_so _ _ e) in
      let one : a / 2 ^ 40 ≡ 1 = omega (arith, low, high) in
      absurd (cc (sym station ∙ ap (λ n. n % 2 == 1) one))
  | inr e ↦ e
]
