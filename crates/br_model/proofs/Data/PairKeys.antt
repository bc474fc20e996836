-- Pairs of numbers as keys of maps and sets.
use Rattle.std.proofs.Common.{◌≡◌, ℕ, ◌&&◌, ap₂, ◌∙◌}
use Rattle.std.specs.Prelude.{◌==◌}
use Rattle.std.specs.declared.cmp.Ordering.TheVariants.{Equal}
use Rattle.std.specs.Cmp.{IsTotalOrder, unsigned_tied}
use Rattle.std.specs.Ordering.{nat_cmp, eq_by_cmp}
use Rattle.std.proofs.lemmas.Cmp.{then_total, on_total, nat_cmp_total}
use Rattle.std.proofs.lemmas.Map.Lookups.{exact_pairs, exact_unsigned}
use Rattle.lemmas.proofs.Orders.{is_eq-then}
use Rattle.br_model.specs.Data.Maps.{pair_cmp}

abbrev pub Key : Type 0
Key = ℕ × ℕ

pub pair_total : IsTotalOrder pair_cmp
pair_total = then_total (on_total (λ k. k.0) nat_cmp_total) (on_total (λ k. k.1) nat_cmp_total)

pub same_cmp : (x y : Key) → pair_cmp x y ≡ Equal → x ≡ y
same_cmp = exact_pairs nat_cmp nat_cmp exact_unsigned exact_unsigned

pub eq-pair : (v p w q : ℕ) → eq_by_cmp pair_cmp (v, p) (w, q) ≡ ((v == w) && (p == q))
eq-pair v p w q = is_eq-then (nat_cmp v w) (nat_cmp p q) ∙ ap₂ ◌&&◌ (unsigned_tied v w) (unsigned_tied p q)
