-- PVIDs that are kept in a list with a place for each port.
use Rattle.std.proofs.Common.{◌≡◌, ℕ, zero, suc, ◌+◌, ◌<◌, not, cond, List, [], ◌∷◌, set, Option, None, Some, refl, sym, ap, ◌∙◌, arith}
use Rattle.std.specs.Ordering.{nat_cmp}
use Rattle.lemmas.proofs.Orders.{eq_by_cmp-ne, eq_by_cmp-eq}
use Rattle.br_model.specs.Table.Domains.{entries_from}
use Rattle.br_model.specs.Data.Maps.{without}

keeps_all : (n q : ℕ) (places : List (Option ℕ)) → q < n → without nat_cmp (entries_from n places) q ≡ entries_from n places
keeps_all n q [] h = refl
keeps_all n q (None ∷ places) h = keeps_all (n + 1) q places (omega arith)
keeps_all n q (Some d ∷ places) h =
    ap (λ b. cond (not b) ((n, d) ∷ without nat_cmp (entries_from (n + 1) places) q) (without nat_cmp (entries_from (n + 1) places) q)) (eq_by_cmp-ne q n (λ e. omega arith))
    ∙ ap (λ (es : List (ℕ × ℕ)). (n, d) ∷ es) (keeps_all (n + 1) q places (omega arith))

-- no entry at the k-th place
pub entries-clear : (n k : ℕ) (places : List (Option ℕ)) → entries_from n (set places k None) ≡ without nat_cmp (entries_from n places) (n + k)
entries-clear n k [] = refl
entries-clear n zero (None ∷ places) = sym (keeps_all (n + 1) (n + 0) places (omega arith))
entries-clear n zero (Some d ∷ places) =
    sym (ap (λ b. cond (not b) ((n, d) ∷ without nat_cmp (entries_from (n + 1) places) (n + 0)) (without nat_cmp (entries_from (n + 1) places) (n + 0))) (eq_by_cmp-eq (n + 0) n (omega arith))
    ∙ keeps_all (n + 1) (n + 0) places (omega arith))
entries-clear n (suc k) (None ∷ places) =
    let e : n + suc k ≡ (n + 1) + k = omega arith in
    entries-clear (n + 1) k places ∙ ap (λ q. without nat_cmp (entries_from (n + 1) places) q) (sym e)
entries-clear n (suc k) (Some d ∷ places) =
    let e : n + suc k ≡ (n + 1) + k = omega arith in
    let rest : entries_from (n + 1) (set places k None) ≡ without nat_cmp (entries_from (n + 1) places) (n + suc k) =
    entries-clear (n + 1) k places ∙ ap (λ q. without nat_cmp (entries_from (n + 1) places) q) (sym e) in
    ap (λ (es : List (ℕ × ℕ)). (n, d) ∷ es) rest
    ∙ sym (ap (λ b. cond (not b) ((n, d) ∷ without nat_cmp (entries_from (n + 1) places) (n + suc k)) (without nat_cmp (entries_from (n + 1) places) (n + suc k)))
    (eq_by_cmp-ne (n + suc k) n (λ x. omega arith)))
