-- A bank of which one row is written.
use Rattle.std.proofs.Common.{◌≡◌, ℕ, ◌<◌, cond, List, length, get_or, set, sym, ap, ◌∙◌, ⊎_elim}
use Rattle.std.specs.Prelude.{◌==◌}
use Rattle.std.proofs.lemmas.Bool.{cases_eq, eq-eqb, ne_eqb}
use Rattle.std.proofs.lemmas.List.{get_or-set_same, get_or-set_other}

-- the row reads as written, and every other row as before
pub reads-set : {R : Type 0} (read : ℕ → R) (old new : List ℕ) (place place' row : ℕ) (r : R) → place ≡ place' → place < length old → new ≡ set old place row → read row ≡ r
    → (v : ℕ) → read (get_or new v 0) ≡ cond (v == place') r (read (get_or old v 0))
reads-set read old new place place' row r named within is reads v =
    ap (λ (xs : List ℕ). read (get_or xs v 0)) is
    ∙ ⊎_elim
    (λ (same : v ≡ place). ap (λ n. read (get_or (set old place row) n 0)) same ∙ ap read (get_or-set_same old place row 0 within) ∙ reads
    ∙ sym (ap (λ b. cond b r (read (get_or old v 0))) (eq-eqb v place' (same ∙ named))))
    (λ (other : v ≡ place → ⊥). ap read (get_or-set_other old place v row 0 other) ∙ sym (ap (λ b. cond b r (read (get_or old v 0))) (ne_eqb v place' (λ e. other (e ∙ sym named)))))
    (cases_eq v place)
