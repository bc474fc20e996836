-- Banks whose last rows were never written to.
use Rattle.std.proofs.Common.{◌≡◌, ℕ, ◌<◌, ◌≤◌, List, length, get_or, set, sym, ap, ◌∙◌}
use Rattle.std.proofs.lemmas.List.{get_or_default, get_or_past}
use Rattle.lists.specs.Padded.{padded}
use Rattle.lists.proofs.Filling.{padded-at, padded-set}

-- a row that was written to
pub row-written : (n : ℕ) (rows all : List ℕ) (i row : ℕ) → padded 0 n rows ≡ all → i < n → i < length rows → row ≡ get_or rows i row → row ≡ get_or all i 0
row-written n rows all i row is below within read =
    read ∙ get_or_default rows i row 0 within ∙ sym (padded-at 0 n rows i below) ∙ ap (λ (xs : List ℕ). get_or xs i 0) is

-- one that wasn't
pub row-blank : (n : ℕ) (rows all : List ℕ) (i row : ℕ) → padded 0 n rows ≡ all → i < n → length rows ≤ i → row ≡ 0 → row ≡ get_or all i 0
row-blank n rows all i row is below past blank =
    blank ∙ sym (get_or_past rows i 0 past) ∙ sym (padded-at 0 n rows i below) ∙ ap (λ (xs : List ℕ). get_or xs i 0) is

-- a row that was written to is written again
pub row-put : (n : ℕ) (rows all : List ℕ) (i row : ℕ) → padded 0 n rows ≡ all → i < length rows → padded 0 n (set rows i row) ≡ set all i row
row-put n rows all i row is within = padded-set 0 n rows i row within ∙ ap (λ (xs : List ℕ). set xs i row) is
