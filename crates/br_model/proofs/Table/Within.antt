-- Changes that fit one after the other fit each the table of those before it, and what they keep holds of each front.
use Rattle.std.proofs.Common.{◌≡◌, ℕ, zero, suc, ◌<◌, ◌≤◌, true, List, [], ◌∷◌, length, get_or, take, arith, sym, ap, ◌∙◌, subst, add-one, ⊎_elim}
use Rattle.std.specs.List.{fold}
use Rattle.std.specs.Cmp.{first_so, second_so}
use Rattle.std.proofs.lemmas.Bool.{cases_lt}
use Rattle.std.proofs.lemmas.List.{take_more, take_all}
use Rattle.std.proofs.lemmas.List.Sums.{fold_push}
use Rattle.br_model.specs.declared.change.Change.{Change}
use Rattle.br_model.specs.declared.change.Change.TheVariants.{Snoop}
use Rattle.br_model.specs.Table.Limits.{fits, all_fit, most_changes, AreWithin}
use Rattle.br_model.specs.Table.Table.{Table, apply, start, table}

pub fits_at : (t : Table) (cs : List Change) (i : ℕ) (d : Change) → all_fit t cs ≡ true → i < length cs → fits (fold apply t (take i cs)) (get_or cs i d) ≡ true
fits_at t [] i d h less = absurd (omega arith)
fits_at t (c ∷ cs) zero d h less = first_so (fits t c) (all_fit (apply t c) cs) h
fits_at t (c ∷ cs) (suc i) d h less = fits_at (apply t c) cs i d (second_so (fits t c) (all_fit (apply t c) cs) h) (omega arith)

pub within_of : (cs : List Change) → length cs ≤ most_changes → all_fit start cs ≡ true → AreWithin cs
within_of cs few h = record { few = few; fit = λ i d less. fits_at start cs i d h less }

-- what holds of the start and stays where a change fits holds of each front
pub front_keeps : (P : Table → Type 0) → P start → ((t : Table) (c : Change) → P t → fits t c ≡ true → P (apply t c)) → (H : List Change) → AreWithin H → (n : ℕ) → P (table (take n H))
front_keeps P first stays H is zero = first
front_keeps P first stays H is (suc n) =
    ⊎_elim
    (λ (h : n < length H).
    subst (λ (cs : List Change). P (table cs)) (sym (take_more H n (Snoop true) h) ∙ ap (λ m. take m H) (add-one n))
    (subst P (sym (fold_push apply start (take n H) (get_or H n (Snoop true))))
    (stays (table (take n H)) (get_or H n (Snoop true)) (front_keeps P first stays H is n) (is.fit n (Snoop true) h))))
    (λ (h : length H ≤ n).
    subst (λ (cs : List Change). P (table cs)) (take_all n H h ∙ sym (take_all (suc n) H (omega (arith, h)))) (front_keeps P first stays H is n))
    (cases_lt n (length H))
