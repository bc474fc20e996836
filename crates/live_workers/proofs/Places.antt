-- Lists by their places.
use Rattle.std.proofs.Common.{◌≡◌, ℕ, ◌<◌, ◌≤◌, ◌+◌, ◌==◌, Bool, true, List, [], ◌∷◌, ◌++◌, map, length, drop, take, get_or, sym, ap, ap₂, ◌∙◌, append-nil}
use Rattle.std.proofs.Math.ListN.{drop_of_length-le}
use Rattle.std.proofs.lemmas.Bool.{eq-eqb}
use Rattle.std.proofs.lemmas.List.{map-append, take_more}
use Rattle.std.proofs.lemmas.List.Folds.{list_any_at}
use Rattle.std.specs.List.{filter, list_any}
use Rattle.br_model.specs.Table.Domains.{Domains, chip_domains, has_chip}

-- the domain at a place among those that have a chip
pub chip_of_place : (domains : Domains) (chips : List ℕ) (i dom : ℕ) → chips ≡ chip_domains domains → i < length chips → dom ≡ get_or chips i dom → has_chip domains dom ≡ true
chip_of_place domains chips i dom are there is =
    ap (list_any (λ d. d == dom)) (sym are) ∙ list_any_at (λ d. d == dom) chips i dom there (eq-eqb (get_or chips i dom) dom (sym is))

-- one more of a list of which each element has the next number
pub one_queued : {A : Type 0} (f : A → ℕ) (xs : List A) (x : A) (ds : List ℕ) (i d : ℕ) → i < length ds → d ≡ get_or ds i d → map f xs ≡ take i ds → f x ≡ d → map f (xs ++ x ∷ []) ≡ take (i + 1) ds
one_queued f xs x ds i d there is before same =
    map-append f xs (x ∷ []) ∙ (ap₂ (λ (l : List ℕ) n. l ++ n ∷ []) before (same ∙ is) ∙ sym (take_more ds i d there))

-- all were gone through: those found so far are all that there are
pub all_found : (p : ℕ → Bool) (ds found : List ℕ) (i : ℕ) → length ds ≤ i → found ++ filter p (drop i ds) ≡ filter p ds → found ≡ filter p ds
all_found p ds found i end before =
    sym (append-nil found) ∙ (ap (λ l. found ++ filter p l) (sym (drop_of_length-le ds end)) ∙ before)
