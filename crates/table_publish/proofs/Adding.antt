-- The exchange that adds a batch keeps the rule of the book.
use Rattle.std.proofs.Common.{◌≡◌, ℕ, ◌+◌, ◌<◌, ◌==◌, Bool, true, false, List, [], ◌∷◌, ◌++◌, length, refl, ap, sym, subst, arith, inl, length-append, None}
use Rattle.std.proofs.lemmas.List.{append-nil}
use Rattle.std.proofs.lemmas.Bool.Decides.{nat_tests}
use mathlib.Core.List.{IsPrefix}
use prog.Atomic.{either}
use Rattle.logbook.specs.Pages.{Cell, cell, keeps, no_nib, step, Moves, Goes}
use Rattle.br_model.specs.declared.change.Change.{Change}
use Rattle.table_publish.specs.Object.{AllFull}
use Rattle.table_publish.specs.Law.{IsKept, Adds}
use Rattle.table_publish.proofs.Objects.{prefix_whole, full_push}

abbrev pub shown : List (List Change) → List (List Change)
shown log = []

abbrev pub moved : List (List Change) → List (List Change) → ℕ → Type 0
moved xs ys n = Unit {0}

pub adds_goes : (log v : List (List Change)) (b : List Change) (old : ℕ) → length v ≡ old → 0 < length b → AllFull log → IsPrefix v log
    → (t : Bool) → (length log == old) ≡ t
    → Goes IsKept shown moved 0 (v, (no_nib, None)) (λ n. either (n == old) (old + 1) n) (Adds (step 0 old (old + 1) b) (v, (no_nib, None))) ((length log, true) ∷ (0, true) ∷ []) log
adds_goes log v b old len some full pre true is =
    let here : length log ≡ old = grind (arith, nat_tests) in
    let same : v ≡ log = prefix_whole v log pre (omega arith) in
    let n : either (length log == old) (old + 1) (length log) ≡ length (log ++ b ∷ []) = rw is (omega (arith, length-append log (b ∷ []))) in (
      keeps,
      b ∷ [],
      None,
      tt,
      record { words = ap (λ (k : ℕ). (k, true) ∷ (0, true) ∷ []) n; full = full_push log b full some },
      inl (refl, refl),
      rw is (ap (λ w. w ++ b ∷ []) (sym same)),
    )
adds_goes log v b old len some full pre false is =
    let all : log ++ [] ≡ log = append-nil log in
    let n : either (length log == old) (old + 1) (length log) ≡ length (log ++ []) = rw is (ap length (sym all)) in (
      keeps,
      [],
      None,
      tt,
      record { words = ap (λ (k : ℕ). (k, true) ∷ (0, true) ∷ []) n; full = subst AllFull (sym all) full },
      inl (refl, refl),
      rw is tt,
    )

-- whatever the book is, the exchange adds the batch to all that was seen, or finds another number
pub adds_moves : (v : List (List Change)) (b : List Change) (old : ℕ) → length v ≡ old → 0 < length b
    → Moves IsKept shown moved 0 (v, (no_nib, None)) (λ n. either (n == old) (old + 1) n) (Adds (step 0 old (old + 1) b) (v, (no_nib, None)))
adds_moves v b old len some cs log kept pre away =
    let P : List Cell
    → Type 0 = λ c. (0 < length c) × ((cell c 0).1 ≡ true) × Goes IsKept shown moved 0 (v, (no_nib, None)) (λ n. either (n == old) (old + 1) n)
    (Adds (step 0 old (old + 1) b) (v, (no_nib, None))) c log in
    subst P (sym kept.words) (omega arith, refl, adds_goes log v b old len some kept.full pre (length log == old) refl)
