-- Published lists and their counts that begin one list.
use Rattle.std.proofs.Common.{◌≡◌, ℕ, ◌≤◌, true, false, List, [], ◌∷◌, ◌++◌, length, take, None, Some, refl, sym, ap, ◌∙◌, subst, arith}
use Rattle.std.proofs.lemmas.Bool.{or_left}
use Rattle.std.proofs.lemmas.List.{take-append-le}
use Rattle.std.proofs.lemmas.List.Folds.{list_any-append}
use Rattle.std.specs.Prelude.{◌||◌}
use Rattle.std.specs.List.{AllByRecursion, last_or}
use Rattle.std.specs.List.Sorted.{IsStrictlySortedBy}
use Rattle.std.specs.Ordering.{nat_cmp, eq_by_cmp}
use Rattle.std.specs.declared.cmp.Ordering.TheVariants.{Less}
use Rattle.lemmas.proofs.Orders.{lt_from_nat_cmp, eq_by_cmp-true}
use Rattle.br_model.specs.Data.Maps.{has}
use Rattle.br_model.proofs.Data.Lists.{has-up-to}
use mathlib.Core.List.{IsPrefix}

-- those behind the last one of a beginning are above it
above-from : (d e : ℕ) (ns rs : List ℕ) → AllByRecursion (λ y. nat_cmp d y ≡ Less) (ns ++ rs) → IsStrictlySortedBy nat_cmp (ns ++ rs) → last_or (Some d) ns ≡ Some e
    → AllByRecursion (λ y. nat_cmp e y ≡ Less) rs
unfolding IsStrictlySortedBy
above-from d e [] rs all s last = let is : d ≡ e = cc in subst (λ (k : ℕ). AllByRecursion (λ y. nat_cmp k y ≡ Less) rs) is all
above-from d e (n ∷ ns) rs all s last = above-from n e ns rs s.0 s.1 last

above : (e : ℕ) (ns rs : List ℕ) → IsStrictlySortedBy nat_cmp (ns ++ rs) → last_or None ns ≡ Some e → AllByRecursion (λ y. nat_cmp e y ≡ Less) rs
unfolding IsStrictlySortedBy
above e [] rs s last = absurd (cc)
above e (n ∷ ns) rs s last = above-from n e ns rs s.0 s.1 last

-- whatever is there, is so
each : (P : ℕ → Type 0) (c : ℕ) (xs : List ℕ) → AllByRecursion P xs → has nat_cmp xs c ≡ true → P c
each P c [] all e = absurd (cc)
each P c (x ∷ xs) all e =
    (elim (eq_by_cmp nat_cmp c x) as (λ b. eq_by_cmp nat_cmp c x ≡ b → (b || has nat_cmp xs c) ≡ true → P c) [
      | true ↦ λ same f. subst P (sym (eq_by_cmp-true c x same)) all.0
      | false ↦ λ other f. each P c xs all.1 f
    ]) refl e

less : (e c : ℕ) → nat_cmp e c ≡ Less → c ≤ e → ⊥
less e c h le = omega (arith, lt_from_nat_cmp e c h, le)

-- Each count of the one list that is at most the length of the other is a count of the other, and the first changes are the same.
pub one-list : {A : Type 0} (k m n : List A) (ks ms ns : List ℕ) → IsStrictlySortedBy nat_cmp ks → AllByRecursion (λ y. y ≤ length m) ms → last_or None ns ≡ Some (length n)
    → IsPrefix m k → IsPrefix n k → IsPrefix ms ks → IsPrefix ns ks → (c : ℕ) → has nat_cmp ms c ≡ true → c ≤ length n → (has nat_cmp ns c ≡ true) × (take c m ≡ take c n)
one-list k m n ks ms ns sorted within last mk nk mks nks c there le =
    let few : c ≤ length m = has-up-to c (length m) ms within there in
    let in_all : has nat_cmp ks c ≡ true = subst (λ (l : List ℕ). has nat_cmp l c ≡ true) mks.1 (list_any-append (eq_by_cmp nat_cmp c) ms mks.0 ∙ or_left (has nat_cmp ms c) _ there) in
    let in_parts : (has nat_cmp ns c || has nat_cmp nks.0 c) ≡ true = sym (list_any-append (eq_by_cmp nat_cmp c) ns nks.0) ∙ ap (λ (l : List ℕ). has nat_cmp l c) nks.1 ∙ in_all in
    let beyond = above (length n) ns nks.0 (subst (λ (l : List ℕ). IsStrictlySortedBy nat_cmp l) (sym nks.1) sorted) last in
    let same : take c m ≡ take c n = sym (take-append-le c m mk.0 few) ∙ (ap (take c) (mk.1 ∙ sym nk.1) ∙ take-append-le c n nk.0 le) in (
      (elim (has nat_cmp ns c) as (λ b. (b || has nat_cmp nks.0 c) ≡ true → b ≡ true) [
        | true ↦ λ h. refl
        | false ↦ λ h. absurd (less (length n) c (each (λ y. nat_cmp (length n) y ≡ Less) c nks.0 beyond h) le)
      ]) in_parts,
      same,
    )
