-- Rows where a value differs from the one before.
use Rattle.std.proofs.Common.{◌≡◌, ℕ, zero, suc, ◌+◌, ◌≤◌, ◌<◌, Bool, true, false, cond, List, [], ◌∷◌, map, Option, None, Some, refl, ap, ◌∙◌, arith, ⊎_elim}
use Rattle.std.proofs.lemmas.Bool.{cases_lt, le-leb, leb-true}
use Rattle.std.specs.Prelude.{nat_le, ◌||◌}
use Rattle.std.specs.Option.{option_map_or}
use Rattle.std.specs.List.{AllByRecursion, filter, last_or, list_any}
use Rattle.timings.specs.Meanwhile.{value_at}
use Rattle.timings.specs.Rows.{new_behind, where_new}

not-reached : (k n : ℕ) → n < k → nat_le k n ≡ false
not-reached k n less =
    (elim (nat_le k n) as (λ b. nat_le k n ≡ b → b ≡ false) [
      | true ↦ λ e. absurd (omega (arith, less, leb-true k n e))
      | false ↦ λ e. refl
    ]) refl

module _ {A : Type 0} (same : A → A → Bool) (is : (a b : A) → same a b ≡ true → a ≡ b) (f : ℕ → A) where
  -- the values of the rows up to a number
  abbrev upto : ℕ → List (ℕ × A) → List A
  upto n rows = map (λ r. r.1) (filter (λ r. nat_le r.0 n) rows)

  later-rows : (n : ℕ) (last : A) (k more : ℕ) → n < k → upto n (new_behind same f last k more) ≡ []
  later-rows n last k zero less = refl
  later-rows n last k (suc more) less =
      elim (same last (f k)) as (λ b. upto n (cond b (new_behind same f last (suc k) more) ((k, f k) ∷ new_behind same f (f k) (suc k) more)) ≡ []) [
        | true ↦ later-rows n last (suc k) more (omega (arith, less))
        | false ↦
            ap (λ b. map (λ (r : ℕ × A). r.1) (cond b ((k, f k) ∷ filter (λ r. nat_le r.0 n) (new_behind same f (f k) (suc k) more)) (filter (λ r. nat_le r.0 n) (new_behind same f (f k) (suc k) more))))
            (not-reached k n less)
            ∙ later-rows n (f k) (suc k) more (omega (arith, less))
      ]

  value-behind : (n : ℕ) (last : A) (k more : ℕ) → n < k + more → k ≤ n + 1 → (n < k → last ≡ f n) → last_or (Some last) (upto n (new_behind same f last k more)) ≡ Some (f n)
  value-behind n last k zero most near held = ap (λ a. Some a) (held (omega (arith, most)))
  value-behind n last k (suc more) most near held =
      ⊎_elim
      (λ (less : n < k). ap (λ l. last_or (Some last) l) (later-rows n last k (suc more) less) ∙ ap (λ a. Some a) (held less))
      (λ (le : k ≤ n). (elim (same last (f k)) as (λ b. same last (f k) ≡ b
      → last_or (Some last) (upto n (cond b (new_behind same f last (suc k) more) ((k, f k) ∷ new_behind same f (f k) (suc k) more))) ≡ Some (f n)) [
        | true ↦ λ e. value-behind n last (suc k) more (omega (arith, most)) (omega (arith, le))
            (λ less. let at : k ≡ n = omega (arith, le, less) in is last (f k) e ∙ ap f at)
        | false ↦ λ e.
            ap (λ b. last_or (Some last) (map (λ (r : ℕ × A). r.1) (cond b ((k, f k) ∷ filter (λ r. nat_le r.0 n) (new_behind same f (f k) (suc k) more)) (filter (λ r. nat_le r.0 n) (new_behind same f (f k) (suc k) more)))))
            (le-leb k n le)
            ∙ value-behind n (f k) (suc k) more (omega (arith, most)) (omega (arith, le)) (λ less. let at : k ≡ n = omega (arith, le, less) in ap f at)
      ]) refl)
      (cases_lt n k)

  -- the row for a number has its value
  pub value-where : (k more n : ℕ) → k ≤ n → n ≤ k + more → value_at (where_new same f k more) n ≡ Some (f n)
  value-where k more n low high =
      let later = new_behind same f (f k) (suc k) more in
      ap (λ b. last_or None (map (λ (r : ℕ × A). r.1) (cond b ((k, f k) ∷ filter (λ r. nat_le r.0 n) later) (filter (λ r. nat_le r.0 n) later)))) (le-leb k n low)
      ∙ value-behind n (f k) (suc k) more (omega (arith, high)) (omega (arith, low)) (λ less. let at : k ≡ n = omega (arith, low, less) in ap f at)

  -- Each row has the value of its number, which is one of those.
  abbrev IsValue : ℕ → ℕ → ℕ × A → Type 0
  IsValue low high r = (low ≤ r.0) × (r.0 ≤ high) × (r.1 ≡ f r.0)

  behind-values : (low high : ℕ) (last : A) (k more : ℕ) → low ≤ k → k + more ≤ high + 1 → AllByRecursion (IsValue low high) (new_behind same f last k more)
  behind-values low high last k zero le most = tt
  behind-values low high last k (suc more) le most =
      elim (same last (f k)) as (λ b. AllByRecursion (IsValue low high) (cond b (new_behind same f last (suc k) more) ((k, f k) ∷ new_behind same f (f k) (suc k) more))) [
        | true ↦ behind-values low high last (suc k) more (omega (arith, le)) (omega (arith, most))
        | false ↦ ((le, omega (arith, most), refl), behind-values low high (f k) (suc k) more (omega (arith, le)) (omega (arith, most)))
      ]

  pub where-values : (k more : ℕ) → AllByRecursion (IsValue k (k + more)) (where_new same f k more)
  where-values k more = ((omega arith, omega arith, refl), behind-values k (k + more) (f k) (suc k) more (omega arith) (omega arith))

-- A value that the rows say of a number is in one of them.

or-skip : (b c d : Bool) → (b || d) ≡ true → (b || (c || d)) ≡ true
or-skip true c d e = refl
or-skip false true d e = refl
or-skip false false d e = e

or-add : (b d : Bool) → d ≡ true → (b || d) ≡ true
or-add true d e = refl
or-add false d e = e

module _ {A : Type 0} (q : A → Bool) (n : ℕ) (a : A) (passes : q a ≡ true) where
  among-from : (rows : List (ℕ × A)) (o : Option A) → last_or o (map (λ r. r.1) (filter (λ r. nat_le r.0 n) rows)) ≡ Some a
      → (option_map_or q o false || list_any (λ r. q r.1) rows) ≡ true
  among-from [] o e = ap (λ p. option_map_or q p false || false) e ∙ ap (λ b. b || false) passes
  among-from (r ∷ rows) o e =
      (elim (nat_le r.0 n) as (λ b. last_or o (map (λ (r : ℕ × A). r.1) (cond b (r ∷ filter (λ r. nat_le r.0 n) rows) (filter (λ r. nat_le r.0 n) rows))) ≡ Some a
      → (option_map_or q o false || (q r.1 || list_any (λ r. q r.1) rows)) ≡ true) [
        | true ↦ λ f. or-add (option_map_or q o false) (q r.1 || list_any (λ r. q r.1) rows) (among-from rows (Some r.1) f)
        | false ↦ λ f. or-skip (option_map_or q o false) (q r.1) (list_any (λ r. q r.1) rows) (among-from rows o f)
      ]) e

  pub value-among : (rows : List (ℕ × A)) → value_at rows n ≡ Some a → list_any (λ r. q r.1) rows ≡ true
  value-among rows e = among-from rows None e
