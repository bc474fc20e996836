-- The places of deferred changes, and which change a ticket names.
use Rattle.std.proofs.Common.{◌≡◌, ℕ, zero, suc, ◌+◌, ◌<◌, ◌≤◌, Bool, true, false, cond, Option, None, Some, option_map}
use Rattle.std.proofs.Common.{List, [], ◌∷◌, ◌++◌, length, take, get_or, slice_get, filter, refl, sym, ap, ◌∙◌, add-one, arith}
use Rattle.br_model.specs.declared.change.Change.{Change}
use Rattle.br_model.specs.declared.domains.Edition.{Edition}
use Rattle.br_model.specs.Table.Change.{deferred, updates}
use Rattle.br_model.specs.Table.Cut.{deferred_count, under_ticket}
use Rattle.br_model.proofs.Table.Cuts.{updates-at}
use Rattle.plane_parts.specs.Places.{places_from, places}

module _ (edition : Edition) where
  -- not more than there are changes
  few_from : (n : ℕ) (cs : List Change) → length (places_from edition n cs) ≤ length cs
  few_from n [] = grind arith
  few_from n (c ∷ cs) = let rest : length (places_from edition (n + 1) cs) ≤ length cs = few_from (n + 1) cs in
      elim (deferred edition c) as (λ b. length (cond b (n ∷ places_from edition (n + 1) cs) (places_from edition (n + 1) cs)) ≤ length (c ∷ cs)) [
        | true ↦ grind arith
        | false ↦ grind arith
      ]

  -- one change more
  more_from : (n : ℕ) (cs : List Change) (i : ℕ) (d : Change) → i < length cs
      → places_from edition n (take (suc i) cs) ≡ cond (deferred edition (get_or cs i d)) (places_from edition n (take i cs) ++ (n + i) ∷ []) (places_from edition n (take i cs))
  more_from n [] i d h = absurd (omega arith)
  more_from n (c ∷ cs) zero d h = elim (deferred edition c) as (λ b. cond b (n ∷ []) [] ≡ cond b ((n + 0) ∷ []) []) [
    | true ↦ ap (λ m. m ∷ []) (grind arith)
    | false ↦ refl
  ]
  more_from n (c ∷ cs) (suc i) d h =
      let rest : places_from edition (n + 1) (take (suc i) cs) ≡ cond (deferred edition (get_or cs i d)) (places_from edition (n + 1) (take i cs) ++ (n + suc i) ∷ [])
      (places_from edition (n + 1) (take i cs)) =
      more_from (n + 1) cs i d (omega arith)
      ∙ ap (λ m. cond (deferred edition (get_or cs i d)) (places_from edition (n + 1) (take i cs) ++ m ∷ []) (places_from edition (n + 1) (take i cs))) (grind arith) in
      elim (deferred edition c) as (λ b. cond b (n ∷ places_from edition (n + 1) (take (suc i) cs)) (places_from edition (n + 1) (take (suc i) cs))
      ≡ cond (deferred edition (get_or cs i d)) (cond b (n ∷ places_from edition (n + 1) (take i cs)) (places_from edition (n + 1) (take i cs)) ++ (n + suc i) ∷ [])
      (cond b (n ∷ places_from edition (n + 1) (take i cs)) (places_from edition (n + 1) (take i cs)))) [
        | true ↦ ap (λ ms. n ∷ ms) rest ∙ inside (deferred edition (get_or cs i d)) n (places_from edition (n + 1) (take i cs)) (n + suc i)
        | false ↦ rest
      ]
    where
      inside : (b : Bool) (m : ℕ) (ms : List ℕ) (x : ℕ) → m ∷ cond b (ms ++ x ∷ []) ms ≡ cond b (m ∷ ms ++ x ∷ []) (m ∷ ms)
      inside true m ms x = refl
      inside false m ms x = refl

  pub more : (h : List Change) (i : ℕ) (d : Change) → i < length h
      → places edition (take (i + 1) h) ≡ cond (deferred edition (get_or h i d)) (places edition (take i h) ++ i ∷ []) (places edition (take i h))
  more h i d within = ap (λ k. places edition (take k h)) (add-one i) ∙ more_from 0 h i d within
      ∙ ap (λ k. cond (deferred edition (get_or h i d)) (places edition (take i h) ++ k ∷ []) (places edition (take i h))) (grind arith)

  -- a deferred change stands at the place, from place n on
  abbrev At : ℕ → List Change → ℕ → Option Change → Type 0
  At n cs p found = (j : ℕ) × (p ≡ n + j) × (j < length cs) × (found ≡ slice_get cs j)

  later : (n : ℕ) (c : Change) (cs : List Change) (p : ℕ) (o : Option Change) → At (n + 1) cs p o → At n (c ∷ cs) p o
  later n c cs p o r = (suc r.0, r.1 ∙ grind arith, omega (arith, r.2), r.3)

  first_there : (n : ℕ) (c : Change) (cs : List Change) (p k : ℕ) → ((i : ℕ) → slice_get (places_from edition (n + 1) cs) i ≡ Some p → At (n + 1) cs p (slice_get (filter (deferred edition) cs) i))
      → slice_get (n ∷ places_from edition (n + 1) cs) k ≡ Some p → At n (c ∷ cs) p (slice_get (c ∷ filter (deferred edition) cs) k)
  first_there n c cs p zero rest e = (zero, grind arith, omega arith, refl)
  first_there n c cs p (suc i) rest e = later n c cs p _ (rest i e)

  -- where a place is, the change that is there has that ticket
  there_from : (n : ℕ) (cs : List Change) (k p : ℕ) → slice_get (places_from edition n cs) k ≡ Some p → At n cs p (slice_get (filter (deferred edition) cs) k)
  there_from n [] k p = λ e. absurd (cc)
  there_from n (c ∷ cs) k p = elim (deferred edition c) as (λ b. slice_get (cond b (n ∷ places_from edition (n + 1) cs) (places_from edition (n + 1) cs)) k ≡ Some p
      → At n (c ∷ cs) p (slice_get (cond b (c ∷ filter (deferred edition) cs) (filter (deferred edition) cs)) k)) [
        | true ↦ first_there n c cs p k (λ i. there_from (n + 1) cs i p)
        | false ↦ λ e. later n c cs p _ (there_from (n + 1) cs k p e)
      ]

  first_none : (n : ℕ) (c : Change) (cs : List Change) (k : ℕ) → ((i : ℕ) → slice_get (places_from edition (n + 1) cs) i ≡ None → slice_get (filter (deferred edition) cs) i ≡ None)
      → slice_get (n ∷ places_from edition (n + 1) cs) k ≡ None → slice_get (c ∷ filter (deferred edition) cs) k ≡ None
  first_none n c cs zero rest e = absurd (cc)
  first_none n c cs (suc i) rest e = rest i e

  none_from : (n : ℕ) (cs : List Change) (k : ℕ) → slice_get (places_from edition n cs) k ≡ None → slice_get (filter (deferred edition) cs) k ≡ None
  none_from n [] k = λ e. refl
  none_from n (c ∷ cs) k =
      elim (deferred edition c) as (λ b. slice_get (cond b (n ∷ places_from edition (n + 1) cs) (places_from edition (n + 1) cs)) k ≡ None
      → slice_get (cond b (c ∷ filter (deferred edition) cs) (filter (deferred edition) cs)) k ≡ None) [
        | true ↦ first_none n c cs k (none_from (n + 1) cs)
        | false ↦ none_from (n + 1) cs k
      ]

  pub there : (h : List Change) (k p : ℕ) → slice_get (places edition h) k ≡ Some p → (p < length h) × (slice_get (updates edition h) k ≡ option_map (under_ticket k) (slice_get h p))
  there h k p e = let r = there_from 0 h k p e in let at : p ≡ r.0 = r.1 ∙ grind arith in
      (omega (arith, r.2), updates-at edition h k ∙ ap (option_map (under_ticket k)) (r.3 ∙ ap (slice_get h) (sym at)))

  pub none : (h : List Change) (k : ℕ) → slice_get (places edition h) k ≡ None → slice_get (updates edition h) k ≡ None
  none h k e = updates-at edition h k ∙ ap (option_map (under_ticket k)) (none_from 0 h k e)

  count_from : (n : ℕ) (cs : List Change) → length (places_from edition n cs) ≡ deferred_count edition cs
  count_from n [] = refl
  count_from n (c ∷ cs) =
      elim (deferred edition c) as
      (λ b. length (cond b (n ∷ places_from edition (n + 1) cs) (places_from edition (n + 1) cs)) ≡ length (cond b (c ∷ filter (deferred edition) cs) (filter (deferred edition) cs))) [
        | true ↦ ap suc (count_from (n + 1) cs)
        | false ↦ count_from (n + 1) cs
      ]

  -- there is a place for each deferred change
  pub count : (h : List Change) → length (places edition h) ≡ deferred_count edition h
  count h = count_from 0 h

  pub few : (h : List Change) → length (places edition h) ≤ length h
  few h = few_from 0 h
