-- What a chip has applied stands for the cut, after each event.
use Rattle.std.proofs.Common.{◌≡◌, ℕ, zero, suc, ◌+◌, ◌<◌, ◌≤◌, Bool, true, false, not, cond, List, [], ◌∷◌, ◌++◌}
use Rattle.std.proofs.Common.{length, take, drop, Option, None, Some, refl, sym, ap, ◌∙◌, arith, length-append, add-one, subst, ⊎_elim}
use Rattle.std.proofs.lemmas.List.{append-nil, take_more, take_all, take-append-le, drop-append-le, length-drop}
use Rattle.std.proofs.lemmas.Bool.{cases_lt}
use Rattle.std.proofs.lemmas.List.Elements.{filter-append}
use Rattle.std.proofs.lemmas.List.Sums.{fold-append, fold_push}
use Rattle.std.proofs.lemmas.Option.{slice_get_within, slice_get_past, get_or_from_slice_get}
use Rattle.std.specs.List.{fold, slice_get}
use Rattle.br_model.specs.declared.change.Change.{Change}
use Rattle.br_model.specs.declared.domains.Edition.{Edition}
use Rattle.br_model.specs.Theorems.Applying.{Event, Accept, Turn, Applying, nothing_applied, turned, happens, applying}
use Rattle.br_model.specs.Table.Change.{deferred}
use Rattle.br_model.specs.Table.Cut.{deferred_of, synchronous_of, deferred_count, deferred_at, cut}
use Rattle.br_model.specs.Table.Table.{start, apply, table}
use Rattle.br_model.proofs.Table.Cuts.{cut-accepted, cut-turn, deferred_at-deferred}

pub take-next : (cs : List Change) (k : ℕ) (d : Change) → slice_get cs k ≡ Some d → take (k + 1) cs ≡ take k cs ++ d ∷ []
take-next cs k d e = take_more cs k d (slice_get_within cs k d e) ∙ ap (λ x. take k cs ++ x ∷ []) (get_or_from_slice_get cs k d d e)

dropped : (cs : List Change) (k : ℕ) (d : Change) (rest : List Change) → drop k cs ≡ d ∷ rest → (slice_get cs k ≡ Some d) × (drop (suc k) cs ≡ rest)
dropped [] zero d rest h = absurd (cc)
dropped [] (suc k) d rest h = absurd (cc)
dropped (c ∷ cs) zero d rest h = (ap (λ l. slice_get l 0) h, ap (λ l. drop 1 l) h)
dropped (c ∷ cs) (suc k) d rest h = dropped cs k d rest h

pub fronts-accepted : (P : List Change → Type 0) (H : List Change) (c : Change) → ((n : ℕ) → P (take n H)) → P (H ++ c ∷ []) → (n : ℕ) → P (take n (H ++ c ∷ []))
fronts-accepted P H c each last n =
    ⊎_elim
    (λ (h : length H < n). subst P (sym (take_all n (H ++ c ∷ []) (omega (arith, h, length-append H (c ∷ []))))) last)
    (λ (h : n ≤ length H). subst P (sym (take-append-le n H (c ∷ []) h)) (each n))
    (cases_lt (length H) n)

module _ (edition : Edition) where
  pub deferred_count-append : (H cs : List Change) → deferred_count edition (H ++ cs) ≡ deferred_count edition H + deferred_count edition cs
  deferred_count-append H cs = ap length (filter-append (deferred edition) H cs) ∙ length-append (deferred_of edition H) (deferred_of edition cs)

  pub after_accept : (H A cs : List Change) (k : ℕ) → k ≤ deferred_count edition H → table A ≡ table (cut edition H k)
      → (k ≤ deferred_count edition (H ++ cs)) × (table (A ++ synchronous_of edition cs) ≡ table (cut edition (H ++ cs) k))
  after_accept H A cs k n h = (
    omega (arith, n, deferred_count-append H cs),
    fold-append apply start A (synchronous_of edition cs)
        ∙ ap (λ t. fold apply t (synchronous_of edition cs)) h
        ∙ sym (fold-append apply start (cut edition H k) (synchronous_of edition cs))
        ∙ ap table (sym (cut-accepted edition H cs k n)),
  )

  pub after_turn : (H A : List Change) (k : ℕ) (d : Change) → deferred_at edition H k ≡ Some d → table A ≡ table (cut edition H k)
      → (k + 1 ≤ deferred_count edition H) × (table (A ++ d ∷ []) ≡ table (cut edition H (k + 1)))
  after_turn H A k d e h = (
    omega (arith, slice_get_within (deferred_of edition H) k d e),
    fold_push apply start A d ∙ ap (λ t. apply t d) h ∙ sym (cut-turn edition H k d e),
  )

  abbrev is_synchronous : Change → Bool
  is_synchronous c = not (deferred edition c)

  -- The chip applies each change once, and each kind in order.

  none-deferred : (cs : List Change) → deferred_of edition (synchronous_of edition cs) ≡ []
  none-deferred [] = refl
  none-deferred (c ∷ cs) =
      elim (deferred edition c) as (λ b. deferred edition c ≡ b → deferred_of edition (cond (not b) (c ∷ synchronous_of edition cs) (synchronous_of edition cs)) ≡ []) [
        | true ↦ λ e. none-deferred cs
        | false ↦ λ e. ap (λ b. cond b (c ∷ deferred_of edition (synchronous_of edition cs)) (deferred_of edition (synchronous_of edition cs))) e ∙ none-deferred cs
      ] refl

  twice-synchronous : (cs : List Change) → synchronous_of edition (synchronous_of edition cs) ≡ synchronous_of edition cs
  twice-synchronous [] = refl
  twice-synchronous (c ∷ cs) =
      elim (deferred edition c) as (λ b. deferred edition c ≡ b
      → synchronous_of edition (cond (not b) (c ∷ synchronous_of edition cs) (synchronous_of edition cs)) ≡ cond (not b) (c ∷ synchronous_of edition cs) (synchronous_of edition cs)) [
        | true ↦ λ e. twice-synchronous cs
        | false ↦ λ e. ap (λ b. cond (not b) (c ∷ synchronous_of edition (synchronous_of edition cs)) (synchronous_of edition (synchronous_of edition cs))) e ∙ ap (λ l. c ∷ l) (twice-synchronous cs)
      ] refl

  pub once_after_accept : (H A cs : List Change) (k : ℕ) → k ≤ deferred_count edition H → synchronous_of edition A ≡ synchronous_of edition H → deferred_of edition A ≡ take k (deferred_of edition H)
      → (synchronous_of edition (A ++ synchronous_of edition cs) ≡ synchronous_of edition (H ++ cs)) × (deferred_of edition (A ++ synchronous_of edition cs) ≡ take k (deferred_of edition (H ++ cs)))
  once_after_accept H A cs k n s d = (
    filter-append is_synchronous A (synchronous_of edition cs)
        ∙ ap (λ (l : List Change). l ++ synchronous_of edition (synchronous_of edition cs)) s
        ∙ ap (λ (l : List Change). synchronous_of edition H ++ l) (twice-synchronous cs)
        ∙ sym (filter-append is_synchronous H cs),
    filter-append (deferred edition) A (synchronous_of edition cs)
        ∙ ap (λ (l : List Change). deferred_of edition A ++ l) (none-deferred cs)
        ∙ append-nil (deferred_of edition A)
        ∙ d
        ∙ sym (take-append-le k (deferred_of edition H) (deferred_of edition cs) n)
        ∙ ap (take k) (sym (filter-append (deferred edition) H cs)),
  )

  pub once_after_turn : (H A : List Change) (k : ℕ) (x : Change) → deferred_at edition H k ≡ Some x → synchronous_of edition A ≡ synchronous_of edition H
      → deferred_of edition A ≡ take k (deferred_of edition H)
      → (synchronous_of edition (A ++ x ∷ []) ≡ synchronous_of edition H) × (deferred_of edition (A ++ x ∷ []) ≡ take (k + 1) (deferred_of edition H))
  once_after_turn H A k x e s d =
      let is = (deferred_at-deferred edition H k x e).0 in (
        filter-append is_synchronous A (x ∷ [])
            ∙ ap (λ b. synchronous_of edition A ++ cond (not b) (x ∷ []) []) is
            ∙ append-nil (synchronous_of edition A)
            ∙ s,
        filter-append (deferred edition) A (x ∷ [])
            ∙ ap (λ b. deferred_of edition A ++ cond b (x ∷ []) []) is
            ∙ ap (λ (l : List Change). l ++ x ∷ []) d
            ∙ sym (take-next (deferred_of edition H) k x e),
      )

  abbrev pub AppliedOnce : Applying → Type 0
  AppliedOnce s = (synchronous_of edition s.applied ≡ synchronous_of edition s.history) × (deferred_of edition s.applied ≡ take s.count (deferred_of edition s.history))

  abbrev pub StandsForCut : Applying → Type 0
  StandsForCut s = (s.count ≤ deferred_count edition s.history) × (table s.applied ≡ table (cut edition s.history s.count))

  turned-stands : (s : Applying) (o : Option Change) → deferred_at edition s.history s.count ≡ o → StandsForCut s → StandsForCut (turned s o)
  turned-stands s None e h = h
  turned-stands s (Some d) e h = after_turn s.history s.applied s.count d e h.1

  pub happens-stands : (s : Applying) (e : Event) → StandsForCut s → StandsForCut (happens edition s e)
  happens-stands s (Accept cs) h = after_accept s.history s.applied cs s.count h.0 h.1
  happens-stands s Turn h = turned-stands s (deferred_at edition s.history s.count) refl h

  turned-once : (s : Applying) (o : Option Change) → deferred_at edition s.history s.count ≡ o → AppliedOnce s → AppliedOnce (turned s o)
  turned-once s None e h = h
  turned-once s (Some d) e h = once_after_turn s.history s.applied s.count d e h.0 h.1

  happens-once : (s : Applying) (e : Event) → s.count ≤ deferred_count edition s.history → AppliedOnce s → AppliedOnce (happens edition s e)
  happens-once s (Accept cs) n h = once_after_accept s.history s.applied cs s.count n h.0 h.1
  happens-once s Turn n h = turned-once s (deferred_at edition s.history s.count) refl h

  all-once : (s : Applying) (events : List Event) → StandsForCut s → AppliedOnce s → AppliedOnce (fold (happens edition) s events)
  all-once s [] c h = h
  all-once s (e ∷ events) c h = all-once (happens edition s e) events (happens-stands s e c) (happens-once s e c.0 h)

  pub applying-once : (events : List Event) → AppliedOnce (applying edition events)
  applying-once events = all-once nothing_applied events (omega arith, refl) (refl, refl)

  all-stand : (s : Applying) (events : List Event) → StandsForCut s → StandsForCut (fold (happens edition) s events)
  all-stand s [] h = h
  all-stand s (e ∷ events) h = all-stand (happens edition s e) events (happens-stands s e h)

  pub applying-stands : (events : List Event) → StandsForCut (applying edition events)
  applying-stands events = all-stand nothing_applied events (omega arith, refl)

  -- What waits in the queue are the deferred changes from the count on.

  pub next-pending : (H : List Change) (k : ℕ) (d : Change) (rest : List Change) → drop k (deferred_of edition H) ≡ d ∷ rest
      → (deferred_at edition H k ≡ Some d) × (drop (k + 1) (deferred_of edition H) ≡ rest)
  next-pending H k d rest h =
      let r = dropped (deferred_of edition H) k d rest h in
      (r.0, ap (λ n. drop n (deferred_of edition H)) (add-one k) ∙ r.1)

  pub pending-accepted : (H cs : List Change) (k : ℕ) → k ≤ deferred_count edition H → drop k (deferred_of edition (H ++ cs)) ≡ drop k (deferred_of edition H) ++ deferred_of edition cs
  pending-accepted H cs k n = ap (drop k) (filter-append (deferred edition) H cs) ∙ drop-append-le k (deferred_of edition H) (deferred_of edition cs) n

  -- limits

  pub none-pending : (H : List Change) (k : ℕ) → drop k (deferred_of edition H) ≡ [] → (deferred_count edition H ≤ k) × (deferred_at edition H k ≡ None)
  none-pending H k h =
      let past : deferred_count edition H ≤ k = omega (arith, sym (length-drop k (deferred_of edition H)) ∙ ap length h) in
      (past, slice_get_past (deferred_of edition H) k past)
