-- Steps are linked to the next ones of their lanes, from the last one on.
use Rattle.std.proofs.Common.{◌≡◌, ◌≢◌, ℕ, ◌+◌, ◌<◌, ◌==◌, Bool, true, false, cond, List, ◌∷◌, length, drop, get_or, set, replicate, refl, sym, ap, ◌∙◌, arith, subst, inl, inr}
use Rattle.std.proofs.lemmas.Bool.{eqb-true, true≢false}
use Rattle.std.proofs.lemmas.Bool.Decides.{eqb_tells, leb_tells}
use Rattle.std.proofs.lemmas.List.{get_or_default, get_or_past, get_or-replicate, get_or-set_same, get_or-set_other, length-replicate}
use Rattle.std.specs.List.{filter}
use Rattle.lemmas.proofs.Lists.{drop_item}
use Rattle.br_model.specs.declared.steps.Step.{Step}
use Rattle.live_book.specs.Lanes.{AreHeads, AreLinks, IsNext, is_in_lane}

module _ (p : Step → Bool) (steps : List Step) where
  pub next_past : (n : ℕ) → n ≡ length steps → IsNext p steps n n
  next_past n e = record { within = omega (arith, e); skipped = refl; here = λ s h. absurd (omega (arith, h, e)) }

  module _ (i : ℕ) (x : Step) (h : i < length steps) (e : x ≡ get_or steps i x) where
    pub next_here : p x ≡ true → IsNext p steps i i
    next_here is = record { within = omega (arith, h); skipped = refl; here = λ s k. ap p (get_or_default steps i s x h ∙ sym e) ∙ is }

    pub passed_over : p x ≡ false → filter p (drop i steps) ≡ filter p (drop (i + 1) steps)
    passed_over is = ap (filter p) (drop_item steps i x h e) ∙ ap (λ b. cond b (x ∷ filter p (drop (i + 1) steps)) (filter p (drop (i + 1) steps))) is

    pub taken : p x ≡ true → filter p (drop i steps) ≡ x ∷ filter p (drop (i + 1) steps)
    taken is = ap (filter p) (drop_item steps i x h e) ∙ ap (λ b. cond b (x ∷ filter p (drop (i + 1) steps)) (filter p (drop (i + 1) steps))) is

    pub next_behind : (at : ℕ) → p x ≡ false → IsNext p steps (i + 1) at → IsNext p steps i at
    next_behind at is n = record { within = n.within; skipped = passed_over is ∙ n.skipped; here = n.here }

-- at the end there is none

pub heads_none : (steps : List Step) (heads : List ℕ) → ((q : ℕ) → get_or heads q (length steps) ≡ length steps) → AreHeads steps (length steps) heads
heads_none steps heads none q = subst (λ at. IsNext (is_in_lane q) steps (length steps) at) (sym (none q)) (next_past (is_in_lane q) steps (length steps) refl)

pub links_none : (steps : List Step) (links : List ℕ) → AreLinks steps (length steps) links
links_none steps links q k s low high is = absurd (omega (arith, low, high))

pub none_yet : (lanes n q : ℕ) → get_or (replicate lanes n) q n ≡ n
none_yet lanes n q = elim (leb_tells lanes q) as (λ _. get_or (replicate lanes n) q n ≡ n) [
  | inl h ↦ get_or_past (replicate lanes n) q n (omega (arith, h.1, length-replicate lanes n))
  | inr h ↦ get_or-replicate lanes q n n h.1
]

-- a step more

module _ (steps : List Step) (heads links : List ℕ) (i j : ℕ) (x : Step) (one : i + 1 ≡ j) (h : i < length steps) (e : x ≡ get_or steps i x) (are : AreHeads steps j heads)
    (linked : AreLinks steps j links) where
  behind_at : (q at : ℕ) → IsNext (is_in_lane q) steps j at → is_in_lane q x ≡ false → IsNext (is_in_lane q) steps i at
  behind_at q at n is = next_behind (is_in_lane q) steps i x h e at is (subst (λ k. IsNext (is_in_lane q) steps k at) (sym one) n)

  module _ (none : (q : ℕ) → is_in_lane q x ≡ false) where
    pub heads_kept : AreHeads steps i heads
    heads_kept q = behind_at q (get_or heads q (length steps)) (are q) (none q)

    pub links_kept : AreLinks steps i links
    links_kept q k s low high is = elim (leb_tells j k) as (λ _. IsNext (is_in_lane q) steps (k + 1) (get_or links k 0)) [
      | inl m ↦ linked q k s m.1 high is
      | inr m ↦
          let same : k ≡ i = omega (arith, m.1, low, one) in
          absurd (true≢false (sym is ∙ ap (λ k. is_in_lane q (get_or steps k s)) same ∙ ap (is_in_lane q) (get_or_default steps i s x h ∙ sym e) ∙ none q))
    ]

  module _ (lane lanes : ℕ) (there : length heads ≡ lanes) (within : lane < lanes) (count : length links ≡ length steps) (of : (q : ℕ) → is_in_lane q x ≡ (q == lane)) where
    pub heads_more : AreHeads steps i (set heads lane i)
    heads_more q = elim (eqb_tells q lane) as (λ _. IsNext (is_in_lane q) steps i (get_or (set heads lane i) q (length steps))) [
      | inl h' ↦
          subst (λ at. IsNext (is_in_lane q) steps i at)
          (sym (ap (λ k. get_or (set heads lane i) k (length steps)) h'.1 ∙ get_or-set_same heads lane i (length steps) (omega (arith, there, within))))
          (next_here (is_in_lane q) steps i x h e (of q ∙ h'.0))
      | inr h' ↦
          subst (λ at. IsNext (is_in_lane q) steps i at) (sym (get_or-set_other heads lane q i (length steps) h'.1))
          (behind_at q (get_or heads q (length steps)) (are q) (of q ∙ h'.0))
    ]

    pub links_more : (d : ℕ) → AreLinks steps i (set links i (get_or heads lane d))
    links_more d q k s low high is = elim (leb_tells j k) as (λ _. IsNext (is_in_lane q) steps (k + 1) (get_or (set links i (get_or heads lane d)) k 0)) [
      | inl m ↦
          let other : k ≢ i = λ same. absurd (omega (arith, m.1, one, same)) in
          subst (λ at. IsNext (is_in_lane q) steps (k + 1) at) (sym (get_or-set_other links i k (get_or heads lane d) 0 other)) (linked q k s m.1 high is)
      | inr m ↦
          let same : k ≡ i = omega (arith, m.1, low, one) in
          let behind : k + 1 ≡ j = omega (arith, same, one) in
          let lane_is : q ≡ lane = eqb-true q lane (sym (of q) ∙ sym (ap (is_in_lane q) (get_or_default steps i s x h ∙ sym e)) ∙ sym (ap (λ k. is_in_lane q (get_or steps k s)) same) ∙ is) in
          subst (λ at. IsNext (is_in_lane q) steps (k + 1) at)
          (sym (ap (λ n. get_or (set links i (get_or heads lane d)) n 0) same ∙ get_or-set_same links i (get_or heads lane d) 0 (omega (arith, count, h))
          ∙ get_or_default heads lane d (length steps) (omega (arith, there, within))
          ∙ ap (λ n. get_or heads n (length steps)) (sym lane_is)))
          (subst (λ n. IsNext (is_in_lane q) steps n (get_or heads q (length steps))) (sym behind) (are q))
    ]
