-- Two lists of steps are followed lane by lane.
use Rattle.std.proofs.Common.{◌≡◌, ◌≢◌, ℕ, zero, suc, ◌+◌, ◌<◌, ◌≤◌, ◌==◌, ◌&&◌, Bool, true, false, cond, List, [], ◌∷◌}
use Rattle.std.proofs.Common.{◌++◌, length, drop, take, get_or, set, refl, sym, ap, ◌∙◌, arith, subst, append_assoc, append-nil, length-append, inl, inr}
use Rattle.std.proofs.Math.ListN.{drop_of_length-le}
use Rattle.std.proofs.lemmas.Bool.{eqb-true, true≢false}
use Rattle.std.proofs.lemmas.Bool.Decides.{eqb_tells}
use Rattle.std.proofs.lemmas.List.{append_cancel_left, get_or_default, get_or-set_same, get_or-set_other, take-append-drop, take_all, take_more}
use Rattle.std.proofs.lemmas.List.Elements.{filter-append}
use Rattle.std.specs.Cmp.{first_so, second_so}
use Rattle.std.specs.List.{filter, list_all}
use Rattle.br_model.specs.declared.steps.Step.{Step}
use Rattle.br_model.specs.declared.steps.Step.TheVariants.{Publish}
use Rattle.br_model.specs.Program.LiveRun.{same_frames, same_order}
use Rattle.br_model.specs.Program.SameSteps.{same_step}
use Rattle.br_model.proofs.Program.SameSteps.{step_decides}
use Rattle.live_book.specs.Lanes.{AreHeads, AreLinks, IsNext, is_in_lane}
use Rattle.live_book.proofs.Linking.{taken}
use Rattle.live_book.proofs.SameLanes.{all_same, one_differs}

abbrev lane_steps : ℕ → List Step → List Step
lane_steps q steps = filter (is_in_lane q) steps

-- The steps of a lane that were come by are those of the other list before the place that the lane has come to, at which its next one
-- stands.
pub record Follows (later given : List Step) (i q at : ℕ) : Type 0 where
  pub within : at ≤ length given
  pub come : lane_steps q given ≡ lane_steps q (take i later) ++ lane_steps q (drop at given)
  pub here : (s : Step) → at < length given → is_in_lane q (get_or given at s) ≡ true

abbrev pub AllFollow : List Step → List Step → ℕ → List ℕ → Type 0
AllFollow later given i heads = (q : ℕ) → Follows later given i q (get_or heads q (length given))

pub follows_none : (later given : List Step) (heads : List ℕ) → AreHeads given 0 heads → AllFollow later given 0 heads
follows_none later given heads are q = record { within = (are q).within; come = (are q).skipped; here = (are q).here }

-- contradictions of lengths
shorter : {X : Type 0} (xs : List X) (y : X) (ys : List X) → xs ≡ xs ++ y ∷ ys → ⊥
shorter xs y ys h = omega (arith, ap length h ∙ length-append xs (y ∷ ys))

module _ (later given : List Step) (heads links : List ℕ) (i : ℕ) (x : Step) (h : i < length later) (e : x ≡ get_or later i x) (follow : AllFollow later given i heads) where
  -- a step more of the first list
  one_more : (q : ℕ) → lane_steps q (take (i + 1) later) ≡ lane_steps q (take i later) ++ cond (is_in_lane q x) (x ∷ []) []
  one_more q =
      ap (lane_steps q) (take_more later i x h ∙ ap (λ (y : Step). take i later ++ y ∷ []) (sym e)) ∙ filter-append (is_in_lane q) (take i later) (x ∷ [])

  passed : (q at : ℕ) → is_in_lane q x ≡ false → Follows later given i q at → Follows later given (i + 1) q at
  passed q at is f = record {
    within = f.within;
    come = f.come
        ∙ ap (λ (l : List Step). l ++ lane_steps q (drop at given)) (sym (one_more q ∙ ap (λ b. lane_steps q (take i later) ++ cond b (x ∷ []) []) is ∙ append-nil (lane_steps q (take i later))));
    here = f.here;
  }

  pub all_passed : ((q : ℕ) → is_in_lane q x ≡ false) → AllFollow later given (i + 1) heads
  all_passed none q = passed q (get_or heads q (length given)) (none q) (follow q)

  -- all of the first list, of which this is the step in the lane
  rest_of : (q : ℕ) → is_in_lane q x ≡ true → lane_steps q later ≡ lane_steps q (take i later) ++ (x ∷ lane_steps q (drop (i + 1) later))
  rest_of q is =
      ap (lane_steps q) (sym (take-append-drop i later))
      ∙ filter-append (is_in_lane q) (take i later) (drop i later)
      ∙ ap (λ (l : List Step). lane_steps q (take i later) ++ l) (taken (is_in_lane q) later i x h e is)

  module _ (lane at d : ℕ) (of : (q : ℕ) → is_in_lane q x ≡ (q == lane)) (within : lane < length heads) (at_is : at ≡ get_or heads lane d) where
    own : is_in_lane lane x ≡ true
    own = of lane ∙ (let e : (lane == lane) ≡ true = grind arith in e)

    pub stands : Follows later given i lane at
    stands = subst (λ n. Follows later given i lane n) (get_or_default heads lane (length given) d within ∙ sym at_is) (follow lane)

    -- the lane has come to its end
    pub past : at ≡ length given → (same_frames later given && same_order later given) ≡ false
    past end = one_differs later given lane (λ same.
        let nothing : lane_steps lane (drop at given) ≡ [] = ap (lane_steps lane) (drop_of_length-le given (let low : length given ≤ at = omega (arith, end) in low)) in
        shorter (lane_steps lane (take i later)) x (lane_steps lane (drop (i + 1) later))
        (sym (stands.come ∙ ap (λ (l : List Step). lane_steps lane (take i later) ++ l) nothing ∙ append-nil (lane_steps lane (take i later))) ∙ sym same ∙ rest_of lane own))

    module _ (y : Step) (low : at < length given) (y_is : y ≡ get_or given at y) where
      lane_of_y : is_in_lane lane y ≡ true
      lane_of_y = ap (is_in_lane lane) y_is ∙ stands.here y low

      come_to : lane_steps lane given ≡ lane_steps lane (take i later) ++ (y ∷ lane_steps lane (drop (at + 1) given))
      come_to = stands.come ∙ ap (λ (l : List Step). lane_steps lane (take i later) ++ l) (taken (is_in_lane lane) given at y low y_is lane_of_y)

      pub differs : same_step x y ≡ false → (same_frames later given && same_order later given) ≡ false
      differs other = one_differs later given lane (λ same.
          let rests = append_cancel_left (lane_steps lane (take i later)) (x ∷ lane_steps lane (drop (i + 1) later)) (y ∷ lane_steps lane (drop (at + 1) given))
          (sym (rest_of lane own) ∙ same ∙ come_to) in
          true≢false (sym ((step_decides x y).1 (ap (λ (l : List Step). get_or l 0 Publish) rests)) ∙ other))

      -- both have the step
      module _ (linked : AreLinks given 0 links) (same : same_step x y ≡ true) where
        next : IsNext (is_in_lane lane) given (at + 1) (get_or links at 0)
        next = linked lane at y (let e : 0 ≤ at = omega arith in e) low (stands.here y low)

        own_more : Follows later given (i + 1) lane (get_or links at 0)
        own_more =
            let one : lane_steps lane (take (i + 1) later) ≡ lane_steps lane (take i later) ++ y ∷ [] =
            one_more lane ∙ ap (λ b. lane_steps lane (take i later) ++ cond b (x ∷ []) []) own ∙ ap (λ (s : Step). lane_steps lane (take i later) ++ s ∷ []) ((step_decides x y).0 same) in record {
              within = next.within;
              come =
                  come_to
                  ∙ ap (λ (l : List Step). lane_steps lane (take i later) ++ (y ∷ l)) next.skipped
                  ∙ sym (append_assoc (lane_steps lane (take i later)) (y ∷ []) (lane_steps lane (drop (get_or links at 0) given)))
                  ∙ ap (λ (l : List Step). l ++ lane_steps lane (drop (get_or links at 0) given)) (sym one);
              here = next.here;
            }

        pub all_more : (c : ℕ) → AllFollow later given (i + 1) (set heads lane (get_or links at 0))
        all_more c q = elim (eqb_tells q lane) as (λ _. Follows later given (i + 1) q (get_or (set heads lane (get_or links at 0)) q (length given))) [
          | inl m ↦
              subst (λ k. Follows later given (i + 1) k (get_or (set heads lane (get_or links at 0)) k (length given))) (sym m.1)
              (subst (λ n. Follows later given (i + 1) lane n) (sym (get_or-set_same heads lane (get_or links at 0) (length given) within)) own_more)
          | inr m ↦
              subst (λ n. Follows later given (i + 1) q n) (sym (get_or-set_other heads lane q (get_or links at 0) (length given) m.1))
              (passed q (get_or heads q (length given)) (of q ∙ m.0) (follow q))
        ]

-- at the end of the first list

module _ (later given : List Step) (heads : List ℕ) (i : ℕ) (end : length later ≤ i) (follow : AllFollow later given i heads) where
  whole : (q : ℕ) → lane_steps q given ≡ lane_steps q later ++ lane_steps q (drop (get_or heads q (length given)) given)
  whole q = (follow q).come ∙ ap (λ (l : List Step). lane_steps q l ++ lane_steps q (drop (get_or heads q (length given)) given)) (take_all i later end)

  ended_at : (heads : List ℕ) (n q : ℕ) → list_all (λ place. place == n) heads ≡ true → get_or heads q n ≡ n
  ended_at [] n q h = refl
  ended_at (place ∷ heads) n zero h = eqb-true place n (first_so (place == n) (list_all (λ place. place == n) heads) h)
  ended_at (place ∷ heads) n (suc q) h = ended_at heads n q (second_so (place == n) (list_all (λ place. place == n) heads) h)

  all_ended : list_all (λ place. place == length given) heads ≡ true → (same_frames later given && same_order later given) ≡ true
  all_ended all = all_same later given (λ q.
      sym (whole q
      ∙ ap (λ (l : List Step). lane_steps q later ++ lane_steps q l)
      (drop_of_length-le given (let low : length given ≤ get_or heads q (length given) = omega (arith, ended_at heads (length given) q all) in low))
      ∙ append-nil (lane_steps q later)))

  open_at : (heads : List ℕ) (n : ℕ) → list_all (λ place. place == n) heads ≡ false → (q : ℕ) × (get_or heads q n ≢ n)
  open_at [] n h = absurd (true≢false h)
  open_at (place ∷ heads) n h = elim (eqb_tells place n) as (λ _. (q : ℕ) × (get_or (place ∷ heads) q n ≢ n)) [
    | inl m ↦ let o = open_at heads n (sym (ap (λ b. b && list_all (λ place. place == n) heads) m.0) ∙ h) in (suc o.0, o.1)
    | inr m ↦ (zero, m.1)
  ]

  not_ended : list_all (λ place. place == length given) heads ≡ false → (same_frames later given && same_order later given) ≡ false
  not_ended some =
      let o = open_at heads (length given) some in
      let q = o.0 in
      let at = get_or heads q (length given) in
      let f = follow q in
      let low : at < length given = omega (arith, f.within, o.1) in
      let y = get_or given at Publish in
      one_differs later given q (λ same.
      shorter (lane_steps q later) y (lane_steps q (drop (at + 1) given))
      (same ∙ whole q ∙ ap (λ (l : List Step). lane_steps q later ++ l)
      (taken (is_in_lane q) given at y low (get_or_default given at Publish y low) (f.here Publish low))))

  by_end : (b : Bool) → list_all (λ place. place == length given) heads ≡ b → b ≡ (same_frames later given && same_order later given)
  by_end true h = sym (all_ended h)
  by_end false h = sym (not_ended h)

  pub end_tells : list_all (λ place. place == length given) heads ≡ (same_frames later given && same_order later given)
  end_tells = by_end (list_all (λ place. place == length given) heads) refl
