-- The same frames at each port, as the test says it and as lists.
use Rattle.std.proofs.Common.{◌≡◌, ℕ, Bool, true, false, cond, List, [], ◌∷◌, ◌++◌, refl, sym, ap, ◌∙◌, subst}
use Rattle.std.proofs.lemmas.Bool.{eqb-true, and_from}
use Rattle.std.specs.Cmp.{first_so, second_so}
use Rattle.std.specs.List.{list_all}
use Rattle.std.proofs.lemmas.List.Elements.{filter-append}
use Rattle.br_model.specs.declared.steps.Step.{Step}
use Rattle.br_model.specs.declared.steps.Step.TheVariants.{Rx}
use Rattle.br_model.specs.Program.LiveRun.{frames_at, is_empty, is_frame_at, same_frames, same_frames_at}
use Rattle.br_model.specs.Program.SameSteps.{same_steps}
use Rattle.br_model.proofs.Program.SameSteps.{steps_decide}

both_none : (xs ys : List Step) → is_empty (xs ++ ys) ≡ true → (xs ≡ []) × (ys ≡ [])
both_none [] [] h = (refl, refl)
both_none [] (y ∷ ys) h = absurd (cc)
both_none (x ∷ xs) ys h = absurd (cc)

at_port : (q : ℕ) (xs ys : List Step) (s : Step) → is_frame_at q s ≡ true → same_frames_at xs ys s ≡ true → same_steps (frames_at q xs) (frames_at q ys) ≡ true
at_port q xs ys (Rx port bytes) e h = subst (λ (p : ℕ). same_steps (frames_at p xs) (frames_at p ys) ≡ true) (eqb-true port q e) h
at_port q xs ys s e h = absurd (cc)

module _ (q : ℕ) (xs ys : List Step) where
  abbrev Same : Type 0
  Same = same_steps (frames_at q xs) (frames_at q ys) ≡ true

  by_step : (s : Step) (steps : List Step) (b : Bool) → is_frame_at q s ≡ b → same_frames_at xs ys s ≡ true → is_empty (cond b (s ∷ frames_at q steps) (frames_at q steps)) ≡ false
      → (is_empty (frames_at q steps) ≡ false → Same) → Same
  by_step s steps true e same h later = at_port q xs ys s e same
  by_step s steps false e same h later = later h

  -- one of these is a frame at the port
  at_some : (steps : List Step) → list_all (same_frames_at xs ys) steps ≡ true → is_empty (frames_at q steps) ≡ false → Same
  at_some [] all h = absurd (cc)
  at_some (s ∷ steps) all h =
      by_step s steps (is_frame_at q s) refl (first_so (same_frames_at xs ys s) (list_all (same_frames_at xs ys) steps) all) h
      (at_some steps (second_so (same_frames_at xs ys s) (list_all (same_frames_at xs ys) steps) all))

  by_frames : (b : Bool) → is_empty (frames_at q (xs ++ ys)) ≡ b → same_frames xs ys ≡ true → frames_at q xs ≡ frames_at q ys
  by_frames true e h =
      let none = both_none (frames_at q xs) (frames_at q ys) (ap is_empty (sym (filter-append (is_frame_at q) xs ys)) ∙ e) in none.0 ∙ sym none.1
  by_frames false e h = (steps_decide (frames_at q xs) (frames_at q ys)).0 (at_some (xs ++ ys) h e)

  pub frames_same : same_frames xs ys ≡ true → frames_at q xs ≡ frames_at q ys
  frames_same h = by_frames (is_empty (frames_at q (xs ++ ys))) refl h

-- and the other way round

frames_at_step : (xs ys : List Step) (s : Step) → ((q : ℕ) → frames_at q xs ≡ frames_at q ys) → same_frames_at xs ys s ≡ true
frames_at_step xs ys (Rx port bytes) h = (steps_decide (frames_at port xs) (frames_at port ys)).1 (h port)
frames_at_step xs ys s h = refl

pub frames_in : (xs ys steps : List Step) → ((q : ℕ) → frames_at q xs ≡ frames_at q ys) → list_all (same_frames_at xs ys) steps ≡ true
frames_in xs ys [] h = refl
frames_in xs ys (s ∷ steps) h = and_from (same_frames_at xs ys s) (list_all (same_frames_at xs ys) steps) (frames_at_step xs ys s h) (frames_in xs ys steps h)
