-- Worlds of a run, step by step, and what is published in them.
use Rattle.std.proofs.Common.{◌≡◌, ℕ, true, false, List, [], ◌∷◌, ◌++◌, sym, ◌∙◌, ap, subst, length, nat_lt, true≢false, arith}
use Rattle.std.specs.List.{list_all}
use Rattle.br_model.specs.declared.steps.Step.{Step}
use Rattle.br_model.specs.Plane.Steps.{world_step}
use Rattle.br_model.specs.Plane.World.{World}
use Rattle.br_model.specs.Program.LiveRun.{accepts_changes, begins_with_publish, may_drain}
use Rattle.br_model.proofs.Plane.Worlds.{worlds, drains_later}
use Rattle.live_thread.specs.Worlds.{ArePublished}

-- what is published of steps, and of others behind them

begins_more : (xs ys : List Step) → begins_with_publish xs ≡ true → begins_with_publish (xs ++ ys) ≡ true
begins_more [] ys h = absurd (cc)
begins_more (s ∷ xs) ys h = h

pub published_both : (w : World) (xs ys : List Step) → ArePublished w xs → ArePublished (worlds w xs) ys → ArePublished w (xs ++ ys)
published_both w [] ys a b = b
published_both w (s ∷ xs) ys a b = ((λ accepts. begins_more xs ys (a.0 accepts)), published_both (world_step w s).0 xs ys a.1 b)

-- a step before the drain that accepts changes is directly followed by a publication
pub at_once : (w : World) (done drain before : List Step) (s : Step) (after : List Step) → ArePublished w done → list_all may_drain drain ≡ true → done ++ drain ≡ before ++ s ∷ after
    → list_all may_drain (s ∷ after) ≡ false → accepts_changes (worlds w before) s ≡ true → begins_with_publish after ≡ true
at_once w [] drain before s after a all is not accepts =
    absurd (true≢false (sym (drains_later before (s ∷ after) (ap (list_all may_drain) (sym is) ∙ all)) ∙ not))
at_once w (d ∷ done) drain [] s after a all is not accepts =
    let e : d ∷ (done ++ drain) ≡ s ∷ after = is in
    let same : d ≡ s = cc in
    let rest : done ++ drain ≡ after = cc in
    subst (λ (l : List Step). begins_with_publish l ≡ true) rest (begins_more done drain (a.0 (ap (accepts_changes w) same ∙ accepts)))
at_once w (d ∷ done) drain (b ∷ before) s after a all is not accepts =
    let e : d ∷ (done ++ drain) ≡ b ∷ (before ++ s ∷ after) = is in
    let same : d ≡ b = cc in
    let rest : done ++ drain ≡ before ++ s ∷ after = cc in
    at_once (world_step w d).0 done drain before s after a.1 all rest not (ap (λ (x : Step). accepts_changes (worlds (world_step w x).0 before) s) same ∙ accepts)

-- numbers of changes

pub not_less : (n m : ℕ) → m ≡ n → nat_lt n m ≡ false
not_less n m e = grind arith

pub same_history : (w : World) (s : Step) → (world_step w s).0.history ≡ w.history → accepts_changes w s ≡ false
same_history w s e = not_less (length w.history) (length (world_step w s).0.history) (ap length e)

-- a step that accepts nothing needs no publication
pub nothing_to_publish : (w : World) (s : Step) → (world_step w s).0.history ≡ w.history → ArePublished w (s ∷ [])
nothing_to_publish w s e = ((λ accepts. absurd (true≢false (sym accepts ∙ same_history w s e))), tt)
