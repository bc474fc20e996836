-- Histories grow, and their updates with them.
use Rattle.std.proofs.Common.{◌≡◌, ℕ, suc, ◌+◌, ◌≤◌, true, false, cond, List, [], ◌∷◌, ◌++◌, map, length, slice_get, Some, sym, ap, ◌∙◌, arith}
use Rattle.std.proofs.lemmas.List.{map-append}
use Rattle.std.proofs.lemmas.List.Elements.{filter-append}
use Rattle.std.specs.List.{filter, enumerate_from}
use mathlib.Core.List.{IsPrefix}
use Rattle.br_model.specs.declared.change.Change.{Change}
use Rattle.br_model.specs.declared.change.Update.{Update}
use Rattle.br_model.specs.declared.domains.Edition.{Edition}
use Rattle.br_model.specs.declared.steps.Step.{Step}
use Rattle.br_model.specs.Plane.Steps.{world_step}
use Rattle.br_model.specs.Plane.World.{World}
use Rattle.br_model.specs.Table.Change.{deferred, updates}
use Rattle.br_model.specs.Table.Cut.{under_ticket, deferred_count}
use Rattle.br_model.proofs.Table.Cuts.{length-updates, updates-named}
use Rattle.br_model.proofs.Plane.Stays.{step-accepts}

-- a step's history begins with the old one
pub step-grows : (w : World) (s : Step) → IsPrefix w.history (world_step w s).0.history
step-grows w s = let a = step-accepts w s in (a.0, sym a.1)

pub enumerate-append : (n : ℕ) (xs ys : List Change) → enumerate_from n (xs ++ ys) ≡ enumerate_from n xs ++ enumerate_from (n + length xs) ys
enumerate-append n [] ys = let e : n ≡ n + 0 = omega arith in ap (λ m. enumerate_from m ys) e
enumerate-append n (x ∷ xs) ys =
    let e : n + 1 + length xs ≡ n + suc (length xs) = omega arith in
    ap (λ l. (n, x) ∷ l) (enumerate-append (n + 1) xs ys ∙ ap (λ m. enumerate_from (n + 1) xs ++ enumerate_from m ys) e)

-- updates of a front are a front
pub updates-prefix : (edition : Edition) (h H : List Change) → IsPrefix h H → IsPrefix (updates edition h) (updates edition H)
updates-prefix edition h H p =
    let f : ℕ × Change → Update = λ x. under_ticket x.0 x.1 in
    let ds = filter (deferred edition) h in
    let more = enumerate_from (0 + length ds) (filter (deferred edition) p.0) in (
      map f more,
      sym (map-append f (enumerate_from 0 ds) more)
          ∙ (ap (map f) (sym (enumerate-append 0 ds (filter (deferred edition) p.0)) ∙ ap (enumerate_from 0) (sym (filter-append (deferred edition) h p.0))) ∙ ap (updates edition) p.1),
    )

pub few-deferred : (edition : Edition) (h : List Change) → deferred_count edition h ≤ length h
few-deferred edition [] = omega arith
few-deferred edition (c ∷ h) =
    elim (deferred edition c) as (λ b. length (cond b (c ∷ filter (deferred edition) h) (filter (deferred edition) h)) ≤ suc (length h)) [
      | true ↦ omega (arith, few-deferred edition h)
      | false ↦ omega (arith, few-deferred edition h)
    ]

pub few-updates : (edition : Edition) (h : List Change) → length (updates edition h) ≤ length h
few-updates edition h = omega (arith, length-updates edition h, few-deferred edition h)

-- the update that stands there has the ticket of its place
pub ticket-there : (edition : Edition) (h : List Change) (k : ℕ) (u : Update) → slice_get (updates edition h) k ≡ Some u → u.ticket ≡ k
ticket-there edition h k u e = (updates-named edition h k u e).0
