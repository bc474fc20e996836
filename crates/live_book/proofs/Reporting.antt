-- The chips that have reports left, looked up by their domains.
use Rattle.std.proofs.Common.{◌≡◌, ℕ, ◌==◌, Bool, true, false, ◌||◌, cond, List, [], ◌∷◌, map, Some, refl, sym, ap, ◌∙◌, arith, subst}
use Rattle.std.proofs.lemmas.Bool.{eq-eqb, false≢true}
use Rattle.std.specs.List.{filter, list_any}
use Rattle.br_model.specs.declared.steps.Step.{Step}
use Rattle.br_model.specs.Plane.Chip.{Chip, chip_in}
use Rattle.br_model.specs.Plane.Runs.{run}
use Rattle.br_model.specs.Plane.World.{chip_at}
use Rattle.br_model.specs.Table.Domains.{chip_domains}
use Rattle.br_model.specs.Table.Setup.{Setup}
use Rattle.br_model.proofs.Plane.Applied.{run-setup, run-world}
use Rattle.br_model.proofs.Plane.Chips.{doms}
use Rattle.br_model.proofs.Plane.ByDomain.{Differ, all_differ}
use Rattle.live_book.specs.Ends.{has_reports, has_reports_at, reporting}

-- a chip of another domain in front of those in which one is looked for
past_it : (c : Chip) (chips : List Chip) (ds : List ℕ) → list_any (λ e. e == c.dom) ds ≡ false
    → filter (λ d. has_reports_at (chip_in (c ∷ chips) d)) ds ≡ filter (λ d. has_reports_at (chip_in chips d)) ds
past_it c chips [] h = refl
past_it c chips (d ∷ ds) h = by_first (d == c.dom) refl h (past_it c chips ds)
  where
    other : (d == c.dom) ≡ false → (c.dom == d) ≡ false
    other e = grind (arith, e)

    by_first : (b : Bool) → (d == c.dom) ≡ b → (b || list_any (λ e. e == c.dom) ds) ≡ false
        → (list_any (λ e. e == c.dom) ds ≡ false → filter (λ d. has_reports_at (chip_in (c ∷ chips) d)) ds ≡ filter (λ d. has_reports_at (chip_in chips d)) ds)
        → filter (λ d. has_reports_at (chip_in (c ∷ chips) d)) (d ∷ ds) ≡ filter (λ d. has_reports_at (chip_in chips d)) (d ∷ ds)
    by_first true e h later = absurd (false≢true (sym h))
    by_first false e h later =
        ap (λ b. cond (has_reports_at (cond b (Some c) (chip_in chips d))) (d ∷ filter (λ d. has_reports_at (chip_in (c ∷ chips) d)) ds) (filter (λ d. has_reports_at (chip_in (c ∷ chips) d)) ds))
        (other e)
        ∙ ap (λ (l : List ℕ). cond (has_reports_at (chip_in chips d)) (d ∷ l) l) (later h)

looked_up : (chips : List Chip) → Differ (doms chips) → map (λ c. c.dom) (filter has_reports chips) ≡ filter (λ d. has_reports_at (chip_in chips d)) (doms chips)
looked_up [] h = refl
looked_up (c ∷ chips) h =
    (elim (has_reports c) as
    (λ b. map (λ (c : Chip). c.dom) (cond b (c ∷ filter has_reports chips) (filter has_reports chips)) ≡ cond b (c.dom ∷ map (λ (c : Chip). c.dom) (filter has_reports chips))
    (map (λ (c : Chip). c.dom) (filter has_reports chips))) [
      | true ↦ refl
      | false ↦ refl
    ])
    ∙ ap (λ (l : List ℕ). cond (has_reports c) (c.dom ∷ l) l) (looked_up chips h.1 ∙ sym (past_it c chips (doms chips) h.0))
    ∙ ap (λ b. cond (has_reports_at (cond b (Some c) (chip_in chips c.dom))) (c.dom ∷ filter (λ d. has_reports_at (chip_in (c ∷ chips) d)) (doms chips))
    (filter (λ d. has_reports_at (chip_in (c ∷ chips) d)) (doms chips)))
    (sym (eq-eqb c.dom c.dom refl))

pub reporting_is : (setup : Setup) (steps : List Step) → reporting (run setup steps).0 ≡ filter (λ d. has_reports_at (chip_at (run setup steps).0 d)) (chip_domains setup.domains)
reporting_is setup steps =
    let w = (run setup steps).0 in
    let of_setup : doms w.chips ≡ chip_domains setup.domains = (run-world setup steps).doms ∙ ap (λ (s : Setup). chip_domains s.domains) (run-setup setup steps) in
    looked_up w.chips (subst Differ (sym of_setup) (all_differ setup.domains))
    ∙ ap (filter (λ d. has_reports_at (chip_at w d))) of_setup
