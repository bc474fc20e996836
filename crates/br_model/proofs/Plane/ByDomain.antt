-- Each chip is found by its domain.
use Rattle.std.proofs.Common.{◌≡◌, ℕ, ◌==◌, Bool, true, false, ◌||◌, cond, List, [], ◌∷◌, map, Some, refl, sym, ◌∙◌}
use Rattle.std.specs.List.{filter, list_any}
use Rattle.lemmas.proofs.Lists.{any-filter_none}
use Rattle.br_model.specs.Plane.Chip.{Chip, chip_in}
use Rattle.br_model.specs.Table.Domains.{Domains, chip_domains, first_chip_domain}

abbrev pub Differ : List ℕ → Type 0
Differ [] = Unit {0}
Differ (d ∷ ds) = (list_any (λ e. e == d) ds ≡ false) × Differ ds

still_differ : (p : ℕ → Bool) (ds : List ℕ) → Differ ds → Differ (filter p ds)
still_differ p [] h = tt
still_differ p (d ∷ ds) h = elim (p d) as (λ b. Differ (cond b (d ∷ filter p ds) (filter p ds))) [
  | true ↦ (any-filter_none p (λ e. e == d) ds h.0, still_differ p ds h.1)
  | false ↦ still_differ p ds h.1
]

-- is it the first domain of a chip, or one of a port
abbrev pub exists : Domains → ℕ → Bool
exists domains d = (d == first_chip_domain) || list_any (λ e. e == d) (map (λ e. e.1) domains.ports)

pub all_differ : (domains : Domains) → Differ (chip_domains domains)
all_differ domains = still_differ (exists domains) (1 ∷ 2 ∷ 3 ∷ 4 ∷ []) (refl, (refl, (refl, (refl, tt))))

pub same_chip : (chips : List Chip) (dom : ℕ) (c d : Chip) → chip_in chips dom ≡ Some c → chip_in chips dom ≡ Some d → c ≡ d
same_chip chips dom c d e f = let g : Some c ≡ Some d = sym e ∙ f in cc
