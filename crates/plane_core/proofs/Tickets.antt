-- The next ticket of a chip is that of the history.
use Rattle.std.proofs.Common.{◌≡◌, ℕ, Option, None, Some, slice_get, option_map, refl, sym, ap, ◌∙◌}
use Rattle.br_model.specs.declared.change.Change.{Change}
use Rattle.br_model.specs.declared.change.Update.{Update}
use Rattle.br_model.specs.Plane.Chip.{Chip}
use Rattle.br_model.specs.Plane.World.{World}
use Rattle.br_model.specs.Table.Change.{updates}
use Rattle.br_model.specs.Table.Cut.{deferred_at, under_ticket}
use Rattle.br_model.proofs.Table.Cuts.{updates-at}
use Rattle.plane_core.specs.Planes.{ticket_of, next_ticket}

-- a change that is pending goes under its ticket
pub names_ticket : (n : ℕ) (o : Option Change) → ticket_of (option_map (under_ticket n) o) ≡ option_map (λ d. n) o
names_ticket n None = refl
names_ticket n (Some d) = refl

-- the update of the history that the chip applies next
pub next-of-history : (w : World) (o : Option Chip) (n expected : ℕ) (update : Option Update) → option_map (λ c. c.count) o ≡ Some n → next_ticket w o ≡ Some expected
    → update ≡ slice_get (updates w.setup.domains.edition w.history) n → ticket_of update ≡ Some expected
next-of-history w None n expected update counts next is = absurd (cc)
next-of-history w (Some c) n expected update counts next is =
    let edition = w.setup.domains.edition in
    let same : c.count ≡ n = cc in
    ap ticket_of is
    ∙ ap (λ (k : ℕ). ticket_of (slice_get (updates edition w.history) k)) (sym same)
    ∙ ap ticket_of (updates-at edition w.history c.count)
    ∙ names_ticket c.count (deferred_at edition w.history c.count)
    ∙ next
