-- The turn of a chip, by the parts of the plane.
use Rattle.std.proofs.Common.{◌≡◌, ℕ, true, false, not, Option, Some, None, option_map, refl, sym, ap, ◌∙◌}
use Rattle.std.proofs.lemmas.Bool.{eqb-true, eq-eqb, not-false}
use Rattle.std.specs.Option.{option_eq}
use Rattle.std.specs.Prelude.{◌==◌, is_some, slice_get}
use Rattle.br_model.specs.Plane.Chip.{Chip, chip_in}
use Rattle.br_model.specs.Plane.World.{chip_at}
use Rattle.br_model.specs.Table.Change.{updates}
use Rattle.br_model.specs.Table.Domains.{has_chip}
use Rattle.br_model.specs.Theorems.Invariants.{IsWorld}
use Rattle.br_model.specs.declared.change.Update.{Update}
use Rattle.plane_parts.specs.Queued.{Queued}
use Rattle.plane_core.specs.Planes.{PlaneState, next_ticket}
use Rattle.plane_core.specs.Sides.{SidesState, world_of}
use Rattle.plane_core.proofs.Calling.{chip_there, waits_for}

-- the domain has a chip
pub there : (p : PlaneState) (s : SidesState) (q : Queued) (n dom : ℕ) → record { world = world_of s q n; board = s.board } ≡ p → IsWorld (world_of s q n) → has_chip p.world.setup.domains dom ≡ true
    → is_some (chip_in s.chips dom) ≡ true
there p s q n dom was k has = chip_there (world_of s q n) dom k (ap (λ (x : PlaneState). has_chip x.world.setup.domains dom) was ∙ has)

-- the ticket of the change that waits for it
pub waits : (p : PlaneState) (s : SidesState) (q : Queued) (n dom : ℕ) (c : Chip) (o u : Option Update) → record { world = world_of s q n; board = s.board } ≡ p → chip_in s.chips dom ≡ Some c
    → o ≡ slice_get (updates s.setup.domains.edition s.history) c.count → o ≡ u → next_ticket p.world (chip_at p.world dom) ≡ option_map (λ x. x.ticket) u
waits p s q n dom c o u was found at is = ap (λ (x : PlaneState). next_ticket x.world (chip_at x.world dom)) (sym was) ∙ waits_for s q n dom c u found (sym at ∙ is)

-- whether a ticket is this one

pub is_ticket : (o : Option ℕ) (t : ℕ) → not (option_eq (λ x y. x == y) o (Some t)) ≡ false → o ≡ Some t
is_ticket None t e = absurd (cc)
is_ticket (Some x) t e = ap Some (eqb-true x t (not-false (x == t) e))

pub not_ticket : (o : Option ℕ) (t : ℕ) → not (option_eq (λ x y. x == y) o (Some t)) ≡ true → o ≡ Some t → ⊥
not_ticket o t e is = absurd (let f : not true ≡ true = sym (ap (λ x. not (option_eq (λ y z. y == z) x (Some t))) is ∙ ap not (eq-eqb t t refl)) ∙ e in cc)
