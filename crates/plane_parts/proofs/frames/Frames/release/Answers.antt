use Rattle.std.proofs.Common.{◌≡◌, ◌==◌, not, refl, ap, ◌∙◌, List, ℕ}
use Rattle.std.specs.List.{find, filter}
use Rattle.std.specs.Ordering.{nat_cmp}
use Rattle.std.specs.Map.{lookup, remove_entry}
use Rattle.std.specs.BTreeMap.{is_at}
use Rattle.br_model.specs.Plane.World.{Holding}
use Rattle.plane_parts.specs.Queued.{Queued, held_in, under_ids}
use Rattle.plane_parts.proofs.HeldRows.{found, held_under, remaining}
use Rattle.plane_parts.proofs.Keeping.{releases}
use Rattle.plane_parts.proofs.frames.Frames.release.Goals as goal

left : (c : goal.After-remove) → c.remove.new.self.entries ≡ under_ids (filter (λ h. not (h.waiting.id == c.args.id)) (held_in c.self.inside.held.entries))
left c = c.remove.ensures.entries
    ∙ (ap (λ es. remove_entry (is_at (nat_cmp c.args.id)) es) c.self.invariant.1
    ∙ remaining c.args.id (held_in c.self.inside.held.entries) _ c.self.invariant.2.ordered)

pub invariant_of-self : goal.invariant_of-self
invariant_of-self c = rw (left c, held_under (filter (λ h. not (h.waiting.id == c.args.id)) (held_in c.self.inside.held.entries)))
    (c.self.invariant.0, refl, releases _ (λ h. not (h.waiting.id == c.args.id)) c.self.invariant.2)

pub returns-clause-found : goal.returns-clause-found
returns-clause-found c = c.remove.ensures.value
    ∙ (ap (λ es. lookup (is_at (nat_cmp c.args.id)) es) c.self.invariant.1
    ∙ (found c.args.id (held_in c.self.inside.held.entries)
    ∙ ap (λ q. find (λ h. h.waiting.id == c.args.id) q.held) c.self.view_is))

others : ℕ → Queued → Queued
others id q = record q { held = filter (λ h. not (h.waiting.id == id)) q.held }

remains : (c : goal.After-remove) → List Holding → Queued
remains c held = record { waiting = c.self.inside.waiting.items; held = held; next = c.self.inside.next }

pub returns-clause-rest : goal.returns-clause-rest
unfolding others remains
returns-clause-rest c =
    ap (remains c) (ap held_in (left c) ∙ held_under (filter (λ h. not (h.waiting.id == c.args.id)) (held_in c.self.inside.held.entries)))
    ∙ ap (others c.args.id) c.self.view_is
