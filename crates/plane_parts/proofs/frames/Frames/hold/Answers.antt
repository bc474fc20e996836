use Rattle.std.proofs.Common.{◌≡◌, ◌++◌, ◌∷◌, [], refl, sym, ap, ◌∙◌, List}
use Rattle.std.specs.Ordering.{nat_cmp}
use Rattle.std.specs.BTreeMap.{insert_entry}
use Rattle.br_model.specs.Plane.World.{Holding}
use Rattle.plane_parts.specs.Queued.{Queued, IsQueued, holds_oldest, held_in, under_ids, waiting_ids}
use Rattle.plane_parts.proofs.HeldRows.{appended, held_under}
use Rattle.plane_parts.proofs.Keeping.{holds}
use Rattle.plane_parts.proofs.frames.Frames.hold.Goals as goal

module _ (c : goal.Joined-insert-2) where
  -- what is held then
  holding : Holding
  holding = record { waiting = c.in-Some.frame; floor = c.args.floor }

  was : Queued
  was = record { waiting = c.self.inside.waiting.items; held = held_in c.self.inside.held.entries; next = c.self.inside.next }

  order : IsQueued (record { waiting = c.in-Some.frame ∷ c.pop_front.new.self.items; held = held_in c.self.inside.held.entries; next = c.self.inside.next })
  order = rw (sym c.in-Some.ensures.items) c.self.invariant.2

  now : c.insert.new.self.entries ≡ under_ids (held_in c.self.inside.held.entries ++ holding ∷ [])
  unfolding holding
  now = c.in-Ok.ensures.entries
      ∙ (ap (λ h. insert_entry nat_cmp c.self.inside.held.entries c.id.result h) c.of.ensures
      ∙ (ap (λ i. insert_entry nat_cmp c.self.inside.held.entries i holding) c.id.ensures
      ∙ (ap (λ es. insert_entry nat_cmp es c.in-Some.frame.id holding) c.self.invariant.1
      ∙ appended holding (held_in c.self.inside.held.entries) (waiting_ids c.pop_front.new.self.items ++ c.self.inside.next ∷ []) order.ordered)))

left : goal.Joined-insert-2 → List Holding → Queued
left c held = record { waiting = c.pop_front.new.self.items; held = held; next = c.self.inside.next }

pub invariant_of-self-in-Ok : goal.invariant_of-self-in-Ok
unfolding holding
invariant_of-self-in-Ok c = (
  rw c.pop_front.ensures.capacity c.self.invariant.0,
  rw (now c, held_under (held_in c.self.inside.held.entries ++ holding c ∷ [])) refl,
  rw (now c, held_under (held_in c.self.inside.held.entries ++ holding c ∷ [])) (holds _ c.args.floor (order c)),
)

pub returns-in-Ok-clause-ok : goal.returns-in-Ok-clause-ok
unfolding was left holding
returns-in-Ok-clause-ok c =
    ap (left c) (ap held_in (now c) ∙ held_under (held_in c.self.inside.held.entries ++ holding c ∷ []))
    ∙ (ap (λ ws. holds_oldest (was c) c.args.floor ws) (sym c.in-Some.ensures.items)
    ∙ ap (λ q. holds_oldest q c.args.floor q.waiting) c.self.view_is)
