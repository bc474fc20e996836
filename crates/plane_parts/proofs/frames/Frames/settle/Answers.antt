use Rattle.std.proofs.Common.{◌+◌, ◌≤◌, sym, ap, subst, ◌∙◌, length}
use Rattle.std.specs.VecDeque.{deque_capacity}
use Rattle.br_model.specs.Table.Limits.{most_waiting}
use Rattle.plane_parts.specs.declared.frames.Frames.TheInside.{Inside}
use Rattle.plane_parts.specs.Arrivals.{IsArrival}
use Rattle.plane_parts.specs.declared.frames.Arrival.{Arrival}
use Rattle.plane_parts.specs.declared.frames.Arrival.TheVariants.{Waits}
use Rattle.plane_parts.specs.Queued.{IsQueued, IsKeyed, held_in}
use Rattle.plane_parts.proofs.Keeping.{waits, passes}
use Rattle.plane_parts.proofs.frames.Frames.settle.Goals.{in-Waits, in_default}
use Rattle.plane_parts.proofs.frames.Frames.settle.Goals as goal

-- what holds of the fields once the next id is taken
abbrev Stands : Inside → Type 0
Stands f = (most_waiting ≤ deque_capacity f.waiting) × IsKeyed f.held.entries × IsQueued (record { waiting = f.waiting.items; held = held_in f.held.entries; next = f.next + 1 })

pub invariant_of-self : goal.invariant_of-self
invariant_of-self c = elim c.match-arrival.branch as (λ x. Stands c.match-arrival.self-inside) [
  | in-Waits w ↦
      let room : IsArrival c.args.self.now (Waits w.in-Waits.frame) = subst (λ (a : Arrival). IsArrival c.args.self.now a) w.in-Waits.is c.requires.room in
      subst Stands (sym w.self-inside-is) (
        rw w.push_back_reserved.ensures.capacity c.self.invariant.0,
        c.self.invariant.1,
        rw w.push_back_reserved.ensures.items
            (waits _ w.in-Waits.frame c.self.invariant.2 (room.0 ∙ sym (ap (λ q. q.next) c.self.view_is)) (rw (ap (λ q. length q.waiting + length q.held) c.self.view_is) room.1)),
      )
  | in_default w ↦ subst Stands (sym w.self-inside-is) (c.self.invariant.0, c.self.invariant.1, passes _ c.self.invariant.2)
]
