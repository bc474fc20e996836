-- What keeps the order of ids.
use Rattle.std.proofs.Common.{◌≡◌, ℕ, ◌+◌, ◌<◌, ◌≤◌, Bool, List, [], ◌∷◌, ◌++◌, length, drop, sym, ap, ◌∙◌, arith}
use Rattle.std.specs.List.{filter}
use Rattle.std.proofs.lemmas.List.{append_assoc, map-append, length-append}
use Rattle.br_model.specs.Table.Limits.{most_waiting}
use Rattle.br_model.specs.Plane.World.{Waiting, Holding}
use Rattle.plane_parts.specs.Queued.{Queued, IsQueued, ascends, holds_oldest, waiting_ids, held_ids}
use Rattle.plane_parts.proofs.HeldRows.{ascends_filter, fewer}
use Rattle.plane_parts.proofs.Ordered.{ascends_later, ascends_more, ascends_without}

pub passes : (q : Queued) → IsQueued q → IsQueued (record q { next = q.next + 1 })
passes q k = record {
  ordered = ap ascends (sym (append_assoc (held_ids q.held) (waiting_ids q.waiting) _))
      ∙ ascends_later q.next (held_ids q.held ++ waiting_ids q.waiting) (ap ascends (append_assoc (held_ids q.held) (waiting_ids q.waiting) _) ∙ k.ordered);
  few = k.few;
}

pub waits : (q : Queued) (f : Waiting) → IsQueued q → f.id ≡ q.next → length q.waiting + length q.held < most_waiting
    → IsQueued (record q { waiting = q.waiting ++ f ∷ []; next = q.next + 1 })
waits q f k is room = record {
  ordered = ap (λ ids. ascends (held_ids q.held ++ (ids ++ (q.next + 1) ∷ []))) (map-append (λ g. g.id) q.waiting (f ∷ []) ∙ ap (λ n. waiting_ids q.waiting ++ n ∷ []) is)
      ∙ (ap (λ ids. ascends (held_ids q.held ++ ids)) (append_assoc (waiting_ids q.waiting) (q.next ∷ []) _)
      ∙ (ap ascends (sym (append_assoc (held_ids q.held) (waiting_ids q.waiting) _))
      ∙ ascends_more q.next (held_ids q.held ++ waiting_ids q.waiting) (ap ascends (append_assoc (held_ids q.held) (waiting_ids q.waiting) _) ∙ k.ordered)));
  few = rw (length-append q.waiting (f ∷ [])) (grind arith);
}

pub serves : (q : Queued) → IsQueued q → IsQueued (record q { waiting = drop 1 q.waiting })
serves q k = served q.waiting k
  where
    served : (frames : List Waiting) → IsQueued (record q { waiting = frames }) → IsQueued (record q { waiting = drop 1 frames })
    served [] k = k
    served (f ∷ later) k = record { ordered = ascends_without f.id (held_ids q.held) (waiting_ids later ++ q.next ∷ []) k.ordered; few = grind arith }

pub releases : (q : Queued) (t : Holding → Bool) → IsQueued q → IsQueued (record q { held = filter t q.held })
releases q t k = record {
  ordered = ascends_filter t q.held (waiting_ids q.waiting ++ q.next ∷ []) k.ordered;
  few = let less : length (filter t q.held) ≤ length q.held = fewer t q.held in let few : length q.waiting + length q.held ≤ most_waiting = k.few in grind arith;
}

pub holds : (q : Queued) (floor : ℕ) → IsQueued q → IsQueued (holds_oldest q floor q.waiting)
holds q floor k = held q.waiting k
  where
    held : (frames : List Waiting) → IsQueued (record q { waiting = frames }) → IsQueued (holds_oldest (record q { waiting = frames }) floor frames)
    held [] k = k
    held (f ∷ later) k = record {
      ordered = ap (λ ids. ascends (ids ++ (waiting_ids later ++ q.next ∷ []))) (map-append (λ h. h.waiting.id) q.held (record { waiting = f; floor = floor } ∷ []))
          ∙ (ap ascends (append_assoc (held_ids q.held) (f.id ∷ []) (waiting_ids later ++ q.next ∷ [])) ∙ k.ordered);
      few = rw (length-append q.held (record { waiting = f; floor = floor } ∷ [])) (let few : length (f ∷ later) + length q.held ≤ most_waiting = k.few in grind arith);
    }
