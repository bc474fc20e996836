use Rattle.std.proofs.Common.{◌≡◌, List, length, sym, ap, ◌∙◌, subst}
use Rattle.std.proofs.lemmas.List.{length-map}
use Rattle.std.proofs.lemmas.List.Elements.{All-map}
use Rattle.deferred_queue.specs.Ends.{Posting}
use Rattle.plane_lock.specs.Posted.{HavePosted, updates_of}
use Rattle.plane_lock.specs.declared.queues.Queue.{Queue}
use Rattle.plane_lock.proofs.shared.Shared.make.Goals as goal

pub new-requires-clause-posted : goal.new-requires-clause-posted
new-requires-clause-posted g c =
    subst (λ (ps : List Posting). HavePosted (updates_of c.args.ran) ps) (sym c.in-Ok.ensures.posters)
    (All-map (λ (x : Posting). x.posted ≡ updates_of c.args.ran) (λ (q : Queue). q.poster) c.args.queues c.requires.posted)

pub new-requires-clause-ends : goal.new-requires-clause-ends
new-requires-clause-ends g c =
    ap (λ (ps : List Posting). length ps) c.in-Ok.ensures.posters
    ∙ (length-map c.args.queues (λ (q : Queue). q.poster)
    ∙ (sym (length-map c.args.queues (λ (q : Queue). q.dom)) ∙ ap length c.requires.doms))
