use Rattle.std.proofs.Common.{◌≡◌, List, [], ◌∷◌, ◌++◌, map, refl, sym, ap, ◌∙◌}
use Rattle.std.proofs.lemmas.Iterator.Adapters.{YieldsList-from_vec}
use Rattle.std.proofs.lemmas.Iterator.Consumers.{YieldsList-end}
use Rattle.std.proofs.lemmas.List.{map-append, map-id}
use Rattle.plane_lock.specs.declared.queues.Driver.{Driver}
use Rattle.plane_lock.specs.declared.queues.Queue.{Queue}
use Rattle.plane_lock.proofs.queues.Queues.split.Goals as goal

-- one more of both
pushed : {A B C : Type 0} (f : A → C) (h : B → C) (xs : List A) (x : A) (ys zs : List B) (y : B) → map h ys ≡ map f xs → zs ≡ ys ++ y ∷ [] → h y ≡ f x → map h zs ≡ map f (xs ++ x ∷ [])
pushed f h xs x ys zs y is more same =
    ap (map h) more ∙ (map-append h ys (y ∷ []) ∙ ((λ i. is i ++ same i ∷ []) ∙ sym (map-append f xs (x ∷ []))))

pub loop-queue-preserved : goal.loop-queue-preserved
loop-queue-preserved c =
    let posters = sym (map-id c.push.new.self.items)
    ∙ pushed (λ (q : Queue). q.poster) (λ x. x) c.loop-queue.yielded c.in-Some.queue c.loop-queue.posters.items c.push.new.self.items c.in-Some.queue.poster
    (map-id c.loop-queue.posters.items ∙ c.loop-queue.invariant.0) c.in_ok-push.ensures.items refl in
    let drivers = pushed (λ (q : Queue). q.dom) (λ (d : Driver). d.dom) c.loop-queue.yielded c.in-Some.queue c.loop-queue.drivers.items c.push-in-loop-queue.new.self.items _ c.loop-queue.invariant.1
    c.in_ok-push-2.ensures.items refl in (posters, drivers)

all : (c : goal.After-drop-queue-iterator-2) → c.loop-queue.yielded ≡ c.args.self
all c =
    let gives = c.into_iter-queue-iterator.ensures.into_iter_gives in
    let end = YieldsList-end
    (YieldsList-from_vec {s = c.into_iter-queue-iterator.result} _ gives.0 (gives.1 ∙ c.self.inside.queues.ok.0)) c.loop-queue.yielded c.loop-queue.queue-iterator c.loop-queue.yielded_by
    c.next.result c.next.new.self c.in-None.is c.next.ensures.steps in
    sym (map-id c.loop-queue.yielded) ∙ (end.0 ∙ c.self.view_is)

pub returns-clause-posters : goal.returns-clause-posters
returns-clause-posters c = c.loop-queue.invariant.0 ∙ ap (map (λ (q : Queue). q.poster)) (all c)

pub returns-clause-drivers : goal.returns-clause-drivers
returns-clause-drivers c = c.loop-queue.invariant.1 ∙ ap (map (λ (q : Queue). q.dom)) (all c)
