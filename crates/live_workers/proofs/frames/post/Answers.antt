use Rattle.std.proofs.Common.{sym}
use Rattle.std.proofs.lemmas.List.Elements.{All-head, All-rest, All-same}
use Rattle.plane_lock.specs.Posts.{IsSeen}
use Rattle.live_workers.specs.declared.frames.Looked.{Looked}
use Rattle.live_workers.proofs.Known.{all_still}
use Rattle.live_workers.proofs.frames.post.Goals as goal

pub loop-held-init : goal.loop-held-init
loop-held-init g c = All-same (λ (x : Looked). IsSeen g.N.Name.board.domains c.args.chair.now.object x.held x.seen) _ _ c.into_iter-held-iterator.ensures.into_iter_gives.0 c.requires

pub post_as-requires : goal.post_as-requires
post_as-requires g c =
    let P : Looked → Type 0 = λ x. IsSeen g.N.Name.board.domains c.loop-held.chair.object x.held x.seen in
    All-head P c.in-Some.field-0 c.next.new.self.rest.items (All-same P _ _ (sym c.in-Some.ensures.steps.0) c.loop-held.invariant)

pub loop-held-preserved : goal.loop-held-preserved
loop-held-preserved g c =
    all_still g.N.Name.board.domains c.loop-held.chair.object c.post_as.new.c.object c.next.new.self.rest.items c.stands.ensures c.post_as.ensures.kept
    (All-rest
    (λ (x : Looked). IsSeen g.N.Name.board.domains c.loop-held.chair.object x.held x.seen) c.in-Some.field-0 c.next.new.self.rest.items c.loop-held.held-iterator.rest.items
    c.in-Some.ensures.steps.0 c.loop-held.invariant)
