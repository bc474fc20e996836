use Rattle.std.proofs.Common.{◌≡◌, sym, ap, ◌∙◌, subst}
use Rattle.br_model.specs.Table.Domains.{Domains}
use Rattle.plane_core.specs.Planes.{PlaneState, published_in}
use Rattle.plane_record.specs.Pasts.{Past, world_of}
use Rattle.plane_record.proofs.Recording.{world-stands}
use Rattle.table_publish.specs.Object.{Begins}
use Rattle.plane_lock.specs.Posts.{IsSeen}
use Rattle.plane_lock.proofs.Posting.{decides}
use Rattle.live_tests.proofs.tests.calls.post_in_run.Goals as goal

pub tell-requires : goal.tell-requires
tell-requires c = c.in_ok-seen.ensures.board ∙ (c.requires ∙ sym (ap (λ (q : Past). q.board) c.in_ok-open_frame.ensures.ok))

-- the seat was told of what is published since it decided
pub post-requires-clause-decision : goal.post-requires-clause-decision
post-requires-clause-decision c x copy le =
    let s = c.decide.new.seat in
    let k = c.tell.new.s.object in
    let p = c.tell.new.self in
    let domains : s.board.domains ≡ (world_of p).setup.domains =
    ap (λ b. b.domains) (c.in_ok-seen.ensures.board ∙ (c.requires ∙ (sym (ap (λ (q : Past). q.board) c.in_ok-open_frame.ensures.ok) ∙ sym (ap (λ (q : Past). q.board) c.tell.ensures.same))))
    ∙ (ap (λ (q : PlaneState). q.board.domains) (sym c.plane.ensures) ∙ (c.stands.ensures.domains ∙ ap (λ (q : PlaneState). q.world.setup.domains) c.plane.ensures)) in
    let told : Begins k (published_in (world_of p)) = subst (λ (q : Past). Begins k (published_in (world_of q))) (sym c.tell.ensures.same) c.tell.ensures.told in
    let seen : IsSeen (world_of p).setup.domains s.object c.in_ok-held.held c.in_ok-seen.seen =
    subst (λ (d : Domains). IsSeen d s.object c.in_ok-held.held c.in_ok-seen.seen) domains c.in_ok-seen.ensures.seen in
    decides k s.object (world_of p) c.in_ok-held.held x c.in_ok-seen.seen (world-stands p) c.tell.ensures.published c.in_ok-seen.ensures.published c.tell.ensures.kept told seen copy le
