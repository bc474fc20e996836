use Rattle.std.proofs.Common.{◌≡◌, sym, ap, ◌∙◌, subst}
use Rattle.br_model.specs.Table.Domains.{Domains}
use Rattle.plane_core.specs.Planes.{PlaneState, published_in}
use Rattle.table_publish.specs.Object.{Begins}
use Rattle.plane_lock.specs.Posts.{IsSeen}
use Rattle.plane_lock.proofs.Posting.{decides}
use Rattle.live_tests.proofs.tests.calls.post.Goals as goal

pub tell-requires : goal.tell-requires
tell-requires c = c.in_ok-seen.ensures.board ∙ (c.requires ∙ sym c.open_frame.ensures.board)

-- the seat was told of what is published since it decided
pub post-requires-clause-decision : goal.post-requires-clause-decision
post-requires-clause-decision c x copy le =
    let s = c.decide.new.seat in
    let k = c.tell.new.s.object in
    let p = c.tell.new.self in
    let domains : s.board.domains ≡ p.world.setup.domains =
    ap (λ b. b.domains) (c.in_ok-seen.ensures.board ∙ (c.requires ∙ (sym c.open_frame.ensures.board ∙ sym (ap (λ (q : PlaneState). q.board) c.tell.ensures.same)))) ∙ c.stands.ensures.domains in
    let told : Begins k (published_in p.world) = subst (λ (q : PlaneState). Begins k (published_in q.world)) (sym c.tell.ensures.same) c.tell.ensures.told in
    let seen : IsSeen p.world.setup.domains s.object c.in_ok-held.held c.in_ok-seen.seen =
    subst (λ (d : Domains). IsSeen d s.object c.in_ok-held.held c.in_ok-seen.seen) domains c.in_ok-seen.ensures.seen in
    decides k s.object p.world c.in_ok-held.held x c.in_ok-seen.seen c.stands.ensures.world c.tell.ensures.published c.in_ok-seen.ensures.published c.tell.ensures.kept told seen copy le
