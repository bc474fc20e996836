use Rattle.plane_lock.proofs.Calling.{post-acted, posts-on-some}
use Rattle.plane_lock.proofs.shared.Shared.post_as.Goals as goal

pub returns-clause-posted : goal.returns-clause-posted
returns-clause-posted g c =
    let ensures = c.post_as-done.ensures in
    posts-on-some g.N.Name.board g.N.Name.own c.lock-core.result.value c.deref_mut.result.now c.lock-core.ensures c.deref_mut.ensures.value
    c.post_as-done.new.self c.args.h c.args.n c.post_as-done.new.c.object c.post_as-done.result
    (post-acted c.post_as-done.result c.deref_mut.result.now c.post_as-done.new.self c.args.h c.args.n ensures.ok ensures.said ensures.lines ensures.held ensures.err) ensures.told
