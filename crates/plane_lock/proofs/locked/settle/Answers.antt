use Rattle.std.proofs.Common.{◌≡◌, ◌∙◌, refl, sym}
use Rattle.plane_record.specs.Pasts.{changes_of}
use Rattle.plane_lock.proofs.Settling.{counted, counted-other, may-post-all, posted-already, posted-still, published-more, published-none}
use Rattle.plane_lock.proofs.locked.settle.Given as given
use Rattle.plane_lock.proofs.locked.settle.Goals as goal

-- There are no more changes than before.

same : (g : given.Over) (c : goal.Then-history-changes g) → changes_of c.args.ran.now ≡ c.args.changes
same g c = sym (counted c.args.ran.now c.plane.result.now c.history.result.now c.args.changes (sym c.if-history-changes.true) c.history.ensures c.plane.ensures)

pub returns-then-history-changes-clause-posted : goal.returns-then-history-changes-clause-posted
returns-then-history-changes-clause-posted g c =
    posted-already c.args.ran.now c.requires.0 c.args.posters.now.items c.args.changes c.requires.1 c.requires.2 c.requires.3 (same g c)

pub returns-then-history-changes-clause-done : goal.returns-then-history-changes-clause-done
returns-then-history-changes-clause-done g c = published-none c.args.changes c.args.ran.now (same g c)

-- There are more.

pub post_all-requires : goal.post_all-requires
post_all-requires g c = may-post-all c.args.ran.now c.plane-2.result.now c.args.posters.now.items c.plane-2.ensures c.requires.0 c.requires.1 c.requires.3

pub returns-in-Ok-clause-posted : goal.returns-in-Ok-clause-posted
returns-in-Ok-clause-posted g c =
    posted-still c.record_publish.result c.args.ran.now c.record_publish.new.self c.plane-2.result.now c.post_all.new.posters.items c.plane-2.ensures c.post_all.ensures.posted
    c.record_publish.ensures.ok c.record_publish.ensures.err

pub returns-in-Ok-clause-done : goal.returns-in-Ok-clause-done
returns-in-Ok-clause-done g c =
    c.in-Ok.ensures.ok
    ∙ published-more c.args.changes c.args.ran.now (counted-other c.args.ran.now c.plane.result.now c.history.result.now c.args.changes c.if-history-changes.false c.history.ensures c.plane.ensures)

pub returns-in-Err-clause-posted : goal.returns-in-Err-clause-posted
returns-in-Err-clause-posted g c =
    posted-still c.record_publish.result c.args.ran.now c.record_publish.new.self c.plane-2.result.now c.post_all.new.posters.items c.plane-2.ensures c.post_all.ensures.posted
    c.record_publish.ensures.ok c.record_publish.ensures.err

pub returns-in-Err-clause-undone : goal.returns-in-Err-clause-undone
returns-in-Err-clause-undone g c =
    (refl, c.in-Err.ensures.err, counted-other c.args.ran.now c.plane.result.now c.history.result.now c.args.changes c.if-history-changes.false c.history.ensures c.plane.ensures)
