use Rattle.std.proofs.Common.{[], ◌-◌, sym, ◌∙◌, subst}
use Rattle.run_io.specs.Reading.{Reading, Reads}
use Rattle.run_io.specs.contracts.lines.LineReader.{the_view}
use Rattle.run_io.proofs.ReadSteps.{reads_kept, reads_more, reads_none, same_at_front}
use Rattle.run_io.proofs.lines.LineReader.fill.Goals as goal

pub returns-then-most-eq0-clause-reads : goal.returns-then-most-eq0-clause-reads
returns-then-most-eq0-clause-reads g c = reads_none c.args.self.now (g.S.Source.left c.args.src.now)

pub returns-in_err-make_room-clause-reads : goal.returns-in_err-make_room-clause-reads
returns-in_err-make_room-clause-reads g c =
    let left = g.S.Source.left c.args.src.now in
    let used = c.self.inside.end - c.self.inside.start in
    let held = sym c.move_to_front.ensures.moved ∙ sym c.in_err-make_room.ensures.kept in
    let same = same_at_front (the_view c.self.inside) c.make_room.new.buffer.items used held ∙ c.self.view_is in
    subst (λ (r : Reading). Reads c.args.self.now r left left []) (sym same) (reads_none c.args.self.now left)

pub returns-in_default-clause-reads : goal.returns-in_default-clause-reads
returns-in_default-clause-reads g c =
    let left = g.S.Source.left c.args.src.now in
    let now = g.S.Source.left c.read_after.new.src in
    let used = c.self.inside.end - c.self.inside.start in
    let held = sym c.move_to_front.ensures.moved ∙ sym c.in_ok-make_room.ensures.kept ∙ sym c.in_default.ensures.kept in
    let same = same_at_front (the_view c.self.inside) c.read_after.new.buffer.items used held ∙ c.self.view_is in
    subst (λ (r : Reading). Reads c.args.self.now r left now []) (sym same) (reads_kept c.args.self.now left now c.in_default.ensures.failed)

pub returns-clause-reads : goal.returns-clause-reads
returns-clause-reads g c =
    let used = c.self.inside.end - c.self.inside.start in
    let held = sym c.move_to_front.ensures.moved ∙ sym c.in_ok-make_room.ensures.kept ∙ sym c.in-Ok.ensures.kept in
    rw (← c.self.view_is) (reads_more (the_view c.self.inside) c.read_after.new.buffer.items used c.in-Ok.count _ _ held c.in-Ok.ensures.within c.in-Ok.ensures.given)
