use Rattle.std.proofs.Common.{[], ◌<◌, refl, ◌∙◌, arith}
use Rattle.run_io.proofs.ReadSteps.{none_of, reads_none, reads_then, end_of_rest, last_line, wants_unread, wants_unheld}
use Rattle.run_io.proofs.lines.LineReader.find_line.Goals as goal

pub loop-held-init : goal.loop-held-init
loop-held-init g c = record {
  reads = reads_none c.args.self.now (g.S.Source.left c.args.src.now);
  fault = refl;
  unread = λ _. (refl, refl);
  later = omega arith;
}

pub returns-in_default-clause-reads : goal.returns-in_default-clause-reads
returns-in_default-clause-reads g c = c.loop-held.invariant.reads

pub returns-in-Some-clause-reads : goal.returns-in-Some-clause-reads
returns-in-Some-clause-reads g c = c.loop-held.invariant.reads

pub returns-in_err-fill-clause-reads : goal.returns-in_err-fill-clause-reads
returns-in_err-fill-clause-reads g c = reads_then c.args.self.now c.loop-held.self c.fill.new.self _ _ _ [] c.loop-held.invariant.reads c.fill.ensures.reads

pub returns-then-rest-eq0-clause-reads : goal.returns-then-rest-eq0-clause-reads
returns-then-rest-eq0-clause-reads g c = reads_then c.args.self.now c.loop-held.self c.fill.new.self _ _ _ [] c.loop-held.invariant.reads c.fill.ensures.reads

pub returns-else-rest-eq0-clause-reads : goal.returns-else-rest-eq0-clause-reads
returns-else-rest-eq0-clause-reads g c = reads_then c.args.self.now c.loop-held.self c.fill.new.self _ _ _ [] c.loop-held.invariant.reads c.fill.ensures.reads

pub returns-then-rest-eq0-clause-line : goal.returns-then-rest-eq0-clause-line
returns-then-rest-eq0-clause-line g c =
    let ended = c.in_ok-fill.ensures.end c.if-branch-eq0.true in
    end_of_rest c.loop-held.self c.fill.new.self _ c.rest-rest.result.len ended c.in_ok-fill.ensures.ok c.rest-rest.ensures.len c.if-rest-eq0.true

pub returns-else-rest-eq0-clause-line : goal.returns-else-rest-eq0-clause-line
returns-else-rest-eq0-clause-line g c =
    let wants = none_of c.in-Ok.held _ _ c.in-Ok.ensures.line c.in_default-held.not-Some in
    let ended = c.in_ok-fill.ensures.end c.if-branch-eq0.true in
    let some : 0 < c.rest-rest.result.len = omega (arith, c.if-rest-eq0.false) in
    last_line c.loop-held.self c.fill.new.self _ c.rest-rest.result wants ended c.in_ok-fill.ensures.ok c.rest-rest.ensures.len c.rest-rest.ensures.past c.rest-rest.ensures.whole some

pub returns-in_err-fill-clause-unread : goal.returns-in_err-fill-clause-unread
returns-in_err-fill-clause-unread g c =
    let wants = none_of c.in-Ok.held _ _ c.in-Ok.ensures.line c.in_default-held.not-Some in
    let unread = c.loop-held.invariant.unread in
    wants_unread c.args.self.now c.loop-held.self c.args.src.now c.loop-held.src c.fill.new.src unread (c.loop-held.invariant.fault ∙ c.requires) wants c.held_line.ensures.within c.fill.ensures.full

pub returns-then-rest-eq0-clause-unread : goal.returns-then-rest-eq0-clause-unread
returns-then-rest-eq0-clause-unread g c =
    let wants = none_of c.in-Ok.held _ _ c.in-Ok.ensures.line c.in_default-held.not-Some in
    let unread = c.loop-held.invariant.unread in
    λ holds. absurd (wants_unheld c.args.self.now c.loop-held.self _ unread (c.loop-held.invariant.fault ∙ c.requires) wants c.in_ok-fill.ensures.ok holds)

pub returns-else-rest-eq0-clause-unread : goal.returns-else-rest-eq0-clause-unread
returns-else-rest-eq0-clause-unread g c =
    let wants = none_of c.in-Ok.held _ _ c.in-Ok.ensures.line c.in_default-held.not-Some in
    let unread = c.loop-held.invariant.unread in
    λ holds. absurd (wants_unheld c.args.self.now c.loop-held.self _ unread (c.loop-held.invariant.fault ∙ c.requires) wants c.in_ok-fill.ensures.ok holds)

pub loop-held-preserved : goal.loop-held-preserved
loop-held-preserved g c =
    let wants = none_of c.in-Ok.held _ _ c.in-Ok.ensures.line c.in_default-held.not-Some in
    let unread = c.loop-held.invariant.unread in record {
      reads = reads_then c.args.self.now c.loop-held.self c.fill.new.self _ _ _ [] c.loop-held.invariant.reads c.fill.ensures.reads;
      fault = c.fill.ensures.fault ∙ c.loop-held.invariant.fault;
      unread = λ holds. absurd (wants_unheld c.args.self.now c.loop-held.self _ unread (c.loop-held.invariant.fault ∙ c.requires) wants c.in_ok-fill.ensures.ok holds);
      later = omega (arith, c.loop-held.invariant.later, c.fill.ensures.later);
    }
