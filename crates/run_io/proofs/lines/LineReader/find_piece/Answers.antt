use Rattle.std.proofs.Common.{[], refl, ◌∙◌, arith}
use Rattle.run_io.proofs.ReadSteps.{reads_none, reads_then}
use Rattle.run_io.proofs.lines.LineReader.find_piece.Goals as goal

pub loop-alloc-init : goal.loop-alloc-init
loop-alloc-init g c = record {
  reads = reads_none c.args.self.now (g.S.Source.left c.args.src.now);
  fault = refl;
  later = omega arith;
}

pub returns-in_err-fill-clause-reads : goal.returns-in_err-fill-clause-reads
returns-in_err-fill-clause-reads g c = reads_then c.args.self.now c.loop-alloc.self c.fill.new.self _ _ _ [] c.loop-alloc.invariant.reads c.fill.ensures.reads

pub returns-then-branch-eq0-clause-reads : goal.returns-then-branch-eq0-clause-reads
returns-then-branch-eq0-clause-reads g c = reads_then c.args.self.now c.loop-alloc.self c.fill.new.self _ _ _ [] c.loop-alloc.invariant.reads c.fill.ensures.reads

pub loop-alloc-preserved : goal.loop-alloc-preserved
loop-alloc-preserved g c = record {
  reads = reads_then c.args.self.now c.loop-alloc.self c.fill.new.self _ _ _ [] c.loop-alloc.invariant.reads c.fill.ensures.reads;
  fault = c.fill.ensures.fault ∙ c.loop-alloc.invariant.fault;
  later = omega (arith, c.loop-alloc.invariant.later, c.fill.ensures.later);
}

pub returns-clause-reads : goal.returns-clause-reads
returns-clause-reads g c = c.loop-alloc.invariant.reads
