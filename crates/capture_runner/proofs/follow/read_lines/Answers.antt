use Rattle.std.proofs.Common.{Err, ap, ◌∙◌, arith}
use Rattle.std.proofs.lemmas.Result.{err_from_is_err_and}
use Rattle.capture_runner.proofs.Followed.{few_lines, started, stops_by}
use Rattle.capture_runner.proofs.follow.read_lines.Goals as goal

pub loop-reader-init : goal.loop-reader-init
loop-reader-init g c =
    let reader = c.make-reader.ensures in record {
      follows = started _ _ _ reader.held reader.taken reader.limit reader.fault c.requires;
      reads = omega arith;
    }

pub advance-requires-clause-few : goal.advance-requires-clause-few
advance-requires-clause-few g c = let few = few_lines _ _ _ _ c.loop-reader.invariant.follows in omega (arith, few)

pub returns-in_err-end-clause-ends : goal.returns-in_err-end-clause-ends
returns-in_err-end-clause-ends g c =
    let stopped = c.in_err-end.ensures.advances _ _ c.loop-reader.invariant.follows in
    let err = err_from_is_err_and c.from_residual.result c.from_residual.ensures.1 in
    stops_by _ _ c.advance.new.reader c.advance.new.follower _ c.in_err-end.field-0.0 _ (err.1 ∙ ap Err err.2) stopped

pub returns-in-Some-clause-ends : goal.returns-in-Some-clause-ends
returns-in-Some-clause-ends g c = rw c.in-Some.is at (c.in_ok-end.ensures.advances _ _ c.loop-reader.invariant.follows)

pub loop-reader-preserved : goal.loop-reader-preserved
loop-reader-preserved g c = record {
  follows = rw c.in_default.is at (c.in_ok-end.ensures.advances _ _ c.loop-reader.invariant.follows);
  reads = omega (arith, c.loop-reader.invariant.reads, c.advance.ensures.later);
}
