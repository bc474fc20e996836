use Rattle.std.proofs.Common.{◌<◌, ◌^◌, ◌-◌, arith}
use Rattle.transcript_text.proofs.Hundreds.{ends, put}
use Rattle.transcript_text.proofs.digits.Digits.put.Goals as goal

pub returns-clause-start : goal.returns-clause-start
returns-clause-start c =
    let kept = c.self-2.invariant in
    let small : c.args.number < 2 ^ 32 = omega (arith, c.ranges.number.fits) in
    ends c.self-2.inside.shared c.put_chunk.result c.self-2.inside.from (c.args.end - 2) c.args.end c.args.number c.self-2.inside.first kept.0 kept.1 (omega arith) (omega arith) small
    (omega arith) kept.2 kept.3 (omega arith) c.put_chunk.ensures.from

pub returns-clause-written : goal.returns-clause-written
returns-clause-written c =
    let kept = c.self-2.invariant in
    let small : c.args.number < 2 ^ 32 = omega (arith, c.ranges.number.fits) in
    put c.args.bytes.now c.write_pair.new.bytes c.put_chunk.new.bytes c.self-2.inside.shared c.put_chunk.result c.self-2.inside.from (c.args.end - 2) c.args.end c.args.number c.self-2.inside.first
    kept.0 kept.1 (omega arith) (omega arith) small (omega arith) kept.3 (omega arith) c.write_pair.ensures.written c.put_chunk.ensures.written
