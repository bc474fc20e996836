use Rattle.std.proofs.Common.{◌-◌, arith}
use Rattle.std.proofs.lemmas.List.{take_all}
use Rattle.transcript_text.proofs.Hundreds.{stored}
use Rattle.transcript_text.proofs.line_end.put_chunk.Goals as goal

pub returns-clause-written : goal.returns-clause-written
returns-clause-written g c =
    rw (take_all g.row.N c.args.word.now (omega arith)) (stored c.args.bytes.now c.args.word.now (c.args.end - g.row.N) c.args.end (omega arith) c.requires.inside)
