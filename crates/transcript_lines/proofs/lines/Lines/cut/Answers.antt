use Rattle.std.proofs.Common.{arith}
use Rattle.transcript_lines.proofs.RowLaws.{saved_cut}
use Rattle.transcript_lines.proofs.lines.Lines.cut.Goals as goal

pub invariant_of-self : goal.invariant_of-self
invariant_of-self c = (
  saved_cut c.self.inside.bytes.items c.self.inside.rows.items _ c.self.inside.saved_rows c.self.inside.saved_bytes c.self.invariant.0 c.truncate.ensures.items,
  record { all = omega (arith, c.truncate.ensures.len, c.truncate.ensures.capacity, c.self.invariant.1.all); copy = omega (arith, c.truncate.ensures.len, c.self.invariant.1.copy) },
  c.self.invariant.2,
  c.self.invariant.3,
  c.self.invariant.4,
)
