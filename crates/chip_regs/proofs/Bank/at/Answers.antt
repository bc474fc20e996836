use Rattle.std.proofs.Common.{length, sym, ap, ◌∙◌, arith}
use Rattle.lists.proofs.Filling.{length-padded}
use Rattle.chip_regs.proofs.Banks.{row-written, row-blank}
use Rattle.chip_regs.proofs.Bank.at.Goals as goal

pub returns-then-i-len : goal.returns-then-i-len
returns-then-i-len g c =
    let rows = c.self.inside.rows.items in
    record {
      value = row-written g.row.ROWS rows c.args.self.now c.args.i c.index.result.now c.self.view_is c.requires (omega (arith, c.len.ensures, c.self.inside.rows.ok.0)) c.index.ensures;
      len = sym (ap length c.self.view_is) ∙ length-padded 0 g.row.ROWS rows;
    }

pub returns-else-i-len : goal.returns-else-i-len
returns-else-i-len g c =
    let rows = c.self.inside.rows.items in
    record {
      value = row-blank g.row.ROWS rows c.args.self.now c.args.i c.self.inside.blank c.self.view_is c.requires (omega (arith, c.len.ensures, c.self.inside.rows.ok.0)) c.self.invariant.1;
      len = sym (ap length c.self.view_is) ∙ length-padded 0 g.row.ROWS rows;
    }
