use Rattle.std.proofs.Common.{length, sym, ap, refl, ◌∙◌, arith}
use Rattle.lists.proofs.Filling.{length-padded}
use Rattle.chip_regs.proofs.Banks.{row-blank}
use Rattle.chip_regs.proofs.Bank.written.Goals as goal

pub returns : goal.returns
returns g c =
    let rows = c.self.inside.rows.items in
    record {
      few = omega (arith, c.len.ensures, c.self.inside.rows.ok.0, c.self.invariant.2);
      rest = λ i past below. row-blank g.row.ROWS rows c.args.self.now i 0 c.self.view_is below (omega (arith, past, c.len.ensures, c.self.inside.rows.ok.0)) refl;
      len = sym (ap length c.self.view_is) ∙ length-padded 0 g.row.ROWS rows;
    }
