use Rattle.std.proofs.Common.{set, length, sym, ap, ◌∙◌, arith}
use Rattle.lists.proofs.Filling.{length-padded}
use Rattle.chip_regs.specs.Rows.{with_field, bit_of}
use Rattle.chip_regs.proofs.Banks.{row-written, row-blank, row-put}
use Rattle.chip_regs.proofs.Bank.set_bit.Goals as goal

pub returns-then-i-len : goal.returns-then-i-len
returns-then-i-len g c =
    let rows = c.self.inside.rows.items in
    let all = c.args.self.now in
    record {
      value = row-put g.row.ROWS rows all c.args.i c.set_bit.new.self c.self.view_is (omega (arith, c.len.ensures, c.self.inside.rows.ok.0))
          ∙ ap (set all c.args.i)
          (c.set_bit.ensures
          ∙ ap (λ r. with_field r c.args.at 1 (bit_of c.args.on))
          (row-written g.row.ROWS rows all c.args.i c.index_mut.result.now c.self.view_is c.requires.row (omega (arith, c.len.ensures, c.self.inside.rows.ok.0)) c.index_mut.ensures.value));
      len = sym (ap length c.self.view_is) ∙ length-padded 0 g.row.ROWS rows;
    }

pub returns : goal.returns
returns g c =
    let rows = c.self.inside.rows.items in
    let all = c.args.self.now in
    record {
      value = c.put.ensures.value
          ∙ ap (set all c.args.i)
          (c.set_bit-2.ensures
          ∙ ap (λ r. with_field r c.args.at 1 (bit_of c.args.on))
          (row-blank g.row.ROWS rows all c.args.i c.self.inside.blank c.self.view_is c.requires.row (omega (arith, c.len.ensures, c.self.inside.rows.ok.0)) c.self.invariant.1));
      len = c.put.ensures.len;
    }
