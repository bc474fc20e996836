use Rattle.std.proofs.Common.{◌≡◌, ℕ, List, set, sym, ap, subst, length, ◌∙◌, arith}
use Rattle.lists.specs.Padded.{padded}
use Rattle.lists.proofs.Filling.{length-padded}
use Rattle.chip_regs.proofs.Banks.{row-put}
use Rattle.chip_regs.proofs.Bank.put.Goals as goal

pub returns-then-i-len : goal.returns-then-i-len
returns-then-i-len g c =
    let rows = c.self.inside.rows.items in
    record {
      value = row-put g.row.ROWS rows c.args.self.now c.args.i c.args.row c.self.view_is (omega (arith, c.len.ensures, c.self.inside.rows.ok.0));
      len = sym (ap length c.self.view_is) ∙ length-padded 0 g.row.ROWS rows;
    }

pub returns : goal.returns
returns g c =
    let old = c.self.inside.rows.items in
    let new = c.put_item.new.items.items in
    let row = c.args.row in
    record {
      value = subst (λ b. padded b g.row.ROWS new ≡ set (padded b g.row.ROWS old) c.args.i row) c.self.invariant.1 (c.put_item.ensures.items g.row.ROWS)
          ∙ ap (λ (xs : List ℕ). set xs c.args.i row) c.self.view_is;
      len = sym (ap length c.self.view_is) ∙ length-padded 0 g.row.ROWS old;
    }
