use Rattle.std.proofs.Common.{◌≡◌, ◌+◌, ◌*◌, ◌/◌, ◌^◌, set, sym, ap, subst, ◌∙◌, arith}
use Rattle.std.proofs.lemmas.Nat.{and_mask}
use Rattle.std.proofs.Math.Nat.{mod-eq_of_lt}
use Rattle.chip_regs.specs.Rows.{number, with_field, AreBytes}
use Rattle.chip_regs.specs.Windows.{written}
use Rattle.chip_regs.proofs.Numbers.{written-none, written-more, length-written, bytes-written, bytes-from, bytes-all, number-written}
use Rattle.chip_regs.proofs.Row.write.Goals as goal

pub loop-i-init : goal.loop-i-init
loop-i-init g c = sym (written-none c.self.inside.bytes c.args.first c.args.number)

pub invariant_of-self : goal.invariant_of-self
invariant_of-self g c =
    let bs = c.self.inside.bytes in
    subst (AreBytes g.row.BYTES) (sym c.loop-i.invariant)
    (length-written bs c.args.first c.loop-i.i c.args.number ∙ c.self.invariant.0, bytes-all _ (bytes-written bs c.args.first c.loop-i.i c.args.number (bytes-from bs c.self.invariant.1)))

pub loop-i-preserved : goal.loop-i-preserved
loop-i-preserved g c =
    let bs = c.self.inside.bytes in
    let i = c.loop-i.i in
    (λ t. set (c.loop-i.invariant t) (c.args.first + i) (and_mask (c.args.number / 2 ^ (8 * i)) 8 t)) ∙ sym (written-more bs c.args.first i c.args.number (omega (arith, c.self.told)))

pub returns : goal.returns
returns g c =
    let bs = c.self.inside.bytes in
    let done : c.loop-i.i ≡ c.args.count = omega arith in
    ap number (c.loop-i.invariant ∙ ap (λ k. written bs c.args.first k c.args.number) done)
    ∙ number-written bs c.args.first c.args.count c.args.number (bytes-from bs c.self.invariant.1) (omega (arith, c.self.told))
    ∙ (λ t. with_field (c.self.view_is t) (8 * c.args.first) (8 * c.args.count) (mod-eq_of_lt c.requires.narrow t))
