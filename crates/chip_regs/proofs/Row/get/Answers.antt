use Rattle.std.proofs.Common.{◌≡◌, ℕ, ◌+◌, ◌*◌, ◌/◌, ◌%◌, ◌^◌, ◌≤◌, refl, ap, sym, subst, ◌<◌, ◌∙◌, arith}
use Rattle.chip_regs.proofs.Fields.{field-lt}
use Rattle.chip_regs.proofs.Numbers.{get_is}
use Rattle.chip_regs.proofs.Row.get.Goals as goal

pub returns-clause-value : goal.returns-clause-value
returns-clause-value g c =
    let row : ℕ = c.args.self.now in
    let at : ℕ = c.args.f.at in
    let count : ℕ = c.byte_count.result in
    let window : c.window-window.result ≡ row / 2 ^ (8 * (at / 8)) % 2 ^ (8 * count) = c.window-window.ensures ∙ ap (λ k. row / 2 ^ (8 * k) % 2 ^ (8 * count)) c.from-first.ensures in
    let fits : at % 8 + c.args.f.width ≤ 8 * count = omega (arith, c.byte_count.ensures.covers) in
    c.field_in.ensures ∙ (λ t. window t / 2 ^ (at % 8) % 2 ^ (c.from.ensures t)) ∙ get_is row at c.args.f.width (8 * count) (at % 8) refl fits

pub returns-clause-below : goal.returns-clause-below
returns-clause-below g c = subst (λ x. x < 2 ^ c.args.f.width) (sym (returns-clause-value g c)) (field-lt c.args.self.now c.args.f.at c.args.f.width)
