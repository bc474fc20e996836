use Rattle.std.proofs.Common.{◌≡◌, ℕ, ◌+◌, ◌-◌, ◌*◌, ◌/◌, ◌%◌, ◌^◌, ◌<◌, ◌≤◌, rules, refl, ap, sym, subst, ◌∙◌, arith}
use Rattle.std.proofs.lemmas.Nat.{pow_pos}
use Rattle.std.proofs.Math.Nat.{mod-lt}
use Rattle.std.proofs.Math.Pow.{pow_mono}
use Rattle.chip_regs.specs.Rows.{with_field}
use Rattle.chip_regs.proofs.Numbers.{set_is, with_field-lt}
use Rattle.chip_regs.proofs.Row.set.Goals as goal

pub window_with-changed-requires-clause-window : goal.window_with-changed-requires-clause-window
window_with-changed-requires-clause-window g c =
    let count : ℕ = c.byte_count-count.result in
    let few : 8 * count ≤ 72 = omega (arith, c.byte_count-count.ensures.few) in
    let bound : 2 ^ (8 * count) ≤ 2 ^ 72 = pow_mono few in
    let low = mod-lt (c.args.self.now / 2 ^ (8 * c.from-first.result)) (pow_pos (8 * count)) in
    subst (λ x. x < 2 ^ 72) (sym c.window-window.ensures) (omega arith)

pub write-requires : goal.write-requires
write-requires g c =
    let count : ℕ = c.byte_count-count.result in
    let w : ℕ = c.args.f.width in
    let s : ℕ = c.args.f.at % 8 in
    let whole : 8 * count ≡ (8 * count - (s + w)) + (s + w) = omega (arith, c.byte_count-count.ensures.covers) in
    let low = mod-lt (c.args.self.now / 2 ^ (8 * c.from-first.result)) (pow_pos (8 * count)) in
    let window : c.window-window.result < 2 ^ (8 * count) = subst (λ x. x < 2 ^ (8 * count)) (sym c.window-window.ensures) low in
    let changed : c.window_with-changed.result ≡ with_field c.window-window.result s w c.args.n = c.window_with-changed.ensures
    ∙ ap (λ k. with_field c.window-window.result s k c.args.n) c.from.ensures in
    let narrow : c.window_with-changed.result < 2 ^ (8 * count) = subst (λ x. x < 2 ^ (8 * count)) (sym changed)
    (subst (λ k. with_field c.window-window.result s w c.args.n < 2 ^ k) (sym whole)
    (with_field-lt c.window-window.result s w c.args.n (8 * count - (s + w)) (subst (λ k. c.window-window.result < 2 ^ k) whole window) c.requires.fits)) in
    (search rules, (omega (arith, c.byte_count-count.ensures.few), (omega (arith, c.byte_count-count.ensures.within, c.from-first.ensures, c.requires.within), narrow)))

pub returns : goal.returns
returns g c =
    let row : ℕ = c.args.self.now in
    let at : ℕ = c.args.f.at in
    let w : ℕ = c.args.f.width in
    let count : ℕ = c.byte_count-count.result in
    let window : c.window-window.result ≡ row / 2 ^ (8 * (at / 8)) % 2 ^ (8 * count) = c.window-window.ensures ∙ ap (λ k. row / 2 ^ (8 * k) % 2 ^ (8 * count)) c.from-first.ensures in
    let fits : at % 8 + w ≤ 8 * count = omega (arith, c.byte_count-count.ensures.covers) in
    c.write.ensures
    ∙ (λ t. with_field row (8 * c.from-first.ensures t) (8 * count) ((c.window_with-changed.ensures ∙ (λ u. with_field (window u) (at % 8) (c.from.ensures u) c.args.n)) t))
    ∙ set_is row at w (8 * count) (at % 8) c.args.n refl fits
