use Rattle.std.proofs.Common.{◌≡◌, ◌+◌, ◌*◌, ◌/◌, ◌%◌, ◌^◌, sym, ap, ◌∙◌, arith}
use Rattle.std.proofs.lemmas.Nat.{shr-shr}
use Rattle.chip_regs.proofs.Numbers.{byte_is, bytes-from, joined_byte}
use Rattle.chip_regs.proofs.Row.window.Goals as goal

pub loop-i-preserved : goal.loop-i-preserved
loop-i-preserved g c =
    let bs = c.self.inside.bytes in
    let i = c.loop-i.i in
    let place : 8 * (c.args.first + i) ≡ 8 * c.args.first + 8 * i = omega arith in
    let byte : c.from.result ≡ c.args.self.now / 2 ^ (8 * c.args.first) / 2 ^ (8 * i) % 2 ^ 8 =
    c.from.ensures ∙ byte_is bs (c.args.first + i) 0 (bytes-from bs c.self.invariant.1) (omega (arith, c.self.told))
    ∙ ap (λ n. n / 2 ^ (8 * (c.args.first + i)) % 2 ^ 8) c.self.view_is
    ∙ ap (λ k. c.args.self.now / 2 ^ k % 2 ^ 8) place ∙ ap (λ n. n % 2 ^ 8) (sym (shr-shr c.args.self.now (8 * c.args.first) (8 * i))) in
    joined_byte (c.args.self.now / 2 ^ (8 * c.args.first)) c.loop-i.number c.from.result i c.loop-i.invariant byte (omega arith)
