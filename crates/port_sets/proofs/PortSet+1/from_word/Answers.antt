use Rattle.std.proofs.Common.{◌≡◌, ◌/◌, ◌%◌, [], ◌∷◌, get_or, ap₂, arith}
use Rattle.std.specs.Prelude.{◌==◌}
use Rattle.std.specs.Int.{bit_at}
use Rattle.port_sets.specs.Words.{is_set}
use Rattle.port_sets.proofs.Numbers.{same_below}
use Rattle.port_sets.proofs.«PortSet+1».from_word.Goals as goal

pub returns : goal.returns
returns c = same_below (is_set (c.args.word ∷ [])) (λ n. bit_at c.args.word n == 1) 64 (λ n low.
    let place : n / 64 ≡ 0 = omega arith in
    let rest : n % 64 ≡ n = omega arith in
    ap₂ (λ i b. bit_at (get_or (c.args.word ∷ []) i 0) b == 1) place rest)
