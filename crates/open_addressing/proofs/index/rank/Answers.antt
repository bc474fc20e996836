use Rattle.std.proofs.Common.{ℕ, ◌+◌, ◌-◌, ◌/◌, None, length, get_or, sym, subst, ◌∙◌, ◌≡◌, ◌<◌, ◌≤◌, arith}
use Rattle.std.proofs.lemmas.Bool.{ltb-true, ltb-false}
use Rattle.open_addressing.specs.Hashed.{key_in}
use Rattle.open_addressing.specs.Indexed.{Halves}
use Rattle.open_addressing.specs.Zipped.{key_of}
use Rattle.open_addressing.proofs.Indexed.{halves-all, halves-up, halves-down}
use Rattle.open_addressing.proofs.index.rank.Goals as goal

pub loop-low-init : goal.loop-low-init
loop-low-init g c =
    let at : ℕ → ℕ = key_in key_of None (g.C.Cells.cells c.args.cells.now) in
    let k : ℕ = g.C.Cells.number c.args.key.now in
    halves-all at c.args.rest.now k

pub is_below-requires : goal.is_below-requires
is_below-requires g c =
    let rest = c.args.rest.now in
    let low = c.loop-low.invariant.within in
    let m : ℕ = c.loop-low.low + (c.loop-low.high - c.loop-low.low) / 2 in
    let read : c.from.result ≡ get_or rest m 0 = c.from.ensures in
    record { within = subst (λ n. n < length (g.C.Cells.cells c.args.cells.now)) (sym read) (c.requires.within m (omega arith)); key = c.requires.key }

pub loop-low-preserved-then-is_below : goal.loop-low-preserved-then-is_below
loop-low-preserved-then-is_below g c =
    let at : ℕ → ℕ = key_in key_of None (g.C.Cells.cells c.args.cells.now) in
    let k : ℕ = g.C.Cells.number c.args.key.now in
    let rest = c.args.rest.now in
    let within = c.loop-low.invariant.within in
    let m : ℕ = c.loop-low.low + (c.loop-low.high - c.loop-low.low) / 2 in
    let read : c.from.result ≡ get_or rest m 0 = c.from.ensures in
    let less = ltb-true (at c.from.result) k (sym c.is_below.ensures ∙ c.if-is_below.true) in
    halves-up at rest k c.loop-low.low c.loop-low.high m c.requires.ascending c.loop-low.invariant (omega arith) (omega arith) (subst (λ n. at n < k) read less)

pub loop-low-preserved : goal.loop-low-preserved
loop-low-preserved g c =
    let at : ℕ → ℕ = key_in key_of None (g.C.Cells.cells c.args.cells.now) in
    let k : ℕ = g.C.Cells.number c.args.key.now in
    let rest = c.args.rest.now in
    let within = c.loop-low.invariant.within in
    let m : ℕ = c.loop-low.low + (c.loop-low.high - c.loop-low.low) / 2 in
    let read : c.from.result ≡ get_or rest m 0 = c.from.ensures in
    let more = ltb-false (at c.from.result) k (sym c.is_below.ensures ∙ c.if-is_below.false) in
    halves-down at rest k c.loop-low.low c.loop-low.high m c.requires.ascending c.loop-low.invariant (omega arith) (omega arith) (subst (λ n. k ≤ at n) read more)

pub returns : goal.returns
returns g c =
    let at : ℕ → ℕ = key_in key_of None (g.C.Cells.cells c.args.cells.now) in
    let k : ℕ = g.C.Cells.number c.args.key.now in
    let same : c.loop-low.high ≡ c.loop-low.low = omega (arith, c.loop-low.invariant.ordered) in
    subst (λ n. Halves at c.args.rest.now k c.loop-low.low n) same c.loop-low.invariant
