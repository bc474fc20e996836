use Rattle.std.proofs.Common.{◌≡◌, ◌≢◌, ◌-◌, None, subst, sym, ◌∙◌, true≢false, arith}
use Rattle.open_addressing.specs.Hashed.{key_in}
use Rattle.open_addressing.specs.Zipped.{key_of}
use Rattle.open_addressing.proofs.index.named.Goals as goal

pub held-requires : goal.held-requires
held-requires g c = record { key = c.requires.key; within = omega (arith, c.requires.within (sym c.is_taken.ensures ∙ c.if-is_taken.true)) }

pub returns-then-is_taken-clause-none : goal.returns-then-is_taken-clause-none
returns-then-is_taken-clause-none g c none full =
    let same : c.from.result ≡ c.args.slot = omega arith in
    subst (λ n. key_in key_of None (g.C.Cells.cells c.args.cells.now) (n - 1) ≢ g.C.Cells.number c.args.key.now) same (c.held.ensures.none none)

pub returns-else-is_taken-clause-none : goal.returns-else-is_taken-clause-none
returns-else-is_taken-clause-none g c _ full = absurd (true≢false (sym full ∙ sym c.is_taken.ensures ∙ c.if-is_taken.false))
