use Rattle.std.proofs.Common.{ℕ, ◌/◌, ◌*◌, ◌==◌, cond, ◌∙◌, List, sym, ap, arith}
use Rattle.port_sets.specs.Numbers.{numbers_below, has_number}
use Rattle.port_sets.specs.Words.{members}
use Rattle.port_sets.proofs.Words.{members-switched_on, members-switched_off, AreWords-set, word_fits}
use Rattle.std.proofs.lemmas.Nat.{or_lt}
use Rattle.port_sets.proofs.PortSet.switch.Goals as goal

pub invariant_of-self : goal.invariant_of-self
invariant_of-self g c =
    AreWords-set g.row.W c.self.inside.words _ _ c.self.invariant (omega arith)
    (or_lt 64 _ _ (word_fits g.row.W c.self.inside.words (c.args.n / 64) c.self.invariant (omega (arith, c.requires))) (omega arith))

pub returns-then-on : goal.returns-then-on
returns-then-on g c =
    members-switched_on g.row.W c.self.inside.words c.args.n (omega (arith, c.requires, c.self.invariant.0))
    ∙ ap (λ b. numbers_below (64 * g.row.W) (λ m. cond (m == c.args.n) b (has_number (members g.row.W c.self.inside.words) m))) (sym c.if-on.true)
    ∙ ap (λ (ns : List ℕ). numbers_below (64 * g.row.W) (λ m. cond (m == c.args.n) c.args.on (has_number ns m))) c.self.view_is

pub returns : goal.returns
returns g c =
    members-switched_off g.row.W c.self.inside.words c.args.n (omega (arith, c.requires, c.self.invariant.0))
    ∙ ap (λ b. numbers_below (64 * g.row.W) (λ m. cond (m == c.args.n) b (has_number (members g.row.W c.self.inside.words) m))) (sym c.if-on.false)
    ∙ ap (λ (ns : List ℕ). numbers_below (64 * g.row.W) (λ m. cond (m == c.args.n) c.args.on (has_number ns m))) c.self.view_is
