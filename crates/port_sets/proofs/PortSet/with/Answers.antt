use Rattle.std.proofs.Common.{ℕ, ◌/◌, ◌*◌, ◌==◌, ◌||◌, ◌∙◌, List, ap, arith}
use Rattle.port_sets.specs.Numbers.{numbers_below, has_number}
use Rattle.port_sets.proofs.Words.{members-with, AreWords-set, word_fits}
use Rattle.std.proofs.lemmas.Nat.{or_lt}
use Rattle.port_sets.proofs.PortSet.with.Goals as goal

pub invariant_of-result : goal.invariant_of-result
invariant_of-result g c =
    AreWords-set g.row.W c.self.inside.words _ _ c.self.invariant (omega arith)
    (or_lt 64 _ _ (word_fits g.row.W c.self.inside.words (c.args.n / 64) c.self.invariant (omega (arith, c.requires))) (omega arith))

pub returns : goal.returns
returns g c =
    members-with g.row.W c.self.inside.words c.args.n (omega (arith, c.requires, c.self.invariant.0))
    ∙ ap (λ (ns : List ℕ). numbers_below (64 * g.row.W) (λ m. (m == c.args.n) || has_number ns m)) c.self.view_is
