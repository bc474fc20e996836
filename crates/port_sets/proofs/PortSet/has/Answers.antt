use Rattle.std.proofs.Common.{◌/◌, ◌%◌, ◌∙◌, List, ℕ, ap, sym, eqb, get_or, arith}
use Rattle.std.proofs.lemmas.Nat.Bits.{shr_and_one}
use Rattle.std.proofs.lemmas.Bool.{le-ltb}
use Rattle.port_sets.specs.Numbers.{has_number}
use Rattle.port_sets.specs.Words.{is_set}
use Rattle.port_sets.proofs.Numbers.{has-above}
use Rattle.port_sets.proofs.Words.{has-members}
use Rattle.port_sets.proofs.PortSet.has.Goals as goal

pub returns-then-place-clause-value : goal.returns-then-place-clause-value
returns-then-place-clause-value g c =
    ap (λ b. eqb b 1) (shr_and_one (get_or c.self.inside.words (c.args.n / 64) 0) (c.args.n % 64))
    ∙ sym (has-members g.row.W c.self.inside.words c.args.n (omega arith))
    ∙ ap (λ (ns : List ℕ). has_number ns c.args.n) c.self.view_is

pub returns-else-place-clause-value : goal.returns-else-place-clause-value
returns-else-place-clause-value g c =
    le-ltb _ _ c.if-place.false
    ∙ sym (has-above (is_set c.self.inside.words) _ c.args.n (omega arith))
    ∙ ap (λ (ns : List ℕ). has_number ns c.args.n) c.self.view_is
