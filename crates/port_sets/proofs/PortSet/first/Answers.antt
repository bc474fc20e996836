use Rattle.std.proofs.Common.{ℕ, ◌*◌, ◌∙◌, List, ap, sym, arith, subst}
use Rattle.std.specs.Prelude.{slice_get}
use Rattle.port_sets.specs.Numbers.{IsSetBelow}
use Rattle.port_sets.specs.Words.{is_set}
use Rattle.port_sets.proofs.Numbers.{IsSetBelow-numbers_below}
use Rattle.port_sets.proofs.Words.{first-members, no_members, word_fits}
use Rattle.port_sets.proofs.PortSet.first.Goals as goal

pub returns-then-word-ne0-clause-value : goal.returns-then-word-ne0-clause-value
returns-then-word-ne0-clause-value g c =
    sym (first-members g.row.W c.self.inside.words c.loop-i.i (omega arith) c.loop-i.invariant (omega arith) (word_fits g.row.W c.self.inside.words c.loop-i.i c.self.invariant (omega arith)))
    ∙ ap (λ (ns : List ℕ). slice_get ns 0) c.self.view_is

pub returns-then-word-ne0-clause-ordered : goal.returns-then-word-ne0-clause-ordered
returns-then-word-ne0-clause-ordered g c = subst (IsSetBelow (64 * g.row.W)) c.self.view_is (IsSetBelow-numbers_below (is_set c.self.inside.words) (64 * g.row.W))

pub returns-clause-value : goal.returns-clause-value
returns-clause-value g c =
    ap (λ (ns : List ℕ). slice_get ns 0) (sym (no_members g.row.W c.self.inside.words (λ j low. c.loop-i.invariant j (omega arith))) ∙ c.self.view_is)

pub returns-clause-ordered : goal.returns-clause-ordered
returns-clause-ordered g c = subst (IsSetBelow (64 * g.row.W)) c.self.view_is (IsSetBelow-numbers_below (is_set c.self.inside.words) (64 * g.row.W))
