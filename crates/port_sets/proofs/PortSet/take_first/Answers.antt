use Rattle.std.proofs.Common.{◌≡◌, [], ◌∙◌, ap, sym, arith}
use Rattle.port_sets.specs.Words.{members}
use Rattle.port_sets.proofs.Words.{no_members, rest-members, AreWords-clear}
use Rattle.port_sets.proofs.PortSet.take_first.Goals as goal

pub invariant_of-self-then-word-ne0 : goal.invariant_of-self-then-word-ne0
invariant_of-self-then-word-ne0 g c = AreWords-clear g.row.W c.loop-i.self-inside.words c.loop-i.i _ c.loop-i.invariant.fit (omega arith) (omega arith)

pub returns-then-word-ne0 : goal.returns-then-word-ne0
returns-then-word-ne0 g c =
    sym (ap (members g.row.W) c.loop-i.invariant.kept ∙ c.self.view_is)
    ∙ rest-members g.row.W c.loop-i.self-inside.words c.loop-i.i c.loop-i.invariant.fit (omega arith) c.loop-i.invariant.none (omega arith)

pub returns : goal.returns
returns g c =
    let empty : members g.row.W c.loop-i.self-inside.words ≡ [] = no_members g.row.W c.loop-i.self-inside.words (λ j low. c.loop-i.invariant.none j (omega arith)) in
    (sym (ap (members g.row.W) c.loop-i.invariant.kept ∙ c.self.view_is) ∙ empty, empty)
