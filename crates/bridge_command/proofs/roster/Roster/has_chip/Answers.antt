use Rattle.std.proofs.Common.{◌∙◌, sym, arith}
use Rattle.std.proofs.lemmas.Bool.{not-true}
use Rattle.bridge_command.proofs.Places.{other_chip}
use Rattle.bridge_command.proofs.roster.Roster.has_chip.Goals as goal

pub returns-then-ne : goal.returns-then-ne
returns-then-ne c =
    c.has_port_in.ensures
    ∙ sym (other_chip c.args.self.now.ports c.args.dom (omega arith) (sym c.eq.ensures ∙ c.if-eq.false) (not-true _ (sym c.ne.ensures ∙ c.if-ne.true)))
