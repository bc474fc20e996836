use Rattle.std.proofs.Common.{sym, ap, subst}
use Rattle.br_model.specs.Control.Control.{Control}
use Rattle.br_model.specs.Control.Ends.{Ends}
use Rattle.br_model.specs.Theorems.EndsTied.{IsTied}
use Rattle.br_model.specs.Table.Table.{Table, apply}
use Rattle.br_model.proofs.Control.EndsTied.{tied-apply}
use Rattle.bridge_state.specs.Standing.{table_of, control_of}
use Rattle.bridge_state.proofs.state.State.apply.Goals as goal

pub returns-clause-tied : goal.returns-clause-tied
returns-clause-tied c =
    let old = control_of c.args.self.now in
    let kept = c.follow_ends.ensures old (sym c.place.ensures.now) (sym (ap (λ (k : Control). k.ends) c.place.ensures.control)) in
    subst (λ (t : Table). IsTied t c.follow_ends.new.groups) (sym c.place.ensures.table)
    (subst (λ (e : Ends). IsTied (apply (table_of c.args.self.now) c.args.change.now) e) kept (tied-apply (table_of c.args.self.now) old c.args.change.now c.requires.tied))
