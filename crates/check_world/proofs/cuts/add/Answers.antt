use Rattle.std.proofs.Common.{List, [], sym, subst}
use Rattle.std.proofs.lemmas.List.Elements.{All-push}
use Rattle.std.specs.List.{All}
use Rattle.check_world.specs.Cuts.{CutState, IsCut}
use Rattle.check_world.proofs.CutSteps.{first_cut}
use Rattle.check_world.proofs.cuts.add.Goals as goal

pub returns-in_err-push-in-Some-clause-stand : goal.returns-in_err-push-in-Some-clause-stand
returns-in_err-push-in-Some-clause-stand c = subst (λ (cs : List CutState). All (IsCut c.args.d.now.edition []) cs) (sym c.in_err-push-in-Some.ensures.items) c.requires.stand

pub returns-in_ok-push-in-Some-clause-stand : goal.returns-in_ok-push-in-Some-clause-stand
returns-in_ok-push-in-Some-clause-stand c =
    subst (λ (cs : List CutState). All (IsCut c.args.d.now.edition []) cs) (sym c.in_ok-push-in-Some.ensures.items)
    (All-push (IsCut c.args.d.now.edition []) c.args.cuts.now.items c.in_ok-make-in-Some.field-0 c.requires.stand
    (subst (IsCut c.args.d.now.edition []) (sym c.in_ok-make-in-Some.ensures) (first_cut c.args.d.now.edition c.in-Some.dom)))
