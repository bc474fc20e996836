use Rattle.std.proofs.Common.{◌≡◌, true, false, drop, List, IfOk, IfSome, sym, ap, subst, ◌∙◌}
use Rattle.std.specs.List.{list_all}
use Rattle.std.proofs.lemmas.List.{take_rest}
use Rattle.br_model.specs.declared.steps.Step.{Step}
use Rattle.br_model.specs.Table.Domains.{Domains, chip_domains}
use Rattle.br_model.specs.Table.Setup.{Setup}
use Rattle.br_model.specs.Text.LineForms.{comes_by_line}
use Rattle.live_workers.specs.Results.{IsTaken}
use Rattle.br_model.proofs.Data.Lists.{list_all-drop}
use Rattle.live_workers.proofs.run.take_later.Goals as goal

pub drive_all-stop-requires-clause-by_line : goal.drive_all-stop-requires-clause-by_line
drive_all-stop-requires-clause-by_line g c κs within =
    let n = c.args.made.opening in
    let steps = c.args.given.now.steps.now in
    subst (λ (l : List Step). list_all (comes_by_line false (chip_domains g.N.Name.board.domains)) l ≡ true) (sym (take_rest steps n))
    (ap (λ (d : Domains). list_all (comes_by_line false (chip_domains d)) (drop n steps)) c.requires.domains
    ∙ list_all-drop (comes_by_line false (chip_domains c.args.given.now.domains.now)) n steps c.args.given.now.by_line)

pub returns : goal.returns
returns g c =
    subst (λ (s : Setup). IfOk c.close-2.result (λ taken. IfSome taken (IsTaken s c.args.given.now.steps.now))) (c.close.ensures.setup ∙ sym c.requires.setup) c.close-2.ensures
