use Rattle.std.proofs.Common.{◌<◌, ◌^◌, [], ◌∷◌, Ok, refl, ap, sym, subst, ◌∙◌}
use Rattle.std.specs.Prelude.{Ok}
use Rattle.std.specs.declared.result.Result.{Result}
use Rattle.br_model.specs.declared.steps.Refusal.{Refusal}
use Rattle.br_model.specs.Control.Control.{renewed}
use Rattle.br_model.specs.Control.Course.{Course, makes_all}
use Rattle.br_model.specs.Table.Limits.{all_fit}
use Rattle.br_model.specs.Control.Learning.{Address}
use Rattle.bridge_state.specs.declared.state.Clock.{Clock}
use Rattle.bridge_state.specs.Standing.{table_of, control_of, clocked}
use Rattle.bridge_state.proofs.Reactions.{makes, learns_known, learns_renewed, learns_news, fits_news, is_there, put_of}
use Rattle.bridge_state.proofs.learning.learns.Goals as goal

pub returns-in-Known-clause-plans : goal.returns-in-Known-clause-plans
returns-in-Known-clause-plans c =
    let t = table_of c.args.state.now in
    let control = control_of c.args.state.now in
    let key : Address = (c.args.vid, c.args.mac) in
    let is = c.telling.ensures in
    makes t control c.telling.result _ [] (subst (λ (x : Clock). x.now < 2 ^ 53) (sym is.clock) c.requires) (ap (λ (x : Clock). clocked x control) is.clock) is.renewed is.changes is.told refl
    (learns_known t control key c.args.port c.in-Known.ensures)

pub returns-in-Renewed-clause-plans : goal.returns-in-Renewed-clause-plans
returns-in-Renewed-clause-plans c =
    let t = table_of c.args.state.now in
    let control = control_of c.args.state.now in
    let key : Address = (c.args.vid, c.args.mac) in (
      ap (λ (x : Course). yes x) (learns_renewed t control key c.args.port c.in-Renewed.ensures)
          ∙ sym (λ i. yes (makes_all (record { table = t; control = renewed control key; changes = []; messages = [] }) (c.new.ensures.items i))),
      record {
        early = c.requires;
        there = is_there t control key c.args.port c.in-Renewed.ensures;
        fits = ap (all_fit t) c.new.ensures.items;
      },
    )
  where
    yes : Course → Result Course Refusal
    yes x = Ok x

pub returns-in_ok-puts-in-News-clause-plans : goal.returns-in_ok-puts-in-News-clause-plans
returns-in_ok-puts-in-News-clause-plans c =
    let t = table_of c.args.state.now in
    let control = control_of c.args.state.now in
    let key : Address = (c.args.vid, c.args.mac) in
    let is = c.in_ok-puts-in-News.ensures in
    makes t control c.in_ok-puts-in-News.field-0 _ (put_of key c.args.port ∷ []) (subst (λ (x : Clock). x.now < 2 ^ 53) (sym is.clock) c.requires)
    (ap (λ (x : Clock). clocked x control) is.clock) is.renewed is.changes is.told
    (fits_news t control key c.args.port c.in-News.ensures)
    (learns_news t control key c.args.port c.in-News.ensures)
