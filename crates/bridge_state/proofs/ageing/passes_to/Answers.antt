use Rattle.std.proofs.Common.{◌≡◌, true, ◌++◌, List, Some, if◌then◌else◌, sym, ap, ◌∙◌}
use Rattle.std.proofs.lemmas.Bool.{le-ltb}
use Rattle.std.specs.declared.result.Result.{Result}
use Rattle.std.specs.declared.result.Result.TheVariants.{Ok, Err}
use Rattle.br_model.specs.declared.change.Change.{Change}
use Rattle.br_model.specs.declared.steps.Refusal.{Refusal}
use Rattle.br_model.specs.declared.steps.Refusal.TheVariants.{Backward}
use Rattle.br_model.specs.declared.tree.TreeEvent.TheVariants.{Moment}
use Rattle.br_model.specs.Control.Ageing.{expired, forgets}
use Rattle.br_model.specs.Control.Course.{Course, from, makes_all}
use Rattle.br_model.specs.Control.Ends.{endings}
use Rattle.br_model.specs.Table.Limits.{all_fit}
use Rattle.br_model.specs.Control.Reaction.{ages, ends}
use Rattle.br_model.specs.Control.TreeReaction.{tells_tree}
use Rattle.bridge_state.specs.Standing.{table_of, control_of}
use Rattle.bridge_state.proofs.Endings.{both_go, fit_endings, gone}
use Rattle.bridge_state.proofs.Fitting.{made_all, fit_behind}
use Rattle.bridge_state.proofs.Reactions.{fit_forgets, same_clock, same_tree}
use Rattle.bridge_state.proofs.ageing.passes_to.Goals as goal

pub returns : goal.returns
returns c =
    let t = table_of c.args.state.now in
    let base : Course = record (from t (control_of c.args.state.now)) { control = record (control_of c.args.state.now) { now = c.args.now } } in
    let keys = expired t base.control in
    let cs = c.add_endings.new.changes.items in
    let is : cs ≡ gone base keys = c.in_ok-add_endings.ensures ∙ ap (λ (l : List Change). l ++ endings c.args.now base.control.ends) c.in_ok-changes.ensures in
    let fit : all_fit t cs ≡ true = ap (all_fit t) is ∙ fit_behind t (forgets keys) (endings c.args.now base.control.ends) (fit_forgets t keys) (fit_endings _ c.args.now base.control.ends) in
    let made = made_all base cs fit in (
      ap (λ b. if b then Err Backward else yes (tells_tree (Some Moment) (ends (ages base)))) (le-ltb _ _ c.if-now-state.false)
          ∙ ap (λ (r : Course). yes (tells_tree (Some Moment) r)) (both_go base keys (fit_forgets t keys) (same_clock base.control (forgets keys)))
          ∙ ap (λ (l : List Change). yes (tells_tree (Some Moment) (makes_all base l))) (sym is)
          ∙ ap yes
          (sym (c.due.ensures (makes_all base cs) (ap (λ (r : Course). r.control.tree) made ∙ same_tree base.control cs ∙ sym c.deref.ensures) (ap (λ (r : Course). r.control.now) made ∙ same_clock base.control cs))),
      record { early = c.requires; there = tt; fits = fit },
    )
  where
    yes : Course → Result Course Refusal
    yes x = Ok x
