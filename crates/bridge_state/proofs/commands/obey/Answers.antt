use Rattle.std.proofs.Common.{◌<◌, ◌^◌, ℕ, [], sym, ap, subst, ◌∙◌}
use Rattle.std.specs.declared.result.Result.{Result}
use Rattle.std.specs.declared.result.Result.TheVariants.{Ok}
use Rattle.br_model.specs.declared.steps.Refusal.{Refusal}
use Rattle.br_model.specs.Control.Control.{Control}
use Rattle.br_model.specs.Control.Course.{Course, from, makes_all}
use Rattle.br_model.specs.Control.Reaction.{commanded}
use Rattle.br_model.specs.Control.TreeReaction.{tells_tree}
use Rattle.br_model.proofs.Control.Clocks.{sets-now}
use Rattle.bridge_state.specs.Standing.{table_of, control_of}
use Rattle.bridge_state.proofs.Reactions.{fit_command}
use Rattle.bridge_state.proofs.commands.obey.Goals as goal

pub returns : goal.returns
returns c =
    let t = table_of c.args.state.now in
    let control = control_of c.args.state.now in
    let cs = c.in_ok-command.field-0.items in (
      ap (commanded (from t control) c.args.asked.now) c.in_ok-command.ensures
          ∙ sym (λ i. yes (tells_tree (c.tells.ensures i) (makes_all (record { table = t; control = c.sets.ensures i; changes = []; messages = [] }) cs))),
      record {
        early = subst (λ (n : ℕ). n < 2 ^ 53) (sym (ap (λ (x : Control). x.now) c.sets.ensures ∙ sets-now control c.args.asked.now)) c.requires;
        there = tt;
        fits = fit_command t c.args.asked.now cs c.in_ok-command.ensures;
      },
    )
  where
    yes : Course → Result Course Refusal
    yes x = Ok x
