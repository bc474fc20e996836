use Rattle.std.proofs.Common.{◌≡◌, ◌≤◌, ℕ, Bool, List, [], ◌∷◌, Option, length, refl, sym, ap, subst, ◌∙◌}
use Rattle.std.specs.Option.{option_to_list}
use Rattle.std.specs.declared.result.Result.{Result}
use Rattle.std.specs.declared.result.Result.TheVariants.{Ok}
use Rattle.br_model.specs.declared.change.Change.{Change}
use Rattle.br_model.specs.declared.steps.Command.TheVariants.{Link}
use Rattle.br_model.specs.declared.steps.Event.TheVariants.{Cmd}
use Rattle.br_model.specs.declared.steps.Refusal.{Refusal}
use Rattle.br_model.specs.Control.Commands.Ports.{link}
use Rattle.br_model.specs.Control.Reaction.{commanded}
use Rattle.br_model.specs.Table.Limits.{most_changes}
use Rattle.br_model.specs.Table.Table.{Table, table}
use Rattle.bridge_core.specs.Answers.{CarriesOut, comes_to, standing}
use Rattle.bridge_core.specs.Kept.{Controlled}
use Rattle.bridge_core.proofs.Accepting.{carried_one, carried_still}
use Rattle.bridge_state.proofs.Reactions.{fit_command}
use Rattle.bridge_core.proofs.bridge.Bridge.take_link.Goals as goal

-- what the command comes to, by its answer
comes : (old : Controlled) (p f : ℕ) (on : Bool) (answer : Result (List Change) Refusal) → link (table old.history) p f on ≡ answer
    → comes_to old (Cmd (Link p f on)) ≡ commanded (standing old) (Link p f on) answer
comes old p f on answer is = ap (commanded (standing old) (Link p f on)) is

-- the change, if any, as the command's answer
abbrev listed : Option Change → Result (List Change) Refusal
listed change = Ok (option_to_list change)

-- the answer in the table of the history
answered : (t u : Table) (p f : ℕ) (on : Bool) (answer : Result (List Change) Refusal) → t ≡ u → link t p f on ≡ answer → link u p f on ≡ answer
answered t u p f on answer at is = ap (λ (t : Table). link t p f on) (sym at) ∙ is

pub make_change-requires : goal.make_change-requires
make_change-requires c =
    let old = c.args.self.now in
    let at = c.self.invariant.0 ∙ ap (λ (b : Controlled). table b.history) c.self.view_is in
    let d : Change = c.in-Some.change in
    fit_command (table old.history) (Link c.args.port c.args.flag c.args.on) (d ∷ []) (answered _ _ c.args.port c.args.flag c.args.on (Ok (d ∷ [])) at (c.in_ok-change.ensures ∙ ap listed c.in-Some.is))

pub returns-in-Some : goal.returns-in-Some
returns-in-Some c lines =
    let old = c.args.self.now in
    let at = c.self.invariant.0 ∙ ap (λ (b : Controlled). table b.history) c.self.view_is in
    let d : Change = c.in-Some.change in
    let answer = answered _ _ c.args.port c.args.flag c.args.on (Ok (d ∷ [])) at (c.in_ok-change.ensures ∙ ap listed c.in-Some.is) in
    subst (CarriesOut old c.make_change.new.self lines lines c.make_change.result) (sym (comes old c.args.port c.args.flag c.args.on (Ok (d ∷ [])) answer))
    (carried_one old _ d _ (fit_command (table old.history) (Link c.args.port c.args.flag c.args.on) (d ∷ []) answer) refl c.make_change.result c.make_change.ensures lines)

pub returns-in-None : goal.returns-in-None
returns-in-None c lines =
    let old = c.args.self.now in
    let at = c.self.invariant.0 ∙ ap (λ (b : Controlled). table b.history) c.self.view_is in
    let few = subst (λ (b : Controlled). length b.history ≤ most_changes) c.self.view_is c.self.invariant.1 in
    let answer = answered _ _ c.args.port c.args.flag c.args.on (Ok []) at (c.in_ok-change.ensures ∙ ap listed c.in-None.is) in
    subst (CarriesOut old old lines lines (Ok tt)) (sym (comes old c.args.port c.args.flag c.args.on (Ok []) answer)) (carried_still old old _ old.control few refl refl lines)
