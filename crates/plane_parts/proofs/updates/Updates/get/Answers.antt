use Rattle.std.proofs.Common.{◌≡◌, Some, length, slice_get, option_map, ap, sym, ◌∙◌, List, ℕ}
use Rattle.std.proofs.lemmas.Bool.{ltb-true, ltb-false}
use Rattle.std.proofs.lemmas.Option.{slice_get-get_or, slice_get_past}
use Rattle.br_model.specs.Table.Cut.{under_ticket}
use Rattle.plane_parts.specs.Places.{places}
use Rattle.plane_parts.proofs.Placing.{there, none}
use Rattle.plane_parts.proofs.updates.Updates.get.Goals as goal

pub returns-in_err-place : goal.returns-in_err-place
returns-in_err-place c edition stands =
    let is : c.deref.result.now ≡ places edition c.args.history.now = c.deref.ensures.value ∙ c.self.view_is ∙ stands in
    c.from_residual.ensures
    ∙ sym (none edition c.args.history.now c.args.ticket (ap (λ (ps : List ℕ). slice_get ps c.args.ticket) (sym is)
    ∙ slice_get_past c.deref.result.now c.args.ticket (ltb-false c.args.ticket (length c.deref.result.now) (sym c.in_err-place.ensures.lookup.0))))

pub bounds-history-place : goal.bounds-history-place
bounds-history-place c =
    let edition = c.requires.0 in
    let is : c.deref.result.now ≡ places edition c.args.history.now = c.deref.ensures.value ∙ c.self.view_is ∙ c.requires.1 in
    (there edition c.args.history.now c.args.ticket c.in_ok-place.field-0.now (ap (λ (ps : List ℕ). slice_get ps c.args.ticket) (sym is)
    ∙ slice_get-get_or c.deref.result.now c.args.ticket c.in_ok-place.field-0.now (ltb-true c.args.ticket (length c.deref.result.now) (sym c.in_ok-place.ensures.lookup.0))
    ∙ ap Some (sym c.in_ok-place.ensures.lookup.1))).0

pub returns : goal.returns
returns c edition stands =
    let is : c.deref.result.now ≡ places edition c.args.history.now = c.deref.ensures.value ∙ c.self.view_is ∙ stands in
    let at = there edition c.args.history.now c.args.ticket c.in_ok-place.field-0.now (ap (λ (ps : List ℕ). slice_get ps c.args.ticket) (sym is)
    ∙ slice_get-get_or c.deref.result.now c.args.ticket c.in_ok-place.field-0.now (ltb-true c.args.ticket (length c.deref.result.now) (sym c.in_ok-place.ensures.lookup.0))
    ∙ ap Some (sym c.in_ok-place.ensures.lookup.1)) in
    sym (at.1 ∙ ap (option_map (under_ticket c.args.ticket)) (slice_get-get_or c.args.history.now c.in_ok-place.field-0.now c.index-history-place.result at.0 ∙ ap Some (sym c.index-history-place.is)))
