use Rattle.std.proofs.Common.{false, string_bytes, ap, ◌∙◌, subst, sym}
use Rattle.std.proofs.lemmas.Result.{IfOk-weaker}
use Rattle.std.specs.List.{list_all}
use Rattle.br_model.specs.Text.LineForms.{comes_by_line}
use Rattle.br_model.specs.Text.Roster.{Roster, chips_of}
use Rattle.br_model.specs.Text.ScenarioText.{has_line}
use Rattle.capture_runner.specs.Living.{IsLiveText, is_numbered}
use Rattle.capture_runner.proofs.Living.{all_named, comes_so, lines_taken, text_taken}
use Rattle.capture_runner.proofs.live.live_text.Goals as goal

pub take_steps-requires-clause-by_line : goal.take_steps-requires-clause-by_line
take_steps-requires-clause-by_line g c =
    let steps = c.args.whole.now.steps in
    λ lives bounds. comes_so c.roster-roster.result.now _ _ steps c.domains-domains.ensures.value c.own.ensures c.domains-domains.ensures.declared c.steps.result.now c.steps.ensures
    (ap (λ (r : Roster). list_all (comes_by_line false (chips_of r.ports)) steps) c.roster-roster.ensures ∙ c.requires.by_line)

pub text_of-requires : goal.text_of-requires
text_of-requires g c =
    let steps = c.args.whole.now.steps in
    let taken = c.in_ok-taken.ensures in
    all_named c.roster-roster.result.now.ports c.in_ok-taken.taken.book.steps
    (lines_taken c.roster-roster.result.now _ _ steps c.domains-domains.ensures.value c.own.ensures c.domains-domains.ensures.declared c.steps.result.now c.in_ok-taken.taken.book.steps c.steps.ensures
    (ap (λ (r : Roster). list_all (has_line r.ports) steps) c.roster-roster.ensures ∙ c.requires.lines) taken.by_line taken.given
    (ap (list_all is_numbered) (sym c.as_slice.ensures) ∙ c.all_numbers_fit.ensures))

pub returns : goal.returns
returns g c =
    let steps = c.args.whole.now.steps in
    let taken = c.in_ok-taken.ensures in
    let lines = lines_taken c.roster-roster.result.now _ _ steps c.domains-domains.ensures.value c.own.ensures c.domains-domains.ensures.declared c.steps.result.now c.in_ok-taken.taken.book.steps
    c.steps.ensures
    (ap (λ (r : Roster). list_all (has_line r.ports) steps) c.roster-roster.ensures ∙ c.requires.lines) taken.by_line taken.given
    (ap (list_all is_numbered) (sym c.as_slice.ensures) ∙ c.all_numbers_fit.ensures) in
    IfOk-weaker c.text_of.result _ _
    (λ text is. subst (λ (r : Roster). IsLiveText r steps (string_bytes text)) c.roster-roster.ensures
    (text_taken c.roster-roster.result.now _ _ steps c.domains-domains.ensures.value c.own.ensures c.domains-domains.ensures.declared c.steps.result.now c.in_ok-taken.taken.book.steps c.steps.ensures
    (string_bytes text) _ _ lines taken.live taken.lines taken.end is))
    c.text_of.ensures
