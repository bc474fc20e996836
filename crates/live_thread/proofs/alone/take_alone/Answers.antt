use Rattle.std.proofs.Common.{◌≡◌, true, false, drop, List, sym, ap, subst, ◌∙◌}
use Rattle.std.specs.List.{list_all}
use Rattle.std.proofs.lemmas.Result.{on_ok_weaker}
use Rattle.std.proofs.lemmas.List.{take_rest}
use Rattle.br_model.specs.declared.steps.Step.{Step}
use Rattle.br_model.specs.Table.Domains.{Domains, chip_domains}
use Rattle.br_model.specs.Text.LineForms.{comes_by_line}
use Rattle.plane_record.specs.Pasts.{Past}
use Rattle.live_thread.proofs.Lives.{live_alone}
use Rattle.br_model.proofs.Data.Lists.{list_all-drop}
use Rattle.live_thread.proofs.Standing.{idle_first}
use Rattle.live_thread.proofs.alone.take_alone.Goals as goal

pub open-requires-clause-by_line : goal.open-requires-clause-by_line
open-requires-clause-by_line g c =
    ap (λ (d : Domains). list_all (comes_by_line false (chip_domains d)) c.args.steps.now) c.requires.domains ∙ c.requires.by_line

pub open-requires-clause-idle : goal.open-requires-clause-idle
open-requires-clause-idle g c = idle_first c.args.ran.now c.requires.none

pub take_steps-requires-clause-seat : goal.take_steps-requires-clause-seat
take_steps-requires-clause-seat g c = c.in_ok-later.ensures.board ∙ (c.requires.seat ∙ sym (ap (λ (p : Past). p.board) c.in_ok-later.ensures.opened))

pub take_steps-requires-clause-by_line : goal.take_steps-requires-clause-by_line
take_steps-requires-clause-by_line g c =
    subst (λ (l : List Step). list_all (comes_by_line false (chip_domains c.open.new.ran.setup.domains)) l ≡ true) (sym (take_rest c.args.steps.now c.in_ok-later.later))
    (ap (λ (p : Past). list_all (comes_by_line false (chip_domains p.setup.domains)) (drop c.in_ok-later.later c.args.steps.now)) c.in_ok-later.ensures.opened
    ∙ (ap (λ (d : Domains). list_all (comes_by_line false (chip_domains d)) (drop c.in_ok-later.later c.args.steps.now)) c.requires.domains
    ∙ list_all-drop (comes_by_line false (chip_domains c.args.domains.now)) c.in_ok-later.later c.args.steps.now c.requires.by_line))

pub drain-requires-clause-seat : goal.drain-requires-clause-seat
drain-requires-clause-seat g c =
    c.in_ok-take_steps.ensures.board
    ∙ (c.in_ok-later.ensures.board ∙ (c.requires.seat ∙ sym (ap (λ (p : Past). p.board) c.in_ok-take_steps.ensures.ok.so ∙ ap (λ (p : Past). p.board) c.in_ok-later.ensures.opened)))

pub drain-requires-clause-domains : goal.drain-requires-clause-domains
drain-requires-clause-domains g c =
    ap (λ (p : Past). p.setup.domains) c.in_ok-take_steps.ensures.ok.so ∙ (ap (λ (p : Past). p.setup.domains) c.in_ok-later.ensures.opened ∙ c.requires.domains)

pub drain-requires-clause-held : goal.drain-requires-clause-held
drain-requires-clause-held g c = c.in_ok-take_steps.ensures.ok.held ∙ c.in_ok-later.ensures.idle.held

pub returns-clause-live : goal.returns-clause-live
returns-clause-live g c =
    on_ok_weaker c.drain.result
    (λ d. live_alone c.args.ran.now c.open.new.ran c.take_steps.new.ran c.drain.new.ran c.args.steps.now _ c.requires.none c.in_ok-later.ensures.opened
    (take_rest c.args.steps.now c.in_ok-later.later ∙ c.in_ok-later.ensures.later.1) c.in_ok-take_steps.ensures.ok d)
    c.drain.ensures.ok

pub returns-clause-setup : goal.returns-clause-setup
returns-clause-setup g c =
    on_ok_weaker c.drain.result
    (λ d. ap (λ (p : Past). p.setup) d.so ∙ (ap (λ (p : Past). p.setup) c.in_ok-take_steps.ensures.ok.so ∙ ap (λ (p : Past). p.setup) c.in_ok-later.ensures.opened)) c.drain.ensures.ok
