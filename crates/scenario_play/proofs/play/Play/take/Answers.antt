use Rattle.std.proofs.Common.{arith, subst, sym}
use Rattle.br_model.specs.Text.Roster.{Roster}
use Rattle.scenario_play.specs.Playing.{Fits, IsSteady}
use Rattle.scenario_play.proofs.Lines.{goes_by_step, goes_quietly, line_ends, section_behind, section_fits, section_steady, some_scenario}
use Rattle.scenario_play.proofs.Lines.{step_fits, step_given, step_ready, step_steady, to_section, took, took_of, whole_line_too_long}
use Rattle.scenario_play.proofs.Steps.{does_fits, does_ready, fits_at, ready_of, steady_kept}
use Rattle.scenario_play.proofs.play.Play.take.Goals as goal

pub returns-then-line-gt-LONGEST_LINE-clause-after : goal.returns-then-line-gt-LONGEST_LINE-clause-after
returns-then-line-gt-LONGEST_LINE-clause-after g c = λ given s h.
    whole_line_too_long given s _ h c.args.line.now _ c.requires.feedless (omega (arith, c.if-line-gt-LONGEST_LINE.true)) c.bad.ensures

pub step-requires-clause-ready : goal.step-requires-clause-ready
step-requires-clause-ready g c =
    let old = c.args.self.now.reader in
    let said = took_of old c.args.line.now _ _ _ c.in_ok-take.ensures.takes c.in-Step.is in
    step_ready (some_scenario old) c.args.line.now _ _ c.in-Step.step (ready_of old.roster _ c.requires.steady) said

pub step-requires-clause-fits : goal.step-requires-clause-fits
step-requires-clause-fits g c =
    let old = c.args.self.now.reader in
    let said = took_of old c.args.line.now _ _ _ c.in_ok-take.ensures.takes c.in-Step.is in
    step_fits (some_scenario old) c.args.line.now _ (g.W.Stage.stands c.args.stage.now) c.in-Step.step c.requires.fits said

pub step-requires-clause-by_line : goal.step-requires-clause-by_line
step-requires-clause-by_line g c =
    let old = c.args.self.now.reader in
    step_given (some_scenario old) c.args.line.now _ c.in-Step.step (took_of old c.args.line.now _ _ _ c.in_ok-take.ensures.takes c.in-Step.is)

pub returns-in-Line-clause-steady : goal.returns-in-Line-clause-steady
returns-in-Line-clause-steady g c =
    let old = c.args.self.now.reader in
    let said = took_of old c.args.line.now _ _ _ c.in_ok-take.ensures.takes c.in-Line.is in
    steady_kept old.roster c.take.new.self.roster (g.W.Stage.stands c.args.stage.now).world said.5 c.requires.steady

pub returns-in-Line-clause-fits : goal.returns-in-Line-clause-fits
returns-in-Line-clause-fits g c =
    let old = c.args.self.now.reader in
    let said = took_of old c.args.line.now _ _ _ c.in_ok-take.ensures.takes c.in-Line.is in
    fits_at old.roster c.take.new.self.roster (g.W.Stage.stands c.args.stage.now) said.5.0 c.requires.fits

pub returns-in-Line-clause-after : goal.returns-in-Line-clause-after
returns-in-Line-clause-after g c = λ given s h.
    goes_quietly given s _ h.follows.going c.requires.feedless _ h.so (took s _ h.follows _ _ _ _ c.in_ok-take.ensures.takes c.in-Line.is)

pub returns-in_ok-step-in-Step-clause-steady : goal.returns-in_ok-step-in-Step-clause-steady
returns-in_ok-step-in-Step-clause-steady g c =
    let old = c.args.self.now.reader in
    let said = took_of old c.args.line.now _ _ _ c.in_ok-take.ensures.takes c.in-Step.is in
    let done = c.in_ok-step-in-Step.ensures.does in
    step_steady (some_scenario old) c.args.line.now _ _ _ c.in-Step.step said done.reader (does_ready _ _ c.in-Step.step done)

pub returns-in_ok-step-in-Step-clause-fits : goal.returns-in_ok-step-in-Step-clause-fits
returns-in_ok-step-in-Step-clause-fits g c = does_fits _ _ c.in-Step.step c.in_ok-step-in-Step.ensures.does

pub returns-in_ok-step-in-Step-clause-after : goal.returns-in_ok-step-in-Step-clause-after
returns-in_ok-step-in-Step-clause-after g c = λ given s h.
    goes_by_step given s _ h.follows.going c.requires.feedless _ h.so c.in-Step.step _ (took s _ h.follows _ _ _ _ c.in_ok-take.ensures.takes c.in-Step.is)
    c.in_ok-step-in-Step.ensures.does

pub returns-in-Section-clause-steady : goal.returns-in-Section-clause-steady
returns-in-Section-clause-steady g c =
    let old = c.args.self.now.reader in
    let said = took_of old c.args.line.now _ _ _ c.in_ok-take.ensures.takes c.in-Section.is in
    section_steady (some_scenario old) c.args.line.now _ _ c.in-Section.length (ready_of old.roster _ c.requires.steady) said

pub returns-in-Section-clause-fits : goal.returns-in-Section-clause-fits
returns-in-Section-clause-fits g c =
    let old = c.args.self.now.reader in
    let said = took_of old c.args.line.now _ _ _ c.in_ok-take.ensures.takes c.in-Section.is in
    section_fits (some_scenario old) c.args.line.now _ (g.W.Stage.stands c.args.stage.now) c.in-Section.length c.requires.fits said

pub returns-in-Section-clause-behind : goal.returns-in-Section-clause-behind
returns-in-Section-clause-behind g c =
    let old = c.args.self.now.reader in
    section_behind (some_scenario old) c.args.line.now _ c.in-Section.length (took_of old c.args.line.now _ _ _ c.in_ok-take.ensures.takes c.in-Section.is)

pub returns-in-Section-clause-after : goal.returns-in-Section-clause-after
returns-in-Section-clause-after g c = λ given s h.
    to_section given s _ h.follows.going c.requires.feedless _ h.so c.in-Section.length (took s _ h.follows _ _ _ _ c.in_ok-take.ensures.takes c.in-Section.is)

pub returns-in-End-clause-steady : goal.returns-in-End-clause-steady
returns-in-End-clause-steady g c =
    let said = took_of c.args.self.now.reader c.args.line.now _ _ _ c.in_ok-take.ensures.takes c.in-End.is in
    subst (λ (r : Roster). IsSteady r (g.W.Stage.stands c.args.stage.now).world) (sym said.1) c.requires.steady

pub returns-in-End-clause-fits : goal.returns-in-End-clause-fits
returns-in-End-clause-fits g c =
    let said = took_of c.args.self.now.reader c.args.line.now _ _ _ c.in_ok-take.ensures.takes c.in-End.is in
    subst (λ (r : Roster). Fits r (g.W.Stage.stands c.args.stage.now)) (sym said.1) c.requires.fits

pub returns-in-End-clause-after : goal.returns-in-End-clause-after
returns-in-End-clause-after g c = λ given s h.
    let said = took s _ h.follows _ _ _ _ c.in_ok-take.ensures.takes c.in-End.is in
    line_ends given s _ h.follows.going c.requires.feedless _ h.so c.in-End.last said
