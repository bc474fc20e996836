use Rattle.std.proofs.Common.{refl}
use Rattle.scenario_play.proofs.Lines.{ends_in_section, goes_by_section, section_given}
use Rattle.scenario_play.proofs.play.Play.take_section.Goals as goal

pub do_steps-requires-clause-by_line : goal.do_steps-requires-clause-by_line
do_steps-requires-clause-by_line g c = section_given c.args.self.now.reader c.args.section.now c.in_ok-steps.field-0 c.in-Steps.steps c.in_ok-steps.ensures c.in-Steps.is

pub returns-in_ok-do_steps-in-Steps-clause-after : goal.returns-in_ok-do_steps-in-Steps-clause-after
returns-in_ok-do_steps-in-Steps-clause-after g c = λ given s line h.
    goes_by_section given s line _ _ h c.args.section.now refl c.in_ok-steps.field-0 c.in_ok-steps.ensures c.in-Steps.steps _ c.in-Steps.is c.in_ok-do_steps-in-Steps.ensures.does

pub returns-in-End-clause-after : goal.returns-in-End-clause-after
returns-in-End-clause-after g c = λ given s line h.
    ends_in_section given s line _ _ h c.args.section.now refl c.in_ok-steps.field-0 c.in_ok-steps.ensures c.in-End.last c.in-End.is
