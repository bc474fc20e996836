use Rattle.std.proofs.Common.{ap, arith, sym, ◌∙◌}
use Rattle.whole_texts.specs.declared.session.Awaits.TheVariants.{Section}
use Rattle.whole_texts.specs.Sessions.{end_of}
use Rattle.whole_texts.proofs.Sessions.{not_that_long, not_wanted}
use Rattle.whole_texts.proofs.session.Session.admit_section.Goals as goal

pub returns-in-Line : goal.returns-in-Line
returns-in-Line c = (ap end_of c.in-Line.is, not_wanted _ _ c.in-Line.is)

pub returns-then-section-length : goal.returns-then-section-length
returns-then-section-length c = (ap end_of c.in-Section.is, not_that_long _ _ _ c.in-Section.is c.if-section-length.true)

pub returns-then-section-self : goal.returns-then-section-self
returns-then-section-self c = (ap end_of c.in-Section.is, omega (arith, c.requires.most, c.if-section-self.true))

pub returns-else-section-self : goal.returns-else-section-self
returns-else-section-self c = record { awaits = c.in-Section.is ∙ ap Section (sym c.if-section-length.false); room = omega (arith, c.requires.most, c.if-section-self.false) }

pub returns-in-Nothing : goal.returns-in-Nothing
returns-in-Nothing c = (_, ap end_of c.in-Nothing.is)
