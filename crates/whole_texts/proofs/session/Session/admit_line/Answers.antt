use Rattle.std.proofs.Common.{inl, inr, ap, arith, sym, ◌∙◌}
use Rattle.whole_texts.specs.Sessions.{end_of, section_of}
use Rattle.whole_texts.proofs.Sessions.{has_feed, has_no_feed}
use Rattle.whole_texts.proofs.session.Session.admit_line.Goals as goal

pub returns-then-is_some : goal.returns-then-is_some
returns-then-is_some c = (ap end_of c.in-Line.is, inr (has_feed c.args.line.now _ c.first_line.ensures (sym c.is_some.ensures ∙ c.if-is_some.true)))

pub returns-then-line-self : goal.returns-then-line-self
returns-then-line-self c = (ap end_of c.in-Line.is, omega (arith, c.requires.most, c.if-line-self.true))

pub returns-else-line-self : goal.returns-else-line-self
returns-else-line-self c = record {
  awaits = c.in-Line.is;
  feedless = has_no_feed c.args.line.now _ c.first_line.ensures (sym c.is_some.ensures ∙ c.if-is_some.false);
  room = omega (arith, c.requires.most, c.if-line-self.false);
}

pub returns-in-Section : goal.returns-in-Section
returns-in-Section c = (ap end_of c.in-Section.is, inl (_, ap section_of c.in-Section.is))

pub returns-in-Nothing : goal.returns-in-Nothing
returns-in-Nothing c = (_, ap end_of c.in-Nothing.is)
