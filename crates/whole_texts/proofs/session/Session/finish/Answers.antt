use Rattle.std.proofs.Common.{refl, ap}
use Rattle.whole_texts.specs.declared.session.Awaits.TheVariants.{Nothing}
use Rattle.whole_texts.proofs.session.Session.finish.Goals as goal

pub returns : goal.returns
returns c = record {
  taken = refl;
  awaits = ap Nothing c.is_well.ensures;
  reader = c.in_ok-append_last.ensures.reader;
  stage = refl;
  text = c.in_ok-append_last.ensures.text;
}
