use Rattle.std.proofs.Common.{ap, ◌∙◌}
use Rattle.scenario_reader.specs.Reading.{ReaderState}
use Rattle.whole_texts.proofs.Tables.{session_shown}
use Rattle.whole_texts.proofs.session.Session.shown.Goals as goal

pub returns : goal.returns
returns c =
    session_shown c.args.self.now c.args.listing _ c.listing_of.result (c.roster.ensures ∙ ap (λ (r : ReaderState). r.roster) c.reader.ensures) c.listing_of.ensures
