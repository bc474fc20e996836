use Rattle.std.proofs.Common.{ap, refl}
use Rattle.scenario_reader.specs.Reading.{ReaderState}
use Rattle.scenario_runner.proofs.session.Session.new.Goals as goal

pub returns-clause-follows : goal.returns-clause-follows
returns-clause-follows c =
    let made = c.in_ok-make.ensures in record {
      reads = record { lines = ap (λ (r : ReaderState). r.lines) made; roster = ap (λ (r : ReaderState). r.roster) made; going = refl };
      world = refl;
      said = c.requires;
    }

pub returns-clause-lines : goal.returns-clause-lines
returns-clause-lines c = ap (λ (r : ReaderState). r.lines) c.in_ok-make.ensures
