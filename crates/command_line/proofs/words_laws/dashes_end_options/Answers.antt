use Rattle.std.proofs.Common.{refl}
use Rattle.clap.proofs.OnLiterals.{clap_on_literals}
use Rattle.command_line.specs.Words.{asked}
use Rattle.command_line.proofs.words_laws.dashes_end_options.Goals as goal

pub returns : goal.returns
unfolding clap_on_literals asked
returns c = record {
  before = refl;
  behind = refl;
}
