use Rattle.std.proofs.Common.{refl}
use Rattle.clap.proofs.OnLiterals.{clap_on_literals}
use Rattle.command_line.specs.Words.{asked}
use Rattle.command_line.proofs.words_laws.other_words_are_faults.Goals as goal

pub returns : goal.returns
unfolding clap_on_literals asked
returns c = record {
  none = refl;
  unknown = refl;
  option = refl;
  help = refl;
  help_of = refl;
  below = refl;
  version = refl;
  shortened = refl;
  two = refl;
}
