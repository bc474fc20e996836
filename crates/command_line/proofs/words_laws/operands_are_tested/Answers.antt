use Rattle.std.proofs.Common.{refl}
use Rattle.clap.proofs.OnLiterals.{clap_on_literals}
use Rattle.command_line.specs.Words.{asked}
use Rattle.command_line.proofs.words_laws.operands_are_tested.Goals as goal

pub returns : goal.returns
unfolding clap_on_literals asked
returns c = record {
  few = refl;
  many = refl;
  table = refl;
  zero = refl;
  number = refl;
  count = refl;
  none = refl;
  no_workers = refl;
  zero_workers = refl;
  most_workers = refl;
  workers = refl;
  bare = refl;
  sign = refl;
}
