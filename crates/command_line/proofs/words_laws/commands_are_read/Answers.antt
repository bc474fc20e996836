use Rattle.std.proofs.Common.{refl}
use Rattle.clap.proofs.OnLiterals.{clap_on_literals}
use Rattle.command_line.specs.Words.{asked}
use Rattle.command_line.proofs.words_laws.commands_are_read.Goals as goal

pub returns : goal.returns
unfolding clap_on_literals asked
returns c = record {
  replay = refl;
  check = refl;
  fdb = refl;
  vlan = refl;
  mdb = refl;
  monitor = refl;
  audit = refl;
  follow = refl;
  querier = refl;
  greatest = refl;
  workers = refl;
  joined = refl;
  least = refl;
  most = refl;
  demo = refl;
}
