use Rattle.timings.proofs.Playing.{cmd-alike, now-alike, publish-alike, serve-alike}
use Rattle.timings.proofs.Turning.{turn-alike}
use Rattle.timings.proofs.laws.turns_are_alike.Goals as goal

pub returns : goal.returns
returns c = record { turn = turn-alike; serve = serve-alike; publish = publish-alike; command = cmd-alike; moment = now-alike }
