use Rattle.pcapng_read.proofs.ReadingBack.{read_back}
use Rattle.pcapng_read.proofs.laws.written_captures.Goals as goal

pub returns : goal.returns
returns c = read_back
