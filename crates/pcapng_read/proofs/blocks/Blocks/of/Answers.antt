use Rattle.std.proofs.Common.{arith, ap, length}
use Rattle.pcapng_read.proofs.HavePorts.{have_ports}
use Rattle.pcapng_read.proofs.blocks.Blocks.of.Goals as goal

pub returns-clause-have_ports : goal.returns-clause-have_ports
returns-clause-have_ports c =
    have_ports c.args.ports c.new.result.items _ _ (omega (arith, ap length c.new.ensures.items))
