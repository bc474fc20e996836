use Rattle.std.proofs.Common.{arith}
use Rattle.br_model.specs.Table.Domains.{last_port}
use Rattle.stp_core.proofs.PlaceLaws.{numbers-before}
use Rattle.stp_core.proofs.places.numbers_are_of_ports.Goals as goal

pub returns : goal.returns
returns c = numbers-before last_port 0 c.args.places.now (λ k up. c.requires k (omega (arith, c.ranges.used.fits, up)))
