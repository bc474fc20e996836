use Rattle.open_addressing.proofs.Hashed.{top_bits}
use Rattle.open_addressing.proofs.index.home.Goals as goal

pub returns-clause-within : goal.returns-clause-within
returns-clause-within c = top_bits c.args.hash c.args.bits c.requires.few c.ranges.hash.fits
