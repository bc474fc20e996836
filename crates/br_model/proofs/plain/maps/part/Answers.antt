use Rattle.std.proofs.Common.{◌∙◌}
use Rattle.br_model.proofs.Data.MapLaws.{remove_key-is}
use Rattle.br_model.proofs.plain.maps.part.Goals as goal

pub returns-then-len-gt0 : goal.returns-then-len-gt0
returns-then-len-gt0 g c = c.remove.ensures.keys ∙ remove_key-is g.met.K.Ord.total c.args.key.now c.args.set.now.keys c.len.ensures.ordered
