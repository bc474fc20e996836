use Rattle.std.proofs.Common.{◌∙◌}
use Rattle.br_model.proofs.Data.MapLaws.{remove_entry-is}
use Rattle.br_model.proofs.plain.maps.take.Goals as goal

pub returns-then-len-gt0 : goal.returns-then-len-gt0
returns-then-len-gt0 g c = c.remove.ensures.entries ∙ remove_entry-is g.met.K.Ord.total c.args.key.now c.args.map.now.entries c.len.ensures.ordered
