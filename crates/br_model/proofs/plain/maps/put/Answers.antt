use Rattle.std.proofs.Common.{◌∙◌}
use Rattle.br_model.proofs.Data.MapLaws.{insert_entry-is}
use Rattle.br_model.proofs.plain.maps.put.Goals as goal

pub returns : goal.returns
returns g c = c.in_ok-insert.ensures.entries ∙ insert_entry-is g.K.Ord.cmp c.args.map.now.entries c.args.key c.args.value
