use Rattle.std.proofs.Common.{◌∙◌}
use Rattle.br_model.proofs.Data.MapLaws.{insert_entry-is}
use Rattle.br_model.specs.Data.Maps.{pair_cmp}
use Rattle.check_world.proofs.cut.put_address.Goals as goal

pub returns-clause-ok : goal.returns-clause-ok
returns-clause-ok c = c.in_ok-insert.ensures.entries ∙ insert_entry-is pair_cmp c.args.addresses.now.entries c.args.key c.args.entry
