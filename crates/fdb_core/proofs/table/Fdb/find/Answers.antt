use Rattle.std.proofs.Common.{option_map, ap, sym, ◌∙◌}
use Rattle.std.specs.Ordering.{nat_cmp}
use Rattle.std.specs.FinMap.Entries as entries
use Rattle.br_model.specs.Data.Maps.{pair_cmp, get}
use Rattle.fdb_core.specs.Fdb.{Table, place}
use Rattle.open_addressing.proofs.Pairs.{get-by_pair}
use Rattle.fdb_core.proofs.Addresses.{get-told}
use Rattle.fdb_core.proofs.table.Fdb.find.Goals as goal

pub returns-clause-entry : goal.returns-clause-entry
returns-clause-entry c =
    let es = c.self.inside.entries.entries in
    c.get.ensures ∙ ap (λ q. entries.find nat_cmp q es) c.pack.ensures.value ∙ sym (get-by_pair (c.args.vid, c.args.mac) c.pack.ensures.below es)
    ∙ ap (λ (t : Table). get pair_cmp t.entries (c.args.vid, c.args.mac)) c.self.view_is

pub returns-clause-address : goal.returns-clause-address
returns-clause-address c = get-told place c.args.self.now.entries (c.args.vid, c.args.mac) ∙ ap (option_map place) (sym (returns-clause-entry c))
