use Rattle.std.proofs.Common.{ap, sym, ◌∙◌}
use Rattle.std.specs.Ordering.{nat_cmp}
use Rattle.std.specs.FinMap.Entries as entries
use Rattle.br_model.specs.Data.Maps.{pair_cmp, get}
use Rattle.open_addressing.specs.Pairs.{Pair, packed}
use Rattle.open_addressing.proofs.Pairs.{get-by_pair}
use Rattle.chip_tables.specs.Rows.{Rows}
use Rattle.chip_tables.proofs.tables.Tables.address.Goals as goal

pub returns : goal.returns
returns c =
    let k : Pair = (c.args.vid, c.args.mac) in
    let es = c.self.inside.addresses.entries in
    c.get.ensures ∙ ap (λ (q : Pair). entries.find nat_cmp (packed q) es) c.key.ensures.value ∙ sym (get-by_pair k c.key.ensures.below es)
    ∙ ap (λ (t : Rows). get pair_cmp t.addresses k) c.self.view_is
