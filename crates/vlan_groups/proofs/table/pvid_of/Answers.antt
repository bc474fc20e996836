use Rattle.std.proofs.Common.{◌≡◌, ◌+◌, ◌<◌, length, None, sym, ap, ◌∙◌, arith}
use Rattle.std.specs.Ordering.{nat_cmp}
use Rattle.std.proofs.lemmas.List.{get_or_default}
use Rattle.br_model.specs.Table.Domains.{entries_from}
use Rattle.br_model.specs.Data.Maps.{get}
use Rattle.br_model.proofs.Table.DomainLaws.{get-entries}
use Rattle.vlan_groups.proofs.table.pvid_of.Goals as goal

pub returns : goal.returns
returns c =
    let port : 0 + c.from.result ≡ c.args.p = omega arith in
    let within : c.from.result < length c.args.pvids.now = omega arith in
    get_or_default c.args.pvids.now c.from.result c.index-pvids-from.result None within
    ∙ sym (get-entries 0 c.from.result c.args.pvids.now)
    ∙ ap (λ q. get nat_cmp (entries_from 0 c.args.pvids.now) q) port
