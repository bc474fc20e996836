use Rattle.std.proofs.Common.{◌≡◌, ◌+◌, ◌<◌, length, ap, ◌∙◌, arith}
use Rattle.std.specs.Ordering.{nat_cmp}
use Rattle.br_model.specs.Table.Domains.{entries_from}
use Rattle.br_model.specs.Data.Maps.{put}
use Rattle.br_model.proofs.Table.DomainLaws.{entries-set}
use Rattle.vlan_groups.proofs.table.set_pvid.Goals as goal

pub returns : goal.returns
returns c =
    let port : 0 + c.from.result ≡ c.args.p = omega arith in
    let within : c.from.result < length c.args.pvids.now = omega arith in
    entries-set 0 c.from.result c.args.v c.args.pvids.now within
    ∙ ap (λ q. put nat_cmp (entries_from 0 c.args.pvids.now) q c.args.v) port
