use Rattle.std.proofs.Common.{◌<◌, ap, ◌∙◌, arith}
use Rattle.std.specs.Option.{is_some}
use Rattle.br_model.specs.Data.Maps.{pair_cmp, get}
use Rattle.vlan_groups.specs.Vlans.{Vlans}
use Rattle.vlan_groups.proofs.table.VlanTable.member.Goals as goal

pub returns : goal.returns
returns c =
    let below : c.args.v < 4096 = omega arith in
    c.has.ensures
    ∙ c.self.invariant.0.joined c.args.p c.args.v c.number.ensures.below below
    ∙ ap (λ (s : Vlans). is_some (get pair_cmp s.vlans (c.args.v, c.args.p))) c.self.view_is
