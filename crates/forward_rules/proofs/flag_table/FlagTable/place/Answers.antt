use Rattle.std.proofs.Common.{◌≡◌, ◌<◌, length, ap, ◌∙◌, Some, arith}
use Rattle.std.specs.Ordering.{nat_cmp}
use Rattle.br_model.specs.Data.Maps.{put, without}
use Rattle.br_model.specs.Forward.Targets.{flood, mcast_flood, bcast_flood, isolated}
use Rattle.forward_rules.specs.PortSets.{flag_is_set}
use Rattle.forward_rules.proofs.Places.{placed-is, put-is, without-is}
use Rattle.forward_rules.proofs.flag_table.FlagTable.place.Goals as goal

pub invariant_of-self : goal.invariant_of-self
invariant_of-self c =
    let port : c.from.result ≡ c.args.port = omega arith in
    let within : c.from.result < length c.self.inside.by_port = omega arith in
    record {
      flood = placed-is
          (λ o. flag_is_set o flood) c.self.inside.by_port c.from.result c.args.port c.args.flags c.has.result c.self.inside.flood c.place_in.new.set within port c.self.invariant.flood
          (c.has.ensures ∙ ap (λ bits. flag_is_set (Some bits) flood) c.bits_of-bits.ensures) c.place_in.ensures;
      mcast_flood =
          placed-is
          (λ o. flag_is_set o mcast_flood) c.self.inside.by_port c.from.result c.args.port c.args.flags c.has-2.result c.self.inside.mcast_flood c.place_in-2.new.set within port
          c.self.invariant.mcast_flood (c.has-2.ensures ∙ ap (λ bits. flag_is_set (Some bits) mcast_flood) c.bits_of-bits.ensures) c.place_in-2.ensures;
      bcast_flood =
          placed-is
          (λ o. flag_is_set o bcast_flood) c.self.inside.by_port c.from.result c.args.port c.args.flags c.has-3.result c.self.inside.bcast_flood c.place_in-3.new.set within port
          c.self.invariant.bcast_flood (c.has-3.ensures ∙ ap (λ bits. flag_is_set (Some bits) bcast_flood) c.bits_of-bits.ensures) c.place_in-3.ensures;
      isolated =
          placed-is
          (λ o. flag_is_set o isolated) c.self.inside.by_port c.from.result c.args.port c.args.flags c.has-4.result c.self.inside.isolated c.place_in-4.new.set within port
          c.self.invariant.isolated (c.has-4.ensures ∙ ap (λ bits. flag_is_set (Some bits) isolated) c.bits_of-bits.ensures) c.place_in-4.ensures;
    }

pub returns : goal.returns
returns c =
    let port : c.from.result ≡ c.args.port = omega arith in
    let within : c.from.result < length c.self.inside.by_port = omega arith in
    record {
      some = λ f is. put-is c.self.inside.by_port c.from.result c.args.port f c.args.flags within port is ∙ ap (λ m. put nat_cmp m c.args.port f) c.self.view_is;
      none = λ is. without-is c.self.inside.by_port c.from.result c.args.port c.args.flags port is ∙ ap (λ m. without nat_cmp m c.args.port) c.self.view_is;
    }
