use Rattle.std.proofs.Common.{◌≡◌, ◌<◌, ◌≤◌, length, ap, ◌∙◌, arith}
use Rattle.std.specs.Ordering.{nat_cmp}
use Rattle.br_model.specs.Forward.Admission.{forwarding}
use Rattle.br_model.specs.Data.Maps.{put, without}
use Rattle.br_model.specs.Table.Domains.{last_port}
use Rattle.forward_rules.specs.PortSets.{state_is}
use Rattle.forward_rules.proofs.Places.{placed-is, placed-within, put-is, without-is}
use Rattle.forward_rules.proofs.state_table.StateTable.place.Goals as goal

pub invariant_of-self : goal.invariant_of-self
invariant_of-self c =
    let port : c.from.result ≡ c.args.port = omega arith in
    let within : c.from.result < length c.self.inside.by_port = omega arith in
    let low : c.args.port ≤ last_port = omega arith in
    record {
      forward =
          placed-is
          (λ o. state_is o forwarding) c.self.inside.by_port c.from.result c.args.port c.args.state c.eq.result c.self.inside.forwarding c.place_in.new.set within port
          c.self.invariant.forward c.eq.ensures c.place_in.ensures;
      within = placed-within c.self.inside.forwarding c.place_in.new.set c.args.port c.eq.result c.self.invariant.within low c.place_in.ensures;
    }

pub returns : goal.returns
returns c =
    let port : c.from.result ≡ c.args.port = omega arith in
    let within : c.from.result < length c.self.inside.by_port = omega arith in
    record {
      some = λ n is. put-is c.self.inside.by_port c.from.result c.args.port n c.args.state within port is ∙ ap (λ m. put nat_cmp m c.args.port n) c.self.view_is;
      none = λ is. without-is c.self.inside.by_port c.from.result c.args.port c.args.state port is ∙ ap (λ m. without nat_cmp m c.args.port) c.self.view_is;
    }
