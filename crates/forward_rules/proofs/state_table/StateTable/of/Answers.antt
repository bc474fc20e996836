use Rattle.std.proofs.Common.{◌≡◌, ap, ◌∙◌, sym, arith}
use Rattle.std.specs.Ordering.{nat_cmp}
use Rattle.br_model.specs.Table.Domains.{entries_from}
use Rattle.br_model.specs.Data.Maps.{get}
use Rattle.forward_rules.proofs.Places.{get-place}
use Rattle.forward_rules.proofs.state_table.StateTable.of.Goals as goal

pub returns : goal.returns
returns c =
    let port : c.from.result ≡ c.args.port = omega arith in
    sym (get-place c.self.inside.by_port c.from.result)
    ∙ ap (λ q. get nat_cmp (entries_from 0 c.self.inside.by_port) q) port
    ∙ ap (λ m. get nat_cmp m c.args.port) c.self.view_is
