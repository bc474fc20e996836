use Rattle.std.proofs.Common.{◌≡◌, ◌<◌, length, None, ap, ◌∙◌, sym, arith}
use Rattle.std.specs.Ordering.{nat_cmp}
use Rattle.std.proofs.lemmas.List.{get_or_default}
use Rattle.br_model.specs.Table.Domains.{entries_from}
use Rattle.br_model.specs.Data.Maps.{get}
use Rattle.forward_rules.proofs.Places.{get-place}
use Rattle.forward_rules.proofs.flag_table.FlagTable.of.Goals as goal

pub returns : goal.returns
returns c =
    let port : c.from.result ≡ c.args.port = omega arith in
    let within : c.from.result < length c.self.inside.by_port = omega arith in
    get_or_default c.self.inside.by_port c.from.result c.index-self-from.result None within
    ∙ sym (get-place c.self.inside.by_port c.from.result)
    ∙ ap (λ q. get nat_cmp (entries_from 0 c.self.inside.by_port) q) port
    ∙ ap (λ m. get nat_cmp m c.args.port) c.self.view_is
