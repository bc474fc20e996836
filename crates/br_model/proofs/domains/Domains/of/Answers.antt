use Rattle.std.proofs.Common.{◌≡◌, ◌+◌, ◌<◌, length, None, sym, ap, ◌∙◌, arith}
use Rattle.std.specs.Ordering.{nat_cmp}
use Rattle.std.proofs.lemmas.List.{get_or_default}
use Rattle.br_model.specs.Table.Domains.{Domains}
use Rattle.br_model.specs.Data.Maps.{get}
use Rattle.br_model.proofs.Table.DomainLaws.{get-entries}
use Rattle.br_model.proofs.domains.Domains.of.Goals as goal

pub returns-clause-value : goal.returns-clause-value
returns-clause-value c =
    let port : 0 + c.from.result ≡ c.args.p = omega (arith, c.from.ensures, c.number.ensures.value) in
    let here : c.from.result < length c.self.inside.by_port = omega (arith, c.number.ensures.below, c.from.ensures, c.number.ensures.value) in
    get_or_default c.self.inside.by_port c.from.result c.index-self-from.result None here
    ∙ sym (get-entries 0 c.from.result c.self.inside.by_port)
    ∙ ap (λ (m : Domains). get nat_cmp m.ports (0 + c.from.result)) c.self.view_is
    ∙ ap (λ q. get nat_cmp c.args.self.now.ports q) port
