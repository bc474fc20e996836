use Rattle.std.proofs.Common.{ap, sym, ◌∙◌, is_some, not}
use Rattle.br_model.specs.Table.Domains.{Domains, domain_of}
use Rattle.br_model.specs.Text.Roster.{domains_of}
use Rattle.br_model.specs.Text.Declarations.{are_declared}
use Rattle.bridge_command.proofs.Declaring.{in_domains, host_apart}
use Rattle.bridge_command.proofs.roster.Roster.is_declared.Goals as goal

pub returns-then-not-is_host : goal.returns-then-not-is_host
returns-then-not-is_host c =
    c.is_some.ensures
    ∙ ap is_some (c.of.ensures.value ∙ ap (λ (m : Domains). domain_of m c.args.p) (c.self.invariant.1 ∙ ap (λ r. domains_of r.edition r.ports) c.self.view_is))
    ∙ in_domains c.args.self.now.edition c.args.self.now.ports c.args.p (sym c.is_host.ensures ∙ c.if-not-is_host.true)

pub returns-else-not-is_host : goal.returns-else-not-is_host
returns-else-not-is_host c =
    ap not c.if-not-is_host.false
    ∙ sym (host_apart c.args.self.now.ports c.args.p (sym (ap (λ r. are_declared r.ports) c.self.view_is) ∙ c.self.invariant.0) (sym c.is_host.ensures ∙ c.if-not-is_host.false))
