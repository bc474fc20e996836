use Rattle.std.proofs.Common.{rules, ℕ, List, ◌≡◌, ◌+◌, ◌<◌, length, [], get_or, set, Some, sym, ap, subst, ◌∙◌, arith}
use Rattle.std.specs.Ordering.{nat_cmp}
use Rattle.br_model.specs.Table.Domains.{Domains, entries_from}
use Rattle.br_model.specs.Data.Maps.{put}
use Rattle.br_model.specs.Table.DomainPorts.{ports_in}
use Rattle.br_model.proofs.Table.DomainLaws.{entries-set}
use Rattle.br_model.proofs.Table.DomainMembers.{ports_in-put}
use Rattle.br_model.proofs.domains.Domains.set.Goals as goal

-- the entries with the new one
entries-put : (c : goal.After-index-self-from) → entries_from 0 (set c.self.inside.by_port c.from.result (Some c.args.d)) ≡ put nat_cmp (entries_from 0 c.self.inside.by_port) c.args.p c.args.d
entries-put c =
    let port : 0 + c.from.result ≡ c.args.p = omega (arith, c.from.ensures, c.number.ensures.value) in
    let within : c.from.result < length c.self.inside.by_port = omega arith in
    entries-set 0 c.from.result c.args.d c.self.inside.by_port within
    ∙ ap (λ q. put nat_cmp (entries_from 0 c.self.inside.by_port) q c.args.d) port

pub returns : goal.returns
returns c =
    ap (λ (es : List (ℕ × ℕ)). record { edition = c.self.inside.edition; ports = es }) (entries-put c)
    ∙ ap (λ (m : Domains). record m { ports = put nat_cmp m.ports c.args.p c.args.d }) c.self.view_is

pub invariant_of-self : goal.invariant_of-self
invariant_of-self c = (
  search rules,
  λ domain low.
      let m : Domains = record { edition = c.self.inside.edition; ports = entries_from 0 c.self.inside.by_port } in
      subst (λ (es : List (ℕ × ℕ)). get_or c.move_port.new.members domain [] ≡ ports_in (record m { ports = es }) domain) (sym (entries-put c))
      (ports_in-put m c.args.p c.args.d domain _ _ (c.self.invariant.1 domain low) (c.move_port.ensures domain low)),
)
