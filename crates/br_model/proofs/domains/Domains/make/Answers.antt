use Rattle.std.proofs.Common.{◌≡◌, ℕ, List, [], get_or, replicate, cond, sym, ap, subst, ◌∙◌}
use Rattle.std.specs.Prelude.{◌==◌}
use Rattle.port_sets.specs.Numbers.{has_number, numbers_below}
use Rattle.br_model.specs.declared.domains.Edition.TheVariants.{One}
use Rattle.br_model.specs.Table.Domains.{port_places}
use Rattle.br_model.specs.Table.DomainPorts.{ports_in}
use Rattle.br_model.proofs.Table.DomainMembers.{ports_in-put, ports_in-none, no_sets}
use Rattle.br_model.proofs.domains.Domains.make.Goals as goal

pub invariant_of-result : goal.invariant_of-result
invariant_of-result c = (
  c.host_alone.ensures.host,
  λ domain low.
      let moved : get_or c.move_port.new.members domain [] ≡ numbers_below port_places
      (λ q. cond (q == 0) (0 == domain) (has_number (get_or (replicate 5 c.empty-members.result) domain []) q)) = c.move_port.ensures domain low in
      subst (λ (es : List (ℕ × ℕ)). get_or c.move_port.new.members domain [] ≡ ports_in (record { edition = One; ports = es }) domain) (sym c.host_alone.ensures.domains)
      (ports_in-put (record { edition = One; ports = [] }) 0 0 domain [] _ (ports_in-none One domain)
      (moved
      ∙ ap (λ (ns : List ℕ). numbers_below port_places (λ q. cond (q == 0) (0 == domain) (has_number (get_or (replicate 5 ns) domain []) q))) c.empty-members.ensures
      ∙ ap (λ (ns : List ℕ). numbers_below port_places (λ q. cond (q == 0) (0 == domain) (has_number ns q))) (no_sets 5 domain))),
)
