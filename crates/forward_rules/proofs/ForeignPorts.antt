-- The ports of other domains.
use Rattle.std.proofs.Common.{◌≡◌, ℕ, not, ◌&&◌, List, Option, None, Some, refl, sym, ap, ◌∙◌}
use Rattle.std.specs.Prelude.{◌==◌}
use Rattle.std.specs.List.{filter}
use Rattle.std.specs.Option.{option_eq}
use Rattle.lemmas.proofs.Numbers.{eqb-sym}
use Rattle.br_model.specs.Table.DomainPorts.{ports_in}
use Rattle.br_model.specs.Table.Domains.{Domains, domain_of, foreign, port_places}
use Rattle.port_sets.specs.Numbers.{has_number, IsSetBelow}
use Rattle.port_sets.proofs.Numbers.{filter-set, same_below}
use Rattle.vlan_groups.specs.Rows.{ports_where}
use Rattle.forward_rules.proofs.SetLaws.{member-of}

same_option : (own : ℕ) (o : Option ℕ) → option_eq (λ x y. x == y) o (Some own) ≡ option_eq (λ x y. x == y) (Some own) o
same_option own None = refl
same_option own (Some d) = eqb-sym d own

-- those of the set that aren't in the port's own domain
pub not-own : (domains : Domains) (p own : ℕ) (ports same others : List ℕ) → IsSetBelow port_places ports → domain_of domains p ≡ Some own
    → same ≡ ports_in domains own → others ≡ ports_where (λ q. has_number ports q && not (has_number same q))
    → others ≡ filter (λ q. foreign domains p q) ports
not-own domains p own ports same others set own_is s o =
    o
    ∙ same_below _ _ port_places (λ q low. ap (λ b. has_number ports q && not b)
    (member-of _ same q s low
    ∙ same_option own (domain_of domains q)
    ∙ ap (λ d. option_eq (λ x y. x == y) d (domain_of domains q)) (sym own_is)))
    ∙ sym (filter-set port_places ports (λ q. foreign domains p q) set)
