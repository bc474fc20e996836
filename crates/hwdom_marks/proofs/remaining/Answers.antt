use Rattle.std.proofs.Common.{◌≡◌, ℕ, Bool, true, not, ◌&&◌, List, [], ◌∷◌, Option, refl, sym, ap, ◌∙◌}
use Rattle.std.specs.List.{filter}
use Rattle.br_model.specs.Table.DomainPorts.{is_in_domain, is_marked}
use Rattle.br_model.specs.Table.Domains.{port_places}
use Rattle.port_sets.specs.Numbers.{numbers_below, has_number, IsSetBelow}
use Rattle.port_sets.proofs.Numbers.{same_below, has-below, filter-set}
use Rattle.hwdom_marks.specs.declared.Mark.{Mark}
use Rattle.hwdom_marks.specs.Marks.{domain_marked}
use Rattle.hwdom_marks.proofs.remaining.Goals as goal

without_marked : (ports marked : List ℕ) (test : ℕ → Bool) → IsSetBelow port_places ports → marked ≡ numbers_below port_places test
    → numbers_below port_places (λ m. has_number ports m && not (has_number marked m)) ≡ filter (λ m. not (test m)) ports
without_marked ports marked test set e =
    same_below _ _ port_places (λ m low. ap (λ b. has_number ports m && not b) (ap (λ (ns : List ℕ). has_number ns m) e ∙ has-below test port_places m low))
    ∙ sym (filter-set port_places ports (λ m. not (test m)) set)

all : (ports : List ℕ) → ports ≡ filter (λ _. true) ports
all [] = refl
all (p ∷ ports) = ap (λ (ps : List ℕ). p ∷ ps) (all ports)

pub returns-in-Some : goal.returns-in-Some
returns-in-Some c =
    c.minus.ensures
    ∙ without_marked c.args.ports c.ports_of.result (is_in_domain c.args.d.now c.in-Some.mark.dom) c.members_ascend.ensures.ordered c.ports_of.ensures
    ∙ ap (λ (mark : Option Mark). filter (λ port. not (is_marked c.args.d.now (domain_marked mark) port)) c.args.ports) (sym c.in-Some.is)

pub returns-in-None : goal.returns-in-None
returns-in-None c =
    all c.args.ports
    ∙ ap (λ (mark : Option Mark). filter (λ port. not (is_marked c.args.d.now (domain_marked mark) port)) c.args.ports) (sym c.in-None.is)
