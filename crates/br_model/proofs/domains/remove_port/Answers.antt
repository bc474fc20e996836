use Rattle.std.proofs.Common.{◌≡◌, ℕ, not, ◌&&◌, List, [], get_or, set, sym, ap, ◌∙◌, arith, inl, inr, get_or-set_same, get_or-set_other, length-set}
use Rattle.std.specs.Prelude.{◌==◌}
use Rattle.std.proofs.lemmas.Bool.Decides.{eqb_tells}
use Rattle.std.proofs.lemmas.List.{get_or_default}
use Rattle.port_sets.specs.Numbers.{has_number, numbers_below}
use Rattle.br_model.specs.Table.Domains.{port_places}
use Rattle.br_model.proofs.domains.remove_port.Goals as goal

pub loop-domain-preserved : goal.loop-domain-preserved
loop-domain-preserved c =
    let members : List (List ℕ) = c.loop-domain.members in
    let d : ℕ = c.loop-domain.domain in
    let old : List (List ℕ) = c.args.members.now in
    let v : List ℕ = c.without.result in
    let is : v ≡ numbers_below port_places (λ q. has_number (get_or members d c.index-members-domain.result) q && not (q == c.number.result)) = c.without.ensures in
    let here : get_or members d c.index-members-domain.result ≡ get_or members d [] = get_or_default members d c.index-members-domain.result [] (omega (arith, c.loop-domain.invariant.sized)) in
    record {
      done = λ k low. elim (eqb_tells k d) [
        | inl e ↦
            ap (λ i. get_or (set members d v) i []) e.1
            ∙ get_or-set_same members d v [] (omega (arith, c.loop-domain.invariant.sized))
            ∙ is
            ∙ ap (λ (ns : List ℕ). numbers_below port_places (λ q. has_number ns q && not (q == c.number.result))) here
            ∙ ap (λ n. numbers_below port_places (λ q. has_number (get_or members d []) q && not (q == n))) c.number.ensures.value
            ∙ ap (λ (ns : List ℕ). numbers_below port_places (λ q. has_number ns q && not (q == c.args.p))) (c.loop-domain.invariant.left d (omega arith))
            ∙ ap (λ i. numbers_below port_places (λ q. has_number (get_or old i []) q && not (q == c.args.p))) (sym e.1)
        | inr e ↦ get_or-set_other members d k v [] e.1 ∙ c.loop-domain.invariant.done k (omega (arith, e.1))
      ];
      left = λ k high. get_or-set_other members d k v [] (λ e. absurd (omega arith)) ∙ c.loop-domain.invariant.left k (omega arith);
      sized = length-set members d v ∙ c.loop-domain.invariant.sized;
    }
