use Rattle.std.proofs.Common.{◌≡◌, ℕ, ◌||◌, List, [], get_or, set, ap, ap₂, ◌∙◌, arith}
use Rattle.std.specs.Prelude.{◌==◌}
use Rattle.std.proofs.lemmas.List.{get_or_default}
use Rattle.port_sets.specs.Numbers.{has_number, numbers_below}
use Rattle.br_model.specs.Table.Domains.{port_places}
use Rattle.br_model.proofs.Table.DomainMembers.{members-put}
use Rattle.br_model.proofs.domains.move_port.Goals as goal

pub returns : goal.returns
returns c = λ domain low.
    let lost : List (List ℕ) = c.remove_port.new.members in
    let place : c.from-place.result ≡ c.args.d = c.from-place.ensures ∙ c.number.ensures.value in
    let given : c.with.result ≡ numbers_below port_places (λ q. (q == c.number-2.result) || has_number (get_or lost c.from-place.result c.index-members-place.result) q) = c.with.ensures in
    let here : get_or lost c.from-place.result c.index-members-place.result ≡ get_or lost c.from-place.result [] = get_or_default lost c.from-place.result c.index-members-place.result []
    (omega arith) in
    ap (λ i. get_or (set lost i c.with.result) domain []) place
    ∙ members-put c.args.members.now lost c.args.p c.args.d domain c.with.result (omega arith) (λ k within. c.remove_port.ensures k (omega arith))
    (given
    ∙ ap (λ (ns : List ℕ). numbers_below port_places (λ q. (q == c.number-2.result) || has_number ns q)) here
    ∙ ap₂ (λ n i. numbers_below port_places (λ q. (q == n) || has_number (get_or lost i []) q)) c.number-2.ensures.value place) (omega arith)
