use Rattle.std.proofs.Common.{◌∙◌, ℕ, List, refl, sym, ap}
use Rattle.br_model.specs.Table.Domains.{port_places}
use Rattle.port_sets.specs.Numbers.{has_number}
use Rattle.port_sets.proofs.Numbers.{none_below}
use Rattle.forward_rules.proofs.state_table.StateTable.empty.Goals as goal

pub invariant_of-result : goal.invariant_of-result
invariant_of-result c = record {
  forward = c.empty.ensures ∙ sym (none_below _ port_places (λ m low. refl));
  within = λ n behind. ap (λ (ns : List ℕ). has_number ns n) c.empty.ensures;
}
