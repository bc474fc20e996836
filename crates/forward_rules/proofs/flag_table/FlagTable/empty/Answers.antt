use Rattle.std.proofs.Common.{◌∙◌, refl, sym}
use Rattle.br_model.specs.Table.Domains.{port_places}
use Rattle.port_sets.proofs.Numbers.{none_below}
use Rattle.forward_rules.proofs.flag_table.FlagTable.empty.Goals as goal

pub invariant_of-result : goal.invariant_of-result
invariant_of-result c = record {
  flood = c.empty.ensures ∙ sym (none_below _ port_places (λ m low. refl));
  mcast_flood = c.empty-2.ensures ∙ sym (none_below _ port_places (λ m low. refl));
  bcast_flood = c.empty-3.ensures ∙ sym (none_below _ port_places (λ m low. refl));
  isolated = c.empty-4.ensures ∙ sym (none_below _ port_places (λ m low. refl));
}
