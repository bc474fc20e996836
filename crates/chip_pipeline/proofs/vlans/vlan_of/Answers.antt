use Rattle.std.proofs.Common.{sym, ap, ◌∙◌}
use Rattle.br_model.specs.Forward.Admission.{vlan_of_tag}
use Rattle.chip_pipeline.proofs.vlans.vlan_of.Goals as goal

pub returns-in-Some-clause-vid : goal.returns-in-Some-clause-vid
returns-in-Some-clause-vid c d dom t stands = c.vlan_of_tag.ensures.vid d dom t stands ∙ ap (vlan_of_tag t c.args.port) (sym c.in-Some.is)
