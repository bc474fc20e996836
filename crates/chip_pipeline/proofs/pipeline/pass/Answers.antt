use Rattle.std.proofs.Common.{ap, sym, ◌∙◌}
use Rattle.br_model.specs.Forward.Untagged.{untagged_among}
use Rattle.chip_pipeline.specs.Passed.{Passed}
use Rattle.chip_pipeline.proofs.pipeline.pass.Goals as goal

pub returns : goal.returns
returns c d dom table at =
    let vid = c.vlan_of-vid.ensures.vid d dom table at.stands in
    let sent = c.forward-sent.ensures d dom table at vid in
    record {
      class = ap (λ (x : Passed). x.class) c.of.ensures ∙ sent.class;
      vid = ap (λ (x : Passed). x.vid) c.of.ensures ∙ sent.vid;
      ports = ap (λ (x : Passed). x.ports) c.of.ensures ∙ sent.ports;
      untagged = ap (λ (x : Passed). x.untagged) c.of.ensures ∙ sent.untagged ∙ sym (ap (λ (x : Passed). untagged_among table x.vid x.ports) c.of.ensures);
      report = ap (λ (x : Passed). x.report) c.of.ensures ∙ c.sight-sighting.ensures.report d dom table at.stands vid;
      hit = ap (λ (x : Passed). x.hit) c.of.ensures ∙ c.sight-sighting.ensures.hit d dom table at.stands vid;
    }
