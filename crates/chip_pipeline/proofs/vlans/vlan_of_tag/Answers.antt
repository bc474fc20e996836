use Rattle.std.proofs.Common.{◌≡◌, cond, None, Some, sym, ap, ◌∙◌}
use Rattle.br_model.specs.Forward.Admission.{member}
use Rattle.chip_tables.specs.Stands.{IsVid}
use Rattle.chip_pipeline.proofs.Reading.{member-is}
use Rattle.chip_pipeline.proofs.Tags.{tagged}
use Rattle.chip_pipeline.proofs.vlans.vlan_of_tag.Goals as goal

pub returns-then-is_member-clause-vid : goal.returns-then-is_member-clause-vid
returns-then-is_member-clause-vid c d dom t stands =
    let range : IsVid c.in_ok-vid.vid = (c.number-number.ensures.low, c.number-number.ensures.high) in
    let is : c.is_member.result ≡ member t c.args.port c.in_ok-vid.vid =
    c.is_member.ensures ∙ member-is d dom t c.args.tables.now stands c.in_ok-vid.vid c.args.port range c.number-port.ensures.below in
    ap (λ b. cond b (Some c.in_ok-vid.vid) None) (sym c.if-is_member.true) ∙ tagged t c.args.port c.in_ok-vid.vid c.args.tag c.is_member.result c.in_ok-vid.ensures.value range is

pub returns-else-is_member-clause-vid : goal.returns-else-is_member-clause-vid
returns-else-is_member-clause-vid c d dom t stands =
    let range : IsVid c.in_ok-vid.vid = (c.number-number.ensures.low, c.number-number.ensures.high) in
    let is : c.is_member.result ≡ member t c.args.port c.in_ok-vid.vid =
    c.is_member.ensures ∙ member-is d dom t c.args.tables.now stands c.in_ok-vid.vid c.args.port range c.number-port.ensures.below in
    ap (λ b. cond b (Some c.in_ok-vid.vid) None) (sym c.if-is_member.false) ∙ tagged t c.args.port c.in_ok-vid.vid c.args.tag c.is_member.result c.in_ok-vid.ensures.value range is
