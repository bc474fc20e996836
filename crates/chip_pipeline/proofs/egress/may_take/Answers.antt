use Rattle.std.proofs.Common.{◌≡◌, false, true, not, ◌&&◌, sym, ap, ap₂, ◌∙◌}
use Rattle.br_model.specs.Forward.Admission.{member}
use Rattle.br_model.specs.Forward.Targets.{has_flag, isolated}
use Rattle.chip_tables.specs.declared.rows.PortRow.{PortRow}
use Rattle.chip_tables.specs.Rows.{port_at}
use Rattle.chip_tables.specs.Flags.{row_has_flag}
use Rattle.chip_pipeline.specs.PortRows.{row_lets}
use Rattle.chip_pipeline.proofs.Leaving.{host-takes, no-member, other-takes}
use Rattle.chip_pipeline.proofs.Reading.{flag-is, forwards-is, member-is}
use Rattle.chip_pipeline.proofs.egress.may_take.Goals as goal

pub returns-then-not-is_member : goal.returns-then-not-is_member
returns-then-not-is_member c d dom t stands =
    let isnt : member t c.args.goal c.args.vid ≡ false =
    sym (c.is_member.ensures ∙ member-is d dom t c.args.tables.now stands c.args.vid c.args.goal c.requires.range c.number-n.ensures.below) ∙ c.if-not-is_member.true in
    no-member t c.args.port c.args.goal c.args.vid isnt

pub returns-then-is_host : goal.returns-then-is_host
returns-then-is_host c d dom t stands =
    let is : member t c.args.goal c.args.vid ≡ true =
    sym (c.is_member.ensures ∙ member-is d dom t c.args.tables.now stands c.args.vid c.args.goal c.requires.range c.number-n.ensures.below) ∙ c.if-not-is_member.false in
    host-takes t c.args.port c.args.goal c.args.vid is (sym c.is_host.ensures ∙ c.if-is_host.true)

pub returns : goal.returns
returns c d dom t stands =
    let is : member t c.args.goal c.args.vid ≡ true =
    sym (c.is_member.ensures ∙ member-is d dom t c.args.tables.now stands c.args.vid c.args.goal c.requires.range c.number-n.ensures.below) ∙ c.if-not-is_member.false in
    c.lets.ensures
    ∙ ap₂ (λ a q. row_lets a (port_at c.args.tables.now q)) (c.is_isolated.ensures ∙ ap (λ (r : PortRow). row_has_flag r isolated) c.requires.row
    ∙ flag-is d dom t c.args.tables.now stands c.args.port isolated c.number-number.ensures.below) c.number-n.ensures.value
    ∙ ap₂ (λ f x. f && not (has_flag t c.args.port isolated && x)) (forwards-is d dom t c.args.tables.now stands c.args.goal c.number-n.ensures.below)
    (flag-is d dom t c.args.tables.now stands c.args.goal isolated c.number-n.ensures.below)
    ∙ other-takes t c.args.port c.args.goal c.args.vid is (sym c.is_host.ensures ∙ c.if-is_host.false) (sym c.eq.ensures ∙ c.if-eq.false)
