use Rattle.std.proofs.Common.{◌&&◌, cond, sym, ap, ◌∙◌}
use Rattle.port_sets.specs.Numbers.{has_number}
use Rattle.chip_tables.specs.Writing.{switched_fan}
use Rattle.chip_driver.specs.Shadows.{is_wanted, fan_made}
use Rattle.chip_driver.proofs.FanRows.{sets_row}
use Rattle.chip_driver.proofs.fans.edit_of.Goals.{then-member, else-member}
use Rattle.chip_driver.proofs.fans.edit_of.Goals as goal

pub returns-after-member : goal.returns-after-member
returns-after-member c row members =
    let s = c.args.shadow.now in
    let p = c.args.port in
    let fan = c.args.fan in
    let m = c.args.member in
    let own = ap (λ n. has_number s.own n) (sym c.number.ensures.value) ∙ sym c.has.ensures.value ∙ c.if-has.true in
    ap (λ on. switched_fan row p on)
    (elim c.if-member.branch [
      | then-member w ↦ w.result-is ∙ w.is_target.ensures ∙ ap (λ b. b && is_wanted s fan p) (sym w.if-member.true)
      | else-member w ↦ w.result-is ∙ w.if-member.false ∙ ap (λ b. b && is_wanted s fan p) (sym w.if-member.false)
    ])
    ∙ ap (λ o. cond o (switched_fan row p (m && is_wanted s fan p)) (fan_made s members fan)) (sym own)

pub returns-else-has : goal.returns-else-has
returns-else-has c row members =
    let s = c.args.shadow.now in
    let p = c.args.port in
    let fan = c.args.fan in
    let m = c.args.member in
    let foreign = ap (λ n. has_number s.own n) (sym c.number.ensures.value) ∙ sym c.has.ensures.value ∙ c.if-has.false in
    sets_row s fan c.of.result members c.requires c.of.ensures
    ∙ ap (λ o. cond o (switched_fan row p (m && is_wanted s fan p)) (fan_made s members fan)) (sym foreign)
