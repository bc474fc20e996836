use Rattle.std.proofs.Common.{◌<◌, length, take, sym, ap, ◌∙◌, subst, arith}
use Rattle.std.proofs.Math.Seq.{map-set_same}
use Rattle.std.proofs.lemmas.List.{length-map}
use Rattle.std.proofs.lemmas.List.Elements.{AllWithin-more_set}
use Rattle.hwdom_chips.specs.Chips.{AreChips, ChipState, IsChip}
use Rattle.br_model.proofs.Table.ChipLists.{rest-set, same-rest}
use Rattle.hwdom_chips.proofs.chips.Chips.follow.Goals as goal

pub follow-requires-clause-stands : goal.follow-requires-clause-stands
follow-requires-clause-stands c =
    let d = c.args.domains.now in
    let h = take c.args.from c.args.history.now in
    let place = c.loop-place.place in
    let item = c.index_mut.result.now in
    let xs = c.self.inside.chips.items in
    let each = (subst (AreChips d h) (sym c.self.view_is) c.requires.stand).each in
    subst (IsChip d h) (sym (c.index_mut.ensures.value ∙ same-rest c.loop-place.self-inside.chips.items xs place item c.loop-place.invariant.1))
    (each place item (omega (arith, c.loop-place-test.true, c.len-place-end.ensures)))

pub loop-place-preserved : goal.loop-place-preserved
loop-place-preserved c =
    let place = c.loop-place.place in
    let item = c.index_mut.result.now in
    let xs = c.self.inside.chips.items in
    let ys = c.loop-place.self-inside.chips.items in
    let within : place < length ys =
    omega (arith, c.loop-place-test.true, c.len-place-end.ensures, ap length c.loop-place.invariant.0, length-map xs (λ (s : ChipState). s.chip), length-map ys (λ (s : ChipState). s.chip)) in (
      map-set_same (λ (s : ChipState). s.chip) ys place c.follow.new.self item (c.follow.ensures.chip ∙ ap (λ (s : ChipState). s.chip) c.index_mut.ensures.value) ∙ c.loop-place.invariant.0,
      rest-set ys xs place c.follow.new.self c.loop-place.invariant.1,
      AllWithin-more_set ys place c.follow.new.self within (IsChip c.args.domains.now c.args.history.now) c.loop-place.invariant.2 c.follow.ensures.stands,
    )
