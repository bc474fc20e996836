use Rattle.std.proofs.Common.{◌≡◌, ◌<◌, ◌+◌, ◌-◌, length, get_or, ◌∙◌, arith}
use Rattle.std.proofs.lemmas.List.{length-set}
use Rattle.live_book.proofs.Linking.{heads_kept, heads_more, links_kept, links_more}
use Rattle.live_book.proofs.lanes.link.Goals as goal

pub loop-place-preserved-in-Some : goal.loop-place-preserved-in-Some
loop-place-preserved-in-Some c =
    let so_far = c.loop-place.invariant in
    let steps = c.args.steps.now in
    let i = c.loop-place.place - 1 in
    let x = c.index-steps-place.result in
    let one : i + 1 ≡ c.loop-place.place = omega arith in
    let low : i < length steps = omega (arith, so_far.within) in
    let within : c.in-Some.lane < length c.args.heads.now = omega (arith, c.in-Some.ensures.within, c.requires.lanes) in
    record {
      within = omega (arith, so_far.within);
      lanes = length-set c.loop-place.heads c.in-Some.lane i ∙ so_far.lanes;
      count = length-set c.loop-place.links i (get_or c.loop-place.heads c.in-Some.lane 0) ∙ so_far.count;
      heads = heads_more steps c.loop-place.heads c.loop-place.links i c.loop-place.place x one low c.index-steps-place.is so_far.heads so_far.links
          c.in-Some.lane (length c.args.heads.now) so_far.lanes within so_far.count c.in-Some.ensures.lane;
      links = links_more steps c.loop-place.heads c.loop-place.links i c.loop-place.place x one low c.index-steps-place.is so_far.heads so_far.links
          c.in-Some.lane (length c.args.heads.now) so_far.lanes within so_far.count c.in-Some.ensures.lane 0;
    }

pub loop-place-preserved : goal.loop-place-preserved
loop-place-preserved c =
    let so_far = c.loop-place.invariant in
    let steps = c.args.steps.now in
    let i = c.loop-place.place - 1 in
    let x = c.index-steps-place.result in
    let one : i + 1 ≡ c.loop-place.place = omega arith in
    let low : i < length steps = omega (arith, so_far.within) in
    record {
      within = omega (arith, so_far.within);
      lanes = so_far.lanes;
      count = so_far.count;
      heads = heads_kept steps c.loop-place.heads c.loop-place.links i c.loop-place.place x one low c.index-steps-place.is so_far.heads so_far.links c.in_default.ensures.none;
      links = links_kept steps c.loop-place.heads c.loop-place.links i c.loop-place.place x one low c.index-steps-place.is so_far.heads so_far.links c.in_default.ensures.none;
    }
