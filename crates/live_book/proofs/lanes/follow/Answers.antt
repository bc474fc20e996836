use Rattle.std.proofs.Common.{◌≡◌, ◌<◌, ◌+◌, ℕ, List, false, true, length, get_or, refl, sym, ap, ◌∙◌, arith, rules, subst}
use Rattle.std.proofs.lemmas.Bool.{not-false, not-true}
use Rattle.std.proofs.lemmas.List.{length-set}
use Rattle.br_model.specs.Program.SameSteps.{same_step}
use Rattle.live_book.proofs.Following.{AllFollow, all_more, all_passed, differs, end_tells, past, stands}
use Rattle.live_book.proofs.lanes.follow.Goals as goal
use Rattle.live_book.proofs.lanes.follow.Goals.{then-place-given-via-then-place-given, then-place-given-via-else-place-given+then-ne, in-Some+else-place-given+else-ne, in_default}

pub returns-then-place-given : goal.returns-then-place-given
returns-then-place-given c =
    let so_far = c.loop-step.invariant in
    let later = c.args.later.now in
    let given = c.args.given.now in
    let heads = c.loop-step.heads in
    let lane = c.in-Some.lane in
    let at = get_or heads lane 0 in
    let within : lane < length heads = omega (arith, c.in-Some.ensures.within, c.requires.lanes, so_far.lanes) in
    elim c.then-place-given.branch [
      | then-place-given-via-then-place-given w ↦
          let end : at ≡ length given = omega (arith, w.if-place-given.true) in
          sym (past later given heads c.args.links.now c.loop-step.step-index c.step-item.result c.loop-step-test.true c.step-item.is so_far.follow lane at 0 c.in-Some.ensures.lane within refl end)
      | then-place-given-via-else-place-given+then-ne w ↦
          let f = stands later given heads c.args.links.now c.loop-step.step-index c.step-item.result c.loop-step-test.true c.step-item.is so_far.follow lane at 0 c.in-Some.ensures.lane within refl in
          let low : at < length given = omega (arith, w.if-place-given.false, f.within) in
          let other : same_step c.step-item.result w.index-given-place.result ≡ false = not-true _ (sym w.ne.ensures ∙ w.if-ne.true) in
          sym (differs later given heads c.args.links.now c.loop-step.step-index c.step-item.result c.loop-step-test.true c.step-item.is so_far.follow lane at 0 c.in-Some.ensures.lane within refl
          w.index-given-place.result low w.index-given-place.is other)
    ]

pub offset_bounds-links-place : goal.offset_bounds-links-place
offset_bounds-links-place c =
    let so_far = c.loop-step.invariant in
    let heads = c.loop-step.heads in
    let lane = c.in-Some.lane in
    let at = get_or heads lane 0 in
    let within : lane < length heads = omega (arith, c.in-Some.ensures.within, c.requires.lanes, so_far.lanes) in
    let f = stands c.args.later.now c.args.given.now heads c.args.links.now c.loop-step.step-index c.step-item.result c.loop-step-test.true c.step-item.is so_far.follow lane at 0
    c.in-Some.ensures.lane within refl in
    let low : at < length c.args.links.now = omega (arith, c.if-place-given.false, f.within, c.requires.count) in
    search rules

pub loop-step-preserved : goal.loop-step-preserved
loop-step-preserved c =
    let so_far = c.loop-step.invariant in
    let later = c.args.later.now in
    let given = c.args.given.now in
    let heads = c.loop-step.heads in
    let i = c.loop-step.step-index in record {
      lanes = elim c.match-lane_of.branch [
        | in-Some+else-place-given+else-ne w ↦ ap (λ (l : List ℕ). length l) w.heads-is ∙ length-set heads w.in-Some.lane _ ∙ so_far.lanes
        | in_default w ↦ ap (λ (l : List ℕ). length l) w.heads-is ∙ so_far.lanes
      ];
      follow = elim c.match-lane_of.branch [
        | in-Some+else-place-given+else-ne w ↦
            let lane = w.in-Some.lane in
            let at = get_or heads lane 0 in
            let within : lane < length heads = omega (arith, w.in-Some.ensures.within, c.requires.lanes, so_far.lanes) in
            let f = stands later given heads c.args.links.now i c.step-item.result c.loop-step-test.true c.step-item.is so_far.follow lane at 0 w.in-Some.ensures.lane within refl in
            let low : at < length given = omega (arith, w.if-place-given.false, f.within) in
            let same : same_step c.step-item.result w.index-given-place.result ≡ true = not-false _ (sym w.ne.ensures ∙ w.if-ne.false) in
            subst (λ (l : List ℕ). AllFollow later given (i + 1) l) (sym w.heads-is)
            (all_more later given heads c.args.links.now i c.step-item.result c.loop-step-test.true c.step-item.is so_far.follow lane at 0 w.in-Some.ensures.lane within refl
            w.index-given-place.result low w.index-given-place.is c.requires.links same 0)
        | in_default w ↦
            subst (λ (l : List ℕ). AllFollow later given (i + 1) l) (sym w.heads-is)
            (all_passed later given heads c.args.links.now i c.step-item.result c.loop-step-test.true c.step-item.is so_far.follow w.in_default.ensures.none)
      ];
    }

pub returns : goal.returns
returns c = c.have_ended.ensures ∙ end_tells c.args.later.now c.args.given.now c.loop-step.heads c.loop-step.step-index c.loop-step-test.false c.loop-step.invariant.follow
