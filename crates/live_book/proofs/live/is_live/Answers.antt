use Rattle.std.proofs.Common.{◌≡◌, ◌&&◌, true, false, Bool, List, length, sym, ap, ap₂, ◌∙◌, rules}
use Rattle.std.specs.List.{list_all, slice_range}
use Rattle.br_model.specs.declared.steps.Step.{Step}
use Rattle.br_model.specs.declared.transcript.Line.{Line}
use Rattle.br_model.specs.Program.LiveRun.{ends_with_publish, is_live_run, same_frames, same_order}
use Rattle.br_model.specs.Text.Scenario.{Scenario}
use Rattle.live_book.specs.Ends.{IsBook, is_idle}
use Rattle.live_book.specs.Reading.{is_published, may_change, was_refused}
use Rattle.live_book.proofs.Judging.{as_ordered, if_ok, in_order, settled, to_end, unsettled, whole, without}
use Rattle.live_book.proofs.live.is_live.Goals as goal

pub returns-in_default : goal.returns-in_default
returns-in_default c = λ sc book.
    without sc c.args.given.now c.args.steps.now c.args.lines.now.lines c.args.left.now book c.before_frame-opening.result c.before_frame-opening.ensures.value c.in_default.ensures.value

pub returns-then-not-is_settled : goal.returns-then-not-is_settled
returns-then-not-is_settled c = λ sc book.
    let steps = c.args.steps.now in
    let given = c.args.given.now in
    let told = c.args.lines.now.lines in
    let opening = c.before_frame-opening.result in
    let before = c.before_frame-opening.ensures.value in
    let drains = c.before_drain-drain.ensures.drain in
    let left = c.args.left.now in
    let n = c.in-Some.first in
    let drain = c.before_drain-drain.result in
    let is : c.is_settled.result ≡ false = search rules in
    unsettled (is_live_run steps sc)
    (in_order sc given steps told left book opening before n drain drains)
    (settled sc given steps told left book opening before n drain drains)
    (whole sc given steps told left book opening before n drain drains c.in-Some.ensures.value)
    (ap (λ (t : List Line). list_all (is_published (may_change steps n drain)) t && (ends_with_publish steps && (is_idle left && list_all (was_refused steps t) left.reporting))) (sym c.parts.ensures)
    ∙ sym (c.is_settled.ensures c.parts.result.1.now) ∙ is)

pub returns : goal.returns
returns c =
    let steps = c.args.steps.now in
    let given = c.args.given.now in
    let told = c.args.lines.now.lines in
    let opening = c.before_frame-opening.result in
    let before = c.before_frame-opening.ensures.value in
    let drains = c.before_drain-drain.ensures.drain in
    let left = c.args.left.now in
    let n = c.in-Some.first in
    let drain = c.before_drain-drain.result in
    let is : c.is_settled.result ≡ true = search rules in
    if_ok c.keep_order.result
    (λ (same : Bool). same ≡ (same_frames (slice_range steps n (length steps)) (slice_range given opening (length given)) && same_order (slice_range steps n (length steps))
    (slice_range given opening (length given))))
    (λ (live : Bool). (sc : Scenario) → IsBook sc c.args.given.now c.args.steps.now c.args.lines.now.lines c.args.left.now → live ≡ is_live_run steps sc)
    c.keep_order.ensures
    (λ same ordered sc book.
    as_ordered (is_live_run steps sc)
    (in_order sc given steps told left book opening before n drain drains)
    (settled sc given steps told left book opening before n drain drains)
    same
    (whole sc given steps told left book opening before n drain drains c.in-Some.ensures.value)
    (ap (λ (t : List Line). list_all (is_published (may_change steps n drain)) t && (ends_with_publish steps && (is_idle left && list_all (was_refused steps t) left.reporting))) (sym c.parts.ensures)
    ∙ sym (c.is_settled.ensures c.parts.result.1.now) ∙ is)
    (ordered ∙ ap₂ (λ (xs ys : List Step). same_frames xs ys && same_order xs ys) (to_end steps n) (to_end given opening)))
