use Rattle.std.proofs.Common.{◌∙◌, ◌||◌, ℕ, List, Option, None, false, get_or, take, refl, sym, ap, arith}
use Rattle.std.specs.Option.{option_map_or}
use Rattle.std.specs.List.{list_any}
use Rattle.lemmas.proofs.Tests.{or-false}
use Rattle.br_model.specs.declared.tree.TreePort.{TreePort}
use Rattle.stp_core.specs.Due.{is_due_at}
use Rattle.stp_core.specs.Places.{AreEmptyFrom, entries_at}
use Rattle.stp_core.proofs.Firsts.{first_either, first_same}
use Rattle.stp_core.proofs.PlaceLaws.{any-more, entries-before}
use Rattle.stp_core.proofs.idle.ports_due.Goals as goal
use Rattle.stp_core.proofs.idle.ports_due.Goals.{in-Some, in_default}

pub loop-p-preserved : goal.loop-p-preserved
loop-p-preserved c =
    let p = c.loop-p.p in
    let ps = c.args.places.now in
    let due = λ (now : ℕ) (e : ℕ × TreePort). is_due_at c.args.election.now c.args.delay now e in
    let here = ap (λ (n : ℕ). get_or ps n None) (sym c.from.ensures) in
    let at = λ (now : ℕ) (o : Option TreePort). option_map_or (λ x. due now (p, x)) o false in
    let before = λ (now : ℕ). list_any (due now) (entries_at 0 (take p ps)) in
    let more = λ (now : ℕ). any-more (due now) p ps (omega (arith, c.loop-p-test.true, c.told-places)) in
    elim c.match-places-from.branch [
      | in-Some w ↦
          first_same _ _ (λ now. before now || due now (p, w.in-Some.x)) _ (sym (w.due-is ∙ w.min-due.ensures))
          (λ now. sym (more now ∙ ap (λ b. before now || b) (ap (at now) (here ∙ w.in-Some.is))))
          (first_either c.loop-p.due w.port_due.result before (λ now. due now (p, w.in-Some.x)) c.loop-p.invariant w.port_due.ensures)
      | in_default w ↦
          first_same _ _ before _ (sym w.due-is)
          (λ now. sym (or-false (before now)) ∙ sym (more now ∙ ap (λ b. before now || b) (ap (at now) (here ∙ w.in_default.is))))
          c.loop-p.invariant
    ]

pub returns : goal.returns
returns c =
    let due = λ (now : ℕ) (e : ℕ × TreePort). is_due_at c.args.election.now c.args.delay now e in
    let end : AreEmptyFrom c.loop-p.p c.args.places.now = λ k high. c.requires k (omega (arith, c.loop-p-test.false, high)) in
    let all = entries-before 0 c.loop-p.p c.args.places.now end in
    first_same c.loop-p.due c.loop-p.due (λ now. list_any (due now) (entries_at 0 (take c.loop-p.p c.args.places.now))) (λ now. list_any (due now) (entries_at 0 c.args.places.now)) refl
    (λ now. ap (λ (es : List (ℕ × TreePort)). list_any (due now) es) all) c.loop-p.invariant
