use Rattle.std.proofs.Common.{◌≡◌, ℕ, List, get_or, sym, ap, ◌∙◌, None, arith}
use Rattle.std.specs.List.{filter_map}
use Rattle.std.specs.Option.{option_and_then}
use Rattle.br_model.specs.declared.tree.TreePort.{TreePort}
use Rattle.br_model.specs.Tree.Vectors.{candidate, least}
use Rattle.stp_core.specs.Places.{AreEmptyFrom}
use Rattle.stp_core.proofs.PlaceLaws.{entries-before}
use Rattle.stp_core.proofs.ElectLaws.{added, least-more, last-added}
use Rattle.stp_core.proofs.vectors.best_offer.Goals as goal
use Rattle.stp_core.proofs.vectors.best_offer.Goals.{in-Some+in-Some-candidate, in-Some+in_default-candidate, in_default}

pub loop-p-preserved : goal.loop-p-preserved
loop-p-preserved c =
    let more = least-more c.args.id c.loop-p.p c.args.places.now (omega (arith, c.loop-p-test.true, c.told-places)) in
    let here = ap (λ n. get_or c.args.places.now n None) (sym c.from.ensures) in
    let before = ap (λ m. added m (option_and_then (λ x. candidate c.args.id (c.loop-p.p, x)) (get_or c.args.places.now c.loop-p.p None))) c.loop-p.invariant.best in
    elim c.match-places-from.branch [
      | in-Some+in-Some-candidate w ↦
          record {
            best = w.best-is ∙ w.lesser-best.ensures
                ∙ ap (added c.loop-p.best) (sym (ap (λ o. option_and_then (λ x. candidate c.args.id (c.loop-p.p, x)) o) (here ∙ w.in-Some.is) ∙ sym w.candidate.ensures.value ∙ w.in-Some-candidate.is))
                ∙ before ∙ sym more;
            last = λ x e.
                let same : w.in-Some-candidate.c.port ≡ c.loop-p.p = w.candidate.ensures.here w.in-Some-candidate.c w.in-Some-candidate.is in
                last-added c.loop-p.best w.in-Some-candidate.c c.loop-p.invariant.last (omega (arith, same, c.loop-p-test.true)) x (sym (w.best-is ∙ w.lesser-best.ensures) ∙ e);
          }
      | in-Some+in_default-candidate w ↦
          record {
            best = w.best-is
                ∙ ap (added c.loop-p.best)
                (sym (ap (λ o. option_and_then (λ x. candidate c.args.id (c.loop-p.p, x)) o) (here ∙ w.in-Some.is) ∙ sym w.candidate.ensures.value ∙ w.in_default-candidate.is))
                ∙ before ∙ sym more;
            last = λ x e. c.loop-p.invariant.last x (sym w.best-is ∙ e);
          }
      | in_default w ↦
          record {
            best = w.best-is
                ∙ ap (added c.loop-p.best) (sym (ap (λ o. option_and_then (λ x. candidate c.args.id (c.loop-p.p, x)) o) (here ∙ w.in_default.is)))
                ∙ before ∙ sym more;
            last = λ x e. c.loop-p.invariant.last x (sym w.best-is ∙ e);
          }
    ]

pub returns-clause-value : goal.returns-clause-value
returns-clause-value c =
    let end : AreEmptyFrom c.loop-p.p c.args.places.now = λ k high. c.requires k (omega (arith, c.loop-p-test.false, high)) in
    c.loop-p.invariant.best ∙ ap (λ (es : List (ℕ × TreePort)). least (filter_map (candidate c.args.id) es)) (entries-before 0 c.loop-p.p c.args.places.now end)
