use Rattle.std.proofs.Common.{◌+◌, List, take, sym, ap, ◌∙◌, subst, arith}
use Rattle.std.proofs.lemmas.List.{take_all}
use Rattle.br_model.specs.declared.change.Change.{Change}
use Rattle.cut_walk.specs.Walked.{IsWalk, Walked}
use Rattle.cut_walk.proofs.Walks.{accepts, accepts_fits, waits}
use Rattle.cut_walk.proofs.walk.Walk.follow.Goals.{then-not-is_deferred, else-not-is_deferred}
use Rattle.cut_walk.proofs.walk.Walk.follow.Goals as goal

pub accept-requires : goal.accept-requires
accept-requires c =
    accepts_fits c.args.edition c.args.history.now c.loop-place.place c.index-history-place.result c.loop-place.self c.loop-place-test.true c.index-history-place.is
    c.loop-place.invariant.1 c.requires.history (sym c.is_deferred.ensures ∙ c.if-not-is_deferred.true)

pub loop-place-preserved : goal.loop-place-preserved
loop-place-preserved c =
    let e = c.args.edition in
    let h = c.args.history.now in
    let i = c.loop-place.place in
    let d = c.index-history-place.result in
    let x = c.loop-place.self in
    let was = c.loop-place.invariant in
    elim c.if-not-is_deferred.branch [
      | then-not-is_deferred w ↦ (
        ap (λ (s : Walked). s.count) (w.self-is ∙ w.accept.ensures) ∙ was.0,
        subst (IsWalk e (take (i + 1) h)) (sym (w.self-is ∙ w.accept.ensures))
            (accepts e h i d x c.loop-place-test.true c.index-history-place.is was.1 (sym c.is_deferred.ensures ∙ w.if-not-is_deferred.true)),
      )
      | else-not-is_deferred w ↦ (
        ap (λ (s : Walked). s.count) w.self-is ∙ was.0,
        subst (IsWalk e (take (i + 1) h)) (sym w.self-is)
            (waits e h i d x c.loop-place-test.true c.index-history-place.is was.1 (sym c.is_deferred.ensures ∙ w.if-not-is_deferred.false)),
      )
    ]

pub returns-clause-walk : goal.returns-clause-walk
returns-clause-walk c =
    subst (λ (cs : List Change). IsWalk c.args.edition cs c.loop-place.self)
    (take_all c.loop-place.place c.args.history.now (omega (arith, c.loop-place-test.false))) c.loop-place.invariant.1
