use Rattle.std.proofs.Common.{◌≡◌, ◌<◌, ◌≤◌, List, [], length, refl, sym, ap, subst, ◌∙◌, arith, append-nil, length-set}
use Rattle.std.proofs.lemmas.List.Elements.{All-from_all_within, All-get_or, All-set, All-weaker, AllWithin-more_set, AllWithin-none, AllWithin-upto}
use mathlib.Core.List.{IsPrefix}
use Rattle.br_model.specs.declared.change.Update.{Update}
use Rattle.br_model.specs.Table.Change.{updates}
use Rattle.deferred_queue.specs.Ends.{Posting}
use Rattle.plane_lock.proofs.locked.post_all.Goals as goal

pub loop-place-init : goal.loop-place-init
loop-place-init g c =
    let all = updates c.args.plane.now.world.setup.domains.edition c.args.plane.now.world.history in
    let items = c.args.posters.now.items in (
      refl,
      All-weaker (λ (x : Posting). x.posted ≡ c.requires.0) (λ (x : Posting). IsPrefix x.posted all) (λ x e. subst (λ (us : List Update). IsPrefix us all) (sym e) c.requires.2) items c.requires.1,
      AllWithin-none (λ (x : Posting). x.posted ≡ all) items 0,
    )

pub post_updates-requires : goal.post_updates-requires
post_updates-requires g c =
    let all = updates c.args.plane.now.world.setup.domains.edition c.args.plane.now.world.history in
    let ys = c.loop-place.posters.items in
    let there : c.loop-place.place < length ys = omega (arith, c.loop-place-test.true, c.len-place-end.ensures, c.loop-place.invariant.0) in
    subst (λ (x : Posting). IsPrefix x.posted all) (sym c.index_mut.ensures.value)
    (All-get_or (λ (x : Posting). IsPrefix x.posted all) ys c.loop-place.place c.index_mut.result.now there c.loop-place.invariant.1)

pub loop-place-preserved : goal.loop-place-preserved
loop-place-preserved g c =
    let all = updates c.args.plane.now.world.setup.domains.edition c.args.plane.now.world.history in
    let ys = c.loop-place.posters.items in
    let place = c.loop-place.place in
    let poster = c.post_updates.new.poster in
    let there : place < length ys = omega (arith, c.loop-place-test.true, c.len-place-end.ensures, c.loop-place.invariant.0) in
    let posted : poster.posted ≡ all = ap (λ (x : Posting). x.posted) c.post_updates.ensures in
    let whole : IsPrefix poster.posted all = subst (λ (us : List Update). IsPrefix us all) (sym posted) ([], append-nil all) in (
      length-set ys place poster ∙ c.loop-place.invariant.0,
      All-set (λ (x : Posting). IsPrefix x.posted all) ys place poster whole c.loop-place.invariant.1,
      AllWithin-more_set ys place poster there (λ (x : Posting). x.posted ≡ all) c.loop-place.invariant.2 posted,
    )

pub returns-clause-posted : goal.returns-clause-posted
returns-clause-posted g c =
    let all = updates c.args.plane.now.world.setup.domains.edition c.args.plane.now.world.history in
    let ys = c.loop-place.posters.items in
    let end : length ys ≤ c.loop-place.place = omega (arith, c.loop-place-test.false, c.len-place-end.ensures, c.loop-place.invariant.0) in
    All-from_all_within (λ (x : Posting). x.posted ≡ all) ys (AllWithin-upto (λ (x : Posting). x.posted ≡ all) ys 0 c.loop-place.place (length ys) end c.loop-place.invariant.2)
