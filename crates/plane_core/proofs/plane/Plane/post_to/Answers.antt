use Rattle.std.proofs.Common.{◌≡◌, ◌≤◌, Option, Some, IfSome, refl, sym, ap, subst, arith}
use Rattle.br_model.specs.Plane.Serving.{held_with}
use Rattle.br_model.specs.declared.steps.Step.TheVariants.{Post}
use Rattle.br_model.specs.Plane.Steps.{does}
use Rattle.br_model.specs.Plane.World.{Holding}
use Rattle.plane_core.specs.Planes.{PlaneState}
use Rattle.plane_core.specs.Shown.{shown_by, shown_of}
use Rattle.plane_core.specs.Sides.{world_of}
use Rattle.plane_core.proofs.Calling.{decided, held_there, posts_one, stands_after, steps_so}
use Rattle.plane_core.proofs.plane.Plane.post_to.Goals as goal

pub returns-in_default-find-clause-posted : goal.returns-in_default-find-clause-posted
returns-in_default-find-clause-posted c = c.post_none.ensures.posted c.args.seen

pub returns-then-not-is_of-clause-posted : goal.returns-then-not-is_of-clause-posted
returns-then-not-is_of-clause-posted c =
    let x = c.in-Some.holding.now in
    let held = held_there c.args.self.now c.self.inside.sides c.self.inside.frames c.self.inside.steps c.args.held.id x c.self.view_is c.in-Some.ensures in
    ((record { same = refl; back = refl }, (x, held, λ e. absurd (cc (c.if-not-is_of.ensures.1 e)))), refl)

pub post-requires : goal.post-requires
post-requires c =
    let x = c.in-Some.holding.now in
    let held = held_there c.args.self.now c.self.inside.sides c.self.inside.frames c.self.inside.steps c.args.held.id x c.self.view_is c.in-Some.ensures in
    decided c.args.self.now c.self.inside.sides c.self.inside.frames c.self.inside.steps x c.frame.result.now c.args.seen c.self.view_is c.frame.ensures
    (c.requires.decision x (record { held = held; same = c.if-not-is_of.ensures.0 refl })
    (omega (arith, c.if-seen-published.false, c.published-published.ensures, ap (λ (o : PlaneState). o.world.published) c.self.view_is)))

module _ (c : goal.After-drop-held) where
  abbrev x : Holding
  x = c.in-Some.holding.now

  held : held_with c.args.self.now.world c.args.held.id ≡ Some x
  held = held_there c.args.self.now c.self.inside.sides c.self.inside.frames c.self.inside.steps c.args.held.id x c.self.view_is c.in-Some.ensures

  shown : shown_by c.args.held ≡ shown_of x
  shown = c.if-not-is_of.ensures.0 refl

  published : c.args.seen.point ≤ c.args.self.now.world.published
  published = omega (arith, c.if-seen-published.false, c.published-published.ensures, ap (λ (o : PlaneState). o.world.published) c.self.view_is)

  does_so : does (world_of c.self.inside.sides c.self.inside.frames c.in-Ok.step) (Post c.args.held.id (Some c.args.seen.point))
      ≡ (world_of c.post.new.self c.release-holding.new.self c.in-Ok.step, c.in-Ok-post.ensures.ok.lines)
  does_so = posts_one c.args.self.now c.self.inside.sides c.post.new.self c.self.inside.frames c.release-holding.new.self c.self.inside.steps c.in-Ok.step c.args.held x c.frame.result.now c.args.seen
      c.in-Ok-post.ensures.ok.lines c.self.view_is (sym c.in-Some.ensures) shown c.frame.ensures c.requires.floor
      (c.requires.decision x (record { held = held; same = shown }) published) c.in-Ok-post.ensures.ok.so c.release-holding.ensures.rest

pub invariant_of-self : goal.invariant_of-self
invariant_of-self c =
    stands_after c.self.inside.sides c.post.new.self c.self.inside.frames c.release-holding.new.self c.self.inside.steps c.in-Ok.step
    (Post c.args.held.id (Some c.args.seen.point)) c.in-Ok-post.ensures.ok.lines
    c.in-Ok.ensures (does_so c) c.self.invariant

pub returns-in-Ok-post-clause-posted : goal.returns-in-Ok-post-clause-posted
returns-in-Ok-post-clause-posted c = record {
  lines = c.in-Ok-post.ensures.ok.lines;
  so = (
    steps_so c.args.self.now c.self.inside.sides c.post.new.self c.self.inside.frames c.release-holding.new.self c.self.inside.steps c.in-Ok.step (Post c.args.held.id (Some c.args.seen.point))
        c.in-Ok-post.ensures.ok.lines c.in-Ok-post.ensures.ok.lines c.self.view_is c.in-Ok.ensures (does_so c) refl c.in-Ok-post.ensures.over,
    subst (λ (o : Option Holding). IfSome o (λ y. (shown_by c.args.held ≡ shown_of y) × (c.args.seen.point ≤ c.args.self.now.world.published))) (sym (held c)) (shown c, published c),
  );
  added = c.in-Ok-post.ensures.ok.added;
}
