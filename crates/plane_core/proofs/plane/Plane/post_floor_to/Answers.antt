use Rattle.std.proofs.Common.{None, refl, sym}
use Rattle.br_model.specs.declared.steps.Step.TheVariants.{Post}
use Rattle.plane_core.proofs.Calling.{decided_floor, held_there, posts_floor, stands_after, steps_so}
use Rattle.plane_core.proofs.plane.Plane.post_floor_to.Goals as goal

pub post-requires : goal.post-requires
post-requires c =
    let s = c.self.inside.sides in
    let q = c.self.inside.frames in
    let n = c.self.inside.steps in
    let x = c.in-Some.holding.now in
    let held = held_there c.args.self.now s q n c.args.id x c.self.view_is c.in-Some.ensures in
    decided_floor c.args.self.now s q n c.floor-floor.result x c.frame.result.now c.in-Some-verdict.verdict c.self.view_is c.frame.ensures c.floor-floor.ensures
    (rw c.in-Some-verdict.is at (c.requires x held))

pub invariant_of-self-2 : goal.invariant_of-self-2
invariant_of-self-2 c =
    let s = c.self.inside.sides in
    let q = c.self.inside.frames in
    let m = c.in_ok-step.step in
    let t = c.post.new.self in
    let r = c.release-holding.new.self in
    let sends = posts_floor s t q r c.args.id m c.floor-floor.result c.in-Some.holding.now c.frame.result.now c.in_ok-post.ensures.ok.lines
    (sym c.in-Some.ensures) c.frame.ensures c.floor-floor.ensures c.in_ok-post.ensures.ok.so c.release-holding.ensures.rest in
    stands_after s t q r c.self.inside.steps m (Post c.args.id None) c.in_ok-post.ensures.ok.lines c.in_ok-step.ensures sends c.self.invariant

pub returns-clause-ok : goal.returns-clause-ok
returns-clause-ok c =
    let s = c.self.inside.sides in
    let q = c.self.inside.frames in
    let m = c.in_ok-step.step in
    let t = c.post.new.self in
    let r = c.release-holding.new.self in
    let lines = c.in_ok-post.ensures.ok.lines in
    let sends = posts_floor s t q r c.args.id m c.floor-floor.result c.in-Some.holding.now c.frame.result.now lines
    (sym c.in-Some.ensures) c.frame.ensures c.floor-floor.ensures c.in_ok-post.ensures.ok.so c.release-holding.ensures.rest in
    record {
      lines = lines;
      so = steps_so c.args.self.now s t q r c.self.inside.steps m (Post c.args.id None) lines lines c.self.view_is c.in_ok-step.ensures sends refl c.in_ok-post.ensures.over;
      added = c.in_ok-post.ensures.ok.added;
    }
