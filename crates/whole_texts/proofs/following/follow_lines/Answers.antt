use Rattle.std.proofs.Common.{◌∷◌, length, List, ℕ, ap, refl, subst, arith, length-append}
use Rattle.neigh_netlink.specs.Follow.{Following}
use Rattle.whole_texts.proofs.Messages.{GoesOn, line_ends, line_taken, long_ends, long_rest, rest_ends, started}
use Rattle.whole_texts.proofs.following.follow_lines.Goals as goal

pub loop-front-init : goal.loop-front-init
loop-front-init c = record {
  few = omega (arith, c.requires.few, ap (λ (f : Following). f.lines) c.requires.first);
  goes = started c.args.bytes.now c.args.follower.now c.requires.first;
}

pub returns-then-front-gt-LONGEST_LINE : goal.returns-then-front-gt-LONGEST_LINE
returns-then-front-gt-LONGEST_LINE c =
    let front = c.in-Some.ensures in
    long_ends _ c.in-Some.front.line.now (10 ∷ c.in-Some.front.behind.now) c.loop-front.follower c.bad_length.result
    (subst (λ (b : List ℕ). GoesOn c.args.bytes.now c.loop-front.follower b) front.joined c.loop-front.invariant.goes)
    front.feedless (omega (arith, c.if-front-gt-LONGEST_LINE.true)) c.bad_length.ensures

pub loop-front-preserved : goal.loop-front-preserved
loop-front-preserved c =
    let front = c.in-Some.ensures in
    let line = c.in-Some.front.line.now in
    let behind = c.in-Some.front.behind.now in
    let at = subst (λ (b : List ℕ). GoesOn c.args.bytes.now c.loop-front.follower b) front.joined c.loop-front.invariant.goes in record {
      few = omega (arith, c.loop-front.invariant.few, c.take.ensures.lines, ap length front.joined, length-append line (10 ∷ behind));
      goes = line_taken _ line behind _ _ at front.feedless (omega (arith, c.if-front-gt-LONGEST_LINE.false)) c.in-None.ensures.takes c.in-None.ensures.going;
    }

pub returns-in-Some-take : goal.returns-in-Some-take
returns-in-Some-take c =
    let front = c.in-Some.ensures in
    let at = subst (λ (b : List ℕ). GoesOn c.args.bytes.now c.loop-front.follower b) front.joined c.loop-front.invariant.goes in
    line_ends _ c.in-Some.front.line.now c.in-Some.front.behind.now _ _ at front.feedless (omega (arith, c.if-front-gt-LONGEST_LINE.false)) c.in-Some-take.end c.in-Some-take.ensures.takes refl

pub returns-then-rest-gt-LONGEST_LINE : goal.returns-then-rest-gt-LONGEST_LINE
returns-then-rest-gt-LONGEST_LINE c = long_rest _ _ _ _ c.loop-front.invariant.goes c.in_default.ensures (omega (arith, c.if-rest-gt-LONGEST_LINE.true)) c.bad_length-then-rest-gt-LONGEST_LINE.ensures

pub returns : goal.returns
returns c = rest_ends _ _ _ _ c.loop-front.invariant.goes c.in_default.ensures (omega (arith, c.if-rest-gt-LONGEST_LINE.false)) c.close.ensures
