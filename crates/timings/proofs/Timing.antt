-- Two timings of one observation.
use Rattle.std.proofs.Common.{◌≡◌, ℕ, ◌+◌, List, [], ◌∷◌, ◌++◌, map, Option, None, Some, refl, sym, ap, ◌∙◌, subst}
use Rattle.std.specs.List.{fold}
use Rattle.std.specs.declared.result.Result.{Result}
use Rattle.std.specs.declared.result.Result.TheVariants.{Ok, Err}
use Rattle.br_model.specs.declared.frame.FrameFault.{FrameFault}
use Rattle.br_model.specs.declared.frame.Head.{Head}
use Rattle.br_model.specs.declared.steps.Event.TheVariants as events
use Rattle.br_model.specs.declared.steps.Refusal.{Refusal}
use Rattle.br_model.specs.declared.steps.Step.{Step}
use Rattle.br_model.specs.declared.steps.Step.TheVariants.{Turn, Publish}
use Rattle.br_model.specs.Control.Reaction.{Reaction}
use Rattle.br_model.specs.Forward.Shares.{mark_of}
use Rattle.br_model.specs.Plane.Chip.{Chip, notes}
use Rattle.br_model.specs.Plane.Entering.{chip_of, class_of, enters_as, enters_by}
use Rattle.br_model.specs.Plane.Serving.{serves}
use Rattle.br_model.specs.Plane.Steps.{world_step}
use Rattle.br_model.specs.Plane.World.{World, Waiting, Stepped, answered, first_world, reacts, table_of_chip, with_chip}
use Rattle.br_model.specs.Table.Domains.{domain_of}
use Rattle.br_model.specs.Table.Setup.{Setup}
use Rattle.br_model.specs.Theorems.Invariants.{IsWorld}
use Rattle.br_model.specs.Wire.Frames.{frame}
use Rattle.br_model.proofs.Plane.Kept.{first-world, step-world}
use Rattle.br_model.proofs.Plane.Waiting.{goes_on-either, waits-either}
use Rattle.br_model.proofs.Plane.Worlds.{worlds, stepped_worlds}
use Rattle.timings.specs.Timings.{Alike, Moment, Seen, Commands, Comes, Enters, happens_at, linux_steps, plays, seen_of, serving, step_of, timed, turned}
use Rattle.timings.proofs.Playing.{alike-then, alike-sym, cmd-alike, ends, ends-alike, now-alike, rx-alike}
use Rattle.timings.proofs.Turning.{same, turn-alike}

-- nothing waits or is held
pub record Calm (w : World) : Type 0 where
  pub waiting : w.waiting ≡ []
  pub held : w.held ≡ []

-- at most one frame waits
data Few (w : World) : Type 0 where
  none : w.waiting ≡ [] → w.held ≡ [] → Few w
  one : (f : Waiting) → w.waiting ≡ f ∷ [] → w.held ≡ [] → Few w

enters-few : (w : World) (o : Option Chip) (f : Waiting) → Calm w → Few (enters_by w o f).0
enters-few w None f k = waits-either (λ s. Few s.0) w f (one f (ap (λ (l : List Waiting). l ++ f ∷ []) k.waiting) k.held) (none k.waiting k.held)
enters-few w (Some c) f k =
    let x = with_chip w (notes (table_of_chip w c) f.port f.head c) in
    let g = record f { mark = mark_of (class_of w c f) w.setup.domains f.port } in
    goes_on-either (λ s. Few s.0) (class_of w c f) x g (none k.waiting k.held)
    (waits-either (λ s. Few s.0) x g (one g (ap (λ (l : List Waiting). l ++ g ∷ []) k.waiting) k.held) (none k.waiting k.held))

frame-few : (w : World) (id port : ℕ) (bytes : List ℕ) (r : Result Head FrameFault) → Calm w → Few (enters_as w id port bytes r).0
frame-few w id port bytes (Err why) k = none k.waiting k.held
frame-few w id port bytes (Ok head) k =
    enters-few w (chip_of w (domain_of w.setup.domains port)) (record { id = id; port = port; bytes = bytes; head = head; mark = None }) k

answered-calm : (w : World) (answer : Result Reaction Refusal) → Calm w → Calm (answered w w answer).0
answered-calm w (Err why) k = k
answered-calm w (Ok r) k = record { waiting = k.waiting; held = k.held }

seen-few : (w : World) (s : Seen) → Calm w → Few (world_step w (step_of s)).0
seen-few w (Commands c) k =
    let x = record w { steps = w.steps + 1 } in
    let a = answered-calm x (reacts x (events.Cmd c)) (record { waiting = k.waiting; held = k.held }) in none a.waiting a.held
seen-few w (Comes moment) k =
    let x = record w { steps = w.steps + 1 } in
    let a = answered-calm x (reacts x (events.Moment moment)) (record { waiting = k.waiting; held = k.held }) in none a.waiting a.held
seen-few w (Enters port bytes) k =
    frame-few (record w { steps = w.steps + 1; next = w.next + 1 }) w.next port bytes (frame bytes) (record { waiting = k.waiting; held = k.held })

serves-calm : (w : World) (f : Waiting) → w.held ≡ [] → Calm (serves w (f ∷ [])).0
serves-calm w f held =
    let x = record w { waiting = [] } in
    answered-calm x (reacts x (events.Sight f.port f.bytes f.head)) (record { waiting = refl; held = held })

serve-calm : (w : World) (fs : List Waiting) (f : Waiting) → fs ≡ f ∷ [] → w.held ≡ [] → Calm (serves w fs).0
serve-calm w fs f e held = subst (λ l. Calm (serves w l).0) (sym e) (serves-calm w f held)

ends-calm : (y : World) → Few y → Calm (ends y)
ends-calm y (none waiting held) =
    subst (λ fs. Calm (worlds y (Publish ∷ serving fs))) (sym waiting) (record { waiting = waiting; held = held })
ends-calm y (one f waiting held) =
    let p = (world_step y Publish).0 in
    let k = serve-calm (record p { steps = p.steps + 1 }) y.waiting f waiting held in
    subst (λ fs. Calm (worlds y (Publish ∷ serving fs))) (sym waiting) (record { waiting = k.waiting; held = k.held })

-- between what is observed
pub record Ready (w : World) : Type 0 where
  pub world : IsWorld w
  pub calm : Calm w

worlds-world : (steps : List Step) (w : World) → IsWorld w → IsWorld (worlds w steps)
worlds-world [] w k = k
worlds-world (s ∷ steps) w k = worlds-world steps (world_step w s).0 (step-world w s k)

turns-ready : (doms : List ℕ) (w : World) → Ready w → Ready (worlds w (map (λ dom. Turn dom) doms)) × Alike (worlds w (map (λ dom. Turn dom) doms)) w
turns-ready [] w k = (k, same w)
turns-ready (dom ∷ doms) w k =
    let a = turn-alike w dom in
    let x = (world_step w (Turn dom)).0 in
    let later = turns-ready doms x (record { world = step-world w (Turn dom) k.world; calm = record { waiting = a.waiting ∙ k.calm.waiting; held = a.held ∙ k.calm.held } }) in
    (later.0, alike-then later.1 a)

plays-world : (x : Stepped) (s : Seen) → (plays x s).0 ≡ ends (world_step x.0 (step_of s)).0
plays-world x s = stepped_worlds x (linux_steps x.0 s)

seen-alike : (s : Seen) (w v : World) → Alike w v → Ready w → Ready v → Alike (ends (world_step w (step_of s)).0) (ends (world_step v (step_of s)).0)
seen-alike (Commands c) w v a k l = ends-alike _ _ (cmd-alike c w v a)
seen-alike (Comes moment) w v a k l = ends-alike _ _ (now-alike moment w v a)
seen-alike (Enters port bytes) w v a k l = rx-alike w v a k.world.doms l.world.doms k.calm.waiting k.calm.held port bytes

seen-ready : (s : Seen) (w : World) → Ready w → Ready (ends (world_step w (step_of s)).0)
seen-ready s w k = record {
  world = worlds-world (Publish ∷ serving (world_step (world_step w (step_of s)).0 Publish).0.waiting) (world_step w (step_of s)).0 (step-world w (step_of s) k.world);
  calm = ends-calm (world_step w (step_of s)).0 (seen-few w s k.calm);
}

-- where two worlds have come by one observation
pub record Beside (x y : Stepped) : Type 0 where
  pub alike : Alike x.0 y.0
  pub left : Ready x.0
  pub right : Ready y.0

pub turned-ready : (x : Stepped) (doms : List ℕ) → Ready x.0 → Ready (turned x doms).0 × Alike (turned x doms).0 x.0
turned-ready x doms k =
    subst (λ w. Ready w × Alike w x.0) (sym (stepped_worlds x (map (λ dom. Turn dom) doms))) (turns-ready doms x.0 k)

pub plays-ready : (x : Stepped) (s : Seen) → Ready x.0 → Ready (plays x s).0
plays-ready x s k = subst Ready (sym (plays-world x s)) (seen-ready s x.0 k)

pub plays-beside : (x y : Stepped) (s : Seen) → Beside x y → Beside (plays x s) (plays y s)
plays-beside x y s b = record {
  alike = subst (λ w. Alike w (plays y s).0) (sym (plays-world x s))
      (subst (λ w. Alike (ends (world_step x.0 (step_of s)).0) w) (sym (plays-world y s)) (seen-alike s x.0 y.0 b.alike b.left b.right));
  left = subst Ready (sym (plays-world x s)) (seen-ready s x.0 b.left);
  right = subst Ready (sym (plays-world y s)) (seen-ready s y.0 b.right);
}

happens-beside : (x y : Stepped) (m n : Moment) → m.1 ≡ n.1 → Beside x y → Beside (happens_at x m) (happens_at y n)
happens-beside x y m n e b =
    let p = turned-ready x m.0 b.left in
    let q = turned-ready y n.0 b.right in
    subst (λ s. Beside (happens_at x m) (plays (turned y n.0) s)) e
    (plays-beside (turned x m.0) (turned y n.0) m.1 (record { alike = alike-then p.1 (alike-then b.alike (alike-sym q.1)); left = p.0; right = q.0 }))

abbrev first-or : Seen → List Seen → Seen
first-or s [] = s
first-or s (t ∷ later) = t

abbrev behind : List Seen → List Seen
behind [] = []
behind (t ∷ later) = later

all-beside : (ms ns : List Moment) (x y : Stepped) → seen_of ms ≡ seen_of ns → Beside x y → Beside (fold happens_at x ms) (fold happens_at y ns)
all-beside [] [] x y e b = b
all-beside [] (n ∷ ns) x y e b = absurd (cc)
all-beside (m ∷ ms) [] x y e b = absurd (cc)
all-beside (m ∷ ms) (n ∷ ns) x y e b =
    all-beside ms ns (happens_at x m) (happens_at y n) (ap behind e) (happens-beside x y m n (ap (first-or m.1) e) b)

pub first-beside : (setup : Setup) → Beside (first_world setup, []) (first_world setup, [])
first-beside setup =
    let k : Ready (first_world setup) = record { world = first-world setup; calm = record { waiting = refl; held = refl } } in
    record { alike = same (first_world setup); left = k; right = k }

pub timed-alike : (setup : Setup) (ms ns : List Moment) → seen_of ms ≡ seen_of ns → Alike (timed setup ms).0 (timed setup ns).0
unfolding timed
timed-alike setup ms ns e =
    (all-beside ms ns (first_world setup, []) (first_world setup, []) e (first-beside setup)).alike
