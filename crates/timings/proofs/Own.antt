-- What is sent of a frame is sent when it enters: nothing before, and nothing after.
use Rattle.std.proofs.Common.{◌≡◌, ℕ, ◌+◌, ◌≤◌, ◌<◌, List, [], ◌∷◌, ◌++◌, map, Option, None, Some, refl, sym, ap, ◌∙◌, arith, append_assoc}
use Rattle.std.proofs.lemmas.List.{append-nil}
use Rattle.std.specs.List.{fold}
use Rattle.std.specs.declared.result.Result.{Result}
use Rattle.std.specs.declared.result.Result.TheVariants.{Ok, Err}
use Rattle.br_model.specs.declared.frame.FrameFault.{FrameFault}
use Rattle.br_model.specs.declared.frame.Head.{Head}
use Rattle.br_model.specs.declared.steps.Event.TheVariants as events
use Rattle.br_model.specs.declared.steps.Refusal.{Refusal}
use Rattle.br_model.specs.declared.steps.Step.{Step}
use Rattle.br_model.specs.declared.steps.Step.TheVariants.{Serve, Turn, Publish}
use Rattle.br_model.specs.declared.transcript.Line.{Line}
use Rattle.br_model.specs.Control.Reaction.{Reaction}
use Rattle.br_model.specs.Plane.Chip.{Chip, notes}
use Rattle.br_model.specs.Plane.Entering.{chip_of, class_of, enters_as, enters_by}
use Rattle.br_model.specs.Plane.Runs.{then_step}
use Rattle.br_model.specs.Plane.Sending.{sent_of}
use Rattle.br_model.specs.Plane.Serving.{serves}
use Rattle.br_model.specs.Plane.Steps.{world_step}
use Rattle.br_model.specs.Plane.World.{World, Waiting, Stepped, answered, reacts, table_of_chip, with_chip}
use Rattle.br_model.specs.Forward.Shares.{mark_of}
use Rattle.br_model.specs.Table.Domains.{domain_of}
use Rattle.br_model.specs.Theorems.Invariants.{IsWorld}
use Rattle.br_model.specs.Wire.Frames.{frame}
use Rattle.br_model.proofs.Plane.Fates.{Effect, Fate, entered, found, found-taken, gone, idle, said-none, step-effect, taken}
use Rattle.br_model.proofs.Plane.Kept.{step-world}
use Rattle.br_model.proofs.Plane.Waiting.{goes_on-either, waits-either}
use Rattle.timings.specs.Explained.{Mark, Sees, Applied, Timing, comes_to, frame_sent, goes}
use Rattle.timings.specs.Timings.{Seen, Commands, Comes, Enters, linux_steps, plays, played, serving, step_of, turned}
use Rattle.timings.proofs.Counting.{turned-alike}
use Rattle.timings.proofs.Lines.{sent-append}
use Rattle.timings.proofs.Timing.{Ready, plays-ready, turned-ready}

-- Of a frame that is gone.

-- a frame that isn't there, though its id was given
record Gone (id : ℕ) (w : World) : Type 0 where
  given : id < w.next
  away : found id w.held w.waiting ≡ []

gone-step : (id : ℕ) (w : World) (s : Step) → IsWorld w → Gone id w → Gone id (world_step w s).0 × (sent_of id (world_step w s).1 ≡ [])
gone-step id w s k g = by e.fate
  where
    e : Effect id w (world_step w s).0 (world_step w s).1
    e = step-effect id w s k

    by : Fate id w (world_step w s).0 (world_step w s).1 → Gone id (world_step w s).0 × (sent_of id (world_step w s).1 ≡ [])
    by (idle there silent) = (record { given = omega (arith, g.given, e.next); away = there ∙ g.away }, said-none id (world_step w s).1 silent)
    by (entered out is more says once settled) = absurd (omega (arith, is, g.given))
    by (taken f was is says) = absurd (cc (sym g.away ∙ was))
    by (gone f o point was is decided says) = absurd (cc (sym g.away ∙ was))

played-gone : (id : ℕ) (x : Stepped) (steps : List Step) → IsWorld x.0 → Gone id x.0 → sent_of id (played x steps).1 ≡ sent_of id x.1
played-gone id x [] k g = refl
played-gone id x (s ∷ steps) k g =
    let now = gone-step id x.0 s k g in
    played-gone id (then_step x s) steps (step-world x.0 s k) now.0 ∙ sent-append id x.1 (world_step x.0 s).1 ∙ ap (λ l. sent_of id x.1 ++ l) now.1 ∙ append-nil (sent_of id x.1)

-- Of a frame that didn't enter yet.

abbrev pub Fresh : Stepped → Type 0
Fresh x = (id : ℕ) → x.0.next ≤ id → sent_of id x.1 ≡ []

fresh-step : (x : Stepped) (s : Step) → IsWorld x.0 → Fresh x → Fresh (then_step x s)
fresh-step x s k h id le = sent-append id x.1 (world_step x.0 s).1 ∙ (λ i. h id (omega (arith, le, e.next)) i ++ by e.fate i)
  where
    e : Effect id x.0 (world_step x.0 s).0 (world_step x.0 s).1
    e = step-effect id x.0 s k

    by : Fate id x.0 (world_step x.0 s).0 (world_step x.0 s).1 → sent_of id (world_step x.0 s).1 ≡ []
    by (idle there silent) = said-none id (world_step x.0 s).1 silent
    by (entered out is more says once settled) = absurd (omega (arith, is, more, le))
    by (taken f was is says) = absurd (omega (arith, found-taken id x.0 (f, None) k was, e.next, le))
    by (gone f o point was is decided says) = absurd (omega (arith, found-taken id x.0 (f, o) k was, e.next, le))

pub played-fresh : (x : Stepped) (steps : List Step) → IsWorld x.0 → Fresh x → Fresh (played x steps)
played-fresh x [] k h = h
played-fresh x (s ∷ steps) k h = played-fresh (then_step x s) steps (step-world x.0 s k) (fresh-step x s k h)

-- The next id.

answered-next : (w : World) (answer : Result Reaction Refusal) → (answered w w answer).0.next ≡ w.next
answered-next w (Err why) = refl
answered-next w (Ok r) = refl

enters-next : (w : World) (o : Option Chip) (f : Waiting) → (enters_by w o f).0.next ≡ w.next
enters-next w None f = waits-either (λ y. y.0.next ≡ w.next) w f refl refl
enters-next w (Some c) f =
    let x = with_chip w (notes (table_of_chip w c) f.port f.head c) in
    let g = record f { mark = mark_of (class_of w c f) w.setup.domains f.port } in
    goes_on-either (λ y. y.0.next ≡ w.next) (class_of w c f) x g refl (waits-either (λ y. y.0.next ≡ w.next) x g refl refl)

frame-next : (w : World) (id port : ℕ) (bytes : List ℕ) (r : Result Head FrameFault) → (enters_as w id port bytes r).0.next ≡ w.next
frame-next w id port bytes (Err why) = refl
frame-next w id port bytes (Ok head) = enters-next w (chip_of w (domain_of w.setup.domains port)) (record { id = id; port = port; bytes = bytes; head = head; mark = None })

-- the id behind what comes
abbrev pub next_behind : ℕ → Seen → ℕ
next_behind n (Commands c) = n
next_behind n (Comes moment) = n
next_behind n (Enters port bytes) = n + 1

seen-next : (w : World) (s : Seen) → (world_step w (step_of s)).0.next ≡ next_behind w.next s
seen-next w (Commands c) = let x = record w { steps = w.steps + 1 } in answered-next x (reacts x (events.Cmd c))
seen-next w (Comes moment) = let x = record w { steps = w.steps + 1 } in answered-next x (reacts x (events.Moment moment))
seen-next w (Enters port bytes) = frame-next (record w { steps = w.steps + 1; next = w.next + 1 }) w.next port bytes (frame bytes)

serves-next : (w : World) (fs : List Waiting) → (serves w fs).0.next ≡ w.next
serves-next w [] = refl
serves-next w (f ∷ later) = let x = record w { waiting = later } in answered-next x (reacts x (events.Sight f.port f.bytes f.head))

serve-next : (w : World) → (world_step w Serve).0.next ≡ w.next
serve-next w = serves-next (record w { steps = w.steps + 1 }) w.waiting

serving-next : (x : Stepped) (fs : List Waiting) → (played x (serving fs)).0.next ≡ x.0.next
serving-next x [] = refl
serving-next x (f ∷ later) = serve-next x.0

pub plays-next : (x : Stepped) (s : Seen) → (plays x s).0.next ≡ next_behind x.0.next s
plays-next x s =
    let y = then_step (then_step x (step_of s)) Publish in
    serving-next y y.0.waiting ∙ seen-next x.0 s

pub turned-next : (x : Stepped) (doms : List ℕ) → (turned x doms).0.next ≡ x.0.next
turned-next x doms = (turned-alike x doms).next

abbrev pub next_after : ℕ → Mark → ℕ
next_after n (Sees s) = next_behind n s
next_after n (Applied dom k) = n

-- Lines that were written before stand before.

pub played-before : (w : World) (lines : List Line) (steps : List Step) → played (w, lines) steps ≡ ((played (w, []) steps).0, lines ++ (played (w, []) steps).1)
played-before w lines [] = λ i. (w, sym (append-nil lines) i)
played-before w lines (s ∷ steps) =
    let y = world_step w s in
    played-before y.0 (lines ++ y.1) steps
    ∙ (λ i. ((played (y.0, []) steps).0, append_assoc lines y.1 (played (y.0, []) steps).1 i))
    ∙ ap (λ (z : Stepped). (z.0, lines ++ z.1)) (sym (played-before y.0 y.1 steps))

-- Of the frame that enters.

pub plays-own : (x : Stepped) (port : ℕ) (bytes : List ℕ) → Fresh x → sent_of x.0.next (plays x (Enters port bytes)).1 ≡ frame_sent x.0 port bytes
plays-own x port bytes h =
    let steps = linux_steps x.0 (Enters port bytes) in
    ap (λ (z : Stepped). sent_of x.0.next z.1) (played-before x.0 x.1 steps)
    ∙ sent-append x.0.next x.1 (played (x.0, []) steps).1
    ∙ ap (λ l. l ++ frame_sent x.0 port bytes) (h x.0.next (omega arith))

-- Marks.

-- between marks
pub record Between (x : Stepped) : Type 0 where
  pub ready : Ready x.0
  pub fresh : Fresh x

pub turned-between : (x : Stepped) (doms : List ℕ) → Between x → Between (turned x doms)
turned-between x doms b = record { ready = (turned-ready x doms b.ready).0; fresh = played-fresh x (map (λ dom. Turn dom) doms) b.ready.world b.fresh }

pub comes-between : (x : Stepped) (m : Mark) → Between x → Between (comes_to x m)
comes-between x (Sees s) b = record { ready = plays-ready x s b.ready; fresh = played-fresh x (linux_steps x.0 s) b.ready.world b.fresh }
comes-between x (Applied dom n) b = b

pub goes-between : (x : Stepped) (m : List ℕ × Mark) → Between x → Between (goes x m)
goes-between x m b = comes-between (turned x m.0) m.1 (turned-between x m.0 b)

comes-next : (x : Stepped) (m : Mark) → (comes_to x m).0.next ≡ next_after x.0.next m
comes-next x (Sees s) = plays-next x s
comes-next x (Applied dom n) = refl

pub goes-next : (x : Stepped) (m : List ℕ × Mark) → (goes x m).0.next ≡ next_after x.0.next m.1
goes-next x m = comes-next (turned x m.0) m.1 ∙ ap (λ n. next_after n m.1) (turned-next x m.0)

next_after-grows : (n : ℕ) (m : Mark) → n ≤ next_after n m
next_after-grows n (Sees (Commands c)) = omega arith
next_after-grows n (Sees (Comes moment)) = omega arith
next_after-grows n (Sees (Enters port bytes)) = omega arith
next_after-grows n (Applied dom k) = omega arith

pub goes-later : (x : Stepped) (m : List ℕ × Mark) → x.0.next ≤ (goes x m).0.next
goes-later x m = omega (arith, goes-next x m, next_after-grows x.0.next m.1)

pub fold-later : (x : Stepped) (t : Timing) → x.0.next ≤ (fold goes x t).0.next
fold-later x [] = omega arith
fold-later x (m ∷ later) = omega (arith, goes-later x m, fold-later (goes x m) later)

gone-between : (id : ℕ) (x : Stepped) → Between x → id < x.0.next → Gone id x.0
gone-between id x b less = record { given = less; away = λ i. found id (b.ready.calm.held i) (b.ready.calm.waiting i) }

comes-gone : (id : ℕ) (x : Stepped) (m : Mark) → Between x → id < x.0.next → sent_of id (comes_to x m).1 ≡ sent_of id x.1
comes-gone id x (Sees s) b less = played-gone id x (linux_steps x.0 s) b.ready.world (gone-between id x b less)
comes-gone id x (Applied dom n) b less = refl

goes-gone : (id : ℕ) (x : Stepped) (m : List ℕ × Mark) → Between x → id < x.0.next → sent_of id (goes x m).1 ≡ sent_of id x.1
goes-gone id x m b less =
    comes-gone id (turned x m.0) m.1 (turned-between x m.0 b) (omega (arith, less, turned-next x m.0))
    ∙ played-gone id x (map (λ dom. Turn dom) m.0) b.ready.world (gone-between id x b less)

-- what is sent of a frame that entered stays, whatever comes
pub fold-gone : (id : ℕ) (x : Stepped) (t : Timing) → Between x → id < x.0.next → sent_of id (fold goes x t).1 ≡ sent_of id x.1
fold-gone id x [] b less = refl
fold-gone id x (m ∷ later) b less = fold-gone id (goes x m) later (goes-between x m b) (omega (arith, less, goes-later x m)) ∙ goes-gone id x m b less

-- and is what it sends where it enters
pub fold-own : (x : Stepped) (doms : List ℕ) (port : ℕ) (bytes : List ℕ) (later : Timing) → Between x
    → sent_of (turned x doms).0.next (fold goes (goes x (doms, Sees (Enters port bytes))) later).1 ≡ frame_sent (turned x doms).0 port bytes
fold-own x doms port bytes later b =
    let y = turned x doms in
    let c = turned-between x doms b in
    fold-gone y.0.next (goes x (doms, Sees (Enters port bytes))) later (goes-between x (doms, Sees (Enters port bytes)) b) (omega (arith, plays-next y (Enters port bytes)))
    ∙ plays-own y port bytes c.fresh
