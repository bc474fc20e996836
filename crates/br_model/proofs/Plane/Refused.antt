-- Refused steps, by cases.
use Rattle.std.proofs.Common.{◌≡◌, ℕ, ◌+◌, true, false, not, cond, List, [], ◌∷◌, ◌++◌, length, Option, None, Some, refl, sym, ap, subst, ◌∙◌}
use Rattle.std.proofs.lemmas.Bool.{eqb-true}
use Rattle.std.proofs.lemmas.List.Elements.{All-nil, All-cons, All-append, All-contains}
use Rattle.std.specs.Prelude.{◌==◌}
use Rattle.std.specs.List.{All, Contains, filter}
use Rattle.std.specs.Option.{unwrap_or}
use Rattle.std.specs.declared.result.Result.{Result}
use Rattle.std.specs.declared.result.Result.TheVariants.{Ok, Err}
use Rattle.lemmas.proofs.Lists.{find-passes}
use Rattle.br_model.specs.declared.bpdu.BpduMsg.{BpduMsg}
use Rattle.br_model.specs.declared.change.Change.{Change}
use Rattle.br_model.specs.declared.frame.FrameFault.{FrameFault}
use Rattle.br_model.specs.declared.frame.Head.{Head}
use Rattle.br_model.specs.declared.steps.Event.TheVariants as events
use Rattle.br_model.specs.declared.steps.Refusal.{Refusal}
use Rattle.br_model.specs.declared.steps.Refusal.TheVariants.{HistoryFull, NothingWaiting, NothingToPost, NothingPending, NothingReported, NoSuchPoint}
use Rattle.br_model.specs.declared.steps.Step.{Step}
use Rattle.br_model.specs.declared.steps.Step.TheVariants.{Rx, Cmd, Now, Serve, Hold, Post, Turn, Report, Sweep, Publish}
use Rattle.br_model.specs.declared.transcript.Line.{Line}
use Rattle.br_model.specs.declared.transcript.Line.TheVariants as lines
use Rattle.br_model.specs.Control.Course.{Course, from}
use Rattle.br_model.specs.Control.Learning.{Triple}
use Rattle.br_model.specs.Control.Reaction.{Reaction, has_room, in_room, react, sees}
use Rattle.br_model.specs.Forward.Shares.{chip_out, soft_out, mark_of}
use Rattle.br_model.specs.Plane.Chip.{Chip, notes}
use Rattle.br_model.specs.Plane.ChipSteps.{turns_to, turns, tells, reports, sweeps, swept}
use Rattle.br_model.specs.Plane.Entering.{waits, goes_on, enters_as, class_of, enters_by, chip_of}
use Rattle.br_model.specs.Plane.Serving.{posts, serves, holds, held_with, lets_go, is_point, posts_held, posts_at}
use Rattle.br_model.specs.Plane.Steps.{world_step}
use Rattle.br_model.specs.Plane.World.{World, Waiting, Holding, Stepped, refused, answered, reacts, sent, control_line, control_lines, after_lines, chip_at, next_of, table_at, table_of_chip, with_chip}
use Rattle.br_model.specs.Table.Domains.{domain_of}
use Rattle.br_model.specs.Table.Table.{table}
use Rattle.br_model.specs.Theorems.FrameLines.{soft_lines}
use Rattle.br_model.specs.Theorems.Refused.{IsRefused, sends_frame, counted, served, posted}
use Rattle.br_model.specs.Wire.Frames.{frame}
use Rattle.br_model.proofs.Plane.Waiting.{waits-either, goes_on-either}

-- what the line says, if it is a refusal
abbrev Says : (ℕ → Refusal → Type 0) → Line → Type 0
Says P l = (n : ℕ) (why : Refusal) → l ≡ lines.Refused n why → P n why

module _ (P : ℕ → Refusal → Type 0) where
  sent-say : (id : ℕ) (out : List (ℕ × List ℕ)) → All (Says P) (sent id out)
  sent-say id [] = All-nil (Says P)
  sent-say id (x ∷ out) = All-cons (Says P) (lines.Tx id x.0 x.1) (sent id out) (λ n why e. absurd (cc (e))) (sent-say id out)

  control-say : (own : ℕ) (out : List (ℕ × BpduMsg)) → All (Says P) (control_lines own out)
  control-say own [] = All-nil (Says P)
  control-say own (x ∷ out) = All-cons (Says P) (control_line own x) (control_lines own out) (λ n why e. absurd (cc (e))) (control-say own out)

  one-says : (l : Line) → Says P l → All (Says P) (l ∷ [])
  one-says l says = All-cons (Says P) l [] says (All-nil (Says P))

  refusal-says : (n : ℕ) (why : Refusal) → P n why → Says P (lines.Refused n why)
  refusal-says n why p m other e =
      let number : n ≡ m = cc (e) in
      let same : why ≡ other = cc (e) in
      subst (λ (r : Refusal). P m r) same (subst (λ (k : ℕ). P k why) number p)

  done-say : (step changes : ℕ) → All (Says P) (lines.Done step changes ∷ [])
  done-say step changes = one-says (lines.Done step changes) (λ n why e. absurd (cc (e)))

  refused-say : (w : World) (why : Refusal) → P w.steps why → All (Says P) (refused w why).1
  refused-say w why p = one-says (lines.Refused w.steps why) (refusal-says w.steps why p)

  answered-say : (before after : World) (answer : Result Reaction Refusal) → ((why : Refusal) → answer ≡ Err why → P before.steps why)
      → All (Says P) (answered before after answer).1
  answered-say before after (Err why) refuses = refused-say before why (refuses why refl)
  answered-say before after (Ok r) refuses =
      All-append (Says P) (control_lines after.setup.own r.messages) (lines.Done after.steps (length r.changes) ∷ [])
      (control-say after.setup.own r.messages) (done-say after.steps (length r.changes))

  waits-say : (w : World) (f : Waiting) → All (Says P) (waits w f).1
  waits-say w f = waits-either (λ s. All (Says P) s.1) w f (All-nil (Says P)) (one-says (lines.Overrun f.id) (λ n why e. absurd (cc (e))))

  enters_by-say : (w : World) (f : Waiting) (o : Option Chip) → All (Says P) (enters_by w o f).1
  enters_by-say w f None = waits-say w f
  enters_by-say w f (Some c) =
      let x = with_chip w (notes (table_of_chip w c) f.port f.head c) in
      let g = record f { mark = mark_of (class_of w c f) w.setup.domains f.port } in
      let out = chip_out w.setup.domains (table_of_chip w c) f.port f.bytes f.head in
      let first = lines.Chip f.id (length w.history) c.count (class_of w c f) in
      All-append (Says P) (first ∷ sent f.id out) (goes_on (class_of w c f) x g).1
      (All-cons (Says P) first (sent f.id out) (λ n why e. absurd (cc (e))) (sent-say f.id out))
      (goes_on-either (λ s. All (Says P) s.1) (class_of w c f) x g (All-nil (Says P)) (waits-say x g))

  enters-say : (w : World) (id port : ℕ) (bytes : List ℕ) (r : Result Head FrameFault) → All (Says P) (enters_as w id port bytes r).1
  enters-say w id port bytes (Err why) = one-says (lines.Unread id why) (λ n why e. absurd (cc (e)))
  enters-say w id port bytes (Ok head) =
      enters_by-say w (record { id = id; port = port; bytes = bytes; head = head; mark = None }) (chip_of w (domain_of w.setup.domains port))

  posts-say : (w : World) (f : Waiting) (point : ℕ) → ((why : Refusal) → reacts w (events.Sight f.port f.bytes f.head) ≡ Err why → P w.steps why)
      → All (Says P) (posts w f point).1
  posts-say w f point refuses =
      let out = soft_out w.setup.domains (table_at w point) f.port f.bytes f.head f.mark in
      All-append (Says P) (lines.Soft f.id point ∷ sent f.id out) (answered w w (reacts w (events.Sight f.port f.bytes f.head))).1
      (All-cons (Says P) (lines.Soft f.id point) (sent f.id out) (λ n why e. absurd (cc (e))) (sent-say f.id out))
      (answered-say w w (reacts w (events.Sight f.port f.bytes f.head)) refuses)

-- Of a frame that is sent only the last refusal of every event comes.

room-full : (history : List Change) (r : Course) (why : Refusal) → in_room history (Ok r) ≡ Err why → why ≡ HistoryFull
room-full history r why e =
    (elim (has_room history r.changes) as (λ b. cond {A = Result Reaction Refusal} b (Ok (record { changes = r.changes; control = r.control; messages = r.messages })) (Err HistoryFull) ≡ Err why → why ≡ HistoryFull) [
      | true ↦ λ is. absurd (cc (is))
      | false ↦ λ is. cc (is)
    ]) e

sight-full : (w : World) (port : ℕ) (bytes : List ℕ) (head : Head) (why : Refusal) → reacts w (events.Sight port bytes head) ≡ Err why → why ≡ HistoryFull
unfolding react
sight-full w port bytes head why e = room-full w.history (sees w.setup port bytes head (from (table w.history) w.control)) why e

-- Each step

abbrev counts-step : World → World
counts-step w = record w { steps = w.steps + 1 }

module _ (w : World) where
  -- what a refusal in the lines of a step says
  abbrev Tells : Step → Stepped → ℕ → Refusal → Type 0
  Tells step y n why = (n ≡ w.steps + 1) × IsRefused w step why y

  abbrev Shown : Step → Stepped → Type 0
  Shown step y = All (Says (Tells step y)) y.1

  refused-shown : (step : Step) (why : Refusal) → (why ≡ HistoryFull → sends_frame step ≡ false) → Shown step (refused (counts-step w) why)
  refused-shown step why other = refused-say (Tells step (refused (counts-step w) why)) (counts-step w) why (refl, counted other refl)

  answered-shown : (step : Step) (after : World) (answer : Result Reaction Refusal) → sends_frame step ≡ false → Shown step (answered (counts-step w) after answer)
  answered-shown step after (Err why) other = refused-shown step why (λ full. other)
  answered-shown step after (Ok r) other = answered-say (Tells step (answered (counts-step w) after (Ok r))) (counts-step w) after (Ok r) (λ why e. absurd (cc (e)))

  turns_to-shown : (dom : ℕ) (c : Chip) (o : Option Change) → Shown (Turn dom) (turns_to (counts-step w) c o)
  turns_to-shown dom c None = refused-shown (Turn dom) NothingPending (λ full. refl)
  turns_to-shown dom c (Some d) = done-say (Tells (Turn dom) (turns_to (counts-step w) c (Some d))) (w.steps + 1) 0

  turns-shown : (dom : ℕ) (o : Option Chip) → Shown (Turn dom) (turns (counts-step w) o)
  turns-shown dom None = refused-shown (Turn dom) NothingPending (λ full. refl)
  turns-shown dom (Some c) = turns_to-shown dom c (next_of w c)

  tells-shown : (dom : ℕ) (c : Chip) (rs : List Triple) → Shown (Report dom) (tells (counts-step w) c rs)
  tells-shown dom c [] = refused-shown (Report dom) NothingReported (λ full. refl)
  tells-shown dom c (x ∷ later) = answered-shown (Report dom) (with_chip (counts-step w) (record c { reports = later })) (reacts w (events.Told x.0 x.1 x.2)) refl

  reports-shown : (dom : ℕ) (o : Option Chip) → Shown (Report dom) (reports (counts-step w) o)
  reports-shown dom None = refused-shown (Report dom) NothingReported (λ full. refl)
  reports-shown dom (Some c) = tells-shown dom c c.reports

  sweeps-shown : (dom : ℕ) (o : Option Chip) → Shown (Sweep dom) (sweeps (counts-step w) o)
  sweeps-shown dom None = done-say (Tells (Sweep dom) (sweeps (counts-step w) None)) (w.steps + 1) 0
  sweeps-shown dom (Some c) = answered-shown (Sweep dom) (with_chip (counts-step w) (record c { hits = [] })) (reacts w (swept w c)) refl

  serves-shown : (fs : List Waiting) → w.waiting ≡ fs → Shown Serve (serves (counts-step w) fs)
  serves-shown [] is = refused-shown Serve NothingWaiting (λ full. absurd (cc (full)))
  serves-shown (f ∷ later) is =
      let v = record w { steps = w.steps + 1; waiting = later } in
      posts-say (Tells Serve (posts v f w.published)) v f w.published
      (λ why e. let full = sight-full v f.port f.bytes f.head why e in
      (refl, served f later refl full is (ap (λ (r : Result Reaction Refusal). after_lines (soft_lines w f w.published) (answered v v r)) e)))

  holds-shown : (fs : List Waiting) → Shown Hold (holds (counts-step w) fs)
  holds-shown [] = refused-shown Hold NothingWaiting (λ full. refl)
  holds-shown (f ∷ later) = one-says (Tells Hold (holds (counts-step w) (f ∷ later))) (lines.Held f.id w.published) (λ n why e. absurd (cc (e)))

  -- the frame that is held with the id is let go, and sent by this point
  let-go : (id : ℕ) (named : Option ℕ) (h : Holding) (point : ℕ) → held_with w id ≡ Some h → unwrap_or named h.floor ≡ point
      → Shown (Post id named) (posts (lets_go (counts-step w) h.waiting.id) h.waiting point)
  let-go id named h point is at =
      let v = lets_go (counts-step w) h.waiting.id in
      let own : h.waiting.id ≡ id = eqb-true h.waiting.id id (find-passes (λ (g : Holding). g.waiting.id == id) w.held h is) in
      posts-say (Tells (Post id named) (posts v h.waiting point)) v h.waiting point
      (λ why e. let full = sight-full v h.waiting.port h.waiting.bytes h.waiting.head why e in (
        refl,
        posted id named h refl full is
            (ap (λ (r : Result Reaction Refusal). after_lines (soft_lines w h.waiting point) (answered v v r)) e
            ∙ ap (λ (i : ℕ). (record w { steps = w.steps + 1; held = filter (λ (g : Holding). not (g.waiting.id == i)) w.held }, soft_lines w h.waiting point ++ lines.Refused (w.steps + 1) why ∷ [])) own
            ∙ ap (λ (p : ℕ). (record w { steps = w.steps + 1; held = filter (λ (g : Holding). not (g.waiting.id == id)) w.held }, soft_lines w h.waiting p ++ lines.Refused (w.steps + 1) why ∷ [])) (sym at)),
      ))

  posts_held-shown : (id : ℕ) (h : Holding) (named : Option ℕ) → held_with w id ≡ Some h → Shown (Post id named) (posts_held (counts-step w) h named)
  posts_held-shown id h None is = let-go id None h h.floor is refl
  posts_held-shown id h (Some point) is =
      elim (is_point w h point) as (λ b. Shown (Post id (Some point)) (cond {A = Stepped} b (posts (lets_go (counts-step w) h.waiting.id) h.waiting point) (refused (counts-step w) NoSuchPoint))) [
        | true ↦ let-go id (Some point) h point is refl
        | false ↦ refused-shown (Post id (Some point)) NoSuchPoint (λ full. absurd (cc (full)))
      ]

  posts_at-shown : (id : ℕ) (o : Option Holding) (named : Option ℕ) → held_with w id ≡ o → Shown (Post id named) (posts_at (counts-step w) o named)
  posts_at-shown id None named is = refused-shown (Post id named) NothingToPost (λ full. absurd (cc (full)))
  posts_at-shown id (Some h) named is = posts_held-shown id h named is

  step-shown : (step : Step) → Shown step (world_step w step)
  step-shown (Rx port bytes) = enters-say (Tells (Rx port bytes) (world_step w (Rx port bytes))) (record w { steps = w.steps + 1; next = w.next + 1 }) w.next port bytes (frame bytes)
  step-shown (Cmd c) = answered-shown (Cmd c) (counts-step w) (reacts w (events.Cmd c)) refl
  step-shown (Now moment) = answered-shown (Now moment) (counts-step w) (reacts w (events.Moment moment)) refl
  step-shown Serve = serves-shown w.waiting refl
  step-shown Hold = holds-shown w.waiting
  step-shown (Post id named) = posts_at-shown id (held_with w id) named refl
  step-shown (Turn dom) = turns-shown dom (chip_at w dom)
  step-shown (Report dom) = reports-shown dom (chip_at w dom)
  step-shown (Sweep dom) = sweeps-shown dom (chip_at w dom)
  step-shown Publish = done-say (Tells Publish (world_step w Publish)) (w.steps + 1) 0

  pub step-refused : (step : Step) (n : ℕ) (why : Refusal) → Contains (world_step w step).1 (lines.Refused n why) → Tells step (world_step w step) n why
  step-refused step n why there =
      All-contains (Says (Tells step (world_step w step))) (world_step w step).1 (lines.Refused n why) (step-shown step) there n why refl
