-- What is sent of a frame depends on its own chip's count alone.
use Rattle.std.proofs.Common.{◌≡◌, ℕ, ◌+◌, true, false, cond, List, [], ◌∷◌, ◌++◌, length, None, Some, refl, sym, ap, ◌∙◌, subst, append_assoc}
use Rattle.std.specs.Prelude.{nat_lt}
use Rattle.std.specs.Option.{option_map}
use Rattle.std.specs.declared.option.Option.{Option}
use Rattle.std.proofs.lemmas.Option.{same_Some}
use Rattle.std.specs.declared.result.Result.{Result}
use Rattle.std.specs.declared.result.Result.TheVariants.{Ok, Err}
use Rattle.br_model.specs.declared.frame.Class.{Class}
use Rattle.br_model.specs.declared.frame.Class.TheVariants.{Drop, Trap, Copy, Forward}
use Rattle.br_model.specs.declared.frame.FrameFault.{FrameFault}
use Rattle.br_model.specs.declared.frame.Head.{Head}
use Rattle.br_model.specs.declared.steps.Event.TheVariants as events
use Rattle.br_model.specs.declared.steps.Refusal.{Refusal}
use Rattle.br_model.specs.declared.steps.Step.{Step}
use Rattle.br_model.specs.declared.steps.Step.TheVariants.{Rx, Serve, Publish}
use Rattle.br_model.specs.declared.transcript.Line.{Line}
use Rattle.br_model.specs.declared.transcript.Line.TheVariants as lines
use Rattle.br_model.specs.Control.Reaction.{Reaction}
use Rattle.br_model.specs.Forward.Shares.{chip_out, mark_of, soft_out}
use Rattle.br_model.specs.Forward.Class.{class}
use Rattle.br_model.specs.Plane.Chip.{Chip, notes}
use Rattle.br_model.specs.Plane.Entering.{chip_of, enters_as, enters_by, goes_on, waits}
use Rattle.br_model.specs.Plane.Runs.{then_step}
use Rattle.br_model.specs.Plane.Sending.{sent_by, sent_of}
use Rattle.br_model.specs.Plane.Serving.{serves}
use Rattle.br_model.specs.Plane.Steps.{world_step}
use Rattle.br_model.specs.Plane.World.{World, Waiting, Stepped, answered, control_lines, reacts, sent, table_at, table_of_chip, with_chip}
use Rattle.br_model.specs.Table.Cut.{cut}
use Rattle.br_model.specs.Table.Domains.{domain_of}
use Rattle.br_model.specs.Table.Limits.{most_waiting}
use Rattle.br_model.specs.Table.Table.{table}
use Rattle.br_model.specs.Wire.Frames.{frame}
use Rattle.br_model.specs.Wire.Messages.{message}
use Rattle.timings.specs.Explained.{frame_sent}
use Rattle.timings.specs.Timings.{Alike, played, serving}
use Rattle.timings.proofs.Playing.{is-other, other, publish-alike, serve-alike, to-other, waits-alike}

pub sent-append : (id : ℕ) (a b : List Line) → sent_of id (a ++ b) ≡ sent_of id a ++ sent_of id b
sent-append id [] b = refl
sent-append id (l ∷ a) b = ap (λ s. sent_by id l ++ s) (sent-append id a b) ∙ sym (append_assoc (sent_by id l) (sent_of id a) (sent_of id b))

-- behind the same lines
sent-behind : (id : ℕ) (a b c : List Line) → sent_of id b ≡ sent_of id c → sent_of id (a ++ b) ≡ sent_of id (a ++ c)
sent-behind id a b c e = sent-append id a b ∙ ap (λ s. sent_of id a ++ s) e ∙ sym (sent-append id a c)

-- two worlds that differ in their chips alone, and the same sent of this frame on the way there
record Tells (id : ℕ) (x y : Stepped) : Type 0 where
  alike : Alike x.0 y.0
  sent : sent_of id x.1 ≡ sent_of id y.1

then-tells : (id : ℕ) (s : Step) (x y : Stepped) → Alike (world_step x.0 s).0 (world_step y.0 s).0 → sent_of id (world_step x.0 s).1 ≡ sent_of id (world_step y.0 s).1
    → Tells id x y → Tells id (then_step x s) (then_step y s)
then-tells id s x y a e t = record {
  alike = a;
  sent = sent-append id x.1 (world_step x.0 s).1 ∙ (λ i. t.sent i ++ e i) ∙ sym (sent-append id y.1 (world_step y.0 s).1);
}

answered-sent : (id : ℕ) (w : World) (cs : List Chip) (n : ℕ) (ks : List ℕ) (before : List Line) (answer : Result Reaction Refusal)
    → sent_of id (before ++ (answered w w answer).1) ≡ sent_of id (before ++ (answered (other w cs n ks) (other w cs n ks) answer).1)
answered-sent id w cs n ks before (Err why) = sent-behind id before (lines.Refused w.steps why ∷ []) (lines.Refused n why ∷ []) refl
answered-sent id w cs n ks before (Ok r) =
    let told = control_lines w.setup.own r.messages in
    sent-behind id before (told ++ lines.Done w.steps (length r.changes) ∷ []) (told ++ lines.Done n (length r.changes) ∷ [])
    (sent-behind id told (lines.Done w.steps (length r.changes) ∷ []) (lines.Done n (length r.changes) ∷ []) refl)

serves-sent : (id : ℕ) (w : World) (cs : List Chip) (n : ℕ) (ks : List ℕ) (fs : List Waiting) → sent_of id (serves w fs).1 ≡ sent_of id (serves (other w cs n ks) fs).1
serves-sent id w cs n ks [] = refl
serves-sent id w cs n ks (f ∷ later) =
    let x = record w { waiting = later } in
    answered-sent id x cs n ks (lines.Soft f.id w.published ∷ sent f.id (soft_out w.setup.domains (table_at w w.published) f.port f.bytes f.head f.mark)) (reacts x (events.Sight f.port f.bytes f.head))

serve-sent : (id : ℕ) (w v : World) → Alike w v → sent_of id (world_step w Serve).1 ≡ sent_of id (world_step v Serve).1
serve-sent id w v a = subst (λ x. sent_of id (world_step w Serve).1 ≡ sent_of id (world_step x Serve).1) (is-other w v a) (serves-sent id (record w { steps = w.steps + 1 }) v.chips (v.steps + 1) v.counts w.waiting)

publish-tells : (id : ℕ) (x y : Stepped) → Tells id x y → Tells id (then_step x Publish) (then_step y Publish)
publish-tells id x y t = then-tells id Publish x y (publish-alike x.0 y.0 t.alike) refl t

ends-tells : (id : ℕ) (fs : List Waiting) (x y : Stepped) → Tells id x y → Tells id (played x (Publish ∷ serving fs)) (played y (Publish ∷ serving fs))
ends-tells id [] x y t = publish-tells id x y t
ends-tells id (f ∷ later) x y t =
    let p = publish-tells id x y t in
    let x1 = then_step x Publish in
    let y1 = then_step y Publish in
    publish-tells id (then_step x1 Serve) (then_step y1 Serve) (then-tells id Serve x1 y1 (serve-alike x1.0 y1.0 p.alike) (serve-sent id x1.0 y1.0 p.alike) p)

-- A frame enters by chips of the same count.

waits-lines : (w : World) (f : Waiting) → (waits w f).1 ≡ cond (nat_lt (length w.waiting + length w.held) most_waiting) [] (lines.Overrun f.id ∷ [])
waits-lines w f =
    elim (nat_lt (length w.waiting + length w.held) most_waiting) as (λ b. (cond {A = Stepped} b (record w { waiting = w.waiting ++ f ∷ [] }, []) (w, lines.Overrun f.id ∷ [])).1 ≡ cond b [] (lines.Overrun f.id ∷ [])) [
      | true ↦ refl
      | false ↦ refl
    ]

goes-tells : (id : ℕ) (k : Class) (x y : World) (f : Waiting) → Alike x y → (before : List Line)
    → Tells id ((goes_on k x f).0, before ++ (goes_on k x f).1) ((goes_on k y f).0, before ++ (goes_on k y f).1)
goes-tells id Drop x y f a before = record { alike = a; sent = refl }
goes-tells id Forward x y f a before = record { alike = a; sent = refl }
goes-tells id Trap x y f a before = record { alike = waits-alike x y f a; sent = ap (λ l. sent_of id (before ++ l)) (waits-lines x f ∙ (λ i. cond (nat_lt (length (a.waiting i) + length (a.held i)) most_waiting) [] (lines.Overrun f.id ∷ [])) ∙ sym (waits-lines y f)) }
goes-tells id Copy x y f a before = record { alike = waits-alike x y f a; sent = ap (λ l. sent_of id (before ++ l)) (waits-lines x f ∙ (λ i. cond (nat_lt (length (a.waiting i) + length (a.held i)) most_waiting) [] (lines.Overrun f.id ∷ [])) ∙ sym (waits-lines y f)) }

-- the class and the lines that a chip of this count gives
count-tells : (id : ℕ) (w : World) (cs : List Chip) (n : ℕ) (ks : List ℕ) (c d : Chip) (f : Waiting) (m : ℕ) → d.count ≡ m → c.count ≡ m
    → Tells id (enters_by w (Some c) f) (enters_by (other w cs n ks) (Some d) f)
count-tells id w cs n ks c d f m on_d on_c =
    let v = other w cs n ks in
    let of_count = λ (j : ℕ). class w.setup.domains (table (cut w.setup.domains.edition w.history j)) f.port f.head (message f.bytes f.head) in
    let told = λ (j : ℕ). lines.Chip f.id (length w.history) j (of_count j) ∷ sent f.id (chip_out w.setup.domains (table (cut w.setup.domains.edition w.history j)) f.port f.bytes f.head) in
    let x = with_chip w (notes (table_of_chip w c) f.port f.head c) in
    let y = with_chip v (notes (table_of_chip v d) f.port f.head d) in
    subst (λ j. Tells id (enters_by w (Some c) f)
    ((goes_on (of_count j) y (record f { mark = mark_of (of_count j) w.setup.domains f.port })).0, told j ++ (goes_on (of_count j) y (record f { mark = mark_of (of_count j) w.setup.domains f.port })).1))
    (on_c ∙ sym on_d)
    (goes-tells id (of_count c.count) x y (record f { mark = mark_of (of_count c.count) w.setup.domains f.port })
    (record { setup = refl; history = refl; control = refl; published = refl; waiting = refl; held = refl; next = refl }) (told c.count))

by-counts : (id : ℕ) (w : World) (cs : List Chip) (n : ℕ) (ks : List ℕ) (f : Waiting) (o p : Option Chip) → option_map (λ (c : Chip). c.count) o ≡ option_map (λ (c : Chip). c.count) p
    → Tells id (enters_by w o f) (enters_by (other w cs n ks) p f)
by-counts id w cs n ks f None None e = goes-tells id Trap w (other w cs n ks) f (to-other w cs n ks) []
by-counts id w cs n ks f None (Some d) e = absurd (cc)
by-counts id w cs n ks f (Some c) None e = absurd (cc)
by-counts id w cs n ks f (Some c) (Some d) e = count-tells id w cs n ks c d f d.count refl (same_Some c.count d.count e)

abbrev pub SameCounts : World → World → ℕ → Type 0
SameCounts w v port =
    option_map (λ (c : Chip). c.count) (chip_of w (domain_of w.setup.domains port)) ≡ option_map (λ (c : Chip). c.count) (chip_of v (domain_of v.setup.domains port))

frame-tells : (id : ℕ) (w : World) (cs : List Chip) (n : ℕ) (ks : List ℕ) (frame_id port : ℕ) (bytes : List ℕ) (r : Result Head FrameFault) → SameCounts w (other w cs n ks) port
    → Tells id (enters_as w frame_id port bytes r) (enters_as (other w cs n ks) frame_id port bytes r)
frame-tells id w cs n ks frame_id port bytes (Err why) e = record { alike = to-other w cs n ks; sent = refl }
frame-tells id w cs n ks frame_id port bytes (Ok head) e =
    by-counts id w cs n ks (record { id = frame_id; port = port; bytes = bytes; head = head; mark = None })
    (chip_of w (domain_of w.setup.domains port)) (chip_of (other w cs n ks) (domain_of w.setup.domains port)) e

rx-tells : (id : ℕ) (w : World) (cs : List Chip) (n : ℕ) (ks : List ℕ) (port : ℕ) (bytes : List ℕ) → SameCounts w (other w cs n ks) port
    → Tells id (world_step w (Rx port bytes)) (world_step (other w cs n ks) (Rx port bytes))
rx-tells id w cs n ks port bytes e =
    frame-tells id (record w { steps = w.steps + 1; next = w.next + 1 }) cs (n + 1) ks w.next port bytes (frame bytes) e

plays-sent : (id : ℕ) (x y : Stepped) → Tells id x y
    → sent_of id (played x (Publish ∷ serving (world_step x.0 Publish).0.waiting)).1 ≡ sent_of id (played y (Publish ∷ serving (world_step y.0 Publish).0.waiting)).1
plays-sent id x y t =
    subst (λ fs. sent_of id (played x (Publish ∷ serving x.0.waiting)).1 ≡ sent_of id (played y (Publish ∷ serving fs)).1) t.alike.waiting
    (ends-tells id x.0.waiting x y t).sent

other-sent : (w : World) (cs : List Chip) (n : ℕ) (ks : List ℕ) (port : ℕ) (bytes : List ℕ) → SameCounts w (other w cs n ks) port
    → frame_sent w port bytes ≡ frame_sent (other w cs n ks) port bytes
other-sent w cs n ks port bytes e =
    plays-sent w.next (world_step w (Rx port bytes)) (world_step (other w cs n ks) (Rx port bytes)) (rx-tells w.next w cs n ks port bytes e)

pub own-count : (w v : World) → Alike w v → (port : ℕ) (bytes : List ℕ) → SameCounts w v port → frame_sent w port bytes ≡ frame_sent v port bytes
own-count w v a port bytes e =
    subst (λ x. SameCounts w x port → frame_sent w port bytes ≡ frame_sent x port bytes) (is-other w v a) (other-sent w v.chips v.steps v.counts port bytes) e
