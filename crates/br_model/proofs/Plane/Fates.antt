-- What a step does to the frame with one id: it enters, is held, or is sent and gone, or nothing happens to it.
use Rattle.std.proofs.Common.{◌≡◌, ℕ, suc, ◌+◌, ◌<◌, ◌≤◌, Bool, true, false, not, cond, List, [], ◌∷◌, ◌++◌, map, length}
use Rattle.std.proofs.Common.{Option, None, Some, refl, sym, ap, ◌∙◌, arith, append_assoc, length-append, take, ◌⊎◌, inl, inr, ⊎_elim, get_or}
use Rattle.std.proofs.lemmas.Bool.{eq-eqb, eqb-true, eqb-false, ne_eqb, cases_lt}
use Rattle.std.proofs.lemmas.List.{append-nil, map-append, length-map}
use Rattle.std.proofs.lemmas.List.Elements.{filter-append, recursion_from_All, All-weaker}
use Rattle.std.proofs.lemmas.Grind.{flat_map-append}
use Rattle.std.specs.Prelude.{◌==◌, is_some}
use Rattle.std.specs.List.{AllByRecursion, IsDistinct, filter, find}
use Rattle.std.specs.Option.{option_map_or, option_zip}
use Rattle.std.specs.Ordering.{nat_cmp}
use Rattle.std.specs.declared.result.Result.{Result}
use Rattle.std.specs.declared.result.Result.TheVariants.{Ok, Err}
use Rattle.std.proofs.lemmas.Option.{same_Some}
use Rattle.lemmas.proofs.Lists.{find-passes}
use Rattle.br_model.specs.declared.transcript.Line.{Line}
use Rattle.br_model.specs.declared.frame.Class.{Class}
use Rattle.br_model.specs.declared.frame.Class.TheVariants.{Drop, Trap, Copy, Forward}
use Rattle.br_model.specs.declared.frame.FrameFault.{FrameFault}
use Rattle.br_model.specs.declared.frame.Head.{Head}
use Rattle.br_model.specs.declared.steps.Event.TheVariants as events
use Rattle.br_model.specs.declared.steps.Refusal.{Refusal}
use Rattle.br_model.specs.declared.bpdu.BpduMsg.{BpduMsg}
use Rattle.br_model.specs.declared.transcript.Line.TheVariants.{Done}
use Rattle.br_model.specs.declared.transcript.Line.TheVariants as lines
use Rattle.br_model.specs.Plane.Chip.{applies, Chip}
use Rattle.br_model.specs.Table.DomainPorts.{is_marked}
use Rattle.br_model.specs.Table.Domains.{Domains, domain_of, foreign}
use Rattle.br_model.specs.Wire.Frames.{frame}
use Rattle.br_model.specs.Data.Maps.{has}
use Rattle.br_model.specs.Control.Reaction.{Reaction}
use Rattle.br_model.specs.Forward.Leave.{leave}
use Rattle.br_model.specs.Forward.Shares.{chip_out, chip_out_by, mark_of, soft_out}
use Rattle.br_model.specs.Table.Table.{Table, table}
use Rattle.br_model.proofs.Plane.Chips.{chip_of-declared}
use Rattle.br_model.proofs.Plane.Kept.{counted-world, enters-id}
use Rattle.br_model.proofs.Plane.StepEnds.{by_chip, by_post, by_serve, by_software, does-ends, Ends, ends_answered, ends_applied, ends_entered, ends_held, ends_idle, ends_published}
use Rattle.br_model.proofs.Plane.StepEnds.{ends_refused, ends_sent, ends_unread, Enters, Entry, finds_room, goes, Joins, Leaves, overruns, passes_by}
use Rattle.br_model.proofs.Data.Lists.{find-each}
use Rattle.br_model.proofs.Plane.Shares.{ascends-filter, ascends-leave, times-ascends, times-within}
use Rattle.br_model.proofs.Plane.Waiting.{goes_on-either, waits-either}
use Rattle.br_model.specs.Plane.Entering.{goes_on, class_of}
use Rattle.br_model.specs.Plane.Serving.{posts, holds, lets_go}
use Rattle.br_model.specs.Plane.Steps.{world_step}
use Rattle.br_model.specs.declared.steps.Step.{Step}
use Rattle.br_model.specs.Theorems.Invariants.{frames_of, IsFrame, IsWorld}
use Rattle.br_model.specs.Plane.LineTraits.{line_traits}
use Rattle.br_model.specs.Plane.Sending.{Sent, sent_by, sent_of, times}
use Rattle.br_model.specs.Theorems.FrameLines.{entering, IsDecidedAt, is_line_of, lines_of}
use Rattle.br_model.specs.Plane.World.{World, Waiting, Holding, Stepped, with_chip, table_at, table_of_chip, sent, control_lines, answered, reacts}

-- The lines of a frame that is sent.

pub sent_of-append : (id : ℕ) (xs ys : List Line) → sent_of id (xs ++ ys) ≡ sent_of id xs ++ sent_of id ys
sent_of-append id xs ys = flat_map-append (sent_by id) xs ys

sent-same : (id i : ℕ) (out : Sent) → (i == id) ≡ true → sent_of id (sent i out) ≡ out
sent-same id i [] e = refl
sent-same id i (x ∷ out) e = ap (λ b. cond b ((x.0, x.1) ∷ []) [] ++ sent_of id (sent i out)) e ∙ ap (λ l. x ∷ l) (sent-same id i out e)

sent-other : (id i : ℕ) (out : Sent) → (i == id) ≡ false → sent_of id (sent i out) ≡ []
sent-other id i [] e = refl
sent-other id i (x ∷ out) e = ap (λ b. cond b ((x.0, x.1) ∷ []) [] ++ sent_of id (sent i out)) e ∙ sent-other id i out e

-- what the lines of a sent frame, and then others that send nothing, say of this id
pub sent_of-sent : (id i : ℕ) (out : Sent) (end : List Line) → sent_of id end ≡ [] → sent_of id (sent i out ++ end) ≡ cond (i == id) out []
sent_of-sent id i out end h =
    sent_of-append id (sent i out) end ∙ ap (λ l. sent_of id (sent i out) ++ l) h ∙ append-nil (sent_of id (sent i out))
    ∙ (elim (i == id) as (λ b. (i == id) ≡ b → sent_of id (sent i out) ≡ cond b out []) [ true ↦ λ e. sent-same id i out e | false ↦ λ e. sent-other id i out e ]) refl

-- the lines of a sent frame, and then others
pub lines_of-append : (id : ℕ) (xs ys : List Line) → lines_of id (xs ++ ys) ≡ lines_of id xs ++ lines_of id ys
lines_of-append id xs ys = filter-append (is_line_of id) xs ys

pub lines-same : (id i : ℕ) (out : Sent) → (i == id) ≡ true → lines_of id (sent i out) ≡ sent i out
lines-same id i [] e = refl
lines-same id i (x ∷ out) e =
    ap (λ b. cond b (lines.Tx i x.0 x.1 ∷ lines_of id (sent i out)) (lines_of id (sent i out))) e ∙ ap (λ (l : List Line). lines.Tx i x.0 x.1 ∷ l) (lines-same id i out e)

lines-other : (id i : ℕ) (out : Sent) → (i == id) ≡ false → lines_of id (sent i out) ≡ []
lines-other id i [] e = refl
lines-other id i (x ∷ out) e = ap (λ b. cond b (lines.Tx i x.0 x.1 ∷ lines_of id (sent i out)) (lines_of id (sent i out))) e ∙ lines-other id i out e

pub lines_of-sent : (id i : ℕ) (out : Sent) (end : List Line) → lines_of id end ≡ [] → lines_of id (sent i out ++ end) ≡ cond (i == id) (sent i out) []
lines_of-sent id i out end h =
    lines_of-append id (sent i out) end ∙ ap (λ (l : List Line). lines_of id (sent i out) ++ l) h ∙ append-nil (lines_of id (sent i out))
    ∙ (elim (i == id) as (λ b. (i == id) ≡ b → lines_of id (sent i out) ≡ cond b (sent i out) []) [ true ↦ λ e. lines-same id i out e | false ↦ λ e. lines-other id i out e ]) refl

lines-soft : (id i point : ℕ) (later all : List Line) → lines_of id later ≡ cond (i == id) all [] → lines_of id (lines.Soft i point ∷ later) ≡ cond (i == id) (lines.Soft i point ∷ all) []
lines-soft id i point later all =
    elim (i == id) as (λ b. lines_of id later ≡ cond b all [] → cond b (lines.Soft i point ∷ lines_of id later) (lines_of id later) ≡ cond b (lines.Soft i point ∷ all) []) [
      | true ↦ λ e. ap (λ (l : List Line). lines.Soft i point ∷ l) e
      | false ↦ λ e. e
    ]

lines-chip : (id i n k : ℕ) (c : Class) (out : Sent) (end : List Line) → (i == id) ≡ false → lines_of id end ≡ [] → lines_of id (lines.Chip i n k c ∷ (sent i out ++ end)) ≡ []
lines-chip id i n k c out end e h =
    ap (λ b. cond b (lines.Chip i n k c ∷ lines_of id (sent i out ++ end)) (lines_of id (sent i out ++ end))) e ∙ lines_of-sent id i out end h ∙ ap (λ b. cond b (sent i out) []) e

-- What was sent of a frame is in its own lines.

silent-by : (id : ℕ) (frame : Option ℕ) (leaves : Option (ℕ × List ℕ)) → option_map_or (λ i. i == id) frame false ≡ false
    → option_map_or (λ (x : ℕ × (ℕ × List ℕ)). cond (x.0 == id) (x.1 ∷ []) []) (option_zip frame leaves) [] ≡ []
silent-by id None leaves e = refl
silent-by id (Some i) None e = refl
silent-by id (Some i) (Some x) e = ap (λ b. cond b (x ∷ []) []) e

silent-line : (id : ℕ) (l : Line) → is_line_of id l ≡ false → sent_by id l ≡ []
silent-line id l e = silent-by id (line_traits l).frame (line_traits l).leaves e

sent-in : (id : ℕ) (told : List Line) → sent_of id told ≡ sent_of id (lines_of id told)
sent-in id [] = refl
sent-in id (l ∷ later) =
    (elim (is_line_of id l) as (λ b. is_line_of id l ≡ b → sent_by id l ++ sent_of id later ≡ sent_of id (cond b (l ∷ lines_of id later) (lines_of id later))) [
      | true ↦ λ e. ap (λ (s : Sent). sent_by id l ++ s) (sent-in id later)
      | false ↦ λ e. ap (λ (s : Sent). s ++ sent_of id later) (silent-line id l e) ∙ sent-in id later
    ]) refl

pub said-none : (id : ℕ) (told : List Line) → lines_of id told ≡ [] → sent_of id told ≡ []
said-none id told e = sent-in id told ∙ ap (sent_of id) e

pub said-held : (id floor : ℕ) (told : List Line) → lines_of id told ≡ lines.Held id floor ∷ [] → sent_of id told ≡ []
said-held id floor told e = sent-in id told ∙ ap (sent_of id) e

pub said-soft : (id point : ℕ) (out : Sent) (told : List Line) → lines_of id told ≡ lines.Soft id point ∷ sent id out → sent_of id told ≡ out
said-soft id point out told e = sent-in id told ∙ ap (sent_of id) e ∙ sent-same id id out (eq-eqb id id refl)

-- The frames with one id, and what they are held from.

abbrev pub Found : Type 0
Found = List (Waiting × Option ℕ)

abbrev pub hold_entry : Holding → Waiting × Option ℕ
hold_entry h = (h.waiting, Some h.floor)

abbrev pub wait_entry : Waiting → Waiting × Option ℕ
wait_entry f = (f, None)

abbrev pub held_found : ℕ → List Holding → Found
held_found id held = map hold_entry (filter (λ h. h.waiting.id == id) held)

abbrev pub waiting_found : ℕ → List Waiting → Found
waiting_found id waiting = map wait_entry (filter (λ f. f.id == id) waiting)

abbrev pub found : ℕ → List Holding → List Waiting → Found
found id held waiting = held_found id held ++ waiting_found id waiting

-- at most one
length-found : (id : ℕ) (held : List Holding) (waiting : List Waiting) → length (found id held waiting) ≡ length (filter (λ f. f.id == id) (frames_of held waiting))
length-found id [] waiting = length-map (filter (λ (f : Waiting). f.id == id) waiting) wait_entry
length-found id (h ∷ held) waiting =
    elim (h.waiting.id == id) as (λ b. length (map hold_entry (cond b (h ∷ filter (λ g. g.waiting.id == id) held) (filter (λ g. g.waiting.id == id) held)) ++ waiting_found id waiting)
    ≡ length (cond b (h.waiting ∷ filter (λ f. f.id == id) (frames_of held waiting)) (filter (λ f. f.id == id) (frames_of held waiting)))) [
      | true ↦ ap (λ n. suc n) (length-found id held waiting)
      | false ↦ length-found id held waiting
    ]

no-other : (id i : ℕ) (fs : List Waiting) → i ≡ id → AllByRecursion (λ j. (i == j) ≡ false) (map (λ (f : Waiting). f.id) fs) → filter (λ f. f.id == id) fs ≡ []
no-other id i [] e h = refl
no-other id i (f ∷ fs) e h =
    ap (λ b. cond b (f ∷ filter (λ g. g.id == id) fs) (filter (λ g. g.id == id) fs)) (ne_eqb f.id id (λ same. eqb-false i f.id h.0 (e ∙ sym same))) ∙ no-other id i fs e h.1

one-frame : (id : ℕ) (fs : List Waiting) → IsDistinct (◌==◌) (map (λ (f : Waiting). f.id) fs) → length (filter (λ f. f.id == id) fs) ≤ 1
unfolding IsDistinct
one-frame id [] h = omega arith
one-frame id (f ∷ fs) h =
    let rest = one-frame id fs h.1 in
    (elim (f.id == id) as (λ b. (f.id == id) ≡ b → length (cond b (f ∷ filter (λ g. g.id == id) fs) (filter (λ g. g.id == id) fs)) ≤ 1) [
      | true ↦ λ e. omega (arith, ap length (no-other id f.id fs (eqb-true f.id id e) h.0))
      | false ↦ λ e. rest
    ]) refl

pub one-found : (id : ℕ) (w : World) → IsWorld w → length (found id w.held w.waiting) ≤ 1
one-found id w k = omega (arith, length-found id w.held w.waiting, one-frame id (frames_of w.held w.waiting) k.frames.ids)

one-alone : {X : Type 0} (xs : List X) (y : X) (ys : List X) → length (xs ++ y ∷ ys) ≤ 1 → (xs ≡ []) × (ys ≡ [])
one-alone [] y [] h = (refl, refl)
one-alone [] y (z ∷ ys) h = absurd (omega arith)
one-alone (x ∷ xs) y ys h = absurd (omega (arith, length-append xs (y ∷ ys)))

none-length : {X : Type 0} (xs : List X) → length xs ≤ 0 → xs ≡ []
none-length [] h = refl
none-length (x ∷ xs) h = absurd (omega arith)

none-below : (id n : ℕ) (fs : List Waiting) → n ≤ id → AllByRecursion (λ f. f.id < n) fs → filter (λ f. f.id == id) fs ≡ []
none-below id n [] le h = refl
none-below id n (f ∷ fs) le h = ap (λ b. cond b (f ∷ filter (λ g. g.id == id) fs) (filter (λ g. g.id == id) fs)) (ne_eqb f.id id (λ e. omega (arith, h.0, e))) ∙ none-below id n fs le h.1

-- an id that is free
pub found-free : (id : ℕ) (w : World) → IsWorld w → w.next ≤ id → found id w.held w.waiting ≡ []
found-free id w k le =
    none-length _ (omega (
      arith,
      length-found id w.held w.waiting,
      ap length (none-below id w.next (frames_of w.held w.waiting) le
          (recursion_from_All _ _ (All-weaker (IsFrame w.setup.domains w.next) (λ (f : Waiting). f.id < w.next) (λ f is. is.id) (frames_of w.held w.waiting) k.frames.frames))),
    ))

-- a frame that is there has an id that was taken
pub found-taken : (id : ℕ) (w : World) (e : Waiting × Option ℕ) → IsWorld w → found id w.held w.waiting ≡ e ∷ [] → id < w.next
found-taken id w e k is = ⊎_elim (λ (h : id < w.next). h) (λ (h : w.next ≤ id). absurd (cc (sym (found-free id w k h) ∙ is))) (cases_lt id w.next)

waiting-one : (id : ℕ) (f : Waiting) (b : Bool) → map wait_entry (cond b (f ∷ []) []) ≡ cond b ((f, None) ∷ []) []
waiting-one id f true = refl
waiting-one id f false = refl

held-one : (h : Holding) (b : Bool) → map hold_entry (cond b (h ∷ []) []) ≡ cond b ((h.waiting, Some h.floor) ∷ []) []
held-one h true = refl
held-one h false = refl

pub found-push : (id : ℕ) (held : List Holding) (waiting : List Waiting) (f : Waiting) → found id held (waiting ++ f ∷ []) ≡ found id held waiting ++ cond (f.id == id) ((f, None) ∷ []) []
found-push id held waiting f =
    ap (λ (l : List Waiting). held_found id held ++ map wait_entry l) (filter-append (λ (g : Waiting). g.id == id) waiting (f ∷ []))
    ∙ ap (λ (l : Found). held_found id held ++ l) (map-append wait_entry (filter (λ g. g.id == id) waiting) (cond (f.id == id) (f ∷ []) [])
    ∙ ap (λ (l : Found). waiting_found id waiting ++ l) (waiting-one id f (f.id == id)))
    ∙ sym (append_assoc (held_found id held) (waiting_found id waiting) _)

held-push : (id : ℕ) (held : List Holding) (h : Holding) → held_found id (held ++ h ∷ []) ≡ held_found id held ++ cond (h.waiting.id == id) ((h.waiting, Some h.floor) ∷ []) []
held-push id held h =
    ap (map hold_entry) (filter-append (λ (g : Holding). g.waiting.id == id) held (h ∷ []))
    ∙ map-append hold_entry (filter (λ g. g.waiting.id == id) held) (cond (h.waiting.id == id) (h ∷ []) [])
    ∙ ap (λ (l : Found). held_found id held ++ l) (held-one h (h.waiting.id == id))

-- What a step does.

-- It waits now, and was sent to ports of its mark's domain alone.
abbrev pub Waits : ℕ → World → Sent → Type 0
Waits id v out = (f : Waiting) × (found id v.held v.waiting ≡ (f, None) ∷ []) × ((port : ℕ) → is_marked v.setup.domains f.mark port ≡ false → times port out ≡ 0)

pub data Fate (id : ℕ) (w v : World) (told : List Line) : Type 0 where
  idle : found id v.held v.waiting ≡ found id w.held w.waiting → lines_of id told ≡ [] → Fate id w v told
  entered : (out : Sent) → id ≡ w.next → v.next ≡ w.next + 1 → sent_of id told ≡ out → ((port : ℕ) → times port out ≤ 1) → (found id v.held v.waiting ≡ []) ⊎ Waits id v out → Fate id w v told
  taken : (f : Waiting) → found id w.held w.waiting ≡ (f, None) ∷ [] → found id v.held v.waiting ≡ (f, Some w.published) ∷ []
      → lines_of id told ≡ lines.Held id w.published ∷ [] → Fate id w v told
  gone : (f : Waiting) (o : Option ℕ) (point : ℕ) → found id w.held w.waiting ≡ (f, o) ∷ [] → found id v.held v.waiting ≡ [] → IsDecidedAt w o point
      → lines_of id told ≡ lines.Soft id point ∷ sent id (soft_out w.setup.domains (table_at w point) f.port f.bytes f.head f.mark) → Fate id w v told

pub record Effect (id : ℕ) (w v : World) (told : List Line) : Type 0 where
  pub setup : v.setup ≡ w.setup
  pub next : w.next ≤ v.next
  pub published : (v.published ≡ w.published) ⊎ (v.published ≡ length v.history)
  pub fate : Fate id w v told

-- what all steps but those of frames and of publications leave
record Alike (w v : World) : Type 0 where
  setup : v.setup ≡ w.setup
  next : v.next ≡ w.next
  published : v.published ≡ w.published
  held : v.held ≡ w.held
  waiting : v.waiting ≡ w.waiting

alike : (w : World) → Alike w w
alike w = record { setup = refl; next = refl; published = refl; held = refl; waiting = refl }

quiet : (id : ℕ) (w v : World) (told : List Line) → Alike w v → lines_of id told ≡ [] → Effect id w v told
quiet id w v told a silent = record {
  setup = a.setup;
  next = omega (arith, a.next);
  published = inl a.published;
  fate = idle (λ i. found id (a.held i) (a.waiting i)) silent;
}

answered-alike : (before after : World) (answer : Result Reaction Refusal) → Alike before after → Alike before (answered before after answer).0
answered-alike before after (Err why) a = alike before
answered-alike before after (Ok r) a = record { setup = a.setup; next = a.next; published = a.published; held = a.held; waiting = a.waiting }

-- the bridge's own frames are none that entered
lines_of-control : (id own : ℕ) (messages : List (ℕ × BpduMsg)) (told : List Line) → lines_of id (control_lines own messages ++ told) ≡ lines_of id told
lines_of-control id own [] told = refl
lines_of-control id own (m ∷ messages) told = lines_of-control id own messages told

answered-silent : (id : ℕ) (before after : World) (answer : Result Reaction Refusal) → lines_of id (answered before after answer).1 ≡ []
answered-silent id before after (Err why) = refl
answered-silent id before after (Ok r) = lines_of-control id after.setup.own r.messages (Done after.steps (length r.changes) ∷ [])

answers : (id : ℕ) (before after : World) (answer : Result Reaction Refusal) → Alike before after → Effect id before (answered before after answer).0 (answered before after answer).1
answers id before after answer a = quiet id before _ _ (answered-alike before after answer a) (answered-silent id before after answer)

-- A frame enters.

-- what goes on to software sends nothing
pub record GoesOn (id : ℕ) (u : World) (y : Stepped) : Type 0 where
  pub setup : y.0.setup ≡ u.setup
  pub next : y.0.next ≡ u.next
  pub published : y.0.published ≡ u.published
  pub silent : sent_of id y.1 ≡ []

pub goes_on-silent : (c : Class) (id : ℕ) (u : World) (f : Waiting) → GoesOn id u (goes_on c u f)
goes_on-silent c id u f =
    goes_on-either (GoesOn id u) c u f (record { setup = refl; next = refl; published = refl; silent = refl })
    (waits-either (GoesOn id u) u f (record { setup = refl; next = refl; published = refl; silent = refl }) (record { setup = refl; next = refl; published = refl; silent = refl }))

-- what the first lines of a frame that enters tell, and where it goes on to software after them
record Shares (w : World) (f : Waiting) (first : List Line) (goes_on : Bool) : Type 0 where
  out : Sent
  says : (end : List Line) → sent_of w.next end ≡ [] → sent_of w.next (first ++ end) ≡ out
  others : (id : ℕ) (end : List Line) → (w.next == id) ≡ false → lines_of id end ≡ [] → lines_of id (first ++ end) ≡ []
  once : (port : ℕ) → times port out ≤ 1
  marked : goes_on ≡ true → (port : ℕ) → is_marked w.setup.domains f.mark port ≡ false → times port out ≡ 0

-- what the last lines tell, and whether the frame is among those that wait then
record Settles (id : ℕ) (held : List Holding) (waiting : List Waiting) (f : Waiting) (goes_on : Bool) (after : List Waiting) (last : List Line) : Type 0 where
  silent : sent_of id last ≡ []
  others : (f.id == id) ≡ false → (found id held after ≡ found id held waiting) × (lines_of id last ≡ [])
  own : (f.id == id) ≡ true → found id held waiting ≡ [] → (found id held after ≡ []) ⊎ ((found id held after ≡ (f, None) ∷ []) × (goes_on ≡ true))

joins-settles : (id : ℕ) (held : List Holding) (waiting : List Waiting) (f : Waiting) {b : Bool} {after : List Waiting} {last : List Line} → Joins held waiting f b after last
    → Settles id held waiting f b after last
joins-settles id held waiting f passes_by = record { silent = refl; others = λ e. (refl, refl); own = λ e free. inl free }
joins-settles id held waiting f (finds_room room) =
    let pushed = found-push id held waiting f in
    record {
      silent = refl;
      others = λ e. (pushed ∙ ap (λ b. found id held waiting ++ cond b ((f, None) ∷ []) []) e ∙ append-nil (found id held waiting), refl);
      own = λ e free. inr (pushed ∙ (λ i. free i ++ cond (e i) ((f, None) ∷ []) []), refl);
    }
joins-settles id held waiting f (overruns full) = record { silent = refl; others = λ e. (refl, ap (λ b. cond b (lines.Overrun f.id ∷ []) []) e); own = λ e free. inl free }

-- what the chip sends of a frame
module _ (domains : Domains) (t : Table) (port : ℕ) (bytes : List ℕ) (head : Head) where
  chip-once : (c : Class) (q : ℕ) → times q (chip_out_by c domains port (leave t port bytes head)) ≤ 1
  chip-once Drop q = omega arith
  chip-once Trap q = omega arith
  chip-once Copy q = times-ascends q _ (ascends-filter (λ (x : ℕ × List ℕ). not (foreign domains port x.0)) (leave t port bytes head) (ascends-leave t port bytes head))
  chip-once Forward q = times-ascends q _ (ascends-filter (λ (x : ℕ × List ℕ). not (foreign domains port x.0)) (leave t port bytes head) (ascends-leave t port bytes head))

  -- where it goes on, it was sent to ports of its mark's domain alone
  chip-marked : is_some (domain_of domains port) ≡ true → (c : Class) → goes c ≡ true → (q : ℕ) → is_marked domains (mark_of c domains port) q ≡ false
      → times q (chip_out_by c domains port (leave t port bytes head)) ≡ 0
  chip-marked declared Drop on q h = refl
  chip-marked declared Trap on q h = refl
  chip-marked declared Copy on q h = times-within domains port declared q (leave t port bytes head) h
  chip-marked declared Forward on q h = absurd (cc)

enters-shares : (w : World) (port : ℕ) (bytes : List ℕ) (head : Head) {chips : List Chip} {f : Waiting} {first : List Line} {b : Bool} → Enters w port bytes head chips f first b
    → Shares w f first b
enters-shares w port bytes head (by_software on) = record { out = []; says = λ end h. h; others = λ id end e h. h; once = λ q. omega arith; marked = λ on q h. refl }
enters-shares w port bytes head (by_chip c on) =
    let t = table_of_chip w c in
    let class = class_of w c (entering w port bytes head) in
    let out = chip_out w.setup.domains t port bytes head in
    record {
      out = out;
      says = λ end h. sent_of-sent w.next w.next out end h ∙ ap (λ b. cond b out []) (eq-eqb w.next w.next refl);
      others = λ id end e h. lines-chip id w.next (length w.history) c.count class out end e h;
      once = chip-once w.setup.domains t port bytes head class;
      marked = chip-marked w.setup.domains t port bytes head (chip_of-declared w (domain_of w.setup.domains port) c on) class;
    }

entry-fate : (id : ℕ) (w : World) (port : ℕ) (bytes : List ℕ) (n : Entry w port bytes) → IsWorld w
    → Fate id w (record w { next = w.next + 1; chips = n.chips; waiting = n.waiting }) (n.first ++ n.last)
entry-fate id w port bytes n k =
    let its : n.entered.id ≡ w.next = enters-id w port bytes n.head n.enters in
    let s = enters-shares w port bytes n.head n.enters in
    let j = joins-settles id w.held w.waiting n.entered n.joins in
    let silent = (joins-settles w.next w.held w.waiting n.entered n.joins).silent in
    (elim (w.next == id) as (λ b. (w.next == id) ≡ b → Fate id w (record w { next = w.next + 1; chips = n.chips; waiting = n.waiting }) (n.first ++ n.last)) [
      | true ↦ λ e.
          let is : id ≡ w.next = sym (eqb-true w.next id e) in
          entered s.out is refl (ap (λ (m : ℕ). sent_of m (n.first ++ n.last)) is ∙ s.says n.last silent) s.once (⊎_elim
          (λ (h : found id w.held n.waiting ≡ []). inl h)
          (λ (h : (found id w.held n.waiting ≡ (n.entered, None) ∷ []) × (n.goes_on ≡ true)). inr (n.entered, h.0, s.marked h.1))
          (j.own (ap (λ (m : ℕ). m == id) its ∙ e) (found-free id w k (omega (arith, is)))))
      | false ↦ λ e. let other = j.others (ap (λ (m : ℕ). m == id) its ∙ e) in idle other.0 (s.others id n.last e other.1)
    ]) refl

unread-fate : (id : ℕ) (w : World) (why : FrameFault) → IsWorld w → Fate id w (record w { next = w.next + 1 }) (lines.Unread w.next why ∷ [])
unread-fate id w why k =
    (elim (w.next == id) as (λ b. (w.next == id) ≡ b → Fate id w (record w { next = w.next + 1 }) (lines.Unread w.next why ∷ [])) [
      | true ↦ λ e. let is : id ≡ w.next = sym (eqb-true w.next id e) in entered [] is refl refl (λ port. omega arith) (inl (found-free id w k (omega (arith, is))))
      | false ↦ λ e. idle refl (ap (λ b. cond b (lines.Unread w.next why ∷ []) []) e)
    ]) refl

-- A frame is held, or sent.

-- it is alone
alone : (id : ℕ) (w : World) (before after : Found) (e : Waiting × Option ℕ) → IsWorld w → found id w.held w.waiting ≡ before ++ e ∷ after → (before ≡ []) × (after ≡ [])
alone id w before after e k is = one-alone before e after (omega (arith, one-found id w k, ap length is))

posts-effect : (id : ℕ) (w u : World) (f : Waiting) (o : Option ℕ) (point : ℕ) → u.setup ≡ w.setup → u.next ≡ w.next → u.published ≡ w.published → u.history ≡ w.history
    → ((f.id == id) ≡ true → (found id w.held w.waiting ≡ (f, o) ∷ []) × (found id u.held u.waiting ≡ []))
    → ((f.id == id) ≡ false → found id u.held u.waiting ≡ found id w.held w.waiting) → IsDecidedAt w o point → Effect id w (posts u f point).0 (posts u f point).1
posts-effect id w u f o point setup next published history mine other decided =
    let answer = reacts u (events.Sight f.port f.bytes f.head) in
    let a = answered-alike u u answer (alike u) in
    let out = soft_out u.setup.domains (table_at u point) f.port f.bytes f.head f.mark in
    let here : found id (answered u u answer).0.held (answered u u answer).0.waiting ≡ found id u.held u.waiting = λ i. found id (a.held i) (a.waiting i) in
    let says = lines-soft id f.id point (sent f.id out ++ (answered u u answer).1) (sent f.id out) (lines_of-sent id f.id out (answered u u answer).1 (answered-silent id u u answer)) in
    record {
      setup = a.setup ∙ setup;
      next = omega (arith, a.next, next);
      published = inl (a.published ∙ published);
      fate = (elim (f.id == id) as (λ b. (f.id == id) ≡ b → lines_of id (posts u f point).1 ≡ cond b (lines.Soft f.id point ∷ sent f.id out) [] → Fate id w (posts u f point).0 (posts u f point).1) [
        | true ↦ λ e said.
            let own : f.id ≡ id = eqb-true f.id id e in
            gone f o point (mine e).0 (here ∙ (mine e).1) decided
            (said ∙ (λ i. lines.Soft (own i) point ∷ sent (own i) (soft_out (setup i).domains (table (take point (history i))) f.port f.bytes f.head f.mark)))
        | false ↦ λ e said. idle (here ∙ other e) said
      ]) refl says;
    }

holds-effect : (id : ℕ) (w : World) (f : Waiting) (later : List Waiting) → w.waiting ≡ f ∷ later → IsWorld w → Effect id w (holds w (f ∷ later)).0 (holds w (f ∷ later)).1
holds-effect id w f later e k =
    let h : Holding = record { waiting = f; floor = w.published } in
    let now = ap (λ (l : Found). l ++ waiting_found id later) (held-push id w.held h) in
    let before = ap (found id w.held) e in
    record {
      setup = refl;
      next = omega arith;
      published = inl refl;
      fate = (elim (f.id == id) as (λ b. (f.id == id) ≡ b
          → found id (w.held ++ h ∷ []) later ≡ (held_found id w.held ++ cond b ((f, Some w.published) ∷ []) []) ++ waiting_found id later
          → found id w.held w.waiting ≡ held_found id w.held ++ map wait_entry (cond b (f ∷ filter (λ g. g.id == id) later) (filter (λ g. g.id == id) later))
          → Fate id w (holds w (f ∷ later)).0 (holds w (f ∷ later)).1) [
            | true ↦ λ mine is was.
                let rest = alone id w (held_found id w.held) (waiting_found id later) (f, None) k was in
                taken f (was ∙ (λ i. rest.0 i ++ (f, None) ∷ rest.1 i)) (is ∙ (λ i. (rest.0 i ++ (f, Some w.published) ∷ []) ++ rest.1 i))
                (ap (λ b. cond b (lines.Held f.id w.published ∷ []) []) mine ∙ ap (λ i. lines.Held i w.published ∷ []) (eqb-true f.id id mine))
            | false ↦
                λ other is was. idle (is ∙ ap (λ (l : Found). l ++ waiting_found id later) (append-nil (held_found id w.held)) ∙ sym was) (ap (λ b. cond b (lines.Held f.id w.published ∷ []) []) other)
          ]) refl now before;
    }

find-filter : {X : Type 0} (p : X → Bool) (xs : List X) (x : X) → find p xs ≡ Some x → (rest : List X) × (filter p xs ≡ x ∷ rest)
find-filter p [] x e = absurd (cc)
find-filter {X} p (y ∷ ys) x e =
    (elim (p y) as (λ b. cond b (Some y) (find p ys) ≡ Some x → (rest : List X) × (cond b (y ∷ filter p ys) (filter p ys) ≡ x ∷ rest)) [
      | true ↦ λ is. (filter p ys, ap (λ a. a ∷ filter p ys) (same_Some y x is))
      | false ↦ λ is. find-filter p ys x is
    ]) e

-- among the frames with other ids there is none with this one
others-none : (id : ℕ) (hs : List Holding) → filter (λ h. h.waiting.id == id) (filter (λ h. not (h.waiting.id == id)) hs) ≡ []
others-none id [] = refl
others-none id (h ∷ hs) =
    (elim (h.waiting.id == id) as (λ b. (h.waiting.id == id) ≡ b
    → filter (λ g. g.waiting.id == id) (cond (not b) (h ∷ filter (λ g. not (g.waiting.id == id)) hs) (filter (λ g. not (g.waiting.id == id)) hs)) ≡ []) [
      | true ↦ λ e. others-none id hs
      | false ↦ λ e.
          ap (λ b. cond b (h ∷ filter (λ g. g.waiting.id == id) (filter (λ g. not (g.waiting.id == id)) hs)) (filter (λ g. g.waiting.id == id) (filter (λ g. not (g.waiting.id == id)) hs))) e
          ∙ others-none id hs
    ]) refl

-- and of this id none is lost where another one goes
others-stay : (id i : ℕ) (hs : List Holding) → (i == id) ≡ false → filter (λ h. h.waiting.id == id) (filter (λ h. not (h.waiting.id == i)) hs) ≡ filter (λ h. h.waiting.id == id) hs
others-stay id i [] ne = refl
others-stay id i (h ∷ hs) ne =
    let rest = others-stay id i hs ne in
    (elim (h.waiting.id == i) as (λ b. (h.waiting.id == i) ≡ b
    → filter (λ g. g.waiting.id == id) (cond (not b) (h ∷ filter (λ g. not (g.waiting.id == i)) hs) (filter (λ g. not (g.waiting.id == i)) hs))
    ≡ cond (h.waiting.id == id) (h ∷ filter (λ g. g.waiting.id == id) hs) (filter (λ g. g.waiting.id == id) hs)) [
      | true ↦ λ e. rest ∙ sym (ap (λ b. cond b (h ∷ filter (λ g. g.waiting.id == id) hs) (filter (λ g. g.waiting.id == id) hs)) (ap (λ n. n == id) (eqb-true h.waiting.id i e) ∙ ne))
      | false ↦ λ e. ap (λ l. cond (h.waiting.id == id) (h ∷ l) l) rest
    ]) refl

no-parts : (xs ys : Found) → xs ++ ys ≡ [] → ys ≡ []
no-parts [] ys h = h
no-parts (x ∷ xs) ys h = absurd (cc)

leaves-effect : (id : ℕ) (w : World) {step : Step} {f : Waiting} {floor : Option ℕ} {held : List Holding} {waiting : List Waiting} {point : ℕ}
    → Leaves w step f floor held waiting point → IsWorld w → let v = record w { held = held; waiting = waiting } in Effect id w (posts v f point).0 (posts v f point).1
leaves-effect id w (by_serve f later is_first) k =
    posts-effect id w (record w { waiting = later }) f None w.published refl refl refl refl
    (λ mine.
    let is : found id w.held w.waiting ≡ held_found id w.held ++ (f, None) ∷ waiting_found id later =
    ap (found id w.held) is_first ∙ ap (λ b. held_found id w.held ++ map wait_entry (cond b (f ∷ filter (λ g. g.id == id) later) (filter (λ g. g.id == id) later))) mine in
    let rest = alone id w (held_found id w.held) (waiting_found id later) (f, None) k is in
    (is ∙ (λ i. rest.0 i ++ (f, None) ∷ rest.1 i), λ i. rest.0 i ++ rest.1 i))
    (λ other. sym (ap (found id w.held) is_first ∙ ap (λ b. held_found id w.held ++ map wait_entry (cond b (f ∷ filter (λ g. g.id == id) later) (filter (λ g. g.id == id) later))) other))
    refl
leaves-effect id w (by_post i named h point e names decided) k =
    posts-effect id w (lets_go w h.waiting.id) h.waiting (Some h.floor) point refl refl refl refl
    (λ mine.
    let own : h.waiting.id ≡ id = eqb-true h.waiting.id id mine in
    let its : h.waiting.id ≡ i = eqb-true h.waiting.id i (find-passes (λ (g : Holding). g.waiting.id == i) w.held h e) in
    let found-it : find (λ (g : Holding). g.waiting.id == id) w.held ≡ Some h = ap (λ j. find (λ (g : Holding). g.waiting.id == j) w.held) (sym own ∙ its) ∙ e in
    let r = find-filter (λ (g : Holding). g.waiting.id == id) w.held h found-it in
    let is : found id w.held w.waiting ≡ [] ++ (
      h.waiting,
      Some h.floor,
    ) ∷ (map hold_entry r.0 ++ waiting_found id w.waiting) = ap (λ (l : List Holding). map hold_entry l ++ waiting_found id w.waiting) r.1 in
    let rest = (alone id w [] (map hold_entry r.0 ++ waiting_found id w.waiting) (h.waiting, Some h.floor) k is).1 in
    let none = no-parts (map hold_entry r.0) (waiting_found id w.waiting) rest in (
      is ∙ ap (λ (l : Found). (h.waiting, Some h.floor) ∷ l) rest,
      ap (λ (l : List Holding). map hold_entry l ++ waiting_found id w.waiting)
          (ap (λ j. filter (λ (g : Holding). g.waiting.id == id) (filter (λ g. not (g.waiting.id == j)) w.held)) own ∙ others-none id w.held) ∙ none,
    ))
    (λ other. ap (λ (l : List Holding). map hold_entry l ++ waiting_found id w.waiting) (others-stay id h.waiting.id w.held other))
    (decided (find-each (λ (g : Holding). has nat_cmp w.counts g.floor ≡ true) (λ g. g.waiting.id == i) w.held h (recursion_from_All _ w.held k.frames.floors) e))

-- Each step.

ends-effect : (id : ℕ) (w : World) {step : Step} {y : Stepped} → Ends w step y → IsWorld w → Effect id w y.0 y.1
ends-effect id w (ends_refused why) k = quiet id w w _ (alike w) refl
ends-effect id w (ends_unread port bytes why is) k = record { setup = refl; next = omega arith; published = inl refl; fate = unread-fate id w why k }
ends-effect id w (ends_entered port bytes n) k = record { setup = refl; next = omega arith; published = inl refl; fate = entry-fate id w port bytes n k }
ends-effect id w (ends_held f later is) k = holds-effect id w f later is k
ends-effect id w (ends_sent f held waiting point leaves) k = leaves-effect id w leaves k
ends-effect id w (ends_applied dom c d at is) k = quiet id w (with_chip w (applies c d)) _ (record { setup = refl; next = refl; published = refl; held = refl; waiting = refl }) refl
ends-effect id w (ends_idle dom) k = quiet id w w _ (alike w) refl
ends-effect id w (ends_answered chips e by) k =
    answers id w (record w { chips = chips }) (reacts w e) (record { setup = refl; next = refl; published = refl; held = refl; waiting = refl })
ends-effect id w ends_published k = record { setup = refl; next = omega arith; published = inr refl; fate = idle refl refl }

-- the count of steps is no matter
same-fate : (id n : ℕ) (w v : World) (told : List Line) → Fate id (record w { steps = n }) v told → Fate id w v told
same-fate id n w v told (idle there silent) = idle there silent
same-fate id n w v told (entered out is next says once settled) = entered out is next says once settled
same-fate id n w v told (taken f was is silent) = taken f was is silent
same-fate id n w v told (gone f o point was is decided says) = gone f o point was is (same-decided o decided) says
  where
    same-decided : (o : Option ℕ) → IsDecidedAt (record w { steps = n }) o point → IsDecidedAt w o point
    same-decided None h = h
    same-decided (Some floor) h = h

pub step-effect : (id : ℕ) (w : World) (step : Step) → IsWorld w → Effect id w (world_step w step).0 (world_step w step).1
step-effect id w step k =
    let u = record w { steps = w.steps + 1 } in
    let e = ends-effect id u (does-ends u step) (counted-world w k) in
    record { setup = e.setup; next = e.next; published = e.published; fate = same-fate id (w.steps + 1) w (world_step w step).0 (world_step w step).1 e.fate }

-- one entry alone is itself
pub same-entry : (l : Found) (a b : Waiting × Option ℕ) → l ≡ a ∷ [] → l ≡ b ∷ [] → a ≡ b
same-entry l a b p q = ap (λ (k : Found). get_or k 0 a) (sym p ∙ q)
