-- What a call of a plane comes to, by what its sides and its frames come to.
use Rattle.std.proofs.Common.{◌≡◌, ℕ, ◌+◌, ◌==◌, ◌≤◌, nat_le, true, cond, ◌&&◌, not, List, [], ◌∷◌, length, take, drop, slice_get, Option, None, Some, option_map, refl, sym, ap, ◌∙◌, subst, arith}
use Rattle.std.proofs.lemmas.Bool.{eqb-true, le-leb}
use Rattle.std.specs.Option.{is_some}
use Rattle.std.specs.List.{filter, find, list_any}
use Rattle.std.specs.Ordering.{nat_cmp}
use Rattle.lemmas.proofs.Lists.{find-passes}
use Rattle.lemmas.proofs.Endings.{option_map-none}
use Rattle.br_model.specs.declared.change.Change.{Change}
use Rattle.br_model.specs.declared.steps.Event.{Event}
use Rattle.br_model.specs.declared.steps.Event.TheVariants as events
use Rattle.br_model.specs.declared.steps.Refusal.TheVariants.{NothingPending, NoSuchPoint}
use Rattle.br_model.specs.declared.transcript.Line.{Line}
use Rattle.br_model.specs.declared.transcript.Line.TheVariants as lines
use Rattle.br_model.specs.declared.change.Update.{Update}
use Rattle.br_model.specs.Plane.Chip.{Chip, applies, chip_in, put_chip}
use Rattle.br_model.specs.Table.Change.{updates}
use Rattle.br_model.specs.Table.Cut.{deferred_at, under_ticket}
use Rattle.br_model.specs.Data.Maps.{has}
use Rattle.br_model.specs.Wire.Messages.{message}
use Rattle.br_model.specs.declared.frame.Head.{Head}
use Rattle.br_model.specs.Table.Domains.{domain_of, has_chip}
use Rattle.br_model.specs.Plane.Entering.{chip_of}
use Rattle.chip_pipeline.specs.Passed.{Passed, IsPass}
use Rattle.br_model.proofs.Plane.Chips.{chip-there}
use Rattle.br_model.specs.Plane.ChipSteps.{turns, turns_to}
use Rattle.br_model.specs.Theorems.Invariants.{IsWorld}
use Rattle.br_model.specs.Plane.Serving.{posts, serves, holds, held_with, lets_go, is_point, posts_at}
use Rattle.br_model.specs.declared.steps.Step.{Step}
use Rattle.br_model.specs.declared.steps.Step.TheVariants.{Cmd, Now, Serve, Hold, Post, Turn, Publish}
use Rattle.br_model.specs.Plane.Steps.{publishes, does, world_step}
use Rattle.br_model.specs.Plane.World.{World, Waiting, Holding, Stepped, answered, chip_at, reacts, refused, done, table_of_chip}
use Rattle.br_model.specs.Table.Setup.{Setup}
use Rattle.br_model.specs.Table.Table.{table}
use Rattle.forward_rules.specs.declared.soft_tables.Verdict.{Verdict}
use Rattle.forward_rules.specs.Decided.{Decides}
use Rattle.table_publish.specs.Object.{Whose}
use Rattle.table_publish.specs.declared.seat.Seen.{Seen}
use Rattle.plane_core.specs.Shown.{shown_by, shown_of}
use Rattle.plane_core.specs.declared.held.Held.{Held}
use Rattle.br_model.proofs.Table.Cuts.{updates-at, updates-named}
use Rattle.br_model.proofs.Plane.Kept.{first-world, step-world}
use Rattle.plane_core.specs.Planes.{PlaneState, Steps, DecidesFloor, DecidesOldest, IsDecision, IsNamed, IsPassOf, next_ticket}
use Rattle.plane_parts.specs.Queued.{Queued, hold_line, holds_oldest}
use Rattle.plane_reactions.specs.Reacted.{Comes}
use Rattle.plane_core.specs.Sides.{SidesState, first_sides, world_of, of_sides}
use Rattle.plane_core.proofs.Stepping.{stepped}

-- after a step that comes to these sides and frames
pub stands_after : (s t : SidesState) (q r : Queued) (n m : ℕ) (step : Step) (lines : List Line) → m ≡ n + 1 → does (world_of s q m) step ≡ (world_of t r m, lines)
    → IsWorld (world_of s q n) → IsWorld (world_of t r m)
stands_after s t q r n m step lines e h k =
    stepped (world_of s q n) (world_of t r m) step lines (subst (λ i. does (world_of s q i) step ≡ (world_of t r m, lines)) e h) k

pub stands_first : (setup : Setup) (board : Whose) (s : SidesState) (q : Queued) → s ≡ first_sides setup board → q ≡ record { waiting = []; held = []; next = 1 } → IsWorld (world_of s q 0)
stands_first setup board s q e f =
    subst (λ (x : SidesState). IsWorld (world_of x q 0)) (sym e) (subst (λ (x : Queued). IsWorld (world_of (first_sides setup board) x 0)) (sym f) (first-world setup))

pub stands_accepted : (e : Event) → IsNamed e → (s t : SidesState) (q : Queued) (n m : ℕ) (lines : List Line) → m ≡ n + 1
    → Comes of_sides (λ w. answered w w (reacts w e)) s m t lines → IsWorld (world_of s q n) → IsWorld (world_of t q m)
stands_accepted (events.Cmd c) is s t q n m lines e h k = stands_after s t q q n m (Cmd c) lines e (h q) k
stands_accepted (events.Moment now) is s t q n m lines e h k = stands_after s t q q n m (Now now) lines e (h q) k
stands_accepted (events.Sight port bytes head) is s t q n m lines e h k = elim is [ ]
stands_accepted (events.Told vid mac port) is s t q n m lines e h k = elim is [ ]
stands_accepted (events.Forget stations) is s t q n m lines e h k = elim is [ ]

-- The oldest frame is served, or held.

serves_front : (s t : SidesState) (waiting : List Waiting) (held : List Holding) (next : ℕ) (f : Waiting) (m : ℕ) (lines : List Line) → Some f ≡ slice_get waiting 0
    → Comes of_sides (λ w. posts w f w.published) s m t lines
    → serves (world_of s (record { waiting = waiting; held = held; next = next }) m) waiting ≡ (world_of t (record { waiting = drop 1 waiting; held = held; next = next }) m, lines)
serves_front s t [] held next f m lines e h = absurd (cc)
serves_front s t (g ∷ later) held next f m lines e h =
    let same : g ≡ f = cc in
    ap (λ x. posts (world_of s (record { waiting = later; held = held; next = next }) m) x (length s.published.changes)) same ∙ h (record { waiting = later; held = held; next = next })

pub serves_oldest : (s t : SidesState) (q : Queued) (f : Waiting) (m : ℕ) (lines : List Line) → Some f ≡ slice_get q.waiting 0 → Comes of_sides (λ w. posts w f w.published) s m t lines
    → does (world_of s q m) Serve ≡ (world_of t (record q { waiting = drop 1 q.waiting }) m, lines)
serves_oldest s t q f m lines e h = serves_front s t q.waiting q.held q.next f m lines e h

pub stands_served : (s t : SidesState) (q r : Queued) (n m : ℕ) (f : Waiting) (lines : List Line) → m ≡ n + 1 → Some f ≡ slice_get q.waiting 0 → Comes of_sides (λ w. posts w f w.published) s m t lines
    → r ≡ record q { waiting = drop 1 q.waiting } → IsWorld (world_of s q n) → IsWorld (world_of t r m)
stands_served s t q r n m f lines e oldest comes left k =
    subst (λ (x : Queued). IsWorld (world_of t x m)) (sym left)
    (stands_after s t q (record q { waiting = drop 1 q.waiting }) n m Serve lines e (serves_oldest s t q f m lines oldest comes) k)

-- what is decided of it
pub oldest_decided : (old : PlaneState) (s : SidesState) (q : Queued) (n id : ℕ) (f : Waiting) (verdict : Verdict) → record { world = world_of s q n; board = s.board } ≡ old
    → Some f ≡ slice_get q.waiting 0
    → id ≡ f.id → Decides s.setup.domains (table (take (length s.published.changes) s.history)) f.port f.head (message f.bytes f.head) verdict
    → DecidesOldest old.world old.world.waiting (Some (id, verdict))
oldest_decided old s q n id f verdict was first named is =
    subst (λ (o : PlaneState). DecidesOldest o.world o.world.waiting (Some (id, verdict))) was (by q.waiting first)
  where
    by : (fs : List Waiting) → Some f ≡ slice_get fs 0 → DecidesOldest (world_of s q n) fs (Some (id, verdict))
    by [] e = absurd (cc)
    by (g ∷ later) e =
        let same : f ≡ g = cc in
        subst (λ (h : Waiting). DecidesOldest (world_of s q n) (h ∷ later) (Some (id, verdict))) same (verdict, ap (λ i. Some (i, verdict)) named, is)

holds_front : (s : SidesState) (q : Queued) (waiting : List Waiting) (m : ℕ)
    → holds (world_of s q m) waiting ≡ (world_of s (holds_oldest q (length s.published.changes) waiting) m, hold_line m (length s.published.changes) waiting ∷ [])
holds_front s q [] m = refl
holds_front s q (f ∷ later) m = refl

pub holds_as : (s : SidesState) (q : Queued) (m : ℕ) → (does (world_of s q m) Hold).0 ≡ world_of s (holds_oldest q (length s.published.changes) q.waiting) m
holds_as s q m = ap (λ (x : Stepped). x.0) (holds_front s q q.waiting m)

pub holds_one : (s : SidesState) (q r : Queued) (m floor : ℕ) (line : Line) → floor ≡ length s.published.changes → r ≡ holds_oldest q floor q.waiting → line ≡ hold_line m floor q.waiting
    → does (world_of s q m) Hold ≡ (world_of s r m, line ∷ [])
holds_one s q r m floor line e left is =
    holds_front s q q.waiting m
    ∙ ap (λ i. (world_of s (holds_oldest q i q.waiting) m, hold_line m i q.waiting ∷ [])) (sym e)
    ∙ ap (λ (x : Queued). (world_of s x m, hold_line m floor q.waiting ∷ [])) (sym left)
    ∙ ap (λ (l : Line). (world_of s r m, l ∷ [])) (sym is)

pub stands_held : (s : SidesState) (q r : Queued) (n m floor : ℕ) → m ≡ n + 1 → floor ≡ length s.published.changes → r ≡ holds_oldest q floor q.waiting → IsWorld (world_of s q n)
    → IsWorld (world_of s r m)
stands_held s q r n m floor e f g k =
    let to : (world_step (world_of s q n) Hold).0 ≡ world_of s r m =
    holds_as s q (n + 1) ∙ ap (λ i. world_of s (holds_oldest q i q.waiting) (n + 1)) (sym f) ∙ ap (λ x. world_of s x (n + 1)) (sym g) ∙ ap (world_of s r) (sym e) in
    subst IsWorld to (step-world (world_of s q n) Hold k)

-- A held frame is sent.

-- so many changes were published, at the floor or later
points : (w : World) (x : Holding) (point : ℕ) → has nat_cmp w.counts point ≡ true → x.floor ≤ point → is_point w x point ≡ true
points w x point known late = ap (λ b. b && nat_le x.floor point) known ∙ le-leb x.floor point late

posts_found : (s t : SidesState) (q : Queued) (id point : ℕ) (x : Holding) (m : ℕ) (lines : List Line) → find (λ h. h.waiting.id == id) q.held ≡ Some x
    → has nat_cmp s.published.counts point ≡ true → x.floor ≤ point → Comes of_sides (λ w. posts w x.waiting point) s m t lines
    → does (world_of s q m) (Post id (Some point)) ≡ (world_of t (record q { held = filter (λ h. not (h.waiting.id == id)) q.held }) m, lines)
posts_found s t q id point x m lines e known late h =
    let w = world_of s q m in
    ap (λ o. posts_at w o (Some point)) e
    ∙ ap (λ b. cond {A = Stepped} b (posts (lets_go w x.waiting.id) x.waiting point) (refused w NoSuchPoint)) (points w x point known late)
    ∙ ap (λ i. posts (lets_go w i) x.waiting point) (eqb-true x.waiting.id id (find-passes (λ h. h.waiting.id == id) q.held x e))
    ∙ h (record q { held = filter (λ g. not (g.waiting.id == id)) q.held })

-- a frame that is found is the one that is held
pub held_there : (old : PlaneState) (s : SidesState) (q : Queued) (n id : ℕ) (x : Holding) → record { world = world_of s q n; board = s.board } ≡ old → Some x ≡ find (λ h. h.waiting.id == id) q.held
    → held_with old.world id ≡ Some x
held_there old s q n id x was found = ap (λ (o : PlaneState). held_with o.world id) (sym was) ∙ sym found

-- what is asked of a decision, in the plane's sides
pub decided : (old : PlaneState) (s : SidesState) (q : Queued) (n : ℕ) (x : Holding) (f : Waiting) (seen : Seen) → record { world = world_of s q n; board = s.board } ≡ old → f ≡ x.waiting
    → IsDecision old.world x seen → Decides s.setup.domains (table (take seen.point s.history)) f.port f.head (message f.bytes f.head) seen.verdict
decided old s q n x f seen was same is =
    let by : IsDecision (world_of s q n) x seen = subst (λ (o : PlaneState). IsDecision o.world x seen) (sym was) is in
    subst (λ (g : Waiting). Decides s.setup.domains (table (take seen.point s.history)) g.port g.head (message g.bytes g.head) seen.verdict) (sym same) by.verdict

pub posts_one : (old : PlaneState) (s t : SidesState) (q r : Queued) (n m : ℕ) (h : Held) (x : Holding) (f : Waiting) (seen : Seen) (lines : List Line)
    → record { world = world_of s q n; board = s.board } ≡ old → find (λ g. g.waiting.id == h.id) q.held ≡ Some x → shown_by h ≡ shown_of x → f ≡ x.waiting
    → h.floor ≤ seen.point → IsDecision old.world x seen → Comes of_sides (λ w. posts w f seen.point) s m t lines → r ≡ record q { held = filter (λ g. not (g.waiting.id == h.id)) q.held }
    → does (world_of s q m) (Post h.id (Some seen.point)) ≡ (world_of t r m, lines)
posts_one old s t q r n m h x f seen lines was found shown same floor is comes left =
    let by : IsDecision (world_of s q n) x seen = subst (λ (o : PlaneState). IsDecision o.world x seen) (sym was) is in
    let floors : h.floor ≡ x.floor = ap (λ v. v.floor) shown in
    let sends : Comes of_sides (λ w. posts w x.waiting seen.point) s m t lines = subst (λ (g : Waiting). Comes of_sides (λ w. posts w g seen.point) s m t lines) same comes in
    posts_found s t q h.id seen.point x m lines found by.point (omega arith) sends ∙ ap (λ (y : Queued). (world_of t y m, lines)) (sym left)

-- by its floor

pub decided_floor : (old : PlaneState) (s : SidesState) (q : Queued) (n floor : ℕ) (x : Holding) (f : Waiting) (verdict : Verdict) → record { world = world_of s q n; board = s.board } ≡ old
    → f ≡ x.waiting
    → floor ≡ x.floor → DecidesFloor old.world x (Some verdict) → Decides s.setup.domains (table (take floor s.history)) f.port f.head (message f.bytes f.head) verdict
decided_floor old s q n floor x f verdict was same at is =
    let by : DecidesFloor (world_of s q n) x (Some verdict) = subst (λ (o : PlaneState). DecidesFloor o.world x (Some verdict)) (sym was) is in
    subst (λ (g : Waiting). Decides s.setup.domains (table (take floor s.history)) g.port g.head (message g.bytes g.head) verdict) (sym same)
    (subst (λ i. Decides s.setup.domains (table (take i s.history)) x.waiting.port x.waiting.head (message x.waiting.bytes x.waiting.head) verdict) (sym at) by)

pub posts_floor : (s t : SidesState) (q r : Queued) (id m floor : ℕ) (x : Holding) (f : Waiting) (lines : List Line) → find (λ h. h.waiting.id == id) q.held ≡ Some x → f ≡ x.waiting → floor ≡ x.floor
    → Comes of_sides (λ w. posts w f floor) s m t lines → r ≡ record q { held = filter (λ h. not (h.waiting.id == id)) q.held } → does (world_of s q m) (Post id None) ≡ (world_of t r m, lines)
posts_floor s t q r id m floor x f lines e same at comes left =
    let w = world_of s q m in
    ap (λ o. posts_at w o None) e
    ∙ ap (λ i. posts (lets_go w i) x.waiting x.floor) (eqb-true x.waiting.id id (find-passes (λ h. h.waiting.id == id) q.held x e))
    ∙ ap (λ (g : Waiting). posts (lets_go w id) g x.floor) (sym same)
    ∙ ap (posts (lets_go w id) f) (sym at)
    ∙ comes (record q { held = filter (λ g. not (g.waiting.id == id)) q.held })
    ∙ ap (λ (y : Queued). (world_of t y m, lines)) (sym left)

-- A chip turns; all is published.

-- none is pending
pub turns_none : (s : SidesState) (q : Queued) (dom m : ℕ) (c : Chip) → chip_in s.chips dom ≡ Some c → slice_get (updates s.setup.domains.edition s.history) c.count ≡ None
    → does (world_of s q m) (Turn dom) ≡ (world_of s q m, lines.Refused m NothingPending ∷ [])
turns_none s q dom m c found none =
    ap (turns (world_of s q m)) found
    ∙ ap (turns_to (world_of s q m) c)
    (option_map-none (under_ticket c.count) (deferred_at s.setup.domains.edition s.history c.count) (sym (updates-at s.setup.domains.edition s.history c.count) ∙ none))

-- this one is
pub turns_one : (s t : SidesState) (q : Queued) (dom m : ℕ) (c : Chip) (u : Update) → chip_in s.chips dom ≡ Some c → slice_get (updates s.setup.domains.edition s.history) c.count ≡ Some u
    → t ≡ record s { chips = put_chip s.chips (applies c u.change) } → does (world_of s q m) (Turn dom) ≡ (world_of t q m, lines.Done m 0 ∷ [])
turns_one s t q dom m c u found next is =
    ap (turns (world_of s q m)) found ∙ ap (turns_to (world_of s q m) c) (updates-named s.setup.domains.edition s.history c.count u next).1
    ∙ ap (λ (x : SidesState). (world_of x q m, lines.Done m 0 ∷ [])) (sym is)

-- the ticket of the change that waits for the chip
pub waits_for : (s : SidesState) (q : Queued) (n dom : ℕ) (c : Chip) (o : Option Update) → chip_in s.chips dom ≡ Some c → slice_get (updates s.setup.domains.edition s.history) c.count ≡ o
    → next_ticket (world_of s q n) (chip_at (world_of s q n) dom) ≡ option_map (λ u. u.ticket) o
waits_for s q n dom c o found is =
    ap (next_ticket (world_of s q n)) found ∙ by (deferred_at s.setup.domains.edition s.history c.count)
    ∙ ap (option_map (λ (u : Update). u.ticket)) (sym (updates-at s.setup.domains.edition s.history c.count) ∙ is)
  where
    by : (d : Option Change) → option_map (λ x. c.count) d ≡ option_map (λ (u : Update). u.ticket) (option_map (under_ticket c.count) d)
    by None = refl
    by (Some d) = refl

pub publishes_all : (s t : SidesState) (q : Queued) (m : ℕ) → publishes (world_of s q m) (length s.history) ≡ world_of t q m → does (world_of s q m) Publish ≡ (world_of t q m, lines.Done m 0 ∷ [])
publishes_all s t q m h = ap (λ (w : World). done w) h

-- what a contract says of such a step
pub steps_so : (old : PlaneState) (s t : SidesState) (q r : Queued) (n m : ℕ) (step : Step) (told lines : List Line) → record { world = world_of s q n; board = s.board } ≡ old → m ≡ n + 1
    → does (world_of s q m) step ≡ (world_of t r m, lines) → told ≡ lines → t.board ≡ s.board → Steps old (record { world = world_of t r m; board = t.board }) step told
steps_so old s t q r n m step told lines was e h same board =
    subst (λ (o : PlaneState). Steps o (record { world = world_of t r m; board = t.board }) step told) was (record {
      world = subst (λ i. does (world_of s q i) step ≡ (world_of t r m, lines)) e h ∙ ap (λ ls. (world_of t r m, ls)) (sym same);
      board = board;
    })

-- the pass of a frame that the chip of its port's domain decided
pub passes_by : (w : World) (port dom : ℕ) (bytes : List ℕ) (head : Head) (p : Passed) → domain_of w.setup.domains port ≡ Some dom → is_some (chip_at w dom) ≡ true
    → ((c : Chip) → chip_at w dom ≡ Some c → IsPass w.setup.domains (table_of_chip w c) port head (message bytes head) p)
    → IsPassOf w (chip_of w (domain_of w.setup.domains port)) port bytes head (Some p)
passes_by w port dom bytes head p on there passes = subst (λ o. IsPassOf w (chip_of w o) port bytes head (Some p)) (sym on) (by (chip_at w dom) there passes)
  where
    by : (o : Option Chip) → is_some o ≡ true → ((c : Chip) → o ≡ Some c → IsPass w.setup.domains (table_of_chip w c) port head (message bytes head) p) → IsPassOf w o port bytes head (Some p)
    by None e f = absurd (cc)
    by (Some c) e f = (p, refl, f c refl)

-- the domain has a chip in a world that stands
pub chip_there : (w : World) (dom : ℕ) → IsWorld w → has_chip w.setup.domains dom ≡ true → is_some (chip_at w dom) ≡ true
chip_there w dom k has = chip-there w.chips dom ∙ ap (list_any (λ d. d == dom)) k.doms ∙ has
