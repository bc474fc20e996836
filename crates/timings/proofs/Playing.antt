-- Worlds that differ in their chips alone stay so, as Linux plays them.
use Rattle.std.proofs.Common.{◌≡◌, ℕ, ◌+◌, true, false, cond, List, [], ◌∷◌, ◌++◌, length, Option, None, Some, refl, sym, ap, ◌∙◌, subst}
use Rattle.std.proofs.lemmas.Bool.{true≢false}
use Rattle.std.proofs.lemmas.List.{append-nil}
use Rattle.std.specs.Prelude.{Bool, nat_lt, is_some, ◌==◌}
use Rattle.std.specs.List.{list_any}
use Rattle.std.specs.declared.result.Result.{Result}
use Rattle.std.specs.declared.result.Result.TheVariants.{Ok, Err}
use Rattle.br_model.specs.declared.frame.Class.{Class}
use Rattle.br_model.specs.declared.frame.Class.TheVariants.{Drop, Trap, Copy, Forward}
use Rattle.br_model.specs.declared.frame.FrameFault.{FrameFault}
use Rattle.br_model.specs.declared.frame.Head.{Head}
use Rattle.br_model.specs.declared.steps.Command.{Command}
use Rattle.br_model.specs.declared.steps.Event.TheVariants as events
use Rattle.br_model.specs.declared.steps.Refusal.{Refusal}
use Rattle.br_model.specs.declared.steps.Refusal.TheVariants.{HistoryFull}
use Rattle.br_model.specs.declared.steps.Step.{Step}
use Rattle.br_model.specs.declared.steps.Step.TheVariants.{Rx, Cmd, Now, Serve, Publish}
use Rattle.br_model.specs.declared.transcript.Line.TheVariants.{Overrun}
use Rattle.br_model.specs.Control.Course.{Course, from}
use Rattle.br_model.specs.Control.Reaction.{Reaction, has_room, in_room, react}
use Rattle.br_model.specs.Forward.Shares.{mark_of}
use Rattle.br_model.specs.Plane.Chip.{Chip, notes}
use Rattle.br_model.specs.Plane.Entering.{chip_of, class_of, enters_as, enters_by, goes_on, waits}
use Rattle.br_model.specs.Plane.Serving.{serves}
use Rattle.br_model.specs.Plane.Steps.{world_step}
use Rattle.br_model.specs.Plane.World.{World, Waiting, Stepped, accepts, answered, reacts, table_of_chip, with_chip}
use Rattle.br_model.specs.Table.DomainPorts.{is_in_domain}
use Rattle.br_model.specs.Table.Domains.{chip_domains, domain_of, software}
use Rattle.br_model.specs.Table.Limits.{most_waiting}
use Rattle.br_model.specs.Table.Table.{table}
use Rattle.br_model.specs.Wire.Frames.{frame}
use Rattle.br_model.specs.Wire.Messages.{message}
use Rattle.br_model.proofs.Plane.Chips.{chip-there, doms}
use Rattle.br_model.proofs.Plane.Worlds.{worlds}
use Rattle.timings.specs.Reading.{is_read}
use Rattle.timings.specs.Timings.{Alike, serving}
use Rattle.timings.proofs.Reading.{chip-port, cut-read, read-trapped, unread-still}
use Rattle.timings.proofs.Turning.{same}

-- a world with other chips
abbrev pub other : World → List Chip → ℕ → List ℕ → World
other w chips steps counts = record w { chips = chips; steps = steps; counts = counts }

pub to-other : (w : World) (chips : List Chip) (steps : ℕ) (counts : List ℕ) → Alike w (other w chips steps counts)
to-other w chips steps counts = record { setup = refl; history = refl; control = refl; published = refl; waiting = refl; held = refl; next = refl }

pub is-other : (w v : World) → Alike w v → other w v.chips v.steps v.counts ≡ v
is-other w v a i = record {
  setup = a.setup i;
  history = a.history i;
  control = a.control i;
  chips = v.chips;
  published = a.published i;
  counts = v.counts;
  waiting = a.waiting i;
  held = a.held i;
  next = a.next i;
  steps = v.steps;
}

pub alike-sym : {w v : World} → Alike w v → Alike v w
alike-sym a = record { setup = sym a.setup; history = sym a.history; control = sym a.control; published = sym a.published; waiting = sym a.waiting; held = sym a.held; next = sym a.next }

pub alike-then : {u w v : World} → Alike u w → Alike w v → Alike u v
alike-then a b = record {
  setup = a.setup ∙ b.setup;
  history = a.history ∙ b.history;
  control = a.control ∙ b.control;
  published = a.published ∙ b.published;
  waiting = a.waiting ∙ b.waiting;
  held = a.held ∙ b.held;
  next = a.next ∙ b.next;
}

-- A step of each kind.

answered-alike : (w : World) (cs : List Chip) (n : ℕ) (ks : List ℕ) (answer : Result Reaction Refusal) → Alike (answered w w answer).0 (answered (other w cs n ks) (other w cs n ks) answer).0
answered-alike w cs n ks (Err why) = to-other w cs n ks
answered-alike w cs n ks (Ok r) = to-other (accepts w r) cs n ks

serves-alike : (w : World) (cs : List Chip) (n : ℕ) (ks : List ℕ) (fs : List Waiting) → Alike (serves w fs).0 (serves (other w cs n ks) fs).0
serves-alike w cs n ks [] = to-other w cs n ks
serves-alike w cs n ks (f ∷ later) =
    let x = record w { waiting = later } in
    answered-alike x cs n ks (reacts x (events.Sight f.port f.bytes f.head))

-- what two such worlds do, whatever the second one is
lifts : (s : Step) → ((w : World) (cs : List Chip) (n : ℕ) (ks : List ℕ) → Alike (world_step w s).0 (world_step (other w cs n ks) s).0) → (w v : World) → Alike w v
    → Alike (world_step w s).0 (world_step v s).0
lifts s h w v a = subst (λ x. Alike (world_step w s).0 (world_step x s).0) (is-other w v a) (h w v.chips v.steps v.counts)

pub cmd-alike : (c : Command) (w v : World) → Alike w v → Alike (world_step w (Cmd c)).0 (world_step v (Cmd c)).0
cmd-alike c = lifts (Cmd c) (λ w cs n ks. let x = record w { steps = w.steps + 1 } in answered-alike x cs (n + 1) ks (reacts x (events.Cmd c)))

pub now-alike : (moment : ℕ) (w v : World) → Alike w v → Alike (world_step w (Now moment)).0 (world_step v (Now moment)).0
now-alike moment = lifts (Now moment) (λ w cs n ks. let x = record w { steps = w.steps + 1 } in answered-alike x cs (n + 1) ks (reacts x (events.Moment moment)))

pub serve-alike : (w v : World) → Alike w v → Alike (world_step w Serve).0 (world_step v Serve).0
serve-alike = lifts Serve (λ w cs n ks. serves-alike (record w { steps = w.steps + 1 }) cs (n + 1) ks w.waiting)

pub publish-alike : (w v : World) → Alike w v → Alike (world_step w Publish).0 (world_step v Publish).0
publish-alike w v a = record {
  setup = a.setup;
  history = a.history;
  control = a.control;
  published = ap length a.history;
  waiting = a.waiting;
  held = a.held;
  next = a.next;
}

-- The end of what Linux plays: a publication, and a serve where a frame waits.

abbrev pub ends : World → World
ends y = worlds y (Publish ∷ serving (world_step y Publish).0.waiting)

serving-alike : (fs : List Waiting) (w v : World) → Alike w v → Alike (worlds w (Publish ∷ serving fs)) (worlds v (Publish ∷ serving fs))
serving-alike [] w v a = publish-alike w v a
serving-alike (f ∷ later) w v a = publish-alike _ _ (serve-alike _ _ (publish-alike w v a))

pub ends-alike : (w v : World) → Alike w v → Alike (ends w) (ends v)
ends-alike w v a = subst (λ fs. Alike (ends w) (worlds v (Publish ∷ serving fs))) a.waiting (serving-alike w.waiting w v a)

-- A frame that waits.

pub waits-alike : (w v : World) (f : Waiting) → Alike w v → Alike (waits w f).0 (waits v f).0
waits-alike w v f a = subst (λ x. Alike (waits w f).0 (waits x f).0) (is-other w v a) (by (nat_lt (length w.waiting + length w.held) most_waiting))
  where
    by : (b : Bool) → Alike (cond {A = Stepped} b (record w { waiting = w.waiting ++ f ∷ [] }, []) (w, Overrun f.id ∷ [])).0
        (cond {A = Stepped} b (record (other w v.chips v.steps v.counts) { waiting = w.waiting ++ f ∷ [] }, []) (other w v.chips v.steps v.counts, Overrun f.id ∷ [])).0
    by true = to-other (record w { waiting = w.waiting ++ f ∷ [] }) v.chips v.steps v.counts
    by false = to-other w v.chips v.steps v.counts

-- A frame that isn't read, in one world.

abbrev pub calm : World → World
calm w = record w { waiting = []; held = [] }

is-calm : (w : World) → w.waiting ≡ [] → w.held ≡ [] → calm w ≡ w
is-calm w waiting held i = record w { waiting = sym waiting i; held = sym held i }

-- a reaction without changes
nothing-alike : (p : World) (answer : Result Reaction Refusal) → answer ≡ in_room p.history (Ok (from (table p.history) p.control)) → Alike (answered p p answer).0 p
nothing-alike p answer e = subst (λ a. Alike (answered p p a).0 p) (sym e) (by (has_room p.history []))
  where
    by : (b : Bool) → Alike (answered p p (cond b (Ok (record { changes = []; control = p.control; messages = [] })) (Err HistoryFull))).0 p
    by true = record { setup = refl; history = append-nil p.history; control = refl; published = refl; waiting = refl; held = refl; next = refl }
    by false = same p

unread-answer : (p : World) (f : Waiting) → is_in_domain p.setup.domains software f.port ≡ false → is_read (table p.history) f.port f.head (message f.bytes f.head) ≡ false
    → reacts p (events.Sight f.port f.bytes f.head) ≡ in_room p.history (Ok (from (table p.history) p.control))
unfolding react
unread-answer p f chip unread =
    ap (λ (r : Course). in_room p.history (Ok r)) (unread-still p.setup f.port f.bytes f.head (from (table p.history) p.control) chip unread)

abbrev pub told : World → World
told w = record w { published = length w.history }

calm-serves : (x : World) (f : Waiting) → is_in_domain x.setup.domains software f.port ≡ false → is_read (table x.history) f.port f.head (message f.bytes f.head) ≡ false
    → Alike (worlds (record (calm x) { waiting = f ∷ [] }) (Publish ∷ Serve ∷ Publish ∷ [])) (told (calm x))
calm-serves x f chip unread =
    let y = (world_step (record (calm x) { waiting = f ∷ [] }) Publish).0 in
    let p = record y { steps = y.steps + 1; waiting = [] } in
    alike-then (publish-alike (answered p p (reacts p (events.Sight f.port f.bytes f.head))).0 p (nothing-alike p (reacts p (events.Sight f.port f.bytes f.head)) (unread-answer p f chip unread)))
    (record { setup = refl; history = refl; control = refl; published = refl; waiting = refl; held = refl; next = refl })

pub calm-goes : (class : Class) (x : World) (f : Waiting) → is_in_domain x.setup.domains software f.port ≡ false → is_read (table x.history) f.port f.head (message f.bytes f.head) ≡ false
    → Alike (ends (goes_on class (calm x) f).0) (told (calm x))
calm-goes Drop x f chip unread = record { setup = refl; history = refl; control = refl; published = refl; waiting = refl; held = refl; next = refl }
calm-goes Forward x f chip unread = record { setup = refl; history = refl; control = refl; published = refl; waiting = refl; held = refl; next = refl }
calm-goes Trap x f chip unread = calm-serves x f chip unread
calm-goes Copy x f chip unread = calm-serves x f chip unread

unread-goes : (class : Class) (x : World) (f : Waiting) → x.waiting ≡ [] → x.held ≡ [] → is_in_domain x.setup.domains software f.port ≡ false
    → is_read (table x.history) f.port f.head (message f.bytes f.head) ≡ false → Alike (ends (goes_on class x f).0) (told x)
unread-goes class x f waiting held chip unread =
    subst (λ y. Alike (ends (goes_on class y f).0) (told y)) (is-calm x waiting held) (calm-goes class x f chip unread)

-- A frame enters, as Linux plays it, in two worlds.

trap-goes : (class : Class) (x : World) (f : Waiting) → class ≡ Trap → goes_on class x f ≡ waits x f
trap-goes class x f e = ap (λ c. goes_on c x f) e

chip-enters-unread : (w : World) (c : Chip) (f : Waiting) → doms w.chips ≡ chip_domains w.setup.domains → w.waiting ≡ [] → w.held ≡ [] → chip_of w (domain_of w.setup.domains f.port) ≡ Some c
    → is_read (table w.history) f.port f.head (message f.bytes f.head) ≡ false → Alike (ends (enters_by w (Some c) f).0) (told w)
chip-enters-unread w c f same_doms waiting held on unread =
    let x = with_chip w (notes (table_of_chip w c) f.port f.head c) in
    alike-then
    (unread-goes (class_of w c f) x (record f { mark = mark_of (class_of w c f) w.setup.domains f.port }) waiting held (chip-port w f.port c same_doms on) unread)
    (record { setup = refl; history = refl; control = refl; published = refl; waiting = refl; held = refl; next = refl })

-- a frame that is read waits, without a mark
chip-enters-read : (w : World) (c : Chip) (f : Waiting) → is_read (table w.history) f.port f.head (message f.bytes f.head) ≡ true
    → (enters_by w (Some c) f).0 ≡ (waits (with_chip w (notes (table_of_chip w c) f.port f.head c)) (record f { mark = None })).0
chip-enters-read w c f read =
    ap (λ k. (goes_on k (with_chip w (notes (table_of_chip w c) f.port f.head c)) (record f { mark = mark_of k w.setup.domains f.port })).0)
    (read-trapped w.setup.domains (table_of_chip w c) f.port f.head (message f.bytes f.head)
    (cut-read w.setup.domains.edition w.history c.count f.port f.head (message f.bytes f.head) ∙ read))

told-alike : (w v : World) → Alike w v → Alike (told w) (told v)
told-alike w v a = record { setup = a.setup; history = a.history; control = a.control; published = ap length a.history; waiting = a.waiting; held = a.held; next = a.next }

module _ (w : World) (cs : List Chip) (n : ℕ) (ks : List ℕ) (in_w : doms w.chips ≡ chip_domains w.setup.domains) (in_v : doms cs ≡ chip_domains w.setup.domains)
    (waiting : w.waiting ≡ []) (held : w.held ≡ []) (f : Waiting) where
  both-there : (o : Option ℕ) → is_some (chip_of w o) ≡ is_some (chip_of (other w cs n ks) o)
  both-there None = refl
  both-there (Some dom) = chip-there w.chips dom ∙ ap (list_any (λ d. d == dom)) (in_w ∙ sym in_v) ∙ sym (chip-there cs dom)

  by-chips : (o p : Option Chip) → chip_of w (domain_of w.setup.domains f.port) ≡ o → chip_of (other w cs n ks) (domain_of w.setup.domains f.port) ≡ p → is_some o ≡ is_some p
      → Alike (ends (enters_by w o f).0) (ends (enters_by (other w cs n ks) p f).0)
  by-chips None None on_w on_v e = ends-alike (waits w f).0 (waits (other w cs n ks) f).0 (waits-alike w (other w cs n ks) f (to-other w cs n ks))
  by-chips None (Some d) on_w on_v e = absurd (true≢false (sym e))
  by-chips (Some c) None on_w on_v e = absurd (true≢false e)
  by-chips (Some c) (Some d) on_w on_v e =
      (elim (is_read (table w.history) f.port f.head (message f.bytes f.head)) as (λ b. is_read (table w.history) f.port f.head (message f.bytes f.head) ≡ b
      → Alike (ends (enters_by w (Some c) f).0) (ends (enters_by v (Some d) f).0)) [
        | true ↦ λ read.
            let x = with_chip w (notes (table_of_chip w c) f.port f.head c) in
            let y = with_chip v (notes (table_of_chip v d) f.port f.head d) in
            ends-alike (enters_by w (Some c) f).0 (enters_by v (Some d) f).0
            (subst (λ z. Alike z (enters_by v (Some d) f).0) (sym (chip-enters-read w c f read))
            (subst (λ z. Alike (waits x (record f { mark = None })).0 z) (sym (chip-enters-read v d f read))
            (waits-alike x y (record f { mark = None }) (record { setup = refl; history = refl; control = refl; published = refl; waiting = refl; held = refl; next = refl }))))
        | false ↦ λ unread.
            alike-then (chip-enters-unread w c f in_w waiting held on_w unread)
            (alike-then (told-alike w v (to-other w cs n ks)) (alike-sym (chip-enters-unread v d f in_v waiting held on_v unread)))
      ]) refl
    where
      v : World
      v = other w cs n ks

frame-enters : (w : World) (cs : List Chip) (n : ℕ) (ks : List ℕ) → doms w.chips ≡ chip_domains w.setup.domains → doms cs ≡ chip_domains w.setup.domains
    → w.waiting ≡ [] → w.held ≡ [] → (id port : ℕ) (bytes : List ℕ) (r : Result Head FrameFault)
    → Alike (ends (enters_as w id port bytes r).0) (ends (enters_as (other w cs n ks) id port bytes r).0)
frame-enters w cs n ks in_w in_v waiting held id port bytes (Err why) = ends-alike w (other w cs n ks) (to-other w cs n ks)
frame-enters w cs n ks in_w in_v waiting held id port bytes (Ok head) =
    let f : Waiting = record { id = id; port = port; bytes = bytes; head = head; mark = None } in
    by-chips w cs n ks in_w in_v waiting held f (chip_of w (domain_of w.setup.domains port)) (chip_of (other w cs n ks) (domain_of w.setup.domains port)) refl refl
    (both-there w cs n ks in_w in_v waiting held f (domain_of w.setup.domains port))

pub rx-alike : (w v : World) → Alike w v → doms w.chips ≡ chip_domains w.setup.domains → doms v.chips ≡ chip_domains v.setup.domains → w.waiting ≡ [] → w.held ≡ [] → (port : ℕ) (bytes : List ℕ)
    → Alike (ends (world_step w (Rx port bytes)).0) (ends (world_step v (Rx port bytes)).0)
rx-alike w v a in_w in_v waiting held port bytes =
    subst (λ x. Alike (ends (world_step w (Rx port bytes)).0) (ends (world_step x (Rx port bytes)).0)) (is-other w v a)
    (frame-enters (record w { steps = w.steps + 1; next = w.next + 1 }) v.chips (v.steps + 1) v.counts in_w (in_v ∙ ap (λ s. chip_domains s.domains) (sym a.setup)) waiting held w.next port bytes (frame bytes))
