-- A frame that enters a settled bridge, and is sent before another change is accepted, leaves as by one bridge.
use Rattle.std.proofs.Common.{◌≡◌, ℕ, suc, ◌+◌, ◌<◌, ◌≤◌, Bool, true, false, cond, List, [], ◌∷◌, ◌++◌, map, length, take, Option, None, Some, refl, sym, ap, ◌∙◌, arith, subst, ◌⊎◌, inl, inr, ⊎_elim}
use Rattle.std.proofs.lemmas.Bool.{both_ways, eq-eqb, or_parts}
use Rattle.std.proofs.lemmas.List.{append-nil, take_all}
use Rattle.std.proofs.lemmas.List.Folds.{list_any-append}
use Rattle.std.specs.Prelude.{◌==◌, nat_lt}
use Rattle.std.specs.List.{filter, fold, list_any}
use Rattle.std.specs.declared.result.Result.TheVariants.{Ok}
use Rattle.br_model.specs.declared.change.Change.{Change}
use Rattle.br_model.specs.declared.frame.Class.{Class}
use Rattle.br_model.specs.declared.frame.Class.TheVariants.{Drop, Trap, Copy, Forward}
use Rattle.br_model.specs.declared.frame.Head.{Head}
use Rattle.br_model.specs.declared.steps.Step.{Step}
use Rattle.br_model.specs.declared.steps.Step.TheVariants.{Rx}
use Rattle.br_model.specs.declared.transcript.Line.{Line}
use Rattle.br_model.specs.declared.transcript.Line.TheVariants.{Overrun}
use Rattle.br_model.specs.declared.steps.Step.TheVariants.{Rx}
use Rattle.br_model.specs.declared.steps.Step.{Step}
use Rattle.br_model.specs.Plane.Chip.{notes, Chip}
use Rattle.br_model.specs.Forward.Class.{class}
use Rattle.br_model.specs.Table.Cut.{deferred_count}
use Rattle.br_model.specs.Table.Domains.{Domains, domain_of}
use Rattle.br_model.specs.Wire.Frames.{frame}
use Rattle.br_model.specs.Forward.Leave.{leave}
use Rattle.br_model.specs.Table.Limits.{most_waiting}
use Rattle.br_model.specs.Wire.Messages.{message}
use Rattle.br_model.specs.Table.Setup.{Setup}
use Rattle.br_model.specs.Forward.Shares.{chip_out, mark_of, soft_out}
use Rattle.br_model.specs.Table.Table.{Table, table}
use Rattle.br_model.specs.Theorems.Agreement.{is_there, is_overrun, IsSettled, IsUndisturbed}
use Rattle.br_model.specs.Plane.Entering.{waits, goes_on, enters_chip, enters_as, class_of, enters_by, chip_of}
use Rattle.br_model.specs.Theorems.FrameLines.{IsDecidedAt}
use Rattle.br_model.specs.Theorems.Invariants.{frames_of, IsWorld}
use Rattle.br_model.specs.Plane.Runs.{run, then_step}
use Rattle.br_model.specs.Plane.Sending.{Sent, in_port_order, sent_of, software_share}
use Rattle.br_model.specs.Plane.Steps.{world_step}
use Rattle.br_model.specs.Plane.World.{World, Waiting, Holding, Stepped, table_at, table_of_chip, sent, with_chip}
use Rattle.br_model.proofs.Table.Cuts.{cut-all}
use Rattle.br_model.proofs.Plane.Applied.{run-world}
use Rattle.br_model.proofs.Plane.Chips.{chip_of-declared}
use Rattle.br_model.proofs.Plane.Fates.{sent_of-append, sent_of-sent, found-push, goes_on-silent, hold_entry, wait_entry, waiting_found, found, found-free, found-taken}
use Rattle.br_model.proofs.Plane.Fates.{Fate, idle, entered, taken, gone, said-none, said-held, said-soft, step-effect, same-entry}
use Rattle.br_model.proofs.Plane.Kept.{step-world}
use Rattle.br_model.proofs.Data.Lists.{up-to-last, has-up-to}
use Rattle.br_model.proofs.Plane.Once.{run-lines}
use Rattle.br_model.proofs.Plane.Shares.{all-kept, ascends-leave, order-stays, together}
use Rattle.br_model.proofs.Plane.Worlds.{run-append}

-- Whether a frame is there.

waiting-there : (id : ℕ) (fs : List Waiting) → list_any (λ f. f.id == id) fs ≡ false → waiting_found id fs ≡ []
waiting-there id [] h = refl
waiting-there id (f ∷ fs) h =
    let parts = or_parts (f.id == id) (list_any (λ g. g.id == id) fs) h in
    ap (λ b. map wait_entry (cond b (f ∷ filter (λ g. g.id == id) fs) (filter (λ g. g.id == id) fs))) parts.0 ∙ waiting-there id fs parts.1

none-there : (id : ℕ) (held : List Holding) (waiting : List Waiting) → list_any (λ f. f.id == id) (frames_of held waiting) ≡ false → found id held waiting ≡ []
none-there id [] waiting h = waiting-there id waiting h
none-there id (g ∷ held) waiting h =
    let parts = or_parts (g.waiting.id == id) (list_any (λ f. f.id == id) (frames_of held waiting)) h in
    ap (λ b. map hold_entry (cond b (g ∷ filter (λ k. k.waiting.id == id) held) (filter (λ k. k.waiting.id == id) held)) ++ waiting_found id waiting) parts.0 ∙ none-there id held waiting parts.1

-- what is found is there
found-there : (id : ℕ) (w : World) (e : Waiting × Option ℕ) → found id w.held w.waiting ≡ e ∷ [] → is_there id w ≡ true
found-there id w e is = by (is_there id w) refl
  where
    by : (b : Bool) → is_there id w ≡ b → b ≡ true
    by true h = refl
    by false h = absurd (cc (sym (none-there id w.held w.waiting h) ∙ is))

-- After it has entered.

module _ (id : ℕ) (domains : Domains) (h : List Change) (t : Table) (is-table : t ≡ table h) (f : Waiting) (out all : Sent)
    (whole : in_port_order (out ++ soft_out domains t f.port f.bytes f.head f.mark) ≡ all) where
  abbrev IsFrom : Option ℕ → Type 0
  IsFrom None = Unit {0}
  IsFrom (Some floor) = floor ≡ length h

  -- the chip has sent its share, and the rest is to come
  record IsPending (x : Stepped) : Type 0 where
    from : Option ℕ
    there : found id x.0.held x.0.waiting ≡ (f, from) ∷ []
    floor : IsFrom from
    published : x.0.published ≡ length h
    sent : sent_of id x.1 ≡ out

  -- all is sent
  record IsSent (x : Stepped) : Type 0 where
    gone : found id x.0.held x.0.waiting ≡ []
    sent : in_port_order (sent_of id x.1) ≡ all

  -- by which count it is decided
  the-point : (w : World) (o : Option ℕ) (point : ℕ) → IsWorld w → w.published ≡ length h → IsFrom o → IsDecidedAt w o point → point ≡ length h
  the-point w None point k p from d = d ∙ p
  the-point w (Some floor) point k p from d = omega (arith, p, from, d.1, has-up-to point w.published w.counts (up-to-last w.published w.counts k.counts.ascend k.counts.last) d.0)

  module _ (x : Stepped) (step : Step) (k : IsWorld x.0) (own : x.0.setup.domains ≡ domains) where
    abbrev v : World
    v = (world_step x.0 step).0

    abbrev new : List Line
    new = (world_step x.0 step).1

    pending-by : x.0.history ≡ h → (is_there id v ≡ true → v.history ≡ h) → IsPending x → (v.published ≡ x.0.published) ⊎ (v.published ≡ length v.history) → Fate id x.0 v new
        → IsPending (then_step x step) ⊎ IsSent (then_step x step)
    pending-by now later p counts (idle there nothing) =
        let stays = there ∙ p.there in
        inl (record {
          from = p.from;
          there = stays;
          floor = p.floor;
          published = ⊎_elim (λ (e : v.published ≡ x.0.published). e ∙ p.published) (λ (e : v.published ≡ length v.history). e ∙ ap length (later (found-there id v (f, p.from) stays))) counts;
          sent = sent_of-append id x.1 new ∙ ap (λ (l : Sent). sent_of id x.1 ++ l) (said-none id new nothing) ∙ append-nil (sent_of id x.1) ∙ p.sent;
        })
    pending-by now later p counts (entered o is more says once settled) = absurd (omega (arith, is, found-taken id x.0 (f, p.from) k p.there))
    pending-by now later p counts (taken g was is says) =
        let same = same-entry (found id x.0.held x.0.waiting) (g, None) (f, p.from) was p.there in
        let stays : found id v.held v.waiting ≡ (f, Some x.0.published) ∷ [] = is ∙ ap (λ (e : Waiting × Option ℕ). (e.0, Some x.0.published) ∷ []) same in
        inl (record {
          from = Some x.0.published;
          there = stays;
          floor = p.published;
          published = ⊎_elim (λ (e : v.published ≡ x.0.published). e ∙ p.published)
              (λ (e : v.published ≡ length v.history). e ∙ ap length (later (found-there id v (f, Some x.0.published) stays))) counts;
          sent = sent_of-append id x.1 new ∙ ap (λ (l : Sent). sent_of id x.1 ++ l) (said-held id x.0.published new says) ∙ append-nil (sent_of id x.1) ∙ p.sent;
        })
    pending-by now later p counts (gone g o point was is decided says) =
        let same = same-entry (found id x.0.held x.0.waiting) (g, o) (f, p.from) was p.there in
        let at : point ≡ length h = the-point x.0 o point k p.published (subst IsFrom (sym (ap (λ (e : Waiting × Option ℕ). e.1) same)) p.floor) decided in
        let tables : table_at x.0 point ≡ t = (λ i. table (take (at i) (now i))) ∙ ap table (take_all (length h) h (omega arith)) ∙ sym is-table in
        let sends = said-soft id point _ new says in
        inr (record {
          gone = is;
          sent = ap in_port_order (sent_of-append id x.1 new ∙ (λ i. p.sent i ++ sends i)
              ∙ (λ i. out ++ soft_out (own i) (tables i) (same i).0.port (same i).0.bytes (same i).0.head (same i).0.mark)) ∙ whole;
        })

    sent-by : id < x.0.next → IsSent x → Fate id x.0 v new → IsSent (then_step x step)
    sent-by less s (idle there nothing) = record {
      gone = there ∙ s.gone;
      sent = ap in_port_order (sent_of-append id x.1 new ∙ ap (λ (l : Sent). sent_of id x.1 ++ l) (said-none id new nothing) ∙ append-nil (sent_of id x.1)) ∙ s.sent;
    }
    sent-by less s (entered o is more says once settled) = absurd (omega (arith, is, less))
    sent-by less s (taken g was is nothing) = absurd (cc (sym s.gone ∙ was))
    sent-by less s (gone g o point was is decided says) = absurd (cc (sym s.gone ∙ was))

  agrees : (x : Stepped) (steps : List Step) → IsWorld x.0 → x.0.setup.domains ≡ domains → id < x.0.next
      → ((n : ℕ) → is_there id (fold then_step x (take n steps)).0 ≡ true → (fold then_step x (take n steps)).0.history ≡ h)
      → is_there id (fold then_step x steps).0 ≡ false → IsPending x ⊎ IsSent x → in_port_order (sent_of id (fold then_step x steps).1) ≡ all
  agrees x [] k own less same end (inl p) = absurd (both_ways (is_there id x.0) end (found-there id x.0 (f, p.from) p.there))
  agrees x [] k own less same end (inr s) = s.sent
  agrees x (step ∷ steps) k own less same end (inl p) =
      let e = step-effect id x.0 step k in
      agrees (then_step x step) steps (step-world x.0 step k) (ap (λ (s : Setup). s.domains) e.setup ∙ own) (omega (arith, less, e.next)) (λ n. same (suc n)) end
      (pending-by x step k own (same 0 (found-there id x.0 (f, p.from) p.there)) (same 1) p e.published e.fate)
  agrees x (step ∷ steps) k own less same end (inr s) =
      let e = step-effect id x.0 step k in
      agrees (then_step x step) steps (step-world x.0 step k) (ap (λ (s : Setup). s.domains) e.setup ∙ own) (omega (arith, less, e.next)) (λ n. same (suc n)) end
      (inr (sent-by x step k own less s e.fate))

-- what software sends of a frame without a mark
unmarked-whole : (domains : Domains) (t : Table) (port : ℕ) (bytes : List ℕ) (head : Head) → in_port_order ([] ++ soft_out domains t port bytes head None) ≡ leave t port bytes head
unmarked-whole domains t port bytes head = ap in_port_order (all-kept (leave t port bytes head)) ∙ order-stays (leave t port bytes head) (ascends-leave t port bytes head)

-- When it enters.

module _ (w : World) (port : ℕ) (bytes : List ℕ) (head : Head) (k : IsWorld w) (chip : Chip) (on : chip_of w (domain_of w.setup.domains port) ≡ Some chip) where
  abbrev u : World
  u = record w { next = w.next + 1; steps = w.steps + 1 }

  abbrev f : Waiting
  f = record { id = w.next; port = port; bytes = bytes; head = head; mark = None }

  abbrev t : Table
  t = table_of_chip w chip

  abbrev share : Sent
  share = chip_out w.setup.domains t port bytes head

  abbrev one : Sent
  one = leave t port bytes head

  -- the chip's notes are taken, and the frame has its mark
  abbrev noted : World
  noted = with_chip u (notes t port head chip)

  abbrev marked : Class → Waiting
  marked c = record f { mark = mark_of c w.setup.domains port }

  abbrev enters-as : Class → Stepped
  enters-as c = enters_chip u chip c f

  says : (c : Class) → sent_of w.next (enters-as c).1 ≡ share
  says c =
      sent_of-sent w.next w.next share (goes_on c noted (marked c)).1 (goes_on-silent c w.next noted (marked c)).silent ∙ ap (λ b. cond b share []) (eq-eqb w.next w.next refl)

  free : found w.next w.held w.waiting ≡ []
  free = found-free w.next w k (omega arith)

  finds-room : (c : Class) → list_any (is_overrun w.next) (enters-as c).1 ≡ false → list_any (is_overrun w.next) (goes_on c noted (marked c)).1 ≡ false
  finds-room c h =
      let end = (goes_on c noted (marked c)).1 in
      (or_parts (list_any (is_overrun w.next) (sent w.next share)) (list_any (is_overrun w.next) end) (sym (list_any-append (is_overrun w.next) (sent w.next share) end) ∙ h)).1

  waits-there : (g : Waiting) → g.id ≡ w.next → list_any (is_overrun w.next) (waits noted g).1 ≡ false → found w.next (waits noted g).0.held (waits noted g).0.waiting ≡ (g, None) ∷ []
  waits-there g own =
      elim (nat_lt (length w.waiting + length w.held) most_waiting) as
      (λ b. list_any (is_overrun w.next) (cond {A = Stepped} b (record noted { waiting = w.waiting ++ g ∷ [] }, []) (noted, Overrun g.id ∷ [])).1 ≡ false
      → found w.next (cond {A = Stepped} b (record noted { waiting = w.waiting ++ g ∷ [] }, []) (noted, Overrun g.id ∷ [])).0.held
      (cond {A = Stepped} b (record noted { waiting = w.waiting ++ g ∷ [] }, []) (noted, Overrun g.id ∷ [])).0.waiting ≡ (g, None) ∷ []) [
        | true ↦ λ h. found-push w.next w.held w.waiting g ∙ (λ i. free i ++ cond (eq-eqb g.id w.next own i) ((g, None) ∷ []) [])
        | false ↦ λ h. absurd (both_ways (g.id == w.next) (or_parts (g.id == w.next) false h).0 (eq-eqb g.id w.next own))
      ]

  module _ (before : List Line) (fresh : sent_of w.next before ≡ []) (applied : deferred_count w.setup.domains.edition w.history ≤ chip.count) (published : w.published ≡ length w.history) where
    is-table : t ≡ table w.history
    is-table = ap table (cut-all w.setup.domains.edition w.history chip.count applied)

    abbrev after-entry : Class → Stepped
    after-entry c = ((enters-as c).0, before ++ (enters-as c).1)

    said : (c : Class) → sent_of w.next (after-entry c).1 ≡ share
    said c = sent_of-append w.next before (enters-as c).1 ∙ (λ i. fresh i ++ says c i)

    both : (c : Class) → class w.setup.domains t port head (message bytes head) ≡ c → in_port_order (share ++ software_share c w.setup.domains t port bytes head) ≡ one
    both c is = ap (λ d. in_port_order (share ++ software_share d w.setup.domains t port bytes head)) (sym is)
        ∙ together w.setup.domains t port bytes head (chip_of-declared w (domain_of w.setup.domains port) chip on)

    -- a frame that goes no further is sent
    is-sent : (c : Class) → in_port_order (share ++ []) ≡ one → found w.next (enters-as c).0.held (enters-as c).0.waiting ≡ []
        → IsSent w.next w.setup.domains w.history t is-table f [] one (unmarked-whole w.setup.domains t port bytes head) (after-entry c)
    is-sent c whole nowhere = record { gone = nowhere; sent = ap in_port_order (said c ∙ sym (append-nil share)) ∙ whole }

    -- one that goes on waits
    is-pending : (c : Class) (whole : in_port_order (share ++ soft_out w.setup.domains t port bytes head (mark_of c w.setup.domains port)) ≡ one)
        → found w.next (enters-as c).0.held (enters-as c).0.waiting ≡ (marked c, None) ∷ [] → IsPending w.next w.setup.domains w.history t is-table (marked c) share one whole (after-entry c)
    is-pending c whole there = record { from = None; there = there; floor = tt; published = (goes_on-silent c w.next noted (marked c)).published ∙ published; sent = said c }

    module _ (after : List Step) where
      -- what is asked of the steps that follow
      abbrev Follows : Stepped → Type 0
      Follows z =
          IsWorld z.0 → list_any (is_overrun w.next) z.1 ≡ false → ((n : ℕ) → is_there w.next (fold then_step z (take n after)).0 ≡ true → (fold then_step z (take n after)).0.history ≡ w.history)
          → is_there w.next (fold then_step z after).0 ≡ false → in_port_order (sent_of w.next (fold then_step z after).1) ≡ one

      domains-stay : (c : Class) → (enters-as c).0.setup.domains ≡ w.setup.domains
      domains-stay c = ap (λ (s : Setup). s.domains) (goes_on-silent c w.next noted (marked c)).setup

      id-taken : (c : Class) → w.next < (enters-as c).0.next
      id-taken c = omega (arith, (goes_on-silent c w.next noted (marked c)).next)

      room-in : (c : Class) → list_any (is_overrun w.next) (after-entry c).1 ≡ false → list_any (is_overrun w.next) (goes_on c noted (marked c)).1 ≡ false
      room-in c h =
          finds-room c (or_parts (list_any (is_overrun w.next) before) (list_any (is_overrun w.next) (enters-as c).1) (sym (list_any-append (is_overrun w.next) before (enters-as c).1) ∙ h)).1

      follows : (c : Class) → class w.setup.domains t port head (message bytes head) ≡ c → Follows (after-entry c)
      follows Drop is k1 room same end =
          agrees w.next w.setup.domains w.history t is-table f [] one (unmarked-whole w.setup.domains t port bytes head) (after-entry Drop) after k1 (domains-stay Drop) (id-taken Drop) same end
          (inr (is-sent Drop (both Drop is) free))
      follows Trap is k1 room same end =
          agrees w.next w.setup.domains w.history t is-table (marked Trap) share one (both Trap is) (after-entry Trap) after k1 (domains-stay Trap) (id-taken Trap) same end
          (inl (is-pending Trap (both Trap is) (waits-there (marked Trap) refl (room-in Trap room))))
      follows Copy is k1 room same end =
          agrees w.next w.setup.domains w.history t is-table (marked Copy) share one (both Copy is) (after-entry Copy) after k1 (domains-stay Copy) (id-taken Copy) same end
          (inl (is-pending Copy (both Copy is) (waits-there (marked Copy) refl (room-in Copy room))))
      follows Forward is k1 room same end =
          agrees w.next w.setup.domains w.history t is-table f [] one (unmarked-whole w.setup.domains t port bytes head) (after-entry Forward) after k1 (domains-stay Forward)
          (id-taken Forward) same end
          (inr (is-sent Forward (both Forward is) free))

      entry-is : frame bytes ≡ Ok head → world_step w (Rx port bytes) ≡ enters-as (class_of u chip f)
      entry-is e = ap (enters_as u w.next port bytes) e ∙ ap (λ o. enters_by u o f) on

      pub enters-agrees : frame bytes ≡ Ok head → Follows (then_step (w, before) (Rx port bytes))
      enters-agrees e = subst Follows (sym (ap (λ (y : Stepped). (y.0, before ++ y.1)) (entry-is e))) (follows (class_of u chip f) refl)

-- lines that are said stay
said-before : (p : Line → Bool) (x : Stepped) (steps : List Step) → list_any p (fold then_step x steps).1 ≡ false → list_any p x.1 ≡ false
said-before p x [] h = h
said-before p x (step ∷ steps) h =
    let new = (world_step x.0 step).1 in
    (or_parts (list_any p x.1) (list_any p new) (sym (list_any-append p x.1 new) ∙ said-before p (then_step x step) steps h)).0

pub agreement : (setup : Setup) (before after : List Step) (port : ℕ) (bytes : List ℕ) (head : Head) → frame bytes ≡ Ok head → IsSettled (run setup before).0 port
    → IsUndisturbed setup before port bytes after
    → in_port_order (sent_of (run setup before).0.next (run setup (before ++ Rx port bytes ∷ after)).1) ≡ leave (table (run setup before).0.history) port bytes head
agreement setup before after port bytes head e settled undisturbed =
    let w = (run setup before).0 in
    let lines = (run setup before).1 in
    let k = run-world setup before in
    let chip = settled.chip in
    let on = settled.on_chip in
    let applied : deferred_count w.setup.domains.edition w.history ≤ chip.count = omega (arith, settled.applied) in
    let fresh = (run-lines setup before).fresh w.next (omega arith) in
    let next = then_step (w, lines) (Rx port bytes) in
    let more = λ (steps : List Step). run-append setup before (Rx port bytes ∷ steps) in
    ap (λ (x : Stepped). in_port_order (sent_of w.next x.1)) (more after)
    ∙ enters-agrees w port bytes head k chip on lines fresh applied settled.published after e
    (step-world w (Rx port bytes) k)
    (said-before (is_overrun w.next) next after (ap (λ (x : Stepped). list_any (is_overrun w.next) x.1) (sym (more after)) ∙ undisturbed.room))
    (λ n there. ap (λ (x : Stepped). x.0.history) (sym (more (take n after))) ∙ undisturbed.same n (ap (λ (x : Stepped). is_there w.next x.0) (more (take n after)) ∙ there))
    (ap (λ (x : Stepped). is_there w.next x.0) (sym (more after)) ∙ undisturbed.gone)
    ∙ ap (λ t. leave t port bytes head) (is-table w port bytes head k chip on lines fresh applied settled.published)
