-- The lines of a frame in the transcript of a run, from its entry on.
use Rattle.std.proofs.Common.{◌≡◌, ℕ, ◌+◌, ◌<◌, ◌≤◌, Bool, true, false, cond, List, [], ◌∷◌, ◌++◌, length, take, Option, None, Some}
use Rattle.std.proofs.Common.{refl, sym, ap, ◌∙◌, arith, subst, append_assoc, ◌⊎◌, inl, inr, ⊎_elim}
use Rattle.std.proofs.lemmas.Bool.{cases_lt, eq-eqb}
use Rattle.std.proofs.lemmas.List.{append-nil, take-append-le}
use Rattle.std.specs.Prelude.{nat_lt}
use Rattle.std.specs.List.{fold}
use Rattle.std.specs.Ordering.{nat_cmp}
use Rattle.std.specs.declared.result.Result.TheVariants.{Ok, Err}
use Rattle.br_model.specs.declared.frame.Class.{Class}
use Rattle.br_model.specs.declared.frame.Class.TheVariants.{Drop, Trap, Copy, Forward}
use Rattle.br_model.specs.declared.frame.FrameFault.{FrameFault}
use Rattle.br_model.specs.declared.frame.Head.{Head}
use Rattle.br_model.specs.declared.steps.Step.{Step}
use Rattle.br_model.specs.declared.steps.Step.TheVariants.{Rx}
use Rattle.br_model.specs.declared.transcript.Line.{Line}
use Rattle.br_model.specs.declared.transcript.Line.TheVariants as lines
use Rattle.br_model.specs.Data.Maps.{has}
use Rattle.br_model.specs.Forward.Shares.{chip_out, mark_of, soft_out}
use Rattle.br_model.specs.Plane.Chip.{Chip, notes}
use Rattle.br_model.specs.Plane.Serving.{is_point}
use Rattle.br_model.specs.Plane.Entering.{waits, goes_on, enters_chip, enters_as, class_of, enters_by, chip_of}
use Rattle.br_model.specs.Plane.Runs.{run, then_step}
use Rattle.br_model.specs.Plane.Sending.{Sent}
use Rattle.br_model.specs.Plane.Steps.{world_step}
use Rattle.br_model.specs.Plane.World.{World, Waiting, Stepped, first_world, sent, table_of_chip, with_chip, answered, reacts}
use Rattle.br_model.specs.Control.Reaction.{Reaction}
use Rattle.br_model.specs.declared.steps.Event.TheVariants as events
use Rattle.br_model.specs.declared.steps.Refusal.{Refusal}
use Rattle.std.specs.declared.result.Result.{Result}
use Rattle.br_model.specs.Table.Domains.{domain_of}
use Rattle.br_model.specs.Table.Limits.{most_waiting}
use Rattle.br_model.specs.Table.Setup.{Setup}
use Rattle.br_model.specs.Table.Table.{table}
use Rattle.br_model.specs.Theorems.FrameLines as c
use Rattle.br_model.specs.Theorems.FrameLines.{lines_of, places, IsPoint, InSoftware, chip_lines, soft_lines, Comes, Follows, may_wait, ByChip, BySoftware, EntersIn, IsDecidedAt, Moves, entering}
use Rattle.br_model.specs.Theorems.Invariants.{IsWorld}
use Rattle.br_model.specs.Wire.Frames.{frame}
use Rattle.br_model.proofs.Plane.Growing.{step-grows}
use Rattle.br_model.proofs.Plane.Applied.{run-setup, run-world}
use Rattle.br_model.proofs.Plane.Fates.{Fate, idle, entered, taken, gone, lines_of-append, lines-same, found-push, found-free, found-taken, goes_on-silent, Effect, step-effect, same-entry}
use Rattle.br_model.proofs.Plane.Kept.{first-world, step-world}
use Rattle.br_model.proofs.Plane.StepEnds.{Ends, does-ends, ends_answered, ends_applied, ends_entered, ends_held, ends_idle, ends_published, ends_refused, ends_sent, ends_unread}
use Rattle.br_model.proofs.Data.Lists.{has-up-to, last-has, up-to-last}
use Rattle.br_model.proofs.Plane.Stays.{step-counts}
use Rattle.br_model.proofs.Plane.Worlds.{run-append}

up-to-published : (w : World) (n : ℕ) → IsWorld w → has nat_cmp w.counts n ≡ true → n ≤ w.published
up-to-published w n k there = has-up-to n w.published w.counts (up-to-last w.published w.counts k.counts.ascend k.counts.last) there

-- A step that comes when the frame has entered.

module _ (w : World) (step : Step) (k : IsWorld w) where
  abbrev v : World
  v = (world_step w step).0

  abbrev new : List Line
  new = (world_step w step).1

  point-stays : (since n : ℕ) → IsPoint w since n → IsPoint v since n
  point-stays since n h = (step-counts w step n h.0, h.1)

  now-published : has nat_cmp w.counts w.published ≡ true
  now-published = last-has w.published w.counts k.counts.last

  published-grows : w.published ≤ v.published
  published-grows = up-to-published v w.published (step-world w step k) (step-counts w step w.published now-published)

  soft-stays : (f : Waiting) (point : ℕ) → has nat_cmp w.counts point ≡ true → v.setup ≡ w.setup → soft_lines w f point ≡ soft_lines v f point
  soft-stays f point there setup =
      let grown = step-grows w step in
      let least : point ≤ length w.history = omega (arith, up-to-published w point k there, k.counts.within) in
      let same : take point w.history ≡ take point v.history = sym (take-append-le point w.history grown.0 least) ∙ ap (take point) grown.1 in
      λ i. lines.Soft f.id point ∷ sent f.id (soft_out (sym setup i).domains (table (same i)) f.port f.bytes f.head f.mark)

  -- a frame that isn't there stays away
  stays-away : (id : ℕ) → id < w.next → places id w ≡ [] → Fate id w v new → (places id v ≡ []) × (lines_of id new ≡ [])
  stays-away id less away (idle same silent) = (same ∙ away, silent)
  stays-away id less away (entered out is more says once settled) = absurd (omega (arith, is, less))
  stays-away id less away (taken g was is says) = absurd (cc (sym away ∙ was))
  stays-away id less away (gone g o point was is decided says) = absurd (cc (sym away ∙ was))

  module _ (since : ℕ) (f : Waiting) (told : List Line) (less : f.id < w.next) (le : since ≤ w.published) (setup : v.setup ≡ w.setup) where
    abbrev NowStands : Type 0
    NowStands = InSoftware since v f (told ++ lines_of f.id new)

    pub goes : InSoftware since w f told → Fate f.id w v new → NowStands
    goes (c.waits there none) (idle same silent) = c.waits (same ∙ there) (λ i. none i ++ silent i)
    goes (c.waits there none) (entered out is more says once settled) = absurd (omega (arith, is, less))
    goes (c.waits there none) (taken g was is says) =
        let e = same-entry (places f.id w) (g, None) (f, None) was there in
        c.holds w.published (is ∙ (λ i. ((e i).0, Some w.published) ∷ [])) (point-stays since w.published (now-published, le)) (λ i. none i ++ says i)
    goes (c.waits there none) (gone g o point was is decided says) =
        let e = same-entry (places f.id w) (g, o) (f, None) was there in
        let at : point ≡ w.published = subst (λ (x : Option ℕ). IsDecidedAt w x point) (ap (λ (x : Waiting × Option ℕ). x.1) e) decided in
        let of_point : has nat_cmp w.counts point ≡ true = subst (λ (n : ℕ). has nat_cmp w.counts n ≡ true) (sym at) now-published in
        c.serves point is (point-stays since point (of_point, omega (arith, at, le)))
        ((λ i. none i ++ says i)
        ∙ (λ i. lines.Soft f.id point ∷ sent f.id (soft_out w.setup.domains (table (take point w.history)) (e i).0.port (e i).0.bytes (e i).0.head (e i).0.mark))
        ∙ soft-stays f point of_point setup)
    goes (c.holds floor there is_point says_held) (idle same silent) = c.holds floor (same ∙ there) (point-stays since floor is_point) (λ i. says_held i ++ silent i)
    goes (c.holds floor there is_point says_held) (entered out is more says once settled) = absurd (omega (arith, is, less))
    goes (c.holds floor there is_point says_held) (taken g was is says) =
        let e = same-entry (places f.id w) (g, None) (f, Some floor) was there in
        let no : None ≡ Some floor = ap (λ (x : Waiting × Option ℕ). x.1) e in
        absurd (cc no)
    goes (c.holds floor there is_point says_held) (gone g o point was is decided says) =
        let e = same-entry (places f.id w) (g, o) (f, Some floor) was there in
        let at : IsPoint w floor point = subst (λ (x : Option ℕ). IsDecidedAt w x point) (ap (λ (x : Waiting × Option ℕ). x.1) e) decided in
        c.posts floor point is (point-stays since floor is_point) (point-stays floor point at)
        ((λ i. says_held i ++ says i)
        ∙ (λ i. lines.Held f.id floor ∷ lines.Soft f.id point ∷ sent f.id (soft_out w.setup.domains (table (take point w.history)) (e i).0.port (e i).0.bytes (e i).0.head (e i).0.mark))
        ∙ ap (λ (l : List Line). lines.Held f.id floor ∷ l) (soft-stays f point at.0 setup))
    goes (c.serves point away is_point says) fate =
        let stays = stays-away f.id less away fate in
        c.serves point stays.0 (point-stays since point is_point) ((λ i. says i ++ stays.1 i) ∙ append-nil (soft_lines w f point) ∙ soft-stays f point is_point.0 setup)
    goes (c.posts floor point away is_floor is_point says) fate =
        let stays = stays-away f.id less away fate in
        c.posts floor point stays.0 (point-stays since floor is_floor) (point-stays floor point is_point)
        ((λ i. says i ++ stays.1 i) ∙ append-nil (lines.Held f.id floor ∷ soft_lines w f point) ∙ ap (λ (l : List Line). lines.Held f.id floor ∷ l) (soft-stays f point is_point.0 setup))

-- Any steps.

-- the lines of a frame, of which these came first
abbrev Told : List Line → ℕ → (World → List Line → Type 0) → Stepped → Type 0
Told first id P x = (later : List Line) × ((lines_of id x.1 ≡ first ++ later) × P x.0 later)

more-told : (first : List Line) (id : ℕ) (told new later : List Line) → lines_of id told ≡ first ++ later → lines_of id (told ++ new) ≡ first ++ (later ++ lines_of id new)
more-told first id told new later e = lines_of-append id told new ∙ ap (λ (l : List Line). l ++ lines_of id new) e ∙ append_assoc first later (lines_of id new)

software : (first : List Line) (since : ℕ) (f : Waiting) (x : Stepped) (steps : List Step) → IsWorld x.0 → f.id < x.0.next → since ≤ x.0.published
    → Told first f.id (λ w l. InSoftware since w f l) x → Told first f.id (λ w l. InSoftware since w f l) (fold then_step x steps)
software first since f x [] k less le t = t
software first since f x (step ∷ steps) k less le t =
    let e = step-effect f.id x.0 step k in
    software first since f (then_step x step) steps (step-world x.0 step k) (omega (arith, less, e.next)) (omega (arith, le, published-grows x.0 step k))
    (t.0 ++ lines_of f.id (world_step x.0 step).1, (more-told first f.id x.1 (world_step x.0 step).1 t.0 t.1.0, goes x.0 step k since f t.0 less le e.setup t.1.1 e.fate))

-- the frame isn't there, and these are its lines
abbrev IsAway : ℕ → List Line → World → List Line → Type 0
IsAway id all w told = (places id w ≡ []) × (told ≡ all)

away : (first : List Line) (id : ℕ) (all : List Line) (x : Stepped) (steps : List Step) → IsWorld x.0 → id < x.0.next → Told first id (IsAway id all) x
    → Told first id (IsAway id all) (fold then_step x steps)
away first id all x [] k less t = t
away first id all x (step ∷ steps) k less t =
    let e = step-effect id x.0 step k in
    let stays = stays-away x.0 step k id less t.1.1.0 e.fate in
    away first id all (then_step x step) steps (step-world x.0 step k) (omega (arith, less, e.next))
    (t.0 ++ lines_of id (world_step x.0 step).1, (more-told first id x.1 (world_step x.0 step).1 t.0 t.1.0, (stays.0, ap (λ (l : List Line). t.0 ++ l) stays.1 ∙ append-nil t.0 ∙ t.1.1.1)))

coming : (room : Bool) (first : List Line) (since : ℕ) (f : Waiting) (x : Stepped) (steps : List Step) → IsWorld x.0 → f.id < x.0.next → since ≤ x.0.published
    → Told first f.id (λ w l. Comes room since w f l) x → Told first f.id (λ w l. Comes room since w f l) (fold then_step x steps)
coming true first since f x steps k less le t = software first since f x steps k less le t
coming false first since f x steps k less le t = away first f.id (lines.Overrun f.id ∷ []) x steps k less t

following : (class : Class) (w : World) (first : List Line) (f : Waiting) (x : Stepped) (steps : List Step) → IsWorld x.0 → f.id < x.0.next → w.published ≤ x.0.published
    → Told first f.id (λ v l. Follows class w v f l) x → Told first f.id (λ v l. Follows class w v f l) (fold then_step x steps)
following Drop w first f x steps k less le t = away first f.id [] x steps k less t
following Trap w first f x steps k less le t = coming (may_wait w) first w.published (record f { mark = mark_of Trap w.setup.domains f.port }) x steps k less le t
following Copy w first f x steps k less le t = coming (may_wait w) first w.published (record f { mark = mark_of Copy w.setup.domains f.port }) x steps k less le t
following Forward w first f x steps k less le t = away first f.id [] x steps k less t

-- Before it enters.

none-yet : (id : ℕ) (x : Stepped) (steps : List Step) → IsWorld x.0 → (x.0.next ≤ id → lines_of id x.1 ≡ []) → (fold then_step x steps).0.next ≤ id → lines_of id (fold then_step x steps).1 ≡ []
none-yet id x [] k h = h
none-yet id x (step ∷ steps) k h =
    none-yet id (then_step x step) steps (step-world x.0 step k)
    (λ le. lines_of-append id x.1 (world_step x.0 step).1 ∙ (λ i. h (omega (arith, le, e.next)) i ++ by e.fate le i))
  where
    e : Effect id x.0 (world_step x.0 step).0 (world_step x.0 step).1
    e = step-effect id x.0 step k

    by : Fate id x.0 (world_step x.0 step).0 (world_step x.0 step).1 → (world_step x.0 step).0.next ≤ id → lines_of id (world_step x.0 step).1 ≡ []
    by (idle same silent) le = silent
    by (entered out is more says once settled) le = absurd (omega (arith, is, more, le))
    by (taken g was is says) le = absurd (omega (arith, found-taken id x.0 (g, None) k was, e.next, le))
    by (gone g o point was is decided says) le = absurd (omega (arith, found-taken id x.0 (g, o) k was, e.next, le))

pub run-none : (setup : Setup) (steps : List Step) (id : ℕ) → (run setup steps).0.next ≤ id → lines_of id (run setup steps).1 ≡ []
unfolding run
run-none setup steps id le = none-yet id (first_world setup, []) steps (first-world setup) (λ h. refl) le

-- When it enters.

module _ (w : World) (k : IsWorld w) (chips : List Chip) where
  abbrev u : World
  u = record w { chips = chips; next = w.next + 1; steps = w.steps + 1 }

  comes : (g : Waiting) → g.id ≡ w.next → Comes (may_wait w) w.published (waits u g).0 g (lines_of g.id (waits u g).1)
  comes g own =
      let free : places g.id w ≡ [] = found-free g.id w k (omega (arith, own)) in
      elim (nat_lt (length w.waiting + length w.held) most_waiting) as (λ b. Comes b w.published
      (cond {A = Stepped} b (record u { waiting = w.waiting ++ g ∷ [] }, []) (u, lines.Overrun g.id ∷ [])).0 g
      (lines_of g.id (cond {A = Stepped} b (record u { waiting = w.waiting ++ g ∷ [] }, []) (u, lines.Overrun g.id ∷ [])).1)) [
        | true ↦ c.waits (found-push g.id w.held w.waiting g ∙ (λ i. free i ++ cond (eq-eqb g.id g.id refl i) ((g, None) ∷ []) [])) refl
        | false ↦ (free, ap (λ b. cond b (lines.Overrun g.id ∷ []) []) (eq-eqb g.id g.id refl))
      ]

-- what is so right after the entry, whose lines these are
record Entered (w : World) (first : List Line) (P : World → List Line → Type 0) (y : Stepped) : Type 0 where
  next : w.next < y.0.next
  published : w.published ≤ y.0.published
  told : Told first w.next P y

module _ (w : World) (k : IsWorld w) (port : ℕ) (bytes : List ℕ) (head : Head) where
  abbrev f : Waiting
  f = entering w port bytes head

  abbrev numbered : World
  numbered = record w { next = w.next + 1; steps = w.steps + 1 }

  enters-software : Entered w [] (λ v l. Comes (may_wait w) w.published v f l) (waits numbered f)
  enters-software =
      let j = goes_on-silent Trap w.next numbered f in
      record { next = omega (arith, j.next); published = omega (arith, j.published); told = (lines_of w.next (waits numbered f).1, (refl, comes w k w.chips f refl)) }

  module _ (chip : Chip) where
    abbrev out : Sent
    out = chip_out w.setup.domains (table_of_chip w chip) port bytes head

    abbrev noted : World
    noted = with_chip numbered (notes (table_of_chip w chip) port head chip)

    abbrev marked : Class → Waiting
    marked class = record f { mark = mark_of class w.setup.domains port }

    abbrev first : Class → List Line
    first class = lines.Chip w.next (length w.history) chip.count class ∷ sent w.next out

    all-first : (class : Class) → lines_of w.next (first class) ≡ first class
    all-first class =
        let own = eq-eqb w.next w.next refl in
        let head_line = lines.Chip w.next (length w.history) chip.count class in
        ap (λ b. cond b (head_line ∷ lines_of w.next (sent w.next out)) (lines_of w.next (sent w.next out))) own ∙ ap (λ (l : List Line). head_line ∷ l) (lines-same w.next w.next out own)

    follows-on : (class : Class) → Follows class w (goes_on class noted (marked class)).0 f (lines_of w.next (goes_on class noted (marked class)).1)
    follows-on Drop = (found-free w.next w k (omega arith), refl)
    follows-on Trap = comes w k noted.chips (marked Trap) refl
    follows-on Copy = comes w k noted.chips (marked Copy) refl
    follows-on Forward = (found-free w.next w k (omega arith), refl)

    enters-chip : (class : Class) → Entered w (first class) (λ v l. Follows class w v f l) (enters_chip numbered chip class f)
    enters-chip class =
        let j = goes_on-silent class w.next noted (marked class) in
        let end = (goes_on class noted (marked class)).1 in
        record {
          next = omega (arith, j.next);
          published = omega (arith, j.published);
          told = (lines_of w.next end, (lines_of-append w.next (first class) end ∙ ap (λ (l : List Line). l ++ lines_of w.next end) (all-first class), follows-on class));
        }

all-told : (room : Bool) (since : ℕ) (f : Waiting) (y : Stepped) → Told [] f.id (λ v l. Comes room since v f l) y → Comes room since y.0 f (lines_of f.id y.1)
all-told room since f y t = subst (λ (l : List Line). Comes room since y.0 f l) (sym t.1.0) t.1.1

-- Whole runs.

module _ (setup : Setup) (before after : List Step) (port : ℕ) (bytes : List ℕ) where
  abbrev x : Stepped
  x = run setup before

  abbrev w : World
  w = x.0

  abbrev y : Stepped
  y = world_step w (Rx port bytes)

  k : IsWorld w
  k = run-world setup before

  -- the lines before are of other frames
  told-after : (own : List Line) (P : World → List Line → Type 0) → Told own w.next P y → Told own w.next P (then_step x (Rx port bytes))
  told-after own P t = (t.0, (lines_of-append w.next x.1 y.1 ∙ (λ i. run-none setup before w.next (omega arith) i ++ t.1.0 i), t.1.1))

  whole : run setup (before ++ Rx port bytes ∷ after) ≡ fold then_step (then_step x (Rx port bytes)) after
  whole = run-append setup before (Rx port bytes ∷ after)

  pub by-chip : (head : Head) (chip : Chip) → frame bytes ≡ Ok head → chip_of w (domain_of setup.domains port) ≡ Some chip
      → ByChip w chip (entering w port bytes head) (run setup (before ++ Rx port bytes ∷ after))
  by-chip head chip e on =
      let f = entering w port bytes head in
      let class = class_of w chip f in
      let there : chip_of w (domain_of w.setup.domains port) ≡ Some chip = ap (λ (s : Setup). chip_of w (domain_of s.domains port)) (run-setup setup before) ∙ on in
      let u : World = record w { next = w.next + 1; steps = w.steps + 1 } in
      let is : y ≡ enters_chip u chip class f = ap (enters_as u w.next port bytes) e ∙ ap (λ o. enters_by u o f) there in
      let now : Entered w (chip_lines w chip f) (λ v l. Follows class w v f l) y =
      subst (Entered w (chip_lines w chip f) (λ v l. Follows class w v f l)) (sym is) (enters-chip w k port bytes head chip class) in
      let t = following class w (chip_lines w chip f) f (then_step x (Rx port bytes)) after (step-world w (Rx port bytes) k) now.next now.published
      (told-after (chip_lines w chip f) (λ v l. Follows class w v f l) now.told) in
      subst (ByChip w chip f) (sym whole) (record { later = t.0; all = t.1.0; follows = t.1.1 })

  pub by-software : (head : Head) → frame bytes ≡ Ok head → chip_of w (domain_of setup.domains port) ≡ None
      → BySoftware w (entering w port bytes head) (run setup (before ++ Rx port bytes ∷ after))
  by-software head e on =
      let f = entering w port bytes head in
      let there : chip_of w (domain_of w.setup.domains port) ≡ None = ap (λ (s : Setup). chip_of w (domain_of s.domains port)) (run-setup setup before) ∙ on in
      let u : World = record w { next = w.next + 1; steps = w.steps + 1 } in
      let is : y ≡ waits u f = ap (enters_as u w.next port bytes) e ∙ ap (λ o. enters_by u o f) there in
      let now : Entered w [] (λ v l. Comes (may_wait w) w.published v f l) y = subst (Entered w [] (λ v l. Comes (may_wait w) w.published v f l)) (sym is) (enters-software w k port bytes head) in
      let t = coming (may_wait w) [] w.published f (then_step x (Rx port bytes)) after (step-world w (Rx port bytes) k) now.next now.published
      (told-after [] (λ v l. Comes (may_wait w) w.published v f l) now.told) in
      subst (BySoftware w f) (sym whole) (all-told (may_wait w) w.published f (fold then_step (then_step x (Rx port bytes)) after) t)

  pub unread : (why : FrameFault) → frame bytes ≡ Err why → lines_of w.next (run setup (before ++ Rx port bytes ∷ after)).1 ≡ lines.Unread w.next why ∷ []
  unread why e =
      let u : World = record w { next = w.next + 1; steps = w.steps + 1 } in
      let is : y ≡ (u, lines.Unread w.next why ∷ []) = ap (enters_as u w.next port bytes) e in
      let own : lines_of w.next (lines.Unread w.next why ∷ []) ≡ lines.Unread w.next why ∷ [] = ap (λ b. cond b (lines.Unread w.next why ∷ []) []) (eq-eqb w.next w.next refl) in
      let now : Entered w [] (IsAway w.next (lines.Unread w.next why ∷ [])) y = subst (Entered w [] (IsAway w.next (lines.Unread w.next why ∷ []))) (sym is)
      (record { next = omega arith; published = omega arith; told = (lines_of w.next (lines.Unread w.next why ∷ []), (refl, (found-free w.next w k (omega arith), own))) }) in
      let t = away [] w.next (lines.Unread w.next why ∷ []) (then_step x (Rx port bytes)) after (step-world w (Rx port bytes) k) now.next
      (told-after [] (IsAway w.next (lines.Unread w.next why ∷ [])) now.told) in
      ap (λ (z : Stepped). lines_of w.next z.1) whole ∙ t.1.0 ∙ t.1.1.1

pub step-moves : (setup : Setup) (steps : List Step) (step : Step) (f : Waiting) (floor : Option ℕ) → places f.id (run setup steps).0 ≡ (f, floor) ∷ []
    → Moves (run setup steps).0 f floor (world_step (run setup steps).0 step)
step-moves setup steps step f floor there = by (step-effect f.id w step k).fate
  where
    w : World
    w = (run setup steps).0

    k : IsWorld w
    k = run-world setup steps

    by : Fate f.id w (world_step w step).0 (world_step w step).1 → Moves w f floor (world_step w step)
    by (idle same silent) = c.stays (same ∙ there) silent
    by (entered out is more says once settled) = absurd (omega (arith, is, found-taken f.id w (f, floor) k there))
    by (taken g was is says) =
        let e = same-entry (places f.id w) (g, None) (f, floor) was there in
        c.is_held (ap (λ (x : Waiting × Option ℕ). x.1) (sym e)) (is ∙ (λ i. ((e i).0, Some w.published) ∷ [])) says
    by (gone g o point was is decided says) =
        let e = same-entry (places f.id w) (g, o) (f, floor) was there in
        c.is_sent point is (subst (λ (x : Option ℕ). IsDecidedAt w x point) (ap (λ (x : Waiting × Option ℕ). x.1) e) decided)
        (says ∙ (λ i. lines.Soft f.id point ∷ sent f.id (soft_out w.setup.domains (table (take point w.history)) (e i).0.port (e i).0.bytes (e i).0.head (e i).0.mark)))

pub zero-none : (setup : Setup) (steps : List Step) → lines_of 0 (run setup steps).1 ≡ []
unfolding run
zero-none setup steps =
    let t = away [] 0 [] (first_world setup, []) steps (first-world setup) (omega arith) ([], (refl, (refl, refl))) in
    t.1.0 ∙ t.1.1.1

-- Each id is one of a frame that entered: ids count from 1, and a frame takes the next one.

answered-next : (before after : World) (answer : Result Reaction Refusal) → after.next ≡ before.next → (answered before after answer).0.next ≡ before.next
answered-next before after (Err why) same = refl
answered-next before after (Ok r) same = same

-- a frame enters by the step, which takes an id
abbrev IsEntry : World → Step → World → Type 0
IsEntry w step v = (port : ℕ) × ((bytes : List ℕ) × ((step ≡ Rx port bytes) × (v.next ≡ w.next + 1)))

ends-next : (w : World) {step : Step} {y : Stepped} → Ends w step y → (y.0.next ≡ w.next) ⊎ IsEntry w step y.0
ends-next w (ends_refused why) = inl refl
ends-next w (ends_unread port bytes why is) = inr (port, (bytes, (refl, refl)))
ends-next w (ends_entered port bytes n) = inr (port, (bytes, (refl, refl)))
ends-next w (ends_held f later is) = inl refl
ends-next w (ends_sent f held waiting point leaves) =
    let v = record w { held = held; waiting = waiting } in inl (answered-next v v (reacts v (events.Sight f.port f.bytes f.head)) refl)
ends-next w (ends_applied dom c d at is) = inl refl
ends-next w (ends_idle dom) = inl refl
ends-next w (ends_answered chips e by) = inl (answered-next w (record w { chips = chips }) (reacts w e) refl)
ends-next w ends_published = inl refl

takes-id : (w : World) (step : Step) → ((world_step w step).0.next ≡ w.next) ⊎ IsEntry w step (world_step w step).0
takes-id w step = let u = record w { steps = w.steps + 1 } in ends-next u (does-ends u step)

-- where among the steps the frame with this id enters
abbrev EntryAmong : Stepped → List Step → ℕ → Type 0
EntryAmong x steps id =
    (before : List Step) × ((port : ℕ) × ((bytes : List ℕ) × ((after : List Step) × ((steps ≡ before ++ Rx port bytes ∷ after) × ((fold then_step x before).0.next ≡ id)))))

entry-among : (x : Stepped) (steps : List Step) (id : ℕ) → x.0.next ≤ id → id < (fold then_step x steps).0.next → EntryAmong x steps id
entry-among x [] id le less = absurd (omega (arith, le, less))
entry-among x (step ∷ steps) id le less =
    ⊎_elim
    (λ (here : id < (world_step x.0 step).0.next). now here (takes-id x.0 step))
    (λ (later : (world_step x.0 step).0.next ≤ id).
    let e = entry-among (then_step x step) steps id later less in
    (step ∷ e.0, (e.1.0, (e.1.1.0, (e.1.1.1.0, (ap (λ (l : List Step). step ∷ l) e.1.1.1.1.0, e.1.1.1.1.1))))))
    (cases_lt id (world_step x.0 step).0.next)
  where
    now : id < (world_step x.0 step).0.next → ((world_step x.0 step).0.next ≡ x.0.next) ⊎ IsEntry x.0 step (world_step x.0 step).0 → EntryAmong x (step ∷ steps) id
    now here (inl same) = absurd (omega (arith, same, here, le))
    now here (inr entry) = ([], (entry.0, (entry.1.0, (steps, (ap (λ (s : Step). s ∷ steps) entry.1.1.0, omega (arith, entry.1.1.1, here, le))))))

pub run-entry : (setup : Setup) (steps : List Step) (id : ℕ) → 1 ≤ id → id < (run setup steps).0.next → EntersIn setup steps id
unfolding run
run-entry setup steps id le less =
    let e = entry-among (first_world setup, []) steps id le less in
    record { before = e.0; port = e.1.0; bytes = e.1.1.0; after = e.1.1.1.0; parts = e.1.1.1.1.0; next = e.1.1.1.1.1 }
