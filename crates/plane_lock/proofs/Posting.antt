-- A decision that a seat gave is one of the plane's.
use Rattle.std.proofs.Common.{◌≡◌, ℕ, zero, suc, ◌+◌, ◌≤◌, Bool, true, false, cond, ◌==◌, List, [], ◌∷◌, ◌++◌, length, take, Option, None, Some, Ok, refl, sym, ap, ◌∙◌, subst, arith, length-append}
use Rattle.std.specs.Prelude.{IfSome, IfOk}
use Rattle.std.proofs.lemmas.List.{length-take-le}
use Rattle.std.proofs.lemmas.List.Elements.{recursion_from_All}
use Rattle.std.specs.List.{AllByRecursion, find, last_or}
use Rattle.std.specs.List.Sorted.{IsStrictlySortedBy}
use Rattle.std.specs.Option.{option_map}
use Rattle.std.specs.Ordering.{nat_cmp}
use Rattle.std.specs.declared.cmp.Ordering.TheVariants.{Less}
use Rattle.std.specs.declared.result.Result.{Result}
use Rattle.std.specs.declared.result.Result.TheVariants.{Err}
use Rattle.lemmas.proofs.Orders.{nat_cmp-lt}
use mathlib.Core.List.{IsPrefix}
use Rattle.br_model.specs.declared.steps.Event.TheVariants.{Sight}
use Rattle.br_model.specs.declared.transcript.Line.TheVariants.{Soft}
use Rattle.br_model.specs.Data.Maps.{has}
use Rattle.br_model.specs.Forward.Shares.{soft_out}
use Rattle.br_model.specs.Plane.Serving.{posts_at, lets_go, held_with}
use Rattle.br_model.specs.Plane.Steps.{world_step}
use Rattle.br_model.specs.Plane.World.{World, Waiting, Holding, Stepped, table_at, sent, answered, reacts}
use Rattle.br_model.specs.Table.Domains.{Domains}
use Rattle.br_model.specs.Table.Setup.{Setup}
use Rattle.br_model.specs.Table.Table.{Table, table}
use Rattle.br_model.specs.Theorems.Invariants.{IsWorld, IsFrame, frames_of}
use Rattle.br_model.specs.Wire.Frames.{frame}
use Rattle.br_model.specs.Wire.Messages.{message}
use Rattle.br_model.proofs.Data.OneList.{one-list}
use Rattle.br_model.proofs.Data.Lists.{last-has}
use Rattle.plane_core.specs.Planes.{IsCopy, IsDecision, published_in}
use Rattle.plane_core.specs.Shown.{Shown, opened, shown_by, shown_of}
use Rattle.plane_core.specs.declared.held.Held.{Held}
use Rattle.forward_rules.specs.Decided.{Decides}
use Rattle.table_publish.specs.Object.{Object, Begins, Ascends, AscendsFrom, IsPublished}
use Rattle.table_publish.specs.declared.seat.Seen.{Seen}
use Rattle.plane_record.specs.Pasts.{Past, world_of, post_step}
use Rattle.plane_lock.specs.Posts.{IsSeen, Tells}
use Rattle.plane_record.proofs.Posting.{held-post}
use Rattle.plane_record.proofs.Recording.{world-setup, world-stands}

-- Counts of a published object.

ends : (n : ℕ) (ks : List ℕ) (m : ℕ) → Ascends n ks m → n ≤ m
ends n [] m a = omega (arith, a)
ends n (k ∷ ks) m a = omega (arith, a.0, ends k ks m a.1)

all-above : (n : ℕ) (ks : List ℕ) (m : ℕ) → Ascends n ks m → (i : ℕ) → i ≤ n → AllByRecursion (λ y. nat_cmp i y ≡ Less) ks
all-above n [] m a i le = tt
all-above n (k ∷ ks) m a i le = (nat_cmp-lt i k (omega (arith, a.0, le)), all-above k ks m a.1 i (omega (arith, a.0, le)))

sorted-from : (n : ℕ) (ks : List ℕ) (m : ℕ) → Ascends n ks m → IsStrictlySortedBy nat_cmp ks
unfolding IsStrictlySortedBy
sorted-from n [] m a = tt
sorted-from n (k ∷ ks) m a = (all-above k ks m a.1 k (omega arith), sorted-from k ks m a.1)

sorted-all : (ks : List ℕ) (m : ℕ) → AscendsFrom 0 ks m → IsStrictlySortedBy nat_cmp ks
unfolding IsStrictlySortedBy
sorted-all [] m a = absurd a
sorted-all (k ∷ ks) m a = (all-above k ks m a.1 k (omega arith), sorted-from k ks m a.1)

pub sorted : (o : Object) → IsPublished o → IsStrictlySortedBy nat_cmp o.counts
sorted o p = sorted-all o.counts (length o.changes) p

within-from : (n : ℕ) (ks : List ℕ) (m : ℕ) → Ascends n ks m → AllByRecursion (λ y. y ≤ m) ks
within-from n [] m a = tt
within-from n (k ∷ ks) m a = (ends k ks m a.1, within-from k ks m a.1)

pub within : (o : Object) → IsPublished o → AllByRecursion (λ y. y ≤ length o.changes) o.counts
within o p = by o.counts p
  where
    by : (ks : List ℕ) → AscendsFrom 0 ks (length o.changes) → AllByRecursion (λ y. y ≤ length o.changes) ks
    by [] a = absurd a
    by (k ∷ ks) a = (ends k ks (length o.changes) a.1, within-from k ks (length o.changes) a.1)

-- the last count of a published object is the number of its changes
last-from : (n : ℕ) (ks : List ℕ) (m : ℕ) → Ascends n ks m → last_or (Some n) ks ≡ Some m
last-from n [] m a = ap (λ k. Some k) a
last-from n (k ∷ ks) m a = last-from k ks m a.1

last-count : (ks : List ℕ) (m : ℕ) → AscendsFrom 0 ks m → has nat_cmp ks m ≡ true
last-count [] m a = absurd a
last-count (k ∷ ks) m a = last-has m (k ∷ ks) (last-from k ks m a.1)

pub count-if : (r : Option Seen) (o : Object) → IsPublished o → IfSome r (λ s. s.point ≡ length o.changes) → IfSome r (λ s. has nat_cmp o.counts s.point ≡ true)
count-if None o p h = tt
count-if (Some s) o p h = subst (λ (n : ℕ). has nat_cmp o.counts n ≡ true) (sym h) (last-count o.counts (length o.changes) p)

-- Frames that are held.

held-frame : (P : Waiting → Type 0) (q : Holding → Bool) (held : List Holding) (waiting : List Waiting) (x : Holding) → AllByRecursion P (frames_of held waiting) → find q held ≡ Some x → P x.waiting
held-frame P q [] waiting x all e = absurd (cc)
held-frame P q (h ∷ held) waiting x all e =
    (elim (q h) as (λ b. cond b (Some h) (find q held) ≡ Some x → P x.waiting) [
      | true ↦ λ f. let same : h ≡ x = cc in subst (λ (y : Holding). P y.waiting) same all.0
      | false ↦ λ f. held-frame P q held waiting x all.1 f
    ]) e

pub held-head : (w : World) (id : ℕ) (x : Holding) → IsWorld w → held_with w id ≡ Some x → frame x.waiting.bytes ≡ Ok x.waiting.head
held-head w id x k e =
    (held-frame (IsFrame w.setup.domains w.next) (λ h. h.waiting.id == id) w.held w.waiting x (recursion_from_All (IsFrame w.setup.domains w.next) (frames_of w.held w.waiting) k.frames.frames) e).head

take-take : {A : Type 0} (n m : ℕ) (xs : List A) → n ≤ m → take n (take m xs) ≡ take n xs
take-take zero m xs h = refl
take-take (suc n) zero xs h = absurd (omega arith)
take-take (suc n) (suc m) [] h = refl
take-take (suc n) (suc m) (x ∷ xs) h = ap (λ l. x ∷ l) (take-take n m xs (omega arith))

-- What a seat decided is the plane's decision, where its point is published there: the seat knows by now what begins with both.
pub decides : (k known : Object) (w : World) (h : Held) (x : Holding) (n : Seen) → IsWorld w → IsPublished k → IsPublished known → Begins k known → Begins k (published_in w)
    → IsSeen w.setup.domains known h n → IsCopy w h x → n.point ≤ w.published → IsDecision w x n
decides k known w h x n world pk pn kn kw seen copy le =
    let few : length (take w.published w.history) ≡ w.published = length-take-le w.published w.history world.counts.within in
    let last : last_or None w.counts ≡ Some (length (take w.published w.history)) = world.counts.last ∙ ap (λ m. Some m) (sym few) in
    let r = one-list k.changes known.changes (take w.published w.history) k.counts known.counts w.counts (sorted k pk)
    (within known pn) last kn.changes kw.changes kn.counts kw.counts n.point seen.point (omega (arith, le, few)) in
    let same : take n.point known.changes ≡ take n.point w.history = r.1 ∙ take-take n.point w.published w.history le in
    let bytes : h.bytes ≡ x.waiting.bytes = ap (λ (s : Shown). s.bytes) copy.same in
    let port : h.port ≡ x.waiting.port = ap (λ (s : Shown). s.port) copy.same in
    let head : frame h.bytes ≡ Ok x.waiting.head = ap frame bytes ∙ held-head w h.id x world copy.held in
    record {
      point = r.0;
      verdict =
          subst (λ (y : Table × ℕ × List ℕ). Decides w.setup.domains y.0 y.1 x.waiting.head (message y.2 x.waiting.head) n.verdict) (λ i. (table (same i), port i, bytes i))
          (seen.verdict x.waiting.head head);
    }

-- the same of a past: the seat was told what is published there
pub may-post : (p : Past) (domains : Domains) (own : ℕ) (k known seat : Object) (h : Held) (n : Seen) → p.setup ≡ record { domains = domains; own = own } → IsPublished k → IsPublished known
    → Begins k known
    → Begins k (published_in (world_of p)) → known ≡ seat → IsSeen domains seat h n → (x : Holding) → IsCopy (world_of p) h x → n.point ≤ (world_of p).published → IsDecision (world_of p) x n
may-post p domains own k known seat h n setup pk pn kn kw same seen x copy le =
    let ds : domains ≡ (world_of p).setup.domains = sym (ap (λ (s : Setup). s.domains) (world-setup p ∙ setup)) in
    let by : IsSeen (world_of p).setup.domains known h n = subst (λ (y : Domains × Object). IsSeen y.0 y.1 h n) (λ i. (ds i, sym same i)) seen in
    decides k known (world_of p) h x n (world-stands p) pk pn kn kw by copy le

-- the lines of a post
pub tells : (w : World) (h : Held) (n : Seen) → IsWorld w → ((x : Holding) → IsCopy w h x → n.point ≤ w.published → IsDecision w x n) → h.floor ≤ n.point
    → IfSome (held_with w h.id) (λ x. (shown_by h ≡ shown_of x) × (n.point ≤ w.published)) → Tells w (held_with w h.id) h n.point (world_step w (post_step (held_with w h.id) h.id n.point)).1
tells w h n k may late good = by (held_with w h.id) refl good
  where
    u : World
    u = record w { steps = w.steps + 1 }

    by : (o : Option Holding) → held_with w h.id ≡ o → IfSome o (λ x. (shown_by h ≡ shown_of x) × (n.point ≤ w.published)) → Tells w o h n.point (world_step w (post_step o h.id n.point)).1
    by None none good = ap (λ (o : Option Holding). (posts_at u o None).1) none
    by (Some x) held good =
        let f = x.waiting in
        let known = (may x (record { held = held; same = good.0 }) good.1).point in
        let z = answered (lets_go u f.id) (lets_go u f.id) (reacts (lets_go u f.id) (Sight f.port f.bytes f.head)) in
        let bytes : f.bytes ≡ h.bytes = sym (ap (λ (s : Shown). s.bytes) good.0) in
        record {
          head = f.head;
          is = ap frame (sym bytes) ∙ held-head w h.id x k held;
          rest = z.1;
          so =
              ap (λ (y : Stepped). y.1) (held-post w h x n.point held good.0 known late)
              ∙ ap (λ (s : Shown). Soft s.id n.point ∷ (sent s.id (soft_out w.setup.domains (table_at w n.point) s.port s.bytes f.head s.mark) ++ z.1)) (sym good.0);
        }

-- A frame that is held: its floor isn't above the list of a seat that was told what is published.

prefix-length : {A : Type 0} (xs ys : List A) → IsPrefix xs ys → length xs ≤ length ys
prefix-length xs ys p = let e : length (xs ++ p.0) ≡ length ys = ap length p.1 in omega (arith, e, length-append xs p.0)

floor-known : (w : World) (fs : List Waiting) (held : Option Held) (known : Object) → IsWorld w → Begins known (published_in w) → option_map shown_by held ≡ opened w.published fs
    → IfSome held (λ h. h.floor ≤ length known.changes)
floor-known w fs None known k b e = tt
floor-known w [] (Some h) known k b e = absurd (cc)
floor-known w (f ∷ later) (Some h) known k b e =
    let same : shown_by h ≡ shown_of (record { waiting = f; floor = w.published }) = cc in
    let floor : h.floor ≡ w.published = ap (λ (s : Shown). s.floor) same in
    let few : length (take w.published w.history) ≡ w.published = length-take-le w.published w.history k.counts.within in
    omega (arith, floor, few, prefix-length (take w.published w.history) known.changes b.changes)

pub floors : {E : Type 0} (r : Result (Option Held) E) (p : Past) (known : Object) → Begins known (published_in (world_of p))
    → IfOk r (λ held. option_map shown_by held ≡ opened (world_of p).published (world_of p).waiting) → IfOk r (λ held. IfSome held (λ h. h.floor ≤ length known.changes))
floors (Ok held) p known b e = floor-known (world_of p) (world_of p).waiting held known (world-stands p) b e
floors (Err why) p known b e = tt
