-- The fewest turns beside those of any timing: no chip has applied more.
use Rattle.std.proofs.Common.{◌≡◌, ℕ, zero, suc, ◌+◌, ◌-◌, ◌≤◌, ◌<◌, min, true, false, cond, ◌&&◌, List, [], ◌∷◌, take, Option, None, Some, refl, sym, ap, ◌∙◌, subst, arith, option_map, ◌⊎◌, inl, inr, ⊎_elim}
use Rattle.std.proofs.lemmas.Bool.{and_parts, cases_lt, eqb-true, leb-true, true≢false}
use Rattle.std.specs.Prelude.{◌==◌, is_some, nat_le}
use Rattle.std.specs.List.{fold}
use Rattle.std.specs.Option.{option_map_or}
use Rattle.br_model.specs.Plane.Chip.{Chip}
use Rattle.br_model.specs.Plane.Entering.{chip_of}
use Rattle.br_model.specs.Plane.Runs.{pending_of}
use Rattle.br_model.specs.Plane.Sending.{sent_of}
use Rattle.br_model.specs.Plane.World.{World, Stepped, chip_at}
use Rattle.br_model.specs.Table.Domains.{domain_of}
use Rattle.br_model.specs.Table.Setup.{Setup}
use Rattle.br_model.specs.Theorems.Invariants.{IsWorld}
use Rattle.br_model.proofs.Plane.Chips.{chip-dom, chip_of-at}
use Rattle.timings.specs.Explained.{IsFit, Mark, Sees, Applied, Sights, Timing, comes_to, count_at, frame_sent, goes, keeps, observed, stands_from, turns_stand, updates_in}
use Rattle.timings.specs.Greedy.{Answer, Yes, No, explains_from, fits_after, least_from, repeated, turns_ahead, turns_bound, turns_for, with_ahead}
use Rattle.timings.specs.Timings.{Alike, Commands, Comes, Enters, plays, turned}
use Rattle.timings.proofs.Counting.{count-most, plays-counts, repeated-other, repeated-own, some-of, there-alike, there-count, turned-alike, turned-grows, alike-updates, turned-world}
use Rattle.timings.proofs.Least.{least-found, least-least}
use Rattle.timings.proofs.Lines.{SameCounts, own-count}
use Rattle.timings.proofs.Own.{Between, comes-between, fold-later, goes-later, goes-next, next_after, plays-own, turned-between, turned-next}
use Rattle.timings.proofs.Playing.{alike-sym, alike-then}
use Rattle.timings.proofs.Same.{is-fits}
use Rattle.timings.proofs.Timing.{plays-beside}

-- Chips of one count.

options-of : (o p : Option Chip) → is_some o ≡ is_some p → option_map_or (λ (c : Chip). c.count) o 0 ≡ option_map_or (λ (c : Chip). c.count) p 0
    → option_map (λ (c : Chip). c.count) o ≡ option_map (λ (c : Chip). c.count) p
options-of None None there e = refl
options-of None (Some d) there e = absurd (true≢false (sym there))
options-of (Some c) None there e = absurd (true≢false there)
options-of (Some c) (Some d) there e = ap (λ n. Some n) e

pub same-counts : (w v : World) (port : ℕ) → Alike w v → IsWorld w → IsWorld v
    → ((dom : ℕ) → domain_of w.setup.domains port ≡ Some dom → count_at w dom ≡ count_at v dom) → SameCounts w v port
same-counts w v port a k l same =
    by (domain_of w.setup.domains port) refl ∙ ap (λ (s : Setup). option_map (λ (c : Chip). c.count) (chip_of v (domain_of s.domains port))) a.setup
  where
    by : (o : Option ℕ) → domain_of w.setup.domains port ≡ o → option_map (λ (c : Chip). c.count) (chip_of w o) ≡ option_map (λ (c : Chip). c.count) (chip_of v o)
    by None e = refl
    by (Some dom) e = options-of (chip_at w dom) (chip_at v dom) (there-alike w v dom a k l) (same dom e)

-- Two timings, of which the first has applied no more.

pub record Behind (x y : Stepped) : Type 0 where
  pub alike : Alike x.0 y.0
  pub left : Between x
  pub right : Between y
  pub counts : (dom : ℕ) → count_at x.0 dom ≤ count_at y.0 dom

-- the second one's turns
later-turns : (x y : Stepped) (doms : List ℕ) → Behind x y → Behind x (turned y doms)
later-turns x y doms b = record {
  alike = alike-then b.alike (alike-sym (turned-alike y doms));
  left = b.left;
  right = turned-between y doms b.right;
  counts = λ dom. omega (arith, b.counts dom, turned-grows y doms dom b.right.ready.world);
}

-- the first one's
own-turns : (x y : Stepped) (doms : List ℕ) → Behind x y → ((dom : ℕ) → count_at (turned x doms).0 dom ≤ count_at y.0 dom) → Behind (turned x doms) y
own-turns x y doms b fewer = record { alike = alike-then (turned-alike x doms) b.alike; left = turned-between x doms b.left; right = b.right; counts = fewer }

comes-behind : (x y : Stepped) (m : Mark) → Behind x y → Behind (comes_to x m) (comes_to y m)
comes-behind x y (Sees s) b = record {
  alike = (plays-beside x y s (record { alike = b.alike; left = b.left.ready; right = b.right.ready })).alike;
  left = comes-between x (Sees s) b.left;
  right = comes-between y (Sees s) b.right;
  counts = λ dom. omega (arith, plays-counts x s dom, plays-counts y s dom, b.counts dom);
}
comes-behind x y (Applied dom n) b = b

-- What fits.

-- The frame that comes fits, where its id is below this one.
abbrev pub FitsBelow : Sights → ℕ → World → Mark → Type 0
FitsBelow s n w (Sees (Commands c)) = Unit {0}
FitsBelow s n w (Sees (Comes moment)) = Unit {0}
FitsBelow s n w (Sees (Enters port bytes)) = w.next < n → IsFit s w.next (frame_sent w port bytes)
FitsBelow s n w (Applied dom k) = Unit {0}

abbrev pub AllFit : Sights → ℕ → Stepped → Timing → Type 0
AllFit s n x [] = Unit {0}
AllFit s n x (m ∷ later) = FitsBelow s n (turned x m.0).0 m.1 × AllFit s n (goes x m) later

pub after-sent : (x : Stepped) (doms : List ℕ) (port : ℕ) (bytes : List ℕ) → Between x
    → sent_of x.0.next (plays (turned x doms) (Enters port bytes)).1 ≡ frame_sent (turned x doms).0 port bytes
after-sent x doms port bytes b =
    let z = turned x doms in
    ap (λ n. sent_of n (plays z (Enters port bytes)).1) (sym (turned-next x doms)) ∙ plays-own z port bytes (turned-between x doms b).fresh

-- what another world sends that is alike, and of the same count, fits here
fit-after : (s : Sights) (x : Stepped) (v : World) (dom k port : ℕ) (bytes : List ℕ) → Between x → x.0.next ≡ v.next
    → frame_sent (turned x (repeated dom k)).0 port bytes ≡ frame_sent v port bytes → IsFit s v.next (frame_sent v port bytes) → fits_after s x dom port bytes k ≡ true
fit-after s x v dom k port bytes b id same fit =
    let sent = sent_of x.0.next (plays (turned x (repeated dom k)) (Enters port bytes)).1 in
    let its : sent ≡ frame_sent v port bytes = after-sent x (repeated dom k) port bytes b ∙ same in
    is-fits s x.0.next sent (subst (λ n. IsFit s n sent) (sym id) (subst (IsFit s v.next) (sym its) fit))

-- The fewest turns are found, and then the chip has applied no more.
abbrev Found : Sights → Stepped → World → Mark → Type 0
Found s x v m = (doms : List ℕ) × (turns_ahead s x m ≡ Some doms) × ((dom : ℕ) → count_at (turned x doms).0 dom ≤ count_at v dom)

-- of one chip
repeated-fewer : (x y : Stepped) (e k : ℕ) → Behind x y → is_some (chip_at x.0 e) ≡ true → min (count_at x.0 e + k) (updates_in x.0) ≤ count_at y.0 e
    → (dom : ℕ) → count_at (turned x (repeated e k)).0 dom ≤ count_at y.0 dom
repeated-fewer x y e k b there less dom =
    (elim (e == dom) as (λ t. (e == dom) ≡ t → count_at (turned x (repeated e k)).0 dom ≤ count_at y.0 dom) [
      | true ↦ λ is. subst (λ d. count_at (turned x (repeated e k)).0 d ≤ count_at y.0 d) (eqb-true e dom is) (omega (arith, repeated-own x e k b.left.ready.world there, less))
      | false ↦ λ other. omega (arith, repeated-other x e k dom other, b.counts dom)
    ]) refl

module _ (s : Sights) (x y : Stepped) (port : ℕ) (bytes : List ℕ) (b : Behind x y) (fit : IsFit s y.0.next (frame_sent y.0 port bytes)) where
  abbrev FoundAt : Option (List ℕ) → Type 0
  FoundAt o = (doms : List ℕ) × (o ≡ Some doms) × ((dom : ℕ) → count_at (turned x doms).0 dom ≤ count_at y.0 dom)

  no-chip : chip_of x.0 (domain_of x.0.setup.domains port) ≡ None → FoundAt (turns_for s x port bytes None)
  no-chip on =
      let same : SameCounts x.0 y.0 port = same-counts x.0 y.0 port b.alike b.left.ready.world b.right.ready.world (λ dom e. none dom e) in
      let passes = fit-after s x y.0 0 0 port bytes b.left b.alike.next (own-count x.0 y.0 b.alike port bytes same) fit in
      ([], ap (λ t. cond t (Some []) None) passes, b.counts)
    where
      none : (dom : ℕ) → domain_of x.0.setup.domains port ≡ Some dom → count_at x.0 dom ≡ count_at y.0 dom
      none dom e =
          let away : chip_at x.0 dom ≡ None = ap (chip_of x.0) (sym e) ∙ on in
          by (chip_at x.0 dom) (chip_at y.0 dom) away (there-alike x.0 y.0 dom b.alike b.left.ready.world b.right.ready.world)
        where
          by : (o p : Option Chip) → o ≡ None → is_some o ≡ is_some p → option_map_or (λ (c : Chip). c.count) o 0 ≡ option_map_or (λ (c : Chip). c.count) p 0
          by None None away e = refl
          by None (Some d) away e = absurd (true≢false (sym e))
          by (Some c) p away e = absurd (cc)

  module _ (c : Chip) (dom : ℕ) (domain : domain_of x.0.setup.domains port ≡ Some dom) (at : chip_at x.0 dom ≡ Some c) where
    own : c.dom ≡ dom
    own = chip-dom x.0.chips dom c at

    there : is_some (chip_at x.0 c.dom) ≡ true
    there = ap (λ d. is_some (chip_at x.0 d)) own ∙ ap is_some at

    count : count_at x.0 c.dom ≡ c.count
    count = there-count x.0 c.dom c (ap (chip_at x.0) own ∙ at)

    -- how many turns make the second one's count
    abbrev missing : ℕ
    missing = count_at y.0 c.dom - c.count

    most : count_at y.0 c.dom ≤ updates_in x.0
    most = omega (arith, count-most y.0 c.dom b.right.ready.world, alike-updates x.0 y.0 b.alike)

    reached : count_at (turned x (repeated c.dom missing)).0 c.dom ≡ count_at y.0 c.dom
    reached = omega (arith, repeated-own x c.dom missing b.left.ready.world there, count, b.counts c.dom, most)

    passes : fits_after s x c.dom port bytes missing ≡ true
    passes =
        let z = turned x (repeated c.dom missing) in
        let a = alike-then (turned-alike x (repeated c.dom missing)) b.alike in
        let same : SameCounts z.0 y.0 port = same-counts z.0 y.0 port a (turned-world x (repeated c.dom missing) b.left.ready.world) b.right.ready.world
        (λ d e. subst (λ n. count_at z.0 n ≡ count_at y.0 n) (its d e) reached) in
        fit-after s x y.0 c.dom missing port bytes b.left b.alike.next (own-count z.0 y.0 a port bytes same) fit
      where
        its : (d : ℕ) → domain_of (turned x (repeated c.dom missing)).0.setup.domains port ≡ Some d → c.dom ≡ d
        its d e = own ∙ same-some dom d (sym domain ∙ ap (λ (t : Setup). domain_of t.domains port) (sym (turned-alike x (repeated c.dom missing)).setup) ∙ e)
          where
            same-some : (a b : ℕ) → Some a ≡ Some b → a ≡ b
            same-some a b e = ap (λ o. option_map_or (λ (n : ℕ). n) o 0) e

    one-chip : FoundAt (turns_for s x port bytes (Some c))
    one-chip =
        let p = fits_after s x c.dom port bytes in
        let f = some-of (least_from p 0 (pending_of x.0 c)) (least-found p 0 (pending_of x.0 c) missing (omega arith) (omega (arith, most)) passes) in
        let least : f.0 ≤ missing = least-least p 0 (pending_of x.0 c) f.0 f.1 missing (omega arith) passes in (
          repeated c.dom f.0,
          ap (λ o. option_map_or (λ k. Some (repeated c.dom k)) o None) f.1,
          repeated-fewer x y c.dom f.0 b there (omega (arith, least, count, b.counts c.dom)),
        )

  frame-found : (o : Option Chip) → chip_of x.0 (domain_of x.0.setup.domains port) ≡ o → FoundAt (turns_for s x port bytes o)
  frame-found None on = no-chip on
  frame-found (Some c) on = let at = chip_of-at x.0 (domain_of x.0.setup.domains port) c on in one-chip c at.0 at.1 at.2

-- a bound
bound-found : (x y : Stepped) (dom n : ℕ) (o p : Option Chip) → chip_at x.0 dom ≡ o → chip_at y.0 dom ≡ p → Behind x y
    → option_map_or (λ (c : Chip). nat_le (min n (updates_in y.0)) c.count) p true ≡ true → (d : ℕ) → count_at (turned x (turns_bound x.0 n o)).0 d ≤ count_at y.0 d
bound-found x y dom n None p at_x at_y b kept d = b.counts d
bound-found x y dom n (Some c) None at_x at_y b kept d =
    absurd (true≢false (sym (ap is_some at_x) ∙ there-alike x.0 y.0 dom b.alike b.left.ready.world b.right.ready.world ∙ ap is_some at_y))
bound-found x y dom n (Some c) (Some e) at_x at_y b kept d =
    let own : c.dom ≡ dom = chip-dom x.0.chips dom c at_x in
    let here : chip_at x.0 c.dom ≡ Some c = ap (chip_at x.0) own ∙ at_x in
    let beside : count_at y.0 c.dom ≡ e.count = there-count y.0 c.dom e (ap (chip_at y.0) own ∙ at_y) in
    repeated-fewer x y c.dom (min n (updates_in x.0) - c.count) b (ap is_some here)
    (omega (arith, leb-true _ _ kept, there-count x.0 c.dom c here, beside, b.counts c.dom, alike-updates x.0 y.0 b.alike)) d

-- Beside a timing of which the frames below this id fit, the fewest turns are found, or the frame has that id or a later one.
fewest : (s : Sights) (n : ℕ) (x y : Stepped) (m : Mark) → Behind x y → keeps y.0 m ≡ true → FitsBelow s n y.0 m
    → ((n ≤ x.0.next) × (n < next_after x.0.next m)) ⊎ Found s x y.0 m
fewest s n x y (Sees (Commands c)) b kept fit = inr ([], refl, b.counts)
fewest s n x y (Sees (Comes moment)) b kept fit = inr ([], refl, b.counts)
fewest s n x y (Sees (Enters port bytes)) b kept fit =
    ⊎_elim
    (λ (less : y.0.next < n). inr (frame-found s x y port bytes b (fit less) (chip_of x.0 (domain_of x.0.setup.domains port)) refl))
    (λ (le : n ≤ y.0.next). inl (omega (arith, le, b.alike.next), omega (arith, le, b.alike.next)))
    (cases_lt y.0.next n)
fewest s n x y (Applied dom k) b kept fit =
    inr (turns_bound x.0 k (chip_at x.0 dom), refl, bound-found x y dom k (chip_at x.0 dom) (chip_at y.0 dom) refl refl b kept)

-- Over all marks.

-- what an answer says beside a timing of which the frames below this id fit
abbrev pub Beats : ℕ → Stepped → Stepped → Timing → Answer → Type 0
Beats n x y t (Yes g) = (k dom : ℕ) → (fold goes y (take k t)).0.next ≤ n → count_at (fold goes x (take k g)).0 dom ≤ count_at (fold goes y (take k t)).0 dom
Beats n x y t (No id z) = n ≤ id

abbrev NotBefore : ℕ → Answer → Type 0
NotBefore n (Yes g) = Unit {0}
NotBefore n (No id z) = n ≤ id

not-earlier : (a b : ℕ) (m : List ℕ × Mark) (r : Answer) → a ≤ b → NotBefore b r → NotBefore a (with_ahead m r)
not-earlier a b m (Yes g) le h = tt
not-earlier a b m (No id z) le h = omega (arith, le, h)

not-before : (s : Sights) (ms : List Mark) (x : Stepped) → NotBefore x.0.next (explains_from s x ms)
not-before s [] x = tt
not-before s (m ∷ ms) x = by (turns_ahead s x m) (λ z. not-before s ms z)
  where
    by : (o : Option (List ℕ)) → ((z : Stepped) → NotBefore z.0.next (explains_from s z ms))
        → NotBefore x.0.next (option_map_or (λ doms. with_ahead (doms, m) (explains_from s (goes x (doms, m)) ms)) o (No x.0.next x))
    by None h = omega arith
    by (Some doms) h = not-earlier x.0.next (goes x (doms, m)).0.next (doms, m) (explains_from s (goes x (doms, m)) ms) (goes-later x (doms, m)) (h (goes x (doms, m)))

-- where the frame has this id or a later one, nothing behind it is asked
late : (n : ℕ) (x y : Stepped) (m : List ℕ × Mark) (later : Timing) (r : Answer) → Behind x y → n ≤ x.0.next → n < next_after x.0.next m.1 → NotBefore x.0.next r
    → Beats n x y (m ∷ later) r
late n x y m later (No id z) b le less h = omega (arith, le, h)
late n x y m later (Yes g) b le less h = by
  where
    by : Beats n x y (m ∷ later) (Yes g)
    by zero dom small = b.counts dom
    by (suc k) dom small = absurd (omega (arith, small, less, fold-later (goes y m) (take k later), goes-next y m, ap (λ i. next_after i m.1) b.alike.next))

ahead : (n : ℕ) (x y : Stepped) (m : List ℕ × Mark) (doms : List ℕ) (later : Timing) (r : Answer) → Behind x y → Beats n (goes x (doms, m.1)) (goes y m) later r
    → Beats n x y (m ∷ later) (with_ahead (doms, m.1) r)
ahead n x y m doms later (No id z) b h = h
ahead n x y m doms later (Yes g) b h = by
  where
    by : Beats n x y (m ∷ later) (Yes ((doms, m.1) ∷ g))
    by zero dom small = b.counts dom
    by (suc k) dom small = h k dom small

none-ahead : (n : ℕ) (x y : Stepped) → Behind x y → Beats n x y [] (Yes [])
none-ahead n x y b zero dom small = b.counts dom
none-ahead n x y b (suc k) dom small = b.counts dom

pub beats : (s : Sights) (n : ℕ) (t : Timing) (x y : Stepped) → Behind x y → stands_from y t ≡ true → AllFit s n y t → Beats n x y t (explains_from s x (observed t))
beats s n [] x y b stands fit = none-ahead n x y b
beats s n (m ∷ later) x y b stands fit =
    let rest = (and_parts (turns_stand y m.0) (keeps (turned y m.0).0 m.1 && stands_from (goes y m) later) stands).1 in
    let parts = and_parts (keeps (turned y m.0).0 m.1) (stands_from (goes y m) later) rest in
    let c = later-turns x y m.0 b in
    ⊎_elim
    (λ (over : (n ≤ x.0.next) × (n < next_after x.0.next m.1)). late n x y m later (explains_from s x (observed (m ∷ later))) b over.0 over.1 (not-before s (observed (m ∷ later)) x))
    (λ (f : Found s x (turned y m.0).0 m.1).
    subst (λ o. Beats n x y (m ∷ later) (option_map_or (λ doms. with_ahead (doms, m.1) (explains_from s (goes x (doms, m.1)) (observed later))) o (No x.0.next x))) (sym f.1)
    (ahead n x y m f.0 later (explains_from s (goes x (f.0, m.1)) (observed later)) b
    (beats s n later (goes x (f.0, m.1)) (goes y m) (comes-behind (turned x f.0) (turned y m.0) m.1 (own-turns x (turned y m.0) f.0 c f.2)) parts.1 fit.1)))
    (fewest s n x (turned y m.0) m.1 c parts.0 fit.0)
