-- The fewest turns are a timing, and explain what they are asked to.
use Rattle.std.proofs.Common.{◌≡◌, ℕ, zero, suc, ◌+◌, ◌-◌, ◌≤◌, ◌<◌, min, true, false, cond, Bool, not, ◌&&◌, List, [], ◌∷◌, ◌++◌, Option, None, Some, refl, sym, ap, ◌∙◌, subst, arith, ⊎_elim}
use Rattle.std.proofs.lemmas.Bool.{cases_lt, le-leb, ne_eqb}
use Rattle.std.proofs.lemmas.Option.{same_Some}
use Rattle.std.specs.Prelude.{◌==◌, is_some, nat_le}
use Rattle.std.specs.List.{fold}
use Rattle.std.specs.Option.{option_map_or}
use Rattle.br_model.specs.declared.steps.Step.TheVariants.{Turn}
use Rattle.br_model.specs.Plane.Chip.{Chip}
use Rattle.br_model.specs.Plane.Entering.{chip_of}
use Rattle.br_model.specs.Plane.Runs.{pending_of, then_step}
use Rattle.br_model.specs.Plane.Sending.{sent_of}
use Rattle.br_model.specs.Plane.World.{Stepped, chip_at}
use Rattle.br_model.specs.Table.Domains.{domain_of}
use Rattle.br_model.specs.Theorems.Invariants.{IsWorld}
use Rattle.br_model.proofs.Plane.Chips.{chip-dom, chip_of-at}
use Rattle.br_model.proofs.Plane.Kept.{chip-stands, step-world}
use Rattle.timings.specs.Explained.{IsFit, Mark, Sees, Applied, Sights, Timing, count_at, frame_sent, goes, has_update, keeps, observed, stands_from, turns_stand, updates_in}
use Rattle.timings.specs.Greedy.{Answer, Yes, No, explains_from, fits_after, least_from, repeated, turns_ahead, turns_bound, turns_for, with_ahead}
use Rattle.timings.specs.Timings.{Commands, Comes, Enters, plays, turned}
use Rattle.timings.proofs.Counting.{alike-updates, repeated-own, some-of, there-alike, there-count, turn-own, turned-alike, turned-updates, turned-world}
use Rattle.timings.proofs.Exchange.{AllFit, FitsBelow, after-sent}
use Rattle.timings.proofs.Least.{least-passes, least-within}
use Rattle.timings.proofs.Own.{Between, fold-own, goes-between, goes-later, goes-next, turned-next}
use Rattle.timings.proofs.Same.{fits-is}
use Rattle.timings.proofs.Turning.{turn-alike}

-- so many turns of one chip, where as many updates wait
repeated-stand : (x : Stepped) (dom n : ℕ) → IsWorld x.0 → is_some (chip_at x.0 dom) ≡ true → count_at x.0 dom + n ≤ updates_in x.0 → turns_stand x (repeated dom n) ≡ true
repeated-stand x dom zero k there le = refl
repeated-stand x dom (suc n) k there le =
    let y = then_step x (Turn dom) in
    let l = step-world x.0 (Turn dom) k in
    let a = turn-alike x.0 dom in
    let c = some-of (chip_at x.0 dom) there in
    let count : count_at x.0 dom ≡ c.0.count = there-count x.0 dom c.0 c.1 in
    let waits : has_update x.0 dom ≡ true =
    ap (λ (o : Option Chip). option_map_or (λ c. not (pending_of x.0 c == 0)) o false) c.1 ∙ ap not (ne_eqb (pending_of x.0 c.0) 0 (λ none. omega (arith, le, count, none))) in
    let rest : turns_stand y (repeated dom n) ≡ true =
    repeated-stand y dom n l (there-alike y.0 x.0 dom a l k ∙ there)
    (omega (arith, le, count, turn-own x.0 dom c.0 c.1 (chip-stands x.0 dom c.0 k c.1).applied, alike-updates y.0 x.0 a)) in
    λ i. waits i && rest i

-- what is so of the turns that are found
record Chosen (s : Sights) (x : Stepped) (m : Mark) (doms : List ℕ) : Type 0 where
  stand : turns_stand x doms ≡ true
  kept : keeps (turned x doms).0 m ≡ true
  fit : (n : ℕ) → FitsBelow s n (turned x doms).0 m

after-fits : (s : Sights) (x : Stepped) (dom k port : ℕ) (bytes : List ℕ) → Between x → fits_after s x dom port bytes k ≡ true
    → IsFit s (turned x (repeated dom k)).0.next (frame_sent (turned x (repeated dom k)).0 port bytes)
after-fits s x dom k port bytes b e =
    let z = turned x (repeated dom k) in
    let sent = sent_of x.0.next (plays z (Enters port bytes)).1 in
    subst (λ n. IsFit s n (frame_sent z.0 port bytes)) (sym (turned-next x (repeated dom k)))
    (subst (IsFit s x.0.next) (after-sent x (repeated dom k) port bytes b) (fits-is s x.0.next sent e))

-- a frame's
module _ (s : Sights) (x : Stepped) (port : ℕ) (bytes : List ℕ) (b : Between x) where
  passed : (dom k : ℕ) → turns_stand x (repeated dom k) ≡ true → fits_after s x dom port bytes k ≡ true → Chosen s x (Sees (Enters port bytes)) (repeated dom k)
  passed dom k stand e = record { stand = stand; kept = refl; fit = λ n less. after-fits s x dom k port bytes b e }

  frame-chosen : (o : Option Chip) (doms : List ℕ) → chip_of x.0 (domain_of x.0.setup.domains port) ≡ o → turns_for s x port bytes o ≡ Some doms → Chosen s x (Sees (Enters port bytes)) doms
  frame-chosen None doms on e =
      (elim (fits_after s x 0 port bytes 0) as (λ t. fits_after s x 0 port bytes 0 ≡ t → cond t (Some []) None ≡ Some doms → Chosen s x (Sees (Enters port bytes)) doms) [
        | true ↦ λ passes f. subst (Chosen s x (Sees (Enters port bytes))) (same_Some [] doms f) (passed 0 0 refl passes)
        | false ↦ λ passes f. absurd (cc)
      ]) refl e
  frame-chosen (Some c) doms on e = by (least_from p 0 (pending_of x.0 c)) refl e
    where
      p : ℕ → Bool
      p = fits_after s x c.dom port bytes

      here : chip_at x.0 c.dom ≡ Some c
      here = let at = chip_of-at x.0 (domain_of x.0.setup.domains port) c on in ap (chip_at x.0) (chip-dom x.0.chips at.0 c at.2) ∙ at.2

      by : (o : Option ℕ) → least_from p 0 (pending_of x.0 c) ≡ o → option_map_or (λ k. Some (repeated c.dom k)) o None ≡ Some doms → Chosen s x (Sees (Enters port bytes)) doms
      by None is f = absurd (cc)
      by (Some k) is f =
          let most = (chip-stands x.0 c.dom c b.ready.world here).applied in
          subst (Chosen s x (Sees (Enters port bytes))) (same_Some (repeated c.dom k) doms f)
          (passed c.dom k
          (repeated-stand x c.dom k b.ready.world (ap is_some here) (omega (arith, least-within p 0 (pending_of x.0 c) k is, most, there-count x.0 c.dom c here)))
          (least-passes p 0 (pending_of x.0 c) k is))

-- a bound's
bound-chosen : (s : Sights) (x : Stepped) (dom n : ℕ) → Between x → (o : Option Chip) → chip_at x.0 dom ≡ o → Chosen s x (Applied dom n) (turns_bound x.0 n o)
bound-chosen s x dom n b None at = record { stand = refl; kept = ap (λ (o : Option Chip). option_map_or (λ (c : Chip). nat_le (min n (updates_in x.0)) c.count) o true) at; fit = λ m. tt }
bound-chosen s x dom n b (Some c) at =
    let k = b.ready.world in
    let own : c.dom ≡ dom = chip-dom x.0.chips dom c at in
    let here : chip_at x.0 c.dom ≡ Some c = ap (chip_at x.0) own ∙ at in
    let most = (chip-stands x.0 c.dom c k here).applied in
    let more = min n (updates_in x.0) - c.count in
    let doms = repeated c.dom more in
    let z = turned x doms in
    let d = some-of (chip_at z.0 dom) (there-alike z.0 x.0 dom (turned-alike x doms) (turned-world x doms k) k ∙ ap is_some at) in
    let count : count_at z.0 c.dom ≡ d.0.count = there-count z.0 c.dom d.0 (ap (chip_at z.0) own ∙ d.1) in
    record {
      stand = repeated-stand x c.dom more k (ap is_some here) (omega (arith, most, there-count x.0 c.dom c here));
      kept = ap (λ (o : Option Chip). option_map_or (λ (c : Chip). nat_le (min n (updates_in z.0)) c.count) o true) d.1
          ∙ le-leb (min n (updates_in z.0)) d.0.count
          (omega (arith, count, turned-updates x doms, repeated-own x c.dom more k (ap is_some here), there-count x.0 c.dom c here, most));
      fit = λ m. tt;
    }

chosen : (s : Sights) (x : Stepped) (m : Mark) (doms : List ℕ) → Between x → turns_ahead s x m ≡ Some doms → Chosen s x m doms
chosen s x (Sees (Commands c)) doms b e = subst (Chosen s x (Sees (Commands c))) (same_Some [] doms e) (record { stand = refl; kept = refl; fit = λ n. tt })
chosen s x (Sees (Comes moment)) doms b e = subst (Chosen s x (Sees (Comes moment))) (same_Some [] doms e) (record { stand = refl; kept = refl; fit = λ n. tt })
chosen s x (Sees (Enters port bytes)) doms b e = frame-chosen s x port bytes b (chip_of x.0 (domain_of x.0.setup.domains port)) doms refl e
chosen s x (Applied dom n) doms b e =
    subst (Chosen s x (Applied dom n)) (same_Some (turns_bound x.0 n (chip_at x.0 dom)) doms e) (bound-chosen s x dom n b (chip_at x.0 dom) refl)

-- Over all marks.

-- Up to a frame that no number of turns explains the timing is one, and explains the frames before it.
pub record Refutes (s : Sights) (x : Stepped) (ms : List Mark) (id : ℕ) (z : Stepped) : Type 0 where
  pub before : Timing
  pub port : ℕ
  pub bytes : List ℕ
  pub later : List Mark
  pub parts : ms ≡ observed before ++ Sees (Enters port bytes) ∷ later
  pub there : z ≡ fold goes x before
  pub next : id ≡ z.0.next
  pub stands : stands_from x before ≡ true
  pub fit : (n : ℕ) → AllFit s n x before
  pub none : turns_ahead s z (Sees (Enters port bytes)) ≡ None

abbrev pub Says : Sights → Stepped → List Mark → Answer → Type 0
Says s x ms (Yes g) = (observed g ≡ ms) × (stands_from x g ≡ true) × ((n : ℕ) → AllFit s n x g)
Says s x ms (No id z) = Refutes s x ms id z

refuted : (s : Sights) (x : Stepped) (m : Mark) (ms : List Mark) → turns_ahead s x m ≡ None → Refutes s x (m ∷ ms) x.0.next x
refuted s x (Sees (Commands c)) ms e = absurd (cc)
refuted s x (Sees (Comes moment)) ms e = absurd (cc)
refuted s x (Sees (Enters port bytes)) ms e = record { before = []; port = port; bytes = bytes; later = ms; parts = refl; there = refl; next = refl; stands = refl; fit = λ n. tt; none = e }
refuted s x (Applied dom n) ms e = absurd (cc)

ahead-says : (s : Sights) (x : Stepped) (m : Mark) (ms : List Mark) (doms : List ℕ) (r : Answer) → Chosen s x m doms → Says s (goes x (doms, m)) ms r
    → Says s x (m ∷ ms) (with_ahead (doms, m) r)
ahead-says s x m ms doms (Yes g) c h = (ap (λ l. m ∷ l) h.0, (λ i. c.stand i && (c.kept i && h.1 i)), λ n. (c.fit n, h.2 n))
ahead-says s x m ms doms (No id z) c h = record {
  before = (doms, m) ∷ h.before;
  port = h.port;
  bytes = h.bytes;
  later = h.later;
  parts = ap (λ l. m ∷ l) h.parts;
  there = h.there;
  next = h.next;
  stands = λ i. c.stand i && (c.kept i && h.stands i);
  fit = λ n. (c.fit n, h.fit n);
  none = h.none;
}

pub says : (s : Sights) (ms : List Mark) (x : Stepped) → Between x → Says s x ms (explains_from s x ms)
says s [] x b = (refl, refl, λ n. tt)
says s (m ∷ ms) x b = by (turns_ahead s x m) refl (λ z c. says s ms z c)
  where
    by : (o : Option (List ℕ)) → turns_ahead s x m ≡ o → ((z : Stepped) → Between z → Says s z ms (explains_from s z ms))
        → Says s x (m ∷ ms) (option_map_or (λ doms. with_ahead (doms, m) (explains_from s (goes x (doms, m)) ms)) o (No x.0.next x))
    by None e h = refuted s x m ms e
    by (Some doms) e h = ahead-says s x m ms doms (explains_from s (goes x (doms, m)) ms) (chosen s x m doms b e) (h (goes x (doms, m)) (goes-between x (doms, m) b))

-- What fits when it enters is explained by all lines, and the other way round.

here-explained : (s : Sights) (n i : ℕ) (x : Stepped) (doms : List ℕ) (m : Mark) (later : Timing) → Between x → FitsBelow s n (turned x doms).0 m → x.0.next ≤ i → i < n
    → i < (goes x (doms, m)).0.next → IsFit s i (sent_of i (fold goes (goes x (doms, m)) later).1)
here-explained s n i x doms (Sees (Commands c)) later b fit le less here = absurd (omega (arith, le, here, goes-next x (doms, Sees (Commands c))))
here-explained s n i x doms (Sees (Comes moment)) later b fit le less here = absurd (omega (arith, le, here, goes-next x (doms, Sees (Comes moment))))
here-explained s n i x doms (Sees (Enters port bytes)) later b fit le less here =
    let y = turned x doms in
    let its : y.0.next ≡ i = omega (arith, le, here, goes-next x (doms, Sees (Enters port bytes)), turned-next x doms) in
    subst (λ j. IsFit s j (sent_of j (fold goes (goes x (doms, Sees (Enters port bytes))) later).1)) its
    (subst (IsFit s y.0.next) (sym (fold-own x doms port bytes later b)) (fit (omega (arith, its, less))))
here-explained s n i x doms (Applied dom k) later b fit le less here = absurd (omega (arith, le, here, goes-next x (doms, Applied dom k)))

pub fit-explained : (s : Sights) (n : ℕ) (t : Timing) (x : Stepped) → Between x → AllFit s n x t → (i : ℕ) → x.0.next ≤ i → i < n → i < (fold goes x t).0.next
    → IsFit s i (sent_of i (fold goes x t).1)
fit-explained s n [] x b fit i le less end = absurd (omega (arith, le, end))
fit-explained s n (m ∷ later) x b fit i le less end =
    ⊎_elim
    (λ (here : i < (goes x m).0.next). here-explained s n i x m.0 m.1 later b fit.0 le less here)
    (λ (behind : (goes x m).0.next ≤ i). fit-explained s n later (goes x m) (goes-between x m b) fit.1 i behind less end)
    (cases_lt i (goes x m).0.next)

here-fits : (s : Sights) (n : ℕ) (x : Stepped) (doms : List ℕ) (m : Mark) (later : Timing) → Between x
    → ((i : ℕ) → x.0.next ≤ i → i < n → IsFit s i (sent_of i (fold goes (goes x (doms, m)) later).1)) → FitsBelow s n (turned x doms).0 m
here-fits s n x doms (Sees (Commands c)) later b h = tt
here-fits s n x doms (Sees (Comes moment)) later b h = tt
here-fits s n x doms (Sees (Enters port bytes)) later b h = λ less.
    let y = turned x doms in
    subst (IsFit s y.0.next) (fold-own x doms port bytes later b) (h y.0.next (omega (arith, turned-next x doms)) less)
here-fits s n x doms (Applied dom k) later b h = tt

pub explained-fits : (s : Sights) (n : ℕ) (t : Timing) (x : Stepped) → Between x → ((i : ℕ) → x.0.next ≤ i → i < n → IsFit s i (sent_of i (fold goes x t).1)) → AllFit s n x t
explained-fits s n [] x b h = tt
explained-fits s n (m ∷ later) x b h =
    (here-fits s n x m.0 m.1 later b h, explained-fits s n later (goes x m) (goes-between x m b) (λ i le less. h i (omega (arith, goes-later x m, le)) less))
