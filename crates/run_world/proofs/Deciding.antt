-- Of each held frame the verdict is kept, whatever step is made.
use Rattle.std.proofs.Common.{◌≡◌, ℕ, ◌≤◌, true, false, not, cond, List, [], ◌∷◌, ◌++◌, length, map, take, Option, None, Some, Result, Ok, Err, OnOk, OnErr, refl, sym, ap, ◌∙◌, subst, arith}
use Rattle.std.proofs.lemmas.Bool.{eqb-true, eq-eqb}
use Rattle.std.proofs.lemmas.List.{take-append-le}
use Rattle.std.proofs.lemmas.List.Elements.{recursion_from_All}
use Rattle.std.specs.Prelude.{◌==◌}
use Rattle.std.specs.List.{AllByRecursion, IsDistinct, filter, find}
use Rattle.std.specs.Ordering.{nat_cmp}
use Rattle.br_model.specs.declared.change.Change.{Change}
use Rattle.br_model.specs.declared.steps.Step.{Step}
use Rattle.br_model.specs.declared.steps.Step.TheVariants.{Hold, Post}
use Rattle.br_model.specs.declared.transcript.Line.{Line}
use Rattle.br_model.specs.Data.Maps.{has}
use Rattle.br_model.specs.Plane.Serving.{held_with, holds}
use Rattle.br_model.specs.Plane.Steps.{world_step}
use Rattle.br_model.specs.Plane.World.{World, Waiting, Holding, Stepped}
use Rattle.br_model.specs.Table.Setup.{Setup}
use Rattle.br_model.specs.Table.Table.{table}
use Rattle.br_model.specs.Theorems.Invariants.{IsWorld}
use Rattle.br_model.specs.Wire.Messages.{message}
use Rattle.br_model.proofs.Plane.Applied.{step-setup}
use Rattle.br_model.proofs.Data.Lists.{has-up-to, up-to-last}
use Rattle.br_model.proofs.Plane.Stays.{post-held, post-none-held, step-accepts, step-held}
use Rattle.run_world.specs.declared.held.Verdicts.{Verdicts}
use Rattle.run_world.specs.Held.{AreDecided, AreSame, KeepsOldest, Puts, verdict_of}
use Rattle.forward_rules.specs.declared.soft_tables.Verdict.{Verdict}
use Rattle.plane_parts.specs.Added.{Added}
use Rattle.plane_core.specs.Planes.{DecidesAt, DecidesFloor, PlaneState, Steps}
use Rattle.forward_rules.specs.Decided.{Decides}
use Rattle.table_publish.specs.Object.{Whose}

-- What is found by its id.

-- the frames with this id
abbrev of_id : ℕ → List Holding → Option Holding
of_id id held = find (λ h. h.waiting.id == id) held

found_each : (P : Holding → Type 0) (id : ℕ) (held : List Holding) (x : Holding) → AllByRecursion P held → of_id id held ≡ Some x → P x
found_each P id [] x all e = absurd (cc)
found_each P id (h ∷ held) x all e =
    elim (h.waiting.id == id) as (λ b. cond b (Some h) (of_id id held) ≡ Some x → P x) [
      | true ↦ λ is. let same : h ≡ x = cc in subst P same all.0
      | false ↦ λ is. found_each P id held x all.1 is
    ] e

found_id : (id : ℕ) (held : List Holding) (x : Holding) → of_id id held ≡ Some x → (x.waiting.id == id) ≡ true
found_id id [] x e = absurd (cc)
found_id id (h ∷ held) x e =
    (elim (h.waiting.id == id) as (λ b. (h.waiting.id == id) ≡ b → cond b (Some h) (of_id id held) ≡ Some x → (x.waiting.id == id) ≡ true) [
      | true ↦ λ is e. let same : h ≡ x = cc in subst (λ (y : Holding). (y.waiting.id == id) ≡ true) same is
      | false ↦ λ no e. found_id id held x e
    ]) refl e

-- where no other has the id, it is the last one's
found_last : (id : ℕ) (held : List Holding) (x : Holding) → of_id id held ≡ None → (x.waiting.id == id) ≡ true → of_id id (held ++ x ∷ []) ≡ Some x
found_last id [] x none is = ap (λ b. cond {A = Option Holding} b (Some x) None) is
found_last id (h ∷ held) x none is =
    elim (h.waiting.id == id) as (λ b. cond {A = Option Holding} b (Some h) (of_id id held) ≡ None → cond b (Some h) (of_id id (held ++ x ∷ [])) ≡ Some x) [
      | true ↦ λ e. absurd (cc)
      | false ↦ λ e. found_last id held x e is
    ] none

found_before : (id : ℕ) (held : List Holding) (x : Holding) → (x.waiting.id == id) ≡ false → of_id id (held ++ x ∷ []) ≡ of_id id held
found_before id [] x other = ap (λ b. cond {A = Option Holding} b (Some x) None) other
found_before id (h ∷ held) x other = ap (λ (o : Option Holding). cond (h.waiting.id == id) (Some h) o) (found_before id held x other)

-- among those that have another id
found_else : (k id : ℕ) (held : List Holding) → (k == id) ≡ false → of_id k (filter (λ h. not (h.waiting.id == id)) held) ≡ of_id k held
found_else k id [] other = refl
found_else k id (h ∷ held) other =
    (elim (h.waiting.id == id) as (λ b. (h.waiting.id == id) ≡ b
    → of_id k (cond (not b) (h ∷ filter (λ g. not (g.waiting.id == id)) held) (filter (λ g. not (g.waiting.id == id)) held)) ≡ cond (h.waiting.id == k) (Some h) (of_id k held)) [
      | true ↦ λ is. found_else k id held other ∙ sym (ap (λ b. cond b (Some h) (of_id k held)) (apart (h.waiting.id) is))
      | false ↦ λ no. ap (λ (o : Option Holding). cond (h.waiting.id == k) (Some h) o) (found_else k id held other)
    ]) refl
  where
    apart : (n : ℕ) → (n == id) ≡ true → (n == k) ≡ false
    apart n is = grind arith

found_none : (id : ℕ) (held : List Holding) → of_id id (filter (λ h. not (h.waiting.id == id)) held) ≡ None
found_none id [] = refl
found_none id (h ∷ held) =
    (elim (h.waiting.id == id) as (λ b. (h.waiting.id == id) ≡ b → of_id id (cond (not b) (h ∷ filter (λ g. not (g.waiting.id == id)) held) (filter (λ g. not (g.waiting.id == id)) held)) ≡ None) [
      | true ↦ λ is. found_none id held
      | false ↦ λ no. ap (λ b. cond {A = Option Holding} b (Some h) (of_id id (filter (λ g. not (g.waiting.id == id)) held))) no ∙ found_none id held
    ]) refl

-- a frame that waits isn't held
none_held : (held : List Holding) (f : Waiting) (later : List Waiting) → IsDistinct (◌==◌) (map (λ g. g.id) (map (λ h. h.waiting) held ++ f ∷ later)) → of_id f.id held ≡ None
unfolding IsDistinct
none_held [] f later d = refl
none_held (h ∷ held) f later d =
    ap (λ b. cond {A = Option Holding} b (Some h) (of_id f.id held)) (seam (map (λ (g : Holding). g.waiting) held) d.0) ∙ none_held held f later d.1
  where
    seam : (fs : List Waiting) → AllByRecursion (λ y. (h.waiting.id == y) ≡ false) (map (λ g. g.id) (fs ++ f ∷ later)) → (h.waiting.id == f.id) ≡ false
    seam [] all = all.0
    seam (g ∷ fs) all = seam fs all.1

-- What is decided.

-- each floor lies within the history
floor_within : (w : World) (id : ℕ) (x : Holding) → IsWorld w → held_with w id ≡ Some x → x.floor ≤ length w.history
floor_within w id x k found =
    let published = found_each (λ h. has nat_cmp w.counts h.floor ≡ true) id w.held x (recursion_from_All _ w.held k.frames.floors) found in
    let below : x.floor ≤ w.published = has-up-to x.floor w.published w.counts (up-to-last w.published w.counts k.counts.ascend k.counts.last) published in
    omega (arith, below, k.counts.within)

-- a verdict is the same when changes are accepted
decides_on : (w v : World) (f : Waiting) (point : ℕ) (verdict : Verdict) (changes : List Change) → v.setup ≡ w.setup → v.history ≡ w.history ++ changes → point ≤ length w.history
    → DecidesAt w f point verdict → DecidesAt v f point verdict
decides_on w v f point verdict changes setup accepted within h =
    let same : take point w.history ≡ take point v.history = sym (ap (take point) accepted ∙ take-append-le point w.history changes within) in
    subst (λ (s : Setup). Decides s.domains (table (take point v.history)) f.port f.head (message f.bytes f.head) verdict) (sym setup)
    (subst (λ (l : List Change). Decides w.setup.domains (table l) f.port f.head (message f.bytes f.head) verdict) same h)

floor_on : (w v : World) (x : Holding) (o : Option Verdict) (changes : List Change) → v.setup ≡ w.setup → v.history ≡ w.history ++ changes → x.floor ≤ length w.history
    → DecidesFloor w x o → DecidesFloor v x o
floor_on w v x None changes setup accepted within h = h
floor_on w v x (Some verdict) changes setup accepted within h = decides_on w v x.waiting x.floor verdict changes setup accepted within h

-- of a frame that is held before and after a step
on_step : (w : World) (step : Step) (id : ℕ) (x : Holding) (o : Option Verdict) → IsWorld w → held_with w id ≡ Some x → DecidesFloor w x o → DecidesFloor (world_step w step).0 x o
on_step w step id x o k found h =
    let a = step-accepts w step in
    floor_on w (world_step w step).0 x o a.0 (step-setup w step) a.1 (floor_within w id x k found) h

pub same_verdicts : (w : World) (d e : Verdicts) → AreDecided w d → AreSame d e → AreDecided w e
same_verdicts w d e h same = record { each = λ id x found. subst (DecidesFloor w x) (sym (same id)) (h.each id x found) }

-- Each step.

-- one that neither holds nor posts
abbrev HoldsOn : World → Step → Type 0
HoldsOn w step = (world_step w step).0.held ≡ w.held

stays : (w : World) (step : Step) (d : Verdicts) → IsWorld w → HoldsOn w step → AreDecided w d → AreDecided (world_step w step).0 d
stays w step d k held h = record {
  each = λ id x found.
      let was : held_with w id ≡ Some x = ap (of_id id) (sym held) ∙ found in
      on_step w step id x (verdict_of d id) k was (h.each id x was);
}

-- what the plane says of it
kept_ok : (old new : PlaneState) (step : Step) (before after : List Line) (d : Verdicts) → IsWorld old.world → HoldsOn old.world step
    → Added (Steps old new step) before after → AreDecided old.world d → AreDecided new.world d
kept_ok old new step before after d k held a h = subst (λ (v : World). AreDecided v d) (ap (λ (s : Stepped). s.0) a.so.world) (stays old.world step d k held h)

kept : {A E : Type 0} (r : Result A E) (old new : PlaneState) (step : Step) (before after : List Line) (d : Verdicts) → IsWorld old.world → HoldsOn old.world step
    → OnOk r (Added (Steps old new step) before after) → OnErr r (new ≡ old) → AreDecided old.world d → AreDecided new.world d
kept (Ok x) old new step before after d k held a err h = kept_ok old new step before after d k held a h
kept (Err e) old new step before after d k held ok same h = subst (λ (p : PlaneState). AreDecided p.world d) (sym same) h

same_board : {A E : Type 0} (r : Result A E) (old new : PlaneState) (step : Step) (before after : List Line) → OnOk r (Added (Steps old new step) before after) → OnErr r (new ≡ old)
    → new.board ≡ old.board
same_board (Ok x) old new step before after a err = a.so.board
same_board (Err e) old new step before after ok same = ap (λ (p : PlaneState). p.board) same

-- with the seat's board, where the plane was looked at before
pub stands_on : {A E : Type 0} (r : Result A E) (was seen old new : PlaneState) (board : Whose) (step : Step) (before after : List Line) (d : Verdicts) → seen ≡ was → old ≡ was → board ≡ was.board
    → IsWorld seen.world → HoldsOn was.world step → OnOk r (Added (Steps old new step) before after) → OnErr r (new ≡ old) → AreDecided was.world d → (board ≡ new.board) × AreDecided new.world d
stands_on r was seen old new board step before after d see same over k held ok err h =
    let a = subst (λ (p : PlaneState). OnOk r (Added (Steps p new step) before after)) same ok in
    let e = subst (λ (p : PlaneState). OnErr r (new ≡ p)) same err in (
      over ∙ sym (same_board r was new step before after a e),
      kept r was new step before after d (subst (λ (p : PlaneState). IsWorld p.world) see k) held a e h,
    )

-- Before a hold the verdict of the oldest frame is put.
put_oldest : (w : World) (f : Waiting) (later : List Waiting) (d e : Verdicts) (o : Option Verdict) → IsWorld w → w.waiting ≡ f ∷ later → Puts d e f.id o → AreDecided w d → AreDecided w e
put_oldest w f later d e o k waits puts h = record {
  each = λ id x found. subst (DecidesFloor w x) (sym (puts.others id (clash id x found))) (h.each id x found);
}
  where
    none : held_with w f.id ≡ None
    none = none_held w.held f later (subst (λ (fs : List Waiting). IsDistinct (◌==◌) (map (λ g. g.id) (map (λ (g : Holding). g.waiting) w.held ++ fs))) waits k.frames.ids)

    clash : (id : ℕ) (x : Holding) → held_with w id ≡ Some x → id ≡ f.id → ⊥
    clash id x found same = let e : None ≡ Some x = sym none ∙ (ap (held_with w) (sym same) ∙ found) in absurd (cc)

-- the frames that are held after it
held_after : (w : World) (f : Waiting) (later : List Waiting) → w.waiting ≡ f ∷ later → (world_step w Hold).0.held ≡ w.held ++ record { waiting = f; floor = w.published } ∷ []
held_after w f later waits = step-held w Hold ∙ ap (λ (fs : List Waiting). (holds w fs).0.held) waits

none_after : (w : World) → w.waiting ≡ [] → HoldsOn w Hold
none_after w waits = step-held w Hold ∙ ap (λ (fs : List Waiting). (holds w fs).0.held) waits

-- as the oldest frame is held
abbrev oldest : World → Waiting → Holding
oldest w f = record { waiting = f; floor = w.published }

-- the oldest frame is held, and decided
holds_oldest : (w : World) (f : Waiting) (later : List Waiting) (d e : Verdicts) (verdict : Verdict) → IsWorld w → w.waiting ≡ f ∷ later → Puts d e f.id (Some verdict)
    → DecidesAt w f w.published verdict → AreDecided w d → AreDecided (world_step w Hold).0 e
holds_oldest w f later d e verdict k waits puts is h = record { each = λ id x found. at id x (ap (of_id id) (sym (held_after w f later waits)) ∙ found) }
  where
    new : DecidesFloor (world_step w Hold).0 (oldest w f) (Some verdict)
    new = let a = step-accepts w Hold in decides_on w (world_step w Hold).0 f w.published verdict a.0 (step-setup w Hold) a.1 k.counts.within is

    at : (id : ℕ) (x : Holding) → of_id id (w.held ++ oldest w f ∷ []) ≡ Some x → DecidesFloor (world_step w Hold).0 x (verdict_of e id)
    at id x found =
        (elim (f.id == id) as (λ b. (f.id == id) ≡ b → DecidesFloor (world_step w Hold).0 x (verdict_of e id)) [
          | true ↦ λ same.
              let own : f.id ≡ id = eqb-true f.id id same in
              let none : of_id id w.held ≡ None =
              subst (λ n. of_id n w.held ≡ None) own
              (none_held w.held f later (subst (λ (fs : List Waiting). IsDistinct (◌==◌) (map (λ g. g.id) (map (λ (g : Holding). g.waiting) w.held ++ fs))) waits k.frames.ids)) in
              let last : of_id id (w.held ++ oldest w f ∷ []) ≡ Some (oldest w f) = found_last id w.held (oldest w f) none same in
              let one : oldest w f ≡ x = cc in
              let here : Some verdict ≡ verdict_of e id = sym (ap (verdict_of e) (sym own) ∙ puts.here) in
              subst (λ (y : Holding). DecidesFloor (world_step w Hold).0 y (verdict_of e id)) one (subst (DecidesFloor (world_step w Hold).0 (oldest w f)) here new)
          | false ↦ λ other.
              let was : held_with w id ≡ Some x = sym (found_before id w.held (oldest w f) other) ∙ found in
              let same : verdict_of d id ≡ verdict_of e id = sym (puts.others id (λ own. let no : true ≡ false = sym (eq-eqb f.id id (sym own)) ∙ other in absurd (cc))) in
              on_step w Hold id x (verdict_of e id) k was (subst (DecidesFloor w x) same (h.each id x was))
        ]) refl

-- what the plane says of it

kept_oldest : (w : World) (fs : List Waiting) (d e : Verdicts) → IsWorld w → w.waiting ≡ fs → KeepsOldest w fs d e → AreDecided w d → AreDecided w e
kept_oldest w [] d e k waits same h = same_verdicts w d e h same
kept_oldest w (f ∷ later) d e k waits keeps h = put_oldest w f later d e (Some keeps.0) k waits keeps.2 h

held_oldest : (w : World) (fs : List Waiting) (d e : Verdicts) → IsWorld w → w.waiting ≡ fs → KeepsOldest w fs d e → AreDecided w d → AreDecided (world_step w Hold).0 e
held_oldest w [] d e k waits same h = stays w Hold e k (none_after w waits) (same_verdicts w d e h same)
held_oldest w (f ∷ later) d e k waits keeps h = holds_oldest w f later d e keeps.0 k waits keeps.2 keeps.1 h

pub held : {A E : Type 0} (r : Result A E) (old new : PlaneState) (before after : List Line) (d e : Verdicts) → IsWorld old.world → KeepsOldest old.world old.world.waiting d e
    → OnOk r (Added (Steps old new Hold) before after) → OnErr r (new ≡ old) → AreDecided old.world d → AreDecided new.world e
held (Ok x) old new before after d e k keeps a err h =
    subst (λ (v : World). AreDecided v e) (ap (λ (s : Stepped). s.0) a.so.world) (held_oldest old.world old.world.waiting d e k refl keeps h)
held (Err x) old new before after d e k keeps ok same h = subst (λ (p : PlaneState). AreDecided p.world e) (sym same) (kept_oldest old.world old.world.waiting d e k refl keeps h)

-- a frame is posted, and its verdict goes
posts_held : (w : World) (id : ℕ) (y : Holding) (d e : Verdicts) → IsWorld w → held_with w id ≡ Some y → Puts d e id None → AreDecided w d → AreDecided (world_step w (Post id None)).0 e
posts_held w id y d e k there puts h = record { each = λ n x found. at n x (ap (of_id n) (sym left) ∙ found) }
  where
    left : (world_step w (Post id None)).0.held ≡ filter (λ g. not (g.waiting.id == id)) w.held
    left = post-held w id y there ∙ ap (λ i. filter (λ g. not (g.waiting.id == i)) w.held) (eqb-true y.waiting.id id (found_id id w.held y there))

    at : (n : ℕ) (x : Holding) → of_id n (filter (λ g. not (g.waiting.id == id)) w.held) ≡ Some x → DecidesFloor (world_step w (Post id None)).0 x (verdict_of e n)
    at n x found =
        (elim (n == id) as (λ b. (n == id) ≡ b → DecidesFloor (world_step w (Post id None)).0 x (verdict_of e n)) [
          | true ↦ λ same.
              let own : n ≡ id = eqb-true n id same in
              let none : of_id n (filter (λ g. not (g.waiting.id == id)) w.held) ≡ None = subst (λ i. of_id i (filter (λ g. not (g.waiting.id == id)) w.held) ≡ None) (sym own)
              (found_none id w.held) in
              absurd (cc)
          | false ↦ λ other.
              let was : held_with w n ≡ Some x = sym (found_else n id w.held other) ∙ found in
              let same : verdict_of d n ≡ verdict_of e n = sym (puts.others n (λ own. let no : true ≡ false = sym (eq-eqb n id own) ∙ other in absurd (cc))) in
              on_step w (Post id None) n x (verdict_of e n) k was (subst (DecidesFloor w x) same (h.each n x was))
        ]) refl

posts_none : (w : World) (id : ℕ) (d e : Verdicts) → IsWorld w → held_with w id ≡ None → Puts d e id None → AreDecided w d → AreDecided (world_step w (Post id None)).0 e
posts_none w id d e k none puts h = record {
  each = λ n x found.
      let was : held_with w n ≡ Some x = ap (of_id n) (sym (post-none-held w id none)) ∙ found in
      let same : verdict_of d n ≡ verdict_of e n = sym (puts.others n (clash n x was)) in
      on_step w (Post id None) n x (verdict_of e n) k was (subst (DecidesFloor w x) same (h.each n x was));
}
  where
    clash : (n : ℕ) (x : Holding) → held_with w n ≡ Some x → n ≡ id → ⊥
    clash n x was own = let e : None ≡ Some x = sym none ∙ (ap (held_with w) (sym own) ∙ was) in absurd (cc)

pub posted : (old new : PlaneState) (id : ℕ) (before after : List Line) (d e : Verdicts) → IsWorld old.world → Added (Steps old new (Post id None)) before after → Puts d e id None
    → AreDecided old.world d → AreDecided new.world e
posted old new id before after d e k a puts h = subst (λ (v : World). AreDecided v e) (ap (λ (s : Stepped). s.0) a.so.world) (by (held_with old.world id) refl)
  where
    by : (o : Option Holding) → held_with old.world id ≡ o → AreDecided (world_step old.world (Post id None)).0 e
    by None is = posts_none old.world id d e k is puts h
    by (Some y) is = posts_held old.world id y d e k is puts h
