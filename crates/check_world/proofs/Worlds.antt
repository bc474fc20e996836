-- What a step of the world comes to, by what its sides and its frames come to.
use Rattle.std.proofs.Common.{◌≡◌, ℕ, ◌+◌, ◌==◌, ◌≤◌, nat_le, true, false, cond, List, [], ◌∷◌, drop, length, slice_get, Option, None, Some, Result, Ok, Err, refl, sym, ap, ◌∙◌, subst, arith}
use Rattle.std.proofs.lemmas.Bool.{eqb-true, and_parts}
use Rattle.std.proofs.lemmas.List.Elements.{recursion_from_All}
use Rattle.std.specs.Option.{is_some}
use Rattle.std.specs.List.{find, list_any}
use Rattle.std.specs.Ordering.{nat_cmp}
use Rattle.lemmas.proofs.Lists.{find-passes}
use Rattle.br_model.specs.Data.Maps.{has}
use Rattle.br_model.specs.declared.steps.Refusal.{Refusal}
use Rattle.br_model.specs.declared.steps.Refusal.TheVariants.{NothingWaiting, NothingToPost, NoSuchPoint}
use Rattle.br_model.specs.declared.steps.Step.{Step}
use Rattle.br_model.specs.declared.steps.Step.TheVariants.{Serve, Hold, Post}
use Rattle.br_model.specs.declared.transcript.Line.{Line}
use Rattle.br_model.specs.declared.transcript.Line.TheVariants as lines
use Rattle.br_model.specs.Plane.Serving.{posts, serves, holds, held_with, lets_go, is_point, posts_at}
use Rattle.br_model.specs.Plane.Steps.{does}
use Rattle.br_model.specs.Plane.World.{World, Waiting, Holding, Stepped, chip_at, refused}
use Rattle.br_model.specs.Table.Domains.{chip_domains}
use Rattle.br_model.specs.Theorems.Invariants.{IsWorld}
use Rattle.br_model.proofs.Plane.Chips.{chip-there}
use Rattle.br_model.proofs.Data.Lists.{find-each, has-up-to, up-to-last}
use Rattle.plane_parts.specs.Queued.{Queued, hold_line, holds_oldest}
use Rattle.plane_reactions.specs.Reacted.{Comes}
use Rattle.check_world.specs.Sides.{SidesState, world_of, of_sides}
use Rattle.check_world.specs.Worlds.{PostsHeld, Tells, point_of}

-- the domain has a chip in a world that stands
pub chip_there : (w : World) (dom : ℕ) → IsWorld w → list_any (λ d. d == dom) (chip_domains w.setup.domains) ≡ true → is_some (chip_at w dom) ≡ true
chip_there w dom k has = chip-there w.chips dom ∙ ap (list_any (λ d. d == dom)) k.doms ∙ has

-- what a contract says of such a step
pub tells_so : (old : World) (s t : SidesState) (q r : Queued) (n m : ℕ) (step : Step) (told : List Line) → world_of s q n ≡ old → m ≡ n + 1
    → does (world_of s q m) step ≡ (world_of t r m, told) → Tells old step (world_of t r m) told
tells_so old s t q r n m step told was e h =
    subst (λ (o : World). Tells o step (world_of t r m) told) was (subst (λ i. does (world_of s q i) step ≡ (world_of t r m, told)) e h)

-- The oldest frame is served, or held.

serves_front : (s t : SidesState) (waiting : List Waiting) (held : List Holding) (next : ℕ) (f : Waiting) (m : ℕ) (told : List Line) → Some f ≡ slice_get waiting 0
    → Comes of_sides (λ w. posts w f w.published) s m t told
    → serves (world_of s (record { waiting = waiting; held = held; next = next }) m) waiting ≡ (world_of t (record { waiting = drop 1 waiting; held = held; next = next }) m, told)
serves_front s t [] held next f m told e h = absurd (cc)
serves_front s t (g ∷ later) held next f m told e h =
    let same : g ≡ f = cc in
    ap (λ x. posts (world_of s (record { waiting = later; held = held; next = next }) m) x s.published) same ∙ h (record { waiting = later; held = held; next = next })

pub serves_oldest : (s t : SidesState) (q r : Queued) (f : Waiting) (m point : ℕ) (told : List Line) → Some f ≡ slice_get q.waiting 0 → point ≡ s.published
    → Comes of_sides (λ w. posts w f point) s m t told
    → r ≡ record q { waiting = drop 1 q.waiting } → does (world_of s q m) Serve ≡ (world_of t r m, told)
serves_oldest s t q r f m point told e at h left =
    serves_front s t q.waiting q.held q.next f m told e (λ p. ap (posts (world_of s p m) f) (sym at) ∙ h p) ∙ ap (λ (x : Queued). (world_of t x m, told)) (sym left)

pub serves_none : (s : SidesState) (q r : Queued) (m : ℕ) → None ≡ slice_get q.waiting 0 → r ≡ record q { waiting = drop 1 q.waiting }
    → does (world_of s q m) Serve ≡ (world_of s r m, lines.Refused m NothingWaiting ∷ [])
serves_none s q r m e left = by q.waiting e ∙ ap (λ (x : Queued). (world_of s x m, lines.Refused m NothingWaiting ∷ [])) (sym left)
  where
    by : (waiting : List Waiting) → None ≡ slice_get waiting 0
        → serves (world_of s (record q { waiting = waiting }) m) waiting ≡ (world_of s (record q { waiting = drop 1 waiting }) m, lines.Refused m NothingWaiting ∷ [])
    by [] h = refl
    by (f ∷ later) h = absurd (cc)

holds_front : (s : SidesState) (q : Queued) (waiting : List Waiting) (m : ℕ)
    → holds (world_of s q m) waiting ≡ (world_of s (holds_oldest q s.published waiting) m, hold_line m s.published waiting ∷ [])
holds_front s q [] m = refl
holds_front s q (f ∷ later) m = refl

pub holds_one : (s : SidesState) (q r : Queued) (m floor : ℕ) (line : Line) → floor ≡ s.published → r ≡ holds_oldest q floor q.waiting → line ≡ hold_line m floor q.waiting
    → does (world_of s q m) Hold ≡ (world_of s r m, line ∷ [])
holds_one s q r m floor line e left is =
    holds_front s q q.waiting m
    ∙ ap (λ i. (world_of s (holds_oldest q i q.waiting) m, hold_line m i q.waiting ∷ [])) (sym e)
    ∙ ap (λ (x : Queued). (world_of s x m, hold_line m floor q.waiting ∷ [])) (sym left)
    ∙ ap (λ (l : Line). (world_of s r m, l ∷ [])) (sym is)

-- A held frame is posted.

-- why it isn't
pub posts_not : (w : World) (o : Option Holding) (named : Option ℕ) (why : Refusal) → point_of w o named ≡ Err why → posts_at w o named ≡ refused w why
posts_not w None named why e = let same : NothingToPost ≡ why = cc in ap (refused w) same
posts_not w (Some h) None why e = absurd (cc)
posts_not w (Some h) (Some point) why e =
    (elim (is_point w h point) as (λ b. cond {A = Result ℕ Refusal} b (Ok point) (Err NoSuchPoint) ≡ Err why
    → cond {A = Stepped} b (posts (lets_go w h.waiting.id) h.waiting point) (refused w NoSuchPoint) ≡ refused w why) [
      | true ↦ λ e. absurd (cc)
      | false ↦ λ e. let same : NoSuchPoint ≡ why = cc in ap (refused w) same
    ]) e

-- or by which point it is
posts_so : (w : World) (h : Holding) (named : Option ℕ) (point : ℕ) → point_of w (Some h) named ≡ Ok point → posts_at w (Some h) named ≡ posts (lets_go w h.waiting.id) h.waiting point
posts_so w h None point e = let same : h.floor ≡ point = cc in ap (posts (lets_go w h.waiting.id) h.waiting) same
posts_so w h (Some named) point e =
    (elim (is_point w h named) as (λ b. cond {A = Result ℕ Refusal} b (Ok named) (Err NoSuchPoint) ≡ Ok point
    → cond {A = Stepped} b (posts (lets_go w h.waiting.id) h.waiting named) (refused w NoSuchPoint) ≡ posts (lets_go w h.waiting.id) h.waiting point) [
      | true ↦ λ e. let same : named ≡ point = cc in ap (posts (lets_go w h.waiting.id) h.waiting) same
      | false ↦ λ e. absurd (cc)
    ]) e

-- whose frame is held
pub held_by : (w : World) (o : Option Holding) (named : Option ℕ) (point : ℕ) → point_of w o named ≡ Ok point → is_some o ≡ true
held_by w None named point e = absurd (cc)
held_by w (Some h) named point e = refl

pub posts_one : (w : World) (o : Option Holding) (id : ℕ) (named : Option ℕ) (point : ℕ) (after : Stepped) → ((h : Holding) → o ≡ Some h → h.waiting.id ≡ id)
    → point_of w o named ≡ Ok point → ((h : Holding) → o ≡ Some h → posts (lets_go w id) h.waiting point ≡ after) → posts_at w o named ≡ after
posts_one w None id named point after own e so = absurd (cc)
posts_one w (Some h) id named point after own e so = posts_so w h named point e ∙ ap (λ i. posts (lets_go w i) h.waiting point) (own h refl) ∙ so h refl

-- Each point is a front of the history.

published_within : (w : World) (point : ℕ) → IsWorld w → has nat_cmp w.counts point ≡ true → point ≤ length w.history
published_within w point k known =
    omega (arith, k.counts.within, has-up-to point w.published w.counts (up-to-last w.published w.counts k.counts.ascend k.counts.last) known)

held_within : (w : World) (h : Holding) (named : Option ℕ) (point : ℕ) → IsWorld w → has nat_cmp w.counts h.floor ≡ true → point_of w (Some h) named ≡ Ok point → point ≤ length w.history
held_within w h None point k floor e = let same : h.floor ≡ point = cc in subst (λ p. p ≤ length w.history) same (published_within w h.floor k floor)
held_within w h (Some named) point k floor e =
    (elim (is_point w h named) as (λ b. is_point w h named ≡ b → cond {A = Result ℕ Refusal} b (Ok named) (Err NoSuchPoint) ≡ Ok point → point ≤ length w.history) [
      | true ↦ λ is e.
          let same : named ≡ point = cc in
          subst (λ p. p ≤ length w.history) same (published_within w named k (and_parts (has nat_cmp w.counts named) (nat_le h.floor named) is).0)
      | false ↦ λ is e. absurd (cc)
    ]) refl e

pub point_within : (w : World) (id : ℕ) (named : Option ℕ) (point : ℕ) → IsWorld w → point_of w (find (λ h. h.waiting.id == id) w.held) named ≡ Ok point → point ≤ length w.history
point_within w id named point k e = by (find (λ h. h.waiting.id == id) w.held) refl e
  where
    by : (o : Option Holding) → find (λ h. h.waiting.id == id) w.held ≡ o → point_of w o named ≡ Ok point → point ≤ length w.history
    by None is e = absurd (cc)
    by (Some h) is e =
        held_within w h named point k (find-each (λ (g : Holding). has nat_cmp w.counts g.floor ≡ true) (λ g. g.waiting.id == id) w.held h (recursion_from_All _ w.held k.frames.floors) is) e

-- the point doesn't depend on how many steps there were
same_point : (s : SidesState) (q : Queued) (n m : ℕ) (o : Option Holding) (named : Option ℕ) → point_of (world_of s q m) o named ≡ point_of (world_of s q n) o named
same_point s q n m None named = refl
same_point s q n m (Some h) None = refl
same_point s q n m (Some h) (Some point) = refl

pointed : (old : World) (s : SidesState) (q : Queued) (n m id : ℕ) (named : Option ℕ) (r : Result ℕ Refusal) → world_of s q n ≡ old → r ≡ point_of old (held_with old id) named
    → point_of (world_of s q m) (find (λ h. h.waiting.id == id) q.held) named ≡ r
pointed old s q n m id named r was is =
    same_point s q n m (find (λ h. h.waiting.id == id) q.held) named ∙ ap (λ (o : World). point_of o (held_with o id) named) was ∙ sym is

pub posts_told : (old : World) (s t : SidesState) (q r : Queued) (n m id point : ℕ) (named : Option ℕ) (told : List Line) → world_of s q n ≡ old → m ≡ n + 1
    → Ok point ≡ point_of old (held_with old id) named → PostsHeld s q m id point t r told → Tells old (Post id named) (world_of t r m) told
posts_told old s t q r n m id point named told was e is held =
    tells_so old s t q r n m (Post id named) told was e
    (posts_one (world_of s q m) (find (λ h. h.waiting.id == id) q.held) id named point (world_of t r m, told)
    (λ h found. eqb-true h.waiting.id id (find-passes (λ h. h.waiting.id == id) q.held h found))
    (pointed old s q n m id named (Ok point) was is) held)

pub refuses_told : (old : World) (s : SidesState) (q : Queued) (n m id : ℕ) (named : Option ℕ) (why : Refusal) → world_of s q n ≡ old → m ≡ n + 1
    → Err why ≡ point_of old (held_with old id) named → Tells old (Post id named) (world_of s q m) (lines.Refused m why ∷ [])
refuses_told old s q n m id named why was e is =
    tells_so old s s q q n m (Post id named) (lines.Refused m why ∷ []) was e
    (posts_not (world_of s q m) (find (λ h. h.waiting.id == id) q.held) named why (pointed old s q n m id named (Err why) was is))

pub point_there : (old : World) (s : SidesState) (q : Queued) (n id point : ℕ) (named : Option ℕ) → world_of s q n ≡ old → IsWorld old → Ok point ≡ point_of old (held_with old id) named
    → point ≤ length s.history
point_there old s q n id point named was k is =
    point_within (world_of s q n) id named point (subst IsWorld (sym was) k) (ap (λ (o : World). point_of o (held_with o id) named) was ∙ sym is)
