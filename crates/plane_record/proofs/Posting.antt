-- A post as it is recorded.
use Rattle.std.proofs.Common.{◌≡◌, ℕ, suc, ◌+◌, ◌<◌, ◌≤◌, nat_le, Bool, true, false, cond, ◌==◌, List, [], ◌∷◌, length, Option, None, Some, Ok, refl, sym, ap, ◌∙◌, subst, arith}
use Rattle.std.specs.Prelude.{◌&&◌, not, nat_lt, IfSome, if◌then◌else◌}
use Rattle.std.proofs.lemmas.Bool.{eqb-true, le-leb, lt-ltb}
use Rattle.std.specs.List.{find, filter}
use Rattle.std.specs.Ordering.{nat_cmp}
use Rattle.std.specs.declared.result.Result.{Result}
use Rattle.std.specs.declared.result.Result.TheVariants.{Err}
use Rattle.br_model.specs.declared.steps.Event.TheVariants.{Sight}
use Rattle.br_model.specs.declared.steps.Refusal.{Refusal}
use Rattle.br_model.specs.declared.steps.Refusal.TheVariants.{NoSuchPoint}
use Rattle.br_model.specs.declared.steps.Step.TheVariants.{Post}
use Rattle.br_model.specs.declared.transcript.Line.{Line}
use Rattle.br_model.specs.Control.Reaction.{Reaction}
use Rattle.br_model.specs.Data.Maps.{has}
use Rattle.br_model.specs.Plane.Serving.{posts, posts_at, lets_go, is_point, held_with}
use Rattle.br_model.specs.Plane.Steps.{world_step}
use Rattle.br_model.specs.Plane.World.{World, Holding, Stepped, refused, answered, reacts}
use Rattle.plane_parts.specs.Added.{Added}
use Rattle.plane_core.specs.Planes.{PlaneState, Steps, Posts, IsCopy, IsDecision}
use Rattle.plane_core.specs.Shown.{Shown, shown_by, shown_of}
use Rattle.plane_core.specs.declared.held.Held.{Held}
use Rattle.table_publish.specs.declared.seat.Seen.{Seen}
use Rattle.plane_record.specs.Pasts.{post_step}

-- A post of a held frame by a point that was published.

pub held-post : (w : World) (h : Held) (x : Holding) (point : ℕ) → held_with w h.id ≡ Some x → shown_by h ≡ shown_of x → has nat_cmp w.counts point ≡ true → h.floor ≤ point
    → world_step w (Post h.id (Some point)) ≡ posts (lets_go (record w { steps = w.steps + 1 }) x.waiting.id) x.waiting point
held-post w h x point held shown known late =
    let u : World = record w { steps = w.steps + 1 } in
    let floor : h.floor ≡ x.floor = ap (λ (s : Shown). s.floor) shown in
    let f = x.waiting in
    let test : is_point u x point ≡ true = ap (λ b. b && nat_le x.floor point) known ∙ le-leb x.floor point (omega (arith, floor, late)) in
    ap (λ (o : Option Holding). posts_at u o (Some point)) held ∙ ap (λ b. cond {A = Stepped} b (posts (lets_go u f.id) f point) (refused u NoSuchPoint)) test

-- A frame that is posted isn't held any longer.

answered-held : (v : World) (answer : Result Reaction Refusal) → (answered v v answer).0.held ≡ v.held
answered-held v (Err why) = refl
answered-held v (Ok r) = refl

fewer-or-same : (q : Holding → Bool) (held : List Holding) → length (filter (λ h. not (q h)) held) ≤ length held
fewer-or-same q [] = omega arith
fewer-or-same q (h ∷ held) =
    elim (q h) as (λ b. length (cond (not b) (h ∷ filter (λ x. not (q x)) held) (filter (λ x. not (q x)) held)) ≤ suc (length held)) [
      | true ↦ omega (arith, fewer-or-same q held)
      | false ↦ omega (arith, fewer-or-same q held)
    ]

fewer : (q : Holding → Bool) (held : List Holding) (x : Holding) → find q held ≡ Some x → length (filter (λ h. not (q h)) held) < length held
fewer q [] x e = absurd (cc)
fewer q (h ∷ held) x e =
    (elim (q h) as (λ b. cond b (Some h) (find q held) ≡ Some x → length (cond (not b) (h ∷ filter (λ y. not (q y)) held) (filter (λ y. not (q y)) held)) < suc (length held)) [
      | true ↦ λ f. omega (arith, fewer-or-same q held)
      | false ↦ λ f. omega (arith, fewer q held x f)
    ]) e

found-id : (held : List Holding) (id : ℕ) (x : Holding) → find (λ h. h.waiting.id == id) held ≡ Some x → x.waiting.id ≡ id
found-id [] id x e = absurd (cc)
found-id (h ∷ held) id x e =
    (elim (h.waiting.id == id) as (λ b. (h.waiting.id == id) ≡ b → cond b (Some h) (find (λ y. y.waiting.id == id) held) ≡ Some x → x.waiting.id ≡ id) [
      | true ↦ λ is f. let same : h ≡ x = cc in let at : h.waiting.id ≡ id = eqb-true h.waiting.id id is in ap (λ (y : Holding). y.waiting.id) (sym same) ∙ at
      | false ↦ λ is f. found-id held id x f
    ]) refl e

-- the step as it is recorded: whether a frame was released tells whether one was held
pub post-recorded : (p q : PlaneState) (h : Held) (n : Seen) (ls ls' : List Line) (pt : Option ℕ) → ((x : Holding) → IsCopy p.world h x → n.point ≤ p.world.published → IsDecision p.world x n)
    → h.floor ≤ n.point
    → Added (Posts p q h n) ls ls' → pt ≡ (if nat_lt (length q.world.held) (length p.world.held) then Some n.point else None)
    → (Post h.id pt ≡ post_step (held_with p.world h.id) h.id n.point) × Added (Steps p q (Post h.id pt)) ls ls'
post-recorded p q h n ls ls' pt may late a is = by (held_with p.world h.id) refl a.so.1
  where
    w : World
    w = p.world

    u : World
    u = record w { steps = w.steps + 1 }

    not-less : (a b : ℕ) → a ≡ b → nat_lt a b ≡ false
    not-less a b e = grind arith

    by : (o : Option Holding) → held_with w h.id ≡ o → IfSome o (λ x. (shown_by h ≡ shown_of x) × (n.point ≤ w.published))
        → (Post h.id pt ≡ post_step o h.id n.point) × Added (Steps p q (Post h.id pt)) ls ls'
    by None none good =
        let same : world_step w (Post h.id None) ≡ world_step w (Post h.id (Some n.point)) = ap (λ (o : Option Holding). posts_at u o None) none
        ∙ sym (ap (λ (o : Option Holding). posts_at u o (Some n.point)) none) in
        let kept : q.world.held ≡ w.held = sym (ap (λ (y : Stepped). y.0.held) a.so.0.world) ∙ ap (λ (o : Option Holding). (posts_at u o (Some n.point)).0.held) none in
        let pts : pt ≡ None = is ∙ ap (λ b. if b then Some n.point else None) (not-less (length q.world.held) (length w.held) (ap length kept)) in (
          ap (λ (o : Option ℕ). Post h.id o) pts,
          subst (λ (o : Option ℕ). Added (Steps p q (Post h.id o)) ls ls') (sym pts)
              (record { lines = a.lines; so = record { world = same ∙ a.so.0.world; board = a.so.0.board }; added = a.added }),
        )
    by (Some x) held good =
        let known = (may x (record { held = held; same = good.0 }) good.1).point in
        let f = x.waiting in
        let id : f.id ≡ h.id = found-id w.held h.id x held in
        let released : q.world.held ≡ filter (λ y. not (y.waiting.id == h.id)) w.held =
        sym (ap (λ (y : Stepped). y.0.held) a.so.0.world) ∙ (ap (λ (y : Stepped). y.0.held) (held-post w h x n.point held good.0 known late)
        ∙ (answered-held (lets_go u f.id) (reacts (lets_go u f.id) (Sight f.port f.bytes f.head)) ∙ ap (λ (k : ℕ). (lets_go u k).held) id)) in
        let less : nat_lt (length q.world.held) (length w.held) ≡ true =
        lt-ltb (length q.world.held) (length w.held) (omega (arith, ap length released, fewer (λ y. y.waiting.id == h.id) w.held x held)) in
        let pts : pt ≡ Some n.point = is ∙ ap (λ b. if b then Some n.point else None) less in (
          ap (λ (o : Option ℕ). Post h.id o) pts,
          subst (λ (o : Option ℕ). Added (Steps p q (Post h.id o)) ls ls') (sym pts) (record { lines = a.lines; so = a.so.0; added = a.added }),
        )
