-- The end of a run, step by step.
use Rattle.std.proofs.Common.{◌≡◌, ℕ, ◌+◌, ◌<◌, ◌==◌, Bool, true, false, ◌&&◌, List, [], ◌∷◌, ◌++◌, length, IfSome, Option, None, Some, refl, sym, ◌∙◌, ap, ap₂, subst, append-nil, arith, is_some}
use Rattle.std.proofs.lemmas.Bool.{eq-eqb}
use Rattle.std.specs.List.{list_all}
use Rattle.std.proofs.lemmas.List.Folds.{list_all-append}
use Rattle.std.proofs.lemmas.List.{nil_from_length}
use Rattle.br_model.specs.declared.steps.Step.{Step}
use Rattle.br_model.specs.declared.steps.Step.TheVariants.{Publish, Report, Serve, Turn}
use Rattle.br_model.specs.Plane.Chip.{Chip}
use Rattle.br_model.specs.Plane.Runs.{pending, pending_of}
use Rattle.br_model.specs.Plane.Serving.{serves}
use Rattle.br_model.specs.Plane.Steps.{world_step}
use Rattle.br_model.specs.Plane.World.{World, Waiting, chip_at, reacts}
use Rattle.br_model.specs.Program.LiveRun.{ends_with_publish, has_reported, is_drained, is_empty, may_drain}
use Rattle.br_model.specs.Table.Domains.{Domains, chip_domains, has_chip}
use Rattle.br_model.specs.Table.Setup.{Setup}
use Rattle.br_model.specs.declared.steps.Event.TheVariants as events
use Rattle.br_model.proofs.Plane.Applied.{run-chips}
use Rattle.br_model.proofs.Plane.Chips.{doms}
use Rattle.br_model.proofs.Plane.Stays.{step-held}
use Rattle.br_model.proofs.Plane.ByDomain.{Differ, all_differ}
use Rattle.plane_record.specs.Pasts.{Past, after, world_of}
use Rattle.plane_record.proofs.Recording.{world-after, world-setup, world-stands}
use Rattle.live_thread.specs.Draining.{Drained, Drains, HasTold, HasTurned, Keeps}
use Rattle.live_thread.specs.Worlds.{IsIdle}
use Rattle.live_thread.proofs.Chips.{all_chips, answered_waiting, no_chip_there, report_waiting, sum_none, turn_waiting}
use Rattle.live_thread.proofs.Takings.{behind_both}
use Rattle.live_thread.proofs.Telling.{told_by_publish, turned_by_publish}

pub drains_none : (p : Past) → Drains p p
drains_none p = record { rest = []; so = ap (λ (l : List Step). record p { steps = l }) (sym (append-nil p.steps)); drains = refl }

pub drains_one : (p : Past) (s : Step) → may_drain s ≡ true → Drains p (after p s)
drains_one p s h = record { rest = s ∷ []; so = refl; drains = ap (λ b. b && true) h }

pub drains_both : (p q r : Past) → Drains p q → Drains q r → Drains p r
drains_both p q r a b = record {
  rest = a.rest ++ b.rest;
  so = behind_both p q r a.rest b.rest a.so b.so;
  drains = list_all-append may_drain a.rest b.rest ∙ (ap₂ (λ x y. x && y) a.drains b.drains);
}

pub drains_setup : (p q : Past) → Drains p q → q.setup ≡ p.setup
drains_setup p q d = ap (λ (x : Past). x.setup) d.so

pub drains_board : (p q : Past) → Drains p q → q.board ≡ p.board
drains_board p q d = ap (λ (x : Past). x.board) d.so

pub keeps_none : (p : Past) → Keeps p p
keeps_none p = record { waiting = refl; held = refl }

pub keeps_both : (p q r : Past) → Keeps p q → Keeps q r → Keeps p r
keeps_both p q r a b = record { waiting = b.waiting ∙ a.waiting; held = b.held ∙ a.held }

pub keeps_report : (p : Past) (dom : ℕ) → Keeps p (after p (Report dom))
keeps_report p dom = record {
  waiting = ap (λ (w : World). w.waiting) (world-after p (Report dom)) ∙ report_waiting (world_of p) dom;
  held = ap (λ (w : World). w.held) (world-after p (Report dom)) ∙ step-held (world_of p) (Report dom);
}

pub keeps_turn : (p : Past) (dom : ℕ) → Keeps p (after p (Turn dom))
keeps_turn p dom = record {
  waiting = ap (λ (w : World). w.waiting) (world-after p (Turn dom)) ∙ turn_waiting (world_of p) dom;
  held = ap (λ (w : World). w.held) (world-after p (Turn dom)) ∙ step-held (world_of p) (Turn dom);
}

-- Serves.

serves_one : (w : World) (fs : List Waiting) → w.waiting ≡ fs → 0 < length fs → length (serves w fs).0.waiting < length w.waiting
serves_one w [] e h = absurd (omega (arith, h))
serves_one w (f ∷ later) e h =
    let u : World = record w { waiting = later } in
    let now : length (serves w (f ∷ later)).0.waiting ≡ length later = ap length (answered_waiting u u (reacts u (events.Sight f.port f.bytes f.head)) refl) in
    let before : length w.waiting ≡ length (f ∷ later) = ap length e in
    omega (arith, now, before)

pub one_served : (p : Past) → 0 < length (world_of p).waiting → length (world_of (after p Serve)).waiting < length (world_of p).waiting
one_served p h =
    let w : World = world_of p in
    let now : length (world_of (after p Serve)).waiting ≡ length (world_step w Serve).0.waiting = ap (λ (v : World). length v.waiting) (world-after p Serve) in
    let less = serves_one (record w { steps = w.steps + 1 }) w.waiting refl h in
    omega (arith, now, less)

pub serve_held : (p : Past) → (world_of p).held ≡ [] → (world_of (after p Serve)).held ≡ []
serve_held p h = ap (λ (w : World). w.held) (world-after p Serve) ∙ (step-held (world_of p) Serve ∙ h)

pub idle_now : (p : Past) (n : ℕ) → n ≡ length (world_of p).waiting → n ≡ 0 → (world_of p).held ≡ [] → IsIdle (world_of p)
idle_now p n is none held = record { waiting = nil_from_length (world_of p).waiting (sym is ∙ none); held = held }

pub idle_kept : (p q : Past) → Keeps p q → IsIdle (world_of p) → IsIdle (world_of q)
idle_kept p q k i = record { waiting = k.waiting ∙ i.waiting; held = k.held ∙ i.held }

-- Domains without a chip.

without : (p : Past) (domains : Domains) (dom : ℕ) → p.setup.domains ≡ domains → has_chip domains dom ≡ false → is_some (chip_at (world_of p) dom) ≡ false
without p domains dom same none = run-chips p.setup p.steps dom ∙ (ap (λ (d : Domains). has_chip d dom) same ∙ none)

pub told_without : (p : Past) (domains : Domains) (dom : ℕ) → p.setup.domains ≡ domains → has_chip domains dom ≡ false → HasTold p dom
told_without p domains dom same none = no_chip_there (λ c. has_reported p.setup p.steps c ≡ true) (chip_at (world_of p) dom) (without p domains dom same none)

pub turned_without : (p : Past) (domains : Domains) (dom : ℕ) → p.setup.domains ≡ domains → has_chip domains dom ≡ false → HasTurned p dom
turned_without p domains dom same none = no_chip_there (λ c. pending_of (world_of p) c ≡ 0) (chip_at (world_of p) dom) (without p domains dom same none)

-- The end.

last_push : (steps : List Step) → ends_with_publish (steps ++ Publish ∷ []) ≡ true
last_push [] = refl
last_push (s ∷ []) = refl
last_push (s ∷ t ∷ steps) = last_push (t ∷ steps)

empty_is : {A : Type 0} (xs : List A) → xs ≡ [] → is_empty xs ≡ true
empty_is [] e = refl
empty_is (x ∷ xs) e = absurd (cc)

four : (a b c d : Bool) → a ≡ true → b ≡ true → c ≡ true → d ≡ true → (a && (b && (c && d))) ≡ true
four a b c d e f g h = λ i. e i && (f i && (g i && h i))

if_zero : (w : World) (o : Option Chip) → IfSome o (λ c. pending_of w c ≡ 0) → IfSome o (λ c. (pending_of w c == 0) ≡ true)
if_zero w None h = tt
if_zero w (Some c) h = eq-eqb (pending_of w c) 0 h

pub nothing_left : (p : Past) → IsIdle (world_of p) → ((d : ℕ) → HasTold p d) → ((d : ℕ) → HasTurned p d) → is_drained p.setup p.steps (world_of p) ≡ true
nothing_left p idle told turned =
    let w : World = world_of p in
    let differ : Differ (doms w.chips) = subst Differ (sym ((world-stands p).doms ∙ ap (λ (s : Setup). chip_domains s.domains) (world-setup p))) (all_differ p.setup.domains) in
    four (is_empty w.waiting) (is_empty w.held) (pending w == 0) (list_all (has_reported p.setup p.steps) w.chips)
    (empty_is w.waiting idle.waiting) (empty_is w.held idle.held)
    (eq-eqb (pending w) 0 (sum_none (pending_of w) w.chips (all_chips (λ c. pending_of w c == 0) w.chips differ (λ d. if_zero w (chip_at w d) (turned d)))))
    (all_chips (has_reported p.setup p.steps) w.chips differ told)

pub drained_now : (p q : Past) → Drains p q → IsIdle (world_of q) → ((d : ℕ) → HasTold q d) → ((d : ℕ) → HasTurned q d) → Drained p (after q Publish)
drained_now p q d idle told turned =
    let e = drains_both p q (after q Publish) d (drains_one q Publish refl) in record {
      rest = e.rest;
      so = e.so;
      drains = e.drains;
      last = last_push q.steps;
      nothing = nothing_left (after q Publish)
          (record { waiting = ap (λ (w : World). w.waiting) (world-after q Publish) ∙ idle.waiting; held = ap (λ (w : World). w.held) (world-after q Publish) ∙ idle.held })
          (λ dom. told_by_publish q dom (told dom)) (λ dom. turned_by_publish q dom (turned dom));
    }
