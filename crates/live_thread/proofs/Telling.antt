-- What chips have reported, and what they have applied, as a run goes on.
use Rattle.std.proofs.Common.{◌≡◌, ◌≢◌, ℕ, ◌+◌, ◌-◌, ◌<◌, ◌==◌, Bool, true, false, ◌&&◌, ◌||◌, if◌then◌else◌, List, [], ◌∷◌}
use Rattle.std.proofs.Common.{◌++◌, length, Option, None, Some, IfSome, slice_get, refl, sym, ◌∙◌, ap, ap₂, subst, arith, option_map}
use Rattle.std.proofs.lemmas.Bool.{eqb-true, eq-eqb, false≢true, or_left, or_right}
use Rattle.std.proofs.lemmas.Map.Keys.{IsDistinct-head}
use Rattle.std.specs.List.{IsDistinct, list_any}
use Rattle.br_model.specs.declared.steps.Refusal.TheVariants.{HistoryFull}
use Rattle.br_model.specs.declared.steps.Step.{Step}
use Rattle.br_model.specs.declared.steps.Step.TheVariants.{Publish, Report, Turn}
use Rattle.br_model.specs.declared.transcript.Line.TheVariants.{Refused}
use Rattle.br_model.specs.Control.Learning.{Triple}
use Rattle.br_model.specs.Plane.Chip.{Chip, same_triple}
use Rattle.br_model.specs.Plane.Runs.{pending_of, run}
use Rattle.br_model.specs.Plane.Steps.{world_step}
use Rattle.br_model.specs.Plane.World.{World, Stepped, chip_at, first_world}
use Rattle.br_model.specs.Program.LiveRun.{has_reported, is_empty, is_report_at, last_refused, says_full}
use Rattle.br_model.specs.Table.Setup.{Setup}
use Rattle.br_model.proofs.Plane.Chips.{chip-dom}
use Rattle.br_model.proofs.Plane.Kept.{chip-stands}
use Rattle.br_model.proofs.Plane.Running.{run_none}
use Rattle.br_model.proofs.Plane.Still.{turn-history}
use Rattle.br_model.proofs.Plane.Worlds.{worlds, run_worlds as run_more}
use Rattle.plane_record.specs.Pasts.{Past, after, world_of}
use Rattle.plane_record.proofs.Recording.{world-after, world-setup, world-stands}
use Rattle.live_thread.specs.Draining.{HasTold, HasTurned}
use Rattle.live_thread.proofs.Chips.{Gone, Stays, report_done, report_other, reports_in, turn_applied, turn_other, turn_reports}

-- Whether the last report was refused, a step later.
refused_push : (dom : ℕ) (w : World) (before : Bool) (steps : List Step) (s : Step)
    → last_refused dom w before (steps ++ s ∷ []) ≡ (if is_report_at dom s then list_any says_full (world_step (worlds w steps) s).1 else last_refused dom w before steps)
refused_push dom w before [] s = refl
refused_push dom w before (t ∷ steps) s =
    let y = world_step w t in refused_push dom y.0 (if is_report_at dom t then list_any says_full y.1 else before) steps s

run_worlds : (setup : Setup) (steps : List Step) → worlds (first_world setup) steps ≡ (run setup steps).0
run_worlds setup steps = sym (run_more setup [] steps ∙ ap (λ (x : Stepped). worlds x.0 steps) (run_none setup))

-- whether no report of the domain's chip is left, or its last one was refused
abbrev pub ToldAs : ℕ → Setup → List Step → Option (List Triple) → Type 0
ToldAs dom setup steps None = Unit {0}
ToldAs dom setup steps (Some reports) = (is_empty reports || last_refused dom (first_world setup) false steps) ≡ true

told_as : (p : Past) (dom : ℕ) (o : Option Chip) → chip_at (world_of p) dom ≡ o → IfSome o (λ c. has_reported p.setup p.steps c ≡ true) → ToldAs dom p.setup p.steps (reports_in o)
told_as p dom None e h = tt
told_as p dom (Some c) e h = subst (λ d. (is_empty c.reports || last_refused d (first_world p.setup) false p.steps) ≡ true) (chip-dom (world_of p).chips dom c e) h

as_told : (p : Past) (dom : ℕ) (o : Option Chip) → chip_at (world_of p) dom ≡ o → ToldAs dom p.setup p.steps (reports_in o) → IfSome o (λ c. has_reported p.setup p.steps c ≡ true)
as_told p dom None e h = tt
as_told p dom (Some c) e h = subst (λ d. (is_empty c.reports || last_refused d (first_world p.setup) false p.steps) ≡ true) (sym (chip-dom (world_of p).chips dom c e)) h

still_told : (dom : ℕ) (setup : Setup) (xs ys : List Step) (a b : Option (List Triple)) → last_refused dom (first_world setup) false ys ≡ last_refused dom (first_world setup) false xs → b ≡ a
    → ToldAs dom setup xs a → ToldAs dom setup ys b
still_told dom setup xs ys None b e f h = subst (ToldAs dom setup ys) (sym f) tt
still_told dom setup xs ys (Some reports) b e f h = subst (ToldAs dom setup ys) (sym f) (ap (λ b. is_empty reports || b) e ∙ h)

-- a step that is no report of the domain's chip, and leaves it its reports
pub told_after : (p : Past) (s : Step) (dom : ℕ) → is_report_at dom s ≡ false → reports_in (chip_at (world_step (world_of p) s).0 dom) ≡ reports_in (chip_at (world_of p) dom)
    → HasTold p dom → HasTold (after p s) dom
told_after p s dom other same h =
    as_told (after p s) dom (chip_at (world_of (after p s)) dom) refl
    (still_told dom p.setup p.steps (p.steps ++ s ∷ []) (reports_in (chip_at (world_of p) dom)) (reports_in (chip_at (world_of (after p s)) dom))
    (refused_push dom (first_world p.setup) false p.steps s
    ∙ ap (λ b. if b then list_any says_full (world_step (worlds (first_world p.setup) p.steps) s).1 else last_refused dom (first_world p.setup) false p.steps) other)
    (ap (λ (w : World). reports_in (chip_at w dom)) (world-after p s) ∙ same)
    (told_as p dom (chip_at (world_of p) dom) refl h))

differ : (a b : ℕ) → a ≢ b → (b == a) ≡ false
differ a b h = by (b == a) refl
  where
    by : (c : Bool) → (b == a) ≡ c → (b == a) ≡ false
    by true e = absurd (h (sym (eqb-true b a e)))
    by false e = e

pub told_by_report : (p : Past) (dom d : ℕ) → d ≢ dom → HasTold p d → HasTold (after p (Report dom)) d
told_by_report p dom d other h = told_after p (Report dom) d (differ d dom other) (ap reports_in (report_other (world_of p) dom d (differ d dom other))) h

pub told_by_turn : (p : Past) (dom d : ℕ) → HasTold p d → HasTold (after p (Turn dom)) d
told_by_turn p dom d h = told_after p (Turn dom) d refl (turn_reports (world_of p) dom d) h

pub told_by_publish : (p : Past) (d : ℕ) → HasTold p d → HasTold (after p Publish) d
told_by_publish p d h = told_after p Publish d refl refl h

-- A report.

-- how many reports the domain's chip has
abbrev pub left_of : Option Chip → ℕ
left_of None = 0
left_of (Some c) = length c.reports

abbrev pub reports_left : Past → ℕ → ℕ
reports_left p dom = left_of (chip_at (world_of p) dom)

abbrev pub first_of_chip : Option Chip → Option (Option Triple)
first_of_chip o = option_map (λ (c : Chip). slice_get c.reports 0) o

abbrev pub first_of : Past → ℕ → Option (Option Triple)
first_of p dom = first_of_chip (chip_at (world_of p) dom)

-- a chip that has none has told
none_left : (rs : List Triple) → slice_get rs 0 ≡ None → is_empty rs ≡ true
none_left [] e = refl
none_left (x ∷ rs) e = absurd (cc)

all_told : (p : Past) (o : Option Chip) → first_of_chip o ≡ Some None → IfSome o (λ c. has_reported p.setup p.steps c ≡ true)
all_told p None e = tt
all_told p (Some c) e = let first : slice_get c.reports 0 ≡ None = cc in or_left (is_empty c.reports) (last_refused c.dom (first_world p.setup) false p.steps) (none_left c.reports first)

pub told_all : (p : Past) (dom : ℕ) → first_of p dom ≡ Some None → HasTold p dom
told_all p dom e = all_told p (chip_at (world_of p) dom) e

-- the chip that has this first report
record HasFirst (o : Option Chip) (x : Triple) : Type 0 where
  chip : Chip
  is : o ≡ Some chip
  later : List Triple
  reports : chip.reports ≡ x ∷ later

begins : (c : Chip) (rs : List Triple) (x : Triple) → c.reports ≡ rs → slice_get rs 0 ≡ Some x → HasFirst (Some c) x
begins c [] x e h = absurd (cc)
begins c (y ∷ rs) x e h = let same : y ≡ x = cc in record { chip = c; is = refl; later = rs; reports = e ∙ ap (λ z. z ∷ rs) same }

has_first : (o : Option Chip) (x : Triple) → first_of_chip o ≡ Some (Some x) → HasFirst o x
has_first None x e = absurd (cc)
has_first (Some c) x e = let first : slice_get c.reports 0 ≡ Some x = cc in begins c c.reports x refl first

not_again : (x : Triple) (later : List Triple) → IsDistinct same_triple (x ∷ later) → slice_get later 0 ≡ Some x → ⊥
not_again x [] h e = absurd (cc)
not_again x (y ∷ later) h e =
    let same : y ≡ x = cc in
    let own : same_triple x x ≡ true = λ i. eq-eqb x.0 x.0 refl i && (eq-eqb x.1 x.1 refl i && eq-eqb x.2 x.2 refl i) in
    let other : same_triple x y ≡ false = (IsDistinct-head same_triple x (y ∷ later) h).0 in
    false≢true (sym other ∙ (ap (same_triple x) same ∙ own))

module _ (p : Past) (dom : ℕ) (x : Triple) (first : first_of p dom ≡ Some (Some x)) where
  abbrev w : World
  w = world_of p

  abbrev q : Past
  q = after p (Report dom)

  its : HasFirst (chip_at w dom) x
  its = has_first (chip_at w dom) x first

  now_at : chip_at (world_of q) dom ≡ chip_at (world_step w (Report dom)).0 dom
  now_at = ap (λ (v : World). chip_at v dom) (world-after p (Report dom))

  was_refused : (step : ℕ) → (world_step w (Report dom)).1 ≡ Refused step HistoryFull ∷ [] → last_refused dom (first_world q.setup) false q.steps ≡ true
  was_refused step lines =
      refused_push dom (first_world p.setup) false p.steps (Report dom)
      ∙ (ap (λ b. if b then list_any says_full (world_step (worlds (first_world p.setup) p.steps) (Report dom)).1 else last_refused dom (first_world p.setup) false p.steps) (eq-eqb dom dom refl)
      ∙ (ap (λ (v : World). list_any says_full (world_step v (Report dom)).1) (run_worlds p.setup p.steps)
      ∙ ap (list_any says_full) lines))

  refused_told : (o : Option (List Triple)) → last_refused dom (first_world q.setup) false q.steps ≡ true → ToldAs dom q.setup q.steps o
  refused_told None e = tt
  refused_told (Some reports) e = or_right (is_empty reports) (last_refused dom (first_world q.setup) false q.steps) e

  stands : IsDistinct same_triple (x ∷ its.later)
  stands = subst (λ (l : List Triple). IsDistinct same_triple l) its.reports (chip-stands w dom its.chip (world-stands p) its.is).reports.ids

  -- the same report is there again: it was refused
  pub told_refused : first_of q dom ≡ Some (Some x) → HasTold q dom
  told_refused again = elim (report_done w dom its.chip x its.later its.is its.reports) [
    | Stays step same lines ↦ as_told q dom (chip_at (world_of q) dom) refl (refused_told (reports_in (chip_at (world_of q) dom)) (was_refused step lines))
    | Gone gone ↦ absurd (not_again x its.later stands (gone_first (now_at ∙ gone) again))
  ]
    where
      gone_first : chip_at (world_of q) dom ≡ Some (record its.chip { reports = its.later }) → first_of q dom ≡ Some (Some x) → slice_get its.later 0 ≡ Some x
      gone_first e f = let g : Some (slice_get its.later 0) ≡ Some (Some x) = sym (ap first_of_chip e) ∙ f in cc

  -- or it isn't, and there is one less
  pub one_less : (first_of q dom ≡ Some (Some x) → ⊥) → reports_left q dom < reports_left p dom
  one_less another = elim (report_done w dom its.chip x its.later its.is its.reports) [
    | Stays step same lines ↦ absurd (another (ap first_of_chip (now_at ∙ same) ∙ first))
    | Gone gone ↦
        let now : reports_left q dom ≡ length its.later = ap left_of (now_at ∙ gone) in
        let before : reports_left p dom ≡ length (x ∷ its.later) = ap left_of its.is ∙ ap (λ (l : List Triple). length l) its.reports in
        omega (arith, now, before)
  ]

-- Turns.

abbrev pub pending_in : World → Option Chip → ℕ
pending_in w None = 0
pending_in w (Some c) = pending_of w c

abbrev pub pending_left : Past → ℕ → ℕ
pending_left p dom = pending_in (world_of p) (chip_at (world_of p) dom)

pending_there : (w : World) (o : Option Chip) (n : ℕ) → option_map (pending_of w) o ≡ Some n → (c : Chip) × (o ≡ Some c) × (pending_of w c ≡ n)
pending_there w None n e = absurd (cc)
pending_there w (Some c) n e = (c, refl, cc)

none_pending : (w : World) (o : Option Chip) (n : ℕ) → n ≡ 0 → option_map (pending_of w) o ≡ Some n → IfSome o (λ c. pending_of w c ≡ 0)
none_pending w None n z e = tt
none_pending w (Some c) n z e = let same : pending_of w c ≡ n = cc in same ∙ z

pub turned_all : (p : Past) (dom n : ℕ) → n ≡ 0 → option_map (pending_of (world_of p)) (chip_at (world_of p) dom) ≡ Some n → HasTurned p dom
turned_all p dom n z e = none_pending (world_of p) (chip_at (world_of p) dom) n z e

still_pending : (w v : World) (a b : Option Chip) → v.setup ≡ w.setup → v.history ≡ w.history → b ≡ a → IfSome a (λ c. pending_of w c ≡ 0) → IfSome b (λ c. pending_of v c ≡ 0)
still_pending w v None b setup history e h = subst (λ (o : Option Chip). IfSome o (λ c. pending_of v c ≡ 0)) (sym e) tt
still_pending w v (Some c) b setup history e h =
    subst (λ (o : Option Chip). IfSome o (λ c. pending_of v c ≡ 0)) (sym e)
    (ap₂ (λ (s : Setup) hs. pending_of (record w { setup = s; history = hs }) c) setup history ∙ h)

pub turned_by_turn : (p : Past) (dom d : ℕ) → d ≢ dom → HasTurned p d → HasTurned (after p (Turn dom)) d
turned_by_turn p dom d other h =
    still_pending (world_of p) (world_of (after p (Turn dom))) (chip_at (world_of p) d) (chip_at (world_of (after p (Turn dom))) d) (world-setup (after p (Turn dom)) ∙ sym (world-setup p))
    (ap (λ (w : World). w.history) (world-after p (Turn dom)) ∙ turn-history (world_of p) dom)
    (ap (λ (w : World). chip_at w d) (world-after p (Turn dom)) ∙ turn_other (world_of p) dom d (differ d dom other)) h

pub turned_by_publish : (p : Past) (d : ℕ) → HasTurned p d → HasTurned (after p Publish) d
turned_by_publish p d h =
    still_pending (world_of p) (world_of (after p Publish)) (chip_at (world_of p) d) (chip_at (world_of (after p Publish)) d) (world-setup (after p Publish) ∙ sym (world-setup p))
    (ap (λ (w : World). w.history) (world-after p Publish)) (ap (λ (w : World). chip_at w d) (world-after p Publish)) h

pub one_applied : (p : Past) (dom n : ℕ) → 0 < n → option_map (pending_of (world_of p)) (chip_at (world_of p) dom) ≡ Some n → pending_left (after p (Turn dom)) dom < pending_left p dom
one_applied p dom n more e =
    let there = pending_there (world_of p) (chip_at (world_of p) dom) n e in
    let some : 0 < pending_of (world_of p) there.0 = subst (λ k. 0 < k) (sym there.2) more in
    let a = turn_applied (world_of p) dom there.0 there.1 some in
    let at : chip_at (world_of (after p (Turn dom))) dom ≡ Some a.chip = ap (λ (w : World). chip_at w dom) (world-after p (Turn dom)) ∙ a.at in
    let history : (world_of (after p (Turn dom))).history ≡ (world_of p).history = ap (λ (w : World). w.history) (world-after p (Turn dom)) ∙ turn-history (world_of p) dom in
    let setup : (world_of (after p (Turn dom))).setup ≡ (world_of p).setup = world-setup (after p (Turn dom)) ∙ sym (world-setup p) in
    let now : pending_left (after p (Turn dom)) dom ≡ pending_of (world_of p) a.chip =
    ap (pending_in (world_of (after p (Turn dom)))) at ∙ ap₂ (λ (s : Setup) hs. pending_of (record (world_of p) { setup = s; history = hs }) a.chip) setup history in
    let before : pending_left p dom ≡ pending_of (world_of p) there.0 = ap (pending_in (world_of p)) there.1 in
    less (pending_left (after p (Turn dom)) dom) (pending_left p dom) _ there.0.count a.chip.count now before a.count some
  where
    less : (a b n k j : ℕ) → a ≡ n - j → b ≡ n - k → j ≡ k + 1 → 0 < n - k → a < b
    less a b n k j now before count some = omega (arith, now, before, count, some)
