-- What reports, turns and publications leave of the chips.
use Rattle.std.proofs.Common.{◌≡◌, ℕ, ◌+◌, ◌-◌, ◌<◌, ◌≤◌, ◌==◌, Bool, true, false, ◌&&◌, ◌||◌, cond, if◌then◌else◌, List, []}
use Rattle.std.proofs.Common.{◌∷◌, Option, None, Some, IfSome, Result, Ok, Err, refl, sym, ◌∙◌, ap, subst, arith, is_some, option_map}
use Rattle.std.proofs.lemmas.Bool.{eqb-true, eq-eqb, and_from}
use Rattle.std.specs.List.{list_all, list_any, sum_by}
use Rattle.lemmas.proofs.Lists.{any-filter_none}
use Rattle.br_model.specs.declared.change.Asks.{Asks}
use Rattle.br_model.specs.declared.change.Asks.TheVariants.{Nothing, State, GroupRoom, AddressRoom}
use Rattle.br_model.specs.declared.change.Change.{Change}
use Rattle.br_model.specs.declared.steps.Event.TheVariants as events
use Rattle.br_model.specs.declared.steps.Refusal.{Refusal}
use Rattle.br_model.specs.declared.steps.Refusal.TheVariants.{HistoryFull}
use Rattle.br_model.specs.declared.steps.Step.TheVariants.{Report, Turn}
use Rattle.br_model.specs.declared.transcript.Line.{Line}
use Rattle.br_model.specs.declared.transcript.Line.TheVariants.{Refused}
use Rattle.br_model.specs.Control.Course.{Course, from, makes_all}
use Rattle.br_model.specs.Control.Learning.{Triple, reported}
use Rattle.br_model.specs.Control.Reaction.{Reaction, has_room, in_room, react}
use Rattle.br_model.specs.Plane.Chip.{Chip, applies, chip_in, hit_asked}
use Rattle.br_model.specs.Plane.ChipSteps.{reports, tells, turns, turns_to}
use Rattle.br_model.specs.Plane.Runs.{pending_of}
use Rattle.br_model.specs.Plane.Steps.{world_step}
use Rattle.br_model.specs.Plane.World.{World, Stepped, answered, chip_at, next_of, reacts, with_chip}
use Rattle.br_model.specs.Table.Change.{asks}
use Rattle.br_model.specs.Table.Table.{table}
use Rattle.br_model.specs.Table.Cut.{deferred_count}
use Rattle.br_model.specs.Table.Domains.{Domains, has_chip}
use Rattle.br_model.proofs.Table.Cuts.{deferred_at-there}
use Rattle.br_model.proofs.Plane.Chips.{chip-dom, chip-there, doms, put-other, put-same}
use Rattle.br_model.proofs.Plane.ByDomain.{Differ, exists}

-- Each chip is found by its domain.

-- the domains of chips are small numbers
pub no_chip : (domains : Domains) (d : ℕ) → 5 ≤ d → has_chip domains d ≡ false
no_chip domains d h = any-filter_none (exists domains) (λ e. e == d) (1 ∷ 2 ∷ 3 ∷ 4 ∷ []) (large d h)
  where
    apart : (k d : ℕ) → k < d → (k == d) ≡ false
    apart k d h = grind arith

    large : (d : ℕ) → 5 ≤ d → list_any (λ e. e == d) (1 ∷ 2 ∷ 3 ∷ 4 ∷ []) ≡ false
    large d h =
        let one = apart 1 d (omega (arith, h)) in
        let two = apart 2 d (omega (arith, h)) in
        let three = apart 3 d (omega (arith, h)) in
        let four = apart 4 d (omega (arith, h)) in
        λ i. one i || (two i || (three i || (four i || false)))

if_some : (P : Chip → Type 0) (o : Option Chip) (c : Chip) → o ≡ Some c → IfSome o P → P c
if_some P o c e h = subst (λ (x : Option Chip). IfSome x P) e h

none_there : (P : Chip → Type 0) (o : Option Chip) → is_some o ≡ false → IfSome o P
none_there P None e = tt
none_there P (Some c) e = absurd (cc)

pub no_chip_there : (P : Chip → Type 0) (o : Option Chip) → is_some o ≡ false → IfSome o P
no_chip_there P o e = none_there P o e

-- what holds of the chip of each domain holds of all chips
pub all_chips : (P : Chip → Bool) (chips : List Chip) → Differ (doms chips) → ((d : ℕ) → IfSome (chip_in chips d) (λ c. P c ≡ true)) → list_all P chips ≡ true
all_chips P [] differ h = refl
all_chips P (c ∷ chips) differ h =
    and_from (P c) (list_all P chips)
    (if_some (λ (x : Chip). P x ≡ true) (chip_in (c ∷ chips) c.dom) c (ap (λ b. cond b (Some c) (chip_in chips c.dom)) (eq-eqb c.dom c.dom refl)) (h c.dom))
    (all_chips P chips differ.1 (λ d. by d (c.dom == d) refl (h d)))
  where
    by : (d : ℕ) (b : Bool) → (c.dom == d) ≡ b → IfSome (cond b (Some c) (chip_in chips d)) (λ c. P c ≡ true) → IfSome (chip_in chips d) (λ c. P c ≡ true)
    by d true e h =
        none_there (λ (c : Chip). P c ≡ true) (chip_in chips d) (chip-there chips d ∙ (ap (λ n. list_any (λ e. e == n) (doms chips)) (sym (eqb-true c.dom d e)) ∙ differ.0))
    by d false e h = h

pub sum_none : (f : Chip → ℕ) (chips : List Chip) → list_all (λ c. f c == 0) chips ≡ true → sum_by f chips ≡ 0
sum_none f [] h = refl
sum_none f (c ∷ chips) h = split (f c == 0) (list_all (λ c. f c == 0) chips) refl h (sum_none f chips)
  where
    split : (a b : Bool) → (f c == 0) ≡ a → (a && b) ≡ true → (b ≡ true → sum_by f chips ≡ 0) → sum_by f (c ∷ chips) ≡ 0
    split true b e h later = let z = eqb-true (f c) 0 e in let l = later h in grind arith
    split false b e h later = absurd (cc)

-- An answer to an event changes no chip but those that the other world has changed.

answered_chips : (before after : World) (r : Result Reaction Refusal) (d : ℕ) → chip_at after d ≡ chip_at before d → chip_at (answered before after r).0 d ≡ chip_at before d
answered_chips before after (Err why) d e = refl
answered_chips before after (Ok r) d e = e

pub answered_waiting : (before after : World) (r : Result Reaction Refusal) → after.waiting ≡ before.waiting → (answered before after r).0.waiting ≡ before.waiting
answered_waiting before after (Err why) e = refl
answered_waiting before after (Ok r) e = e

-- Reports.

tells_other : (w : World) (c : Chip) (rs : List Triple) (d : ℕ) → (c.dom == d) ≡ false → chip_at (tells w c rs).0 d ≡ chip_at w d
tells_other w c [] d h = refl
tells_other w c (x ∷ later) d h =
    answered_chips w (with_chip w (record c { reports = later })) (reacts w (events.Told x.0 x.1 x.2)) d (put-other w.chips (record c { reports = later }) d h)

reports_other : (w : World) (o : Option Chip) (dom d : ℕ) → chip_at w dom ≡ o → (dom == d) ≡ false → chip_at (reports w o).0 d ≡ chip_at w d
reports_other w None dom d e h = refl
reports_other w (Some c) dom d e h = tells_other w c c.reports d (ap (λ n. n == d) (chip-dom w.chips dom c e) ∙ h)

pub report_other : (w : World) (dom d : ℕ) → (dom == d) ≡ false → chip_at (world_step w (Report dom)).0 d ≡ chip_at w d
report_other w dom d h = reports_other (record w { steps = w.steps + 1 }) (chip_at w dom) dom d refl h

tells_waiting : (w : World) (c : Chip) (rs : List Triple) → (tells w c rs).0.waiting ≡ w.waiting
tells_waiting w c [] = refl
tells_waiting w c (x ∷ later) = answered_waiting w (with_chip w (record c { reports = later })) (reacts w (events.Told x.0 x.1 x.2)) refl

reports_waiting : (w : World) (o : Option Chip) → (reports w o).0.waiting ≡ w.waiting
reports_waiting w None = refl
reports_waiting w (Some c) = tells_waiting w c c.reports

pub report_waiting : (w : World) (dom : ℕ) → (world_step w (Report dom)).0.waiting ≡ w.waiting
report_waiting w dom = reports_waiting (record w { steps = w.steps + 1 }) (chip_at w dom)

-- A report is refused for want of room alone.

abbrev IsTold : Result Reaction Refusal → Type 0
IsTold (Ok r) = Unit {0}
IsTold (Err why) = why ≡ HistoryFull

in_room_told : (history : List Change) (r : Course) → IsTold (in_room history (Ok r))
in_room_told history r =
    elim (has_room history r.changes) as (λ b. IsTold (if b then Ok (record { changes = r.changes; control = r.control; messages = r.messages }) else Err HistoryFull)) [
      | true ↦ tt
      | false ↦ refl
    ]

told_answer : (w : World) (vid mac port : ℕ) → IsTold (reacts w (events.Told vid mac port))
unfolding react
told_answer w vid mac port =
    let r : Course = from (table w.history) w.control in in_room_told w.history (makes_all r (reported r.table (vid, mac) port))

-- The report stays, and the line says that there is no room; or it is gone.
pub data Reported (before : Option Chip) (after : Option Chip) (lines : List Line) (c : Chip) (later : List Triple) : Type 0 where
  Stays : (step : ℕ) → after ≡ before → lines ≡ Refused step HistoryFull ∷ [] → Reported before after lines c later
  Gone : after ≡ Some (record c { reports = later }) → Reported before after lines c later

answered_report : (w : World) (dom : ℕ) (c : Chip) (later : List Triple) (r : Result Reaction Refusal) → chip_at w dom ≡ Some c → IsTold r
    → let y : Stepped = answered w (with_chip w (record c { reports = later })) r in Reported (chip_at w dom) (chip_at y.0 dom) y.1 c later
answered_report w dom c later (Err why) e told = Stays w.steps refl (ap (λ (x : Refusal). Refused w.steps x ∷ []) told)
answered_report w dom c later (Ok r) e told = Gone (put-same w.chips (record c { reports = later }) dom c (chip-dom w.chips dom c e) e)

tells_report : (w : World) (dom : ℕ) (c : Chip) (x : Triple) (later rs : List Triple) → chip_at w dom ≡ Some c → rs ≡ x ∷ later
    → Reported (chip_at w dom) (chip_at (tells w c rs).0 dom) (tells w c rs).1 c later
tells_report w dom c x later rs e is =
    subst (λ (l : List Triple). Reported (chip_at w dom) (chip_at (tells w c l).0 dom) (tells w c l).1 c later) (sym is)
    (answered_report w dom c later (reacts w (events.Told x.0 x.1 x.2)) e (told_answer w x.0 x.1 x.2))

pub report_done : (w : World) (dom : ℕ) (c : Chip) (x : Triple) (later : List Triple) → chip_at w dom ≡ Some c → c.reports ≡ x ∷ later
    → Reported (chip_at w dom) (chip_at (world_step w (Report dom)).0 dom) (world_step w (Report dom)).1 c later
report_done w dom c x later e is =
    let u : World = record w { steps = w.steps + 1 } in
    subst (λ (o : Option Chip). Reported (chip_at u dom) (chip_at (reports u o).0 dom) (reports u o).1 c later) (sym e) (tells_report u dom c x later c.reports e is)

-- Turns.

hit_reports : (c : Chip) (a : Asks) → (hit_asked c a).reports ≡ c.reports
hit_reports c Nothing = refl
hit_reports c (State state) = refl
hit_reports c (GroupRoom vid group) = refl
hit_reports c (AddressRoom vid mac) = refl

hit_dom : (c : Chip) (a : Asks) → (hit_asked c a).dom ≡ c.dom
hit_dom c Nothing = refl
hit_dom c (State state) = refl
hit_dom c (GroupRoom vid group) = refl
hit_dom c (AddressRoom vid mac) = refl

hit_count : (c : Chip) (a : Asks) → (hit_asked c a).count ≡ c.count
hit_count c Nothing = refl
hit_count c (State state) = refl
hit_count c (GroupRoom vid group) = refl
hit_count c (AddressRoom vid mac) = refl

turns_to_waiting : (w : World) (c : Chip) (o : Option Change) → (turns_to w c o).0.waiting ≡ w.waiting
turns_to_waiting w c None = refl
turns_to_waiting w c (Some x) = refl

turns_waiting : (w : World) (o : Option Chip) → (turns w o).0.waiting ≡ w.waiting
turns_waiting w None = refl
turns_waiting w (Some c) = turns_to_waiting w c (next_of w c)

pub turn_waiting : (w : World) (dom : ℕ) → (world_step w (Turn dom)).0.waiting ≡ w.waiting
turn_waiting w dom = turns_waiting (record w { steps = w.steps + 1 }) (chip_at w dom)

turns_to_other : (w : World) (c : Chip) (o : Option Change) (d : ℕ) → (c.dom == d) ≡ false → chip_at (turns_to w c o).0 d ≡ chip_at w d
turns_to_other w c None d h = refl
turns_to_other w c (Some x) d h =
    put-other w.chips (applies c x) d (ap (λ n. n == d) (hit_dom (record c { count = c.count + 1 }) (asks x)) ∙ h)

turns_other : (w : World) (o : Option Chip) (dom d : ℕ) → chip_at w dom ≡ o → (dom == d) ≡ false → chip_at (turns w o).0 d ≡ chip_at w d
turns_other w None dom d e h = refl
turns_other w (Some c) dom d e h = turns_to_other w c (next_of w c) d (ap (λ n. n == d) (chip-dom w.chips dom c e) ∙ h)

pub turn_other : (w : World) (dom d : ℕ) → (dom == d) ≡ false → chip_at (world_step w (Turn dom)).0 d ≡ chip_at w d
turn_other w dom d h = turns_other (record w { steps = w.steps + 1 }) (chip_at w dom) dom d refl h

-- the chip of the domain keeps its reports
abbrev pub reports_in : Option Chip → Option (List Triple)
reports_in o = option_map (λ (c : Chip). c.reports) o

turns_to_same : (w : World) (dom : ℕ) (c : Chip) (o : Option Change) → chip_at w dom ≡ Some c → reports_in (chip_at (turns_to w c o).0 dom) ≡ reports_in (chip_at w dom)
turns_to_same w dom c None e = refl
turns_to_same w dom c (Some x) e =
    ap reports_in (put-same w.chips (applies c x) dom c (hit_dom (record c { count = c.count + 1 }) (asks x) ∙ chip-dom w.chips dom c e) e)
    ∙ (ap (λ (l : List Triple). Some l) (hit_reports (record c { count = c.count + 1 }) (asks x)) ∙ sym (ap reports_in e))

turns_same : (w : World) (dom : ℕ) (o : Option Chip) → chip_at w dom ≡ o → reports_in (chip_at (turns w o).0 dom) ≡ reports_in (chip_at w dom)
turns_same w dom None e = refl
turns_same w dom (Some c) e = turns_to_same w dom c (next_of w c) e

by_domain : (w : World) (dom d : ℕ) (b : Bool) → (dom == d) ≡ b → reports_in (chip_at (world_step w (Turn dom)).0 d) ≡ reports_in (chip_at w d)
by_domain w dom d true e =
    subst (λ n. reports_in (chip_at (world_step w (Turn dom)).0 n) ≡ reports_in (chip_at w n)) (eqb-true dom d e) (turns_same (record w { steps = w.steps + 1 }) dom (chip_at w dom) refl)
by_domain w dom d false e = ap reports_in (turn_other w dom d e)

pub turn_reports : (w : World) (dom d : ℕ) → reports_in (chip_at (world_step w (Turn dom)).0 d) ≡ reports_in (chip_at w d)
turn_reports w dom d = by_domain w dom d (dom == d) refl

-- The chip of the domain applies what is next.
pub record Applied (w v : World) (dom : ℕ) (c : Chip) : Type 0 where
  pub chip : Chip
  pub at : chip_at v dom ≡ Some chip
  pub count : chip.count ≡ c.count + 1

turns_to_applied : (w : World) (dom : ℕ) (c : Chip) (x : Change) (o : Option Change) → chip_at w dom ≡ Some c → o ≡ Some x → Applied w (turns_to w c o).0 dom c
turns_to_applied w dom c x o e is = subst (λ (o : Option Change). Applied w (turns_to w c o).0 dom c) (sym is) (record {
  chip = applies c x;
  at = put-same w.chips (applies c x) dom c (hit_dom (record c { count = c.count + 1 }) (asks x) ∙ chip-dom w.chips dom c e) e;
  count = hit_count (record c { count = c.count + 1 }) (asks x);
})

pub turn_applied : (w : World) (dom : ℕ) (c : Chip) → chip_at w dom ≡ Some c → 0 < pending_of w c → Applied w (world_step w (Turn dom)).0 dom c
turn_applied w dom c e more =
    let u : World = record w { steps = w.steps + 1 } in
    let there = deferred_at-there w.setup.domains.edition w.history c.count (less (deferred_count w.setup.domains.edition w.history) c.count more) in
    subst (λ (o : Option Chip). Applied w (turns u o).0 dom c) (sym e)
    (let a = turns_to_applied u dom c there.0 (next_of u c) e there.1 in record { chip = a.chip; at = a.at; count = a.count })
  where
    less : (n k : ℕ) → 0 < n - k → k < n
    less n k h = omega (arith, h)
