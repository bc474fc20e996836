-- What is read off the lines of a run is what its steps did.
use Rattle.std.proofs.Common.{◌≡◌, ℕ, zero, suc, ◌+◌, ◌-◌, ◌≤◌, ◌==◌, nat_le, nat_lt, Bool, true, false, not, ◌&&◌, ◌||◌, cond, if◌then◌else◌, List}
use Rattle.std.proofs.Common.{[], ◌∷◌, ◌++◌, map, length, drop, Some, refl, sym, ap, ap₂, ◌∙◌, arith, append_assoc, append-nil, length-append, inl, inr}
use Rattle.std.proofs.Math.Seq.{drop-append_seam}
use Rattle.std.proofs.lemmas.Bool.{le-leb, lt-leb}
use Rattle.std.proofs.lemmas.Bool.Decides.{leb_tells}
use Rattle.std.proofs.lemmas.List.Folds.{list_all-append}
use Rattle.std.proofs.lemmas.List.Sums.{fold-append}
use Rattle.std.specs.Cmp.{second_so}
use Rattle.std.specs.List.{filter, fold, list_all, list_any, slice_get}
use Rattle.br_model.specs.declared.steps.Step.{Step}
use Rattle.br_model.specs.declared.transcript.Line.{Line}
use Rattle.br_model.specs.Plane.Chip.{Chip}
use Rattle.br_model.specs.Plane.Runs.{run, then_step}
use Rattle.br_model.specs.Plane.Steps.{world_step}
use Rattle.br_model.specs.Plane.World.{World, Stepped, first_world}
use Rattle.br_model.specs.Program.LiveRun.{accepts_changes, begins_with_publish, has_reported, is_empty, is_report_at, last_refused, may_drain, publishes_at_once, says_full}
use Rattle.br_model.specs.Table.Setup.{Setup}
use Rattle.br_model.proofs.Plane.Worlds.{worlds, stepped_worlds}
use Rattle.live_book.specs.Ends.{has_reports}
use Rattle.live_book.specs.Reading.{is_published, is_report_of, may_change, publishes, refused_after, reports, was_refused}
use Rattle.live_book.proofs.StepLines.{step_reported, step_told}

-- the lines of steps, and the world after them

abbrev pub said : World → List Step → List Line
said w [] = []
said w (s ∷ steps) = (world_step w s).1 ++ said (world_step w s).0 steps

fold_said : (x : Stepped) (steps : List Step) → (fold then_step x steps).1 ≡ x.1 ++ said x.0 steps
fold_said x [] = sym (append-nil x.1)
fold_said x (s ∷ steps) = fold_said (then_step x s) steps ∙ append_assoc x.1 (world_step x.0 s).1 (said (world_step x.0 s).0 steps)

pub run_said : (setup : Setup) (steps : List Step) → (run setup steps).1 ≡ said (first_world setup) steps
unfolding run
run_said setup steps = fold_said (first_world setup, []) steps

pub run_worlds : (setup : Setup) (steps : List Step) → (run setup steps).0 ≡ worlds (first_world setup) steps
unfolding run
run_worlds setup steps = stepped_worlds (first_world setup, []) steps

said_append : (w : World) (xs ys : List Step) → said w (xs ++ ys) ≡ said w xs ++ said (worlds w xs) ys
said_append w [] ys = refl
said_append w (s ∷ xs) ys =
    ap (λ (l : List Line). (world_step w s).1 ++ l) (said_append (world_step w s).0 xs ys)
    ∙ sym (append_assoc (world_step w s).1 (said (world_step w s).0 xs) (said (worlds (world_step w s).0 xs) ys))

counted : (w : World) (xs : List Step) → (worlds w xs).steps ≡ w.steps + length xs
counted w [] = let e : w.steps ≡ w.steps + 0 = omega arith in e
counted w (s ∷ xs) =
    let e : w.steps + 1 + length xs ≡ w.steps + length (s ∷ xs) = omega arith in
    counted (world_step w s).0 xs ∙ ap (λ n. n + length xs) (step_told w s).steps ∙ e

-- what is published

with_true : (a : Bool) → (not a || true) ≡ true
with_true true = refl
with_true false = refl

all_drain : (w : World) (steps : List Step) → list_all may_drain steps ≡ true → publishes_at_once w steps ≡ true
all_drain w [] h = refl
all_drain w (s ∷ steps) h =
    ap (λ b. b || ((not (accepts_changes w s) || begins_with_publish steps) && publishes_at_once (world_step w s).0 steps)) h

before_it : (a m d b p : Bool) → m ≡ (d || b) → (d ≡ true → p ≡ true) → ((not a || m) && p) ≡ (d || ((not a || b) && p))
before_it a m true b p is drained = ap₂ (λ m p. (not a || m) && p) is (drained refl) ∙ ap (λ b. b && true) (with_true a)
before_it a m false b p is drained = ap (λ m. (not a || m) && p) is

get_behind : (before : List Step) (s : Step) (after : List Step) (n : ℕ) → n ≡ length before → slice_get (before ++ s ∷ after) n ≡ Some s
get_behind [] s after zero h = refl
get_behind [] s after (suc n) h = absurd (omega (arith, h))
get_behind (x ∷ before) s after zero h = absurd (omega (arith, h))
get_behind (x ∷ before) s after (suc n) h = get_behind before s after n (omega (arith, h))

next_publishes : (before : List Step) (s : Step) (after : List Step) (n : ℕ) → n ≡ length before + 1 → publishes (slice_get (before ++ s ∷ after) n) ≡ begins_with_publish after
next_publishes [] s after zero h = absurd (omega (arith, h))
next_publishes [] s [] (suc n) h = refl
next_publishes [] s (t ∷ after) (suc zero) h = refl
next_publishes [] s (t ∷ after) (suc (suc n)) h = absurd (omega (arith, h))
next_publishes (x ∷ before) s after zero h = absurd (omega (arith, h))
next_publishes (x ∷ before) s after (suc n) h = next_publishes before s after n (omega (arith, h))

same_tests : (a b c d : ℕ) → (a ≤ b → c ≤ d) → (c ≤ d → a ≤ b) → nat_le a b ≡ nat_le c d
same_tests a b c d to back = elim (leb_tells a b) as (λ _. nat_le a b ≡ nat_le c d) [
  | inl h ↦ h.0 ∙ sym (le-leb c d (to h.1))
  | inr h ↦ elim (leb_tells c d) as (λ _. nat_le a b ≡ nat_le c d) [
    | inl k ↦ absurd (omega (arith, h.1, back k.1))
    | inr k ↦ h.0 ∙ sym k.0
  ]
]

module _ (all : List Step) (first drain : ℕ) (drains : (k : ℕ) → list_all may_drain (drop k all) ≡ nat_le drain k) where
  abbrev may : ℕ → Bool
  may = may_change all first drain

  -- the step behind these, which has the next number
  may_be : (w : World) (before : List Step) (s : Step) (later : List Step) → all ≡ before ++ s ∷ later → w.steps ≡ length before → first ≤ length before
      → may (w.steps + 1) ≡ (list_all may_drain (s ∷ later) || begins_with_publish later)
  may_be w before s later is number low =
      ap (λ b. b || (nat_lt drain (w.steps + 1) || publishes (slice_get all (w.steps + 1)))) (lt-leb (w.steps + 1) first (omega (arith, number, low)))
      ∙ ap₂ (λ a b. a || b)
      (same_tests (suc drain) (w.steps + 1) drain (length before) (λ h. omega (arith, h, number)) (λ h. omega (arith, h, number))
      ∙ sym (drains (length before))
      ∙ ap (λ (l : List Step). list_all may_drain (drop (length before) l)) is
      ∙ ap (list_all may_drain) (drop-append_seam before (s ∷ later)))
      (ap (λ (l : List Step). publishes (slice_get l (w.steps + 1))) is
      ∙ next_publishes before s later (w.steps + 1) (omega (arith, number)))

  later_published : (w : World) (before later : List Step) → all ≡ before ++ later → w.steps ≡ length before → first ≤ length before
      → list_all (is_published may) (said w later) ≡ publishes_at_once w later
  later_published w before [] is number low = refl
  later_published w before (s ∷ later) is number low =
      let y = world_step w s in
      list_all-append (is_published may) y.1 (said y.0 later)
      ∙ ap₂ (λ a b. a && b) ((step_told w s).published may)
      (later_published y.0 (before ++ s ∷ []) later (is ∙ sym (append_assoc before (s ∷ []) later))
      ((step_told w s).steps ∙ (let e : w.steps + 1 ≡ length (before ++ s ∷ []) = omega (arith, number, length-append before (s ∷ [])) in e))
      (omega (arith, low, length-append before (s ∷ []))))
      ∙ before_it (accepts_changes w s) (may (w.steps + 1)) (list_all may_drain (s ∷ later)) (begins_with_publish later) (publishes_at_once y.0 later)
      (may_be w before s later is number low)
      (λ h. all_drain y.0 later (second_so (may_drain s) (list_all may_drain later) h))

  first_published : (w : World) (xs : List Step) → w.steps + length xs ≤ first → list_all (is_published may) (said w xs) ≡ true
  first_published w [] h = refl
  first_published w (s ∷ xs) h =
      let y = world_step w s in
      let low : w.steps + 1 ≤ first = omega (arith, h) in
      let rest : y.0.steps + length xs ≤ first = omega (arith, h, (step_told w s).steps) in
      list_all-append (is_published may) y.1 (said y.0 xs)
      ∙ ap₂ (λ a b. a && b)
      ((step_told w s).published may
      ∙ ap (λ b. not (accepts_changes w s) || (b || (nat_lt drain (w.steps + 1) || publishes (slice_get all (w.steps + 1))))) (le-leb (w.steps + 1) first low)
      ∙ with_true (accepts_changes w s))
      (first_published y.0 xs rest)

-- the lines tell whether what is accepted behind the first part is published at once
pub read_published : (setup : Setup) (steps first later : List Step) (n drain : ℕ) → steps ≡ first ++ later → n ≡ length first → ((k : ℕ) → list_all may_drain (drop k steps) ≡ nat_le drain k)
    → list_all (is_published (may_change steps n drain)) (run setup steps).1 ≡ publishes_at_once (run setup first).0 later
read_published setup steps first later n drain is count drains =
    let w = first_world setup in
    let p = is_published (may_change steps n drain) in
    let number : (worlds w first).steps ≡ length first = counted w first ∙ (let e : 0 + length first ≡ length first = omega arith in e) in
    ap (list_all p) (run_said setup steps ∙ ap (said w) is ∙ said_append w first later)
    ∙ list_all-append p (said w first) (said (worlds w first) later)
    ∙ ap (λ b. b && list_all p (said (worlds w first) later)) (first_published steps n drain drains w first (omega (arith, count)))
    ∙ later_published steps n drain drains (worlds w first) first later is number (omega (arith, count))
    ∙ ap (λ (v : World). publishes_at_once v later) (sym (run_worlds setup first))

-- what is reported

is_of : (all before : List Step) (s : Step) (later : List Step) (dom n : ℕ) → all ≡ before ++ s ∷ later → n ≡ length before → reports all dom (n + 1) ≡ is_report_at dom s
is_of all before s later dom n is number =
    let e : n + 1 - 1 ≡ length before = omega (arith, number) in
    ap₂ (λ (l : List Step) k. is_report_of dom (slice_get l k)) is e ∙ ap (is_report_of dom) (get_behind before s later (length before) refl)

read_reports : (all : List Step) (dom : ℕ) (w : World) (before later : List Step) (b : Bool) → all ≡ before ++ later → w.steps ≡ length before
    → fold (refused_after (reports all dom)) b (said w later) ≡ last_refused dom w b later
read_reports all dom w before [] b is number = refl
read_reports all dom w before (s ∷ later) b is number =
    let y = world_step w s in
    let f = refused_after (reports all dom) in
    fold-append f b y.1 (said y.0 later)
    ∙ ap (λ c. fold f c (said y.0 later)) (step_reported w dom s (reports all dom) b (is_of all before s later dom w.steps is number))
    ∙ read_reports all dom y.0 (before ++ s ∷ []) later (if is_report_at dom s then list_any says_full y.1 else b) (is ∙ sym (append_assoc before (s ∷ []) later))
    ((step_told w s).steps ∙ (let e : w.steps + 1 ≡ length (before ++ s ∷ []) = omega (arith, number, length-append before (s ∷ [])) in e))

pub read_refused : (setup : Setup) (steps : List Step) (dom : ℕ) → was_refused steps (run setup steps).1 dom ≡ last_refused dom (first_world setup) false steps
read_refused setup steps dom =
    ap (λ (l : List Line). was_refused steps l dom) (run_said setup steps) ∙ read_reports steps dom (first_world setup) [] steps false refl refl

-- chips without reports are passed over
report_less : (p : ℕ → Bool) (q : Chip → Bool) → ((c : Chip) → q c ≡ (is_empty c.reports || p c.dom)) → (chips : List Chip)
    → list_all p (map (λ c. c.dom) (filter has_reports chips)) ≡ list_all q chips
report_less p q is [] = refl
report_less p q is (c ∷ chips) =
    (elim (is_empty c.reports) as
    (λ b. list_all p
    (map (λ (c : Chip). c.dom) (cond (not b) (c ∷ filter has_reports chips) (filter has_reports chips))) ≡ ((b || p c.dom) && list_all p (map (λ (c : Chip). c.dom) (filter has_reports chips)))) [
      | true ↦ refl
      | false ↦ refl
    ])
    ∙ ap₂ (λ a b. a && b) (sym (is c)) (report_less p q is chips)

pub read_chips : (setup : Setup) (steps : List Step) (chips : List Chip)
    → list_all (was_refused steps (run setup steps).1) (map (λ c. c.dom) (filter has_reports chips)) ≡ list_all (has_reported setup steps) chips
read_chips setup steps chips =
    report_less (was_refused steps (run setup steps).1) (has_reported setup steps)
    (λ c. ap (λ b. is_empty c.reports || b) (sym (read_refused setup steps c.dom))) chips

pub nothing_in : {X : Type 0} (xs : List X) → (length xs == 0) ≡ is_empty xs
nothing_in [] = refl
nothing_in (x ∷ xs) = grind arith
