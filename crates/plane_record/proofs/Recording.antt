-- One step more of a run.
use Rattle.std.proofs.Common.{◌≡◌, ℕ, ◌+◌, ◌<◌, Bool, ◌&&◌, true, List, [], ◌∷◌, ◌++◌, refl, sym, ap, ap₂, ◌∙◌, subst, arith}
use Rattle.std.proofs.lemmas.List.{append_cancel_left}
use Rattle.std.proofs.lemmas.List.Folds.{list_all-append}
use Rattle.std.specs.List.{list_all}
use Rattle.std.specs.Prelude.{nat_le}
use Rattle.br_model.specs.declared.steps.Event.{Event}
use Rattle.br_model.specs.declared.steps.Event.TheVariants as events
use Rattle.br_model.specs.declared.steps.Step.{Step}
use Rattle.br_model.specs.declared.steps.Step.TheVariants.{Hold, Post}
use Rattle.br_model.specs.declared.transcript.Line.{Line}
use Rattle.br_model.specs.Plane.Runs.{run, then_step}
use Rattle.br_model.specs.Plane.Serving.{holds}
use Rattle.br_model.specs.Plane.Steps.{world_step}
use Rattle.br_model.specs.Plane.World.{World, Waiting, Stepped, first_world}
use Rattle.br_model.specs.Table.Domains.{Domains, chip_domains, has_chip}
use Rattle.br_model.specs.Table.Setup.{Setup}
use Rattle.br_model.specs.Text.LineForms.{comes_by_line}
use Rattle.br_model.specs.Text.Operands.{last_moment}
use Rattle.br_model.specs.Theorems.Invariants.{IsWorld}
use Rattle.br_model.proofs.Plane.Applied.{run-world, run-setup, step-setup}
use Rattle.br_model.proofs.Plane.Running.{run_push, run_none}
use Rattle.std.specs.declared.option.Option.{Option}
use Rattle.std.specs.declared.option.Option.TheVariants.{None, Some}
use Rattle.transcript_lines.specs.Rows.{Listed}
use Rattle.plane_parts.specs.Added.{Added, KeepsSaved}
use Rattle.plane_core.specs.Planes.{PlaneState, Steps, Accepts, IsNamed}
use Rattle.plane_core.specs.Shown.{Shown, opened}
use Rattle.plane_record.specs.Holds.{held_line}
use Rattle.plane_record.specs.Pasts.{Past, world_of, state_of, after, event_step, said_by}

-- the past that contracts see of a plane and the recorded steps
abbrev pub past : PlaneState → List Step → Past
past p steps = record { board = p.board; setup = p.world.setup; steps = steps }

-- a line can give each of the steps, for `check`
abbrev pub ComeByLine : Setup → List Step → Type 0
ComeByLine setup steps = list_all (comes_by_line true (chip_domains setup.domains)) steps ≡ true

-- The steps led to the plane's world, and wrote these lines; and lines can give them.
abbrev pub IsRan : PlaneState → List Step → List Line → Type 0
IsRan p steps lines = (run p.world.setup steps ≡ (p.world, lines)) × ComeByLine p.world.setup steps

pub ran-world : (p : PlaneState) (ss : List Step) (ls : List Line) → IsRan p ss ls → IsWorld p.world
ran-world p ss ls h = subst IsWorld (ap (λ (x : Stepped). x.0) h.0) (run-world p.world.setup ss)

-- the plane of the past
pub stands : (p : PlaneState) (ss : List Step) (ls : List Line) → IsRan p ss ls → state_of (past p ss) ≡ p
stands p ss ls h = ap (λ (x : Stepped). record { world = x.0; board = p.board }) h.0

-- the same of what contracts saw before
pub stood : (p : PlaneState) (ss : List Step) (ls : List Line) (old : Past) → IsRan p ss ls → past p ss ≡ old → p ≡ state_of old
stood p ss ls old h is = sym (stands p ss ls h) ∙ ap state_of is

-- one more of what passes
all-push : {A : Type 0} (f : A → Bool) (xs : List A) (x : A) → list_all f xs ≡ true → f x ≡ true → list_all f (xs ++ x ∷ []) ≡ true
all-push f xs x all is = list_all-append f xs (x ∷ []) ∙ ap₂ (λ (a b : Bool). a && (b && true)) all is

-- a line of `check` gives each post
pub post-comes : (chips : List ℕ) (id : ℕ) (point : Option ℕ) → comes_by_line true chips (Post id point) ≡ true
post-comes chips id None = refl
post-comes chips id (Some point) = refl

below : (a b : ℕ) → a < b + 1 → nat_le a b ≡ true
below a b l = grind arith

-- and each event that a scenario names
pub event-comes : (chips : List ℕ) (e : Event) → IsNamed e → comes_by_line true chips (event_step e) ≡ true
event-comes chips (events.Cmd c) named = refl
event-comes chips (events.Moment now) named = below now last_moment named
event-comes chips (events.Sight port bytes head) named = absurd named
event-comes chips (events.Told vid mac port) named = absurd named
event-comes chips (events.Forget stations) named = absurd named

module _ (p q : PlaneState) (ss ss' : List Step) (s : Step) (ls ls' : List Line) (h : IsRan p ss ls) (a : Added (Steps p q s) ls ls') (is : ss' ≡ ss ++ s ∷ []) where
  same : q.world.setup ≡ p.world.setup
  same = ap (λ (x : Stepped). x.0.setup) (sym a.so.world) ∙ step-setup p.world s

  ran-on : run q.world.setup ss' ≡ (q.world, ls')
  ran-on =
      ap (λ (st : Setup). run st ss') same
      ∙ (ap (run p.world.setup) is
      ∙ (run_push p.world.setup ss s
      ∙ (ap (λ (x : Stepped). then_step x s) h.0
      ∙ (ap (λ (y : Stepped). (y.0, ls ++ y.1)) a.so.world
      ∙ ap (λ (l : List Line). (q.world, l)) (sym a.added)))))

  come-on : comes_by_line true (chip_domains p.world.setup.domains) s ≡ true → ComeByLine q.world.setup ss'
  come-on by =
      ap (λ (st : Setup). list_all (comes_by_line true (chip_domains st.domains)) ss') same
      ∙ (ap (list_all (comes_by_line true (chip_domains p.world.setup.domains))) is
      ∙ all-push (comes_by_line true (chip_domains p.world.setup.domains)) ss s h.1 by)

  pub ran-more : comes_by_line true (chip_domains p.world.setup.domains) s ≡ true → IsRan q ss' ls'
  ran-more by = (ran-on, come-on by)

  pub past-more : (old : Past) → past p ss ≡ old → past q ss' ≡ after old s
  past-more old was = (λ i. record { board = a.so.board i; setup = same i; steps = is i }) ∙ ap (λ (x : Past). after x s) was

-- the same lines before and after
pub carried : (are : List Line → Type 0) (before was after now : List Line) → was ≡ before → now ≡ after → Added are was after → Added are before now
carried are before was after now same is a = record { lines = a.lines; so = a.so; added = is ∙ (a.added ∙ ap (λ (l : List Line). l ++ a.lines) same) }

-- where the savepoint stands after a call, which was set before it
pub saved-at : (old mid new : Listed) → mid.saved ≡ old.lines → mid.lines ≡ old.lines → KeepsSaved mid new → new.saved ≡ old.lines
saved-at old mid new saved lines keeps = keeps (saved ∙ sym lines) ∙ lines

-- a copy of the lines behind the savepoint is what the step said
pub copied-said : (p q : PlaneState) (ss : List Step) (s : Step) (ls ls' saved more : List Line) (old : Past) → IsRan p ss ls → past p ss ≡ old → Added (Steps p q s) ls ls' → saved ≡ ls
    → ls' ≡ saved ++ more → more ≡ said_by old s
copied-said p q ss s ls ls' saved more old h was a at copied =
    append_cancel_left ls more a.lines (ap (λ (l : List Line). l ++ more) (sym at) ∙ (sym copied ∙ a.added))
    ∙ (sym (ap (λ (x : Stepped). x.1) a.so.world) ∙ ap (λ (st : PlaneState). (world_step st.world s).1) (stood p ss ls old h was))

-- What a step comes to that was written down: the plane with its record, the past that contracts see, and the lines that are answered.
pub record Recorded (q : PlaneState) (ss' : List Step) (s : Step) (ls' answered : List Line) (old : Past) : Type 0 where
  pub ran : IsRan q ss' ls'
  pub reached : past q ss' ≡ after old s
  pub said : answered ≡ said_by old s

-- from what is ready before the plane's call, the call, and what is written down after it
pub recorded : (p q : PlaneState) (ss ready ss' : List Step) (s : Step) (first saved mid last : Listed) (said : List Line) (old : Past)
    → IsRan p ss first.lines → past p ss ≡ old
    → ready ≡ ss → saved.lines ≡ first.lines → saved.saved ≡ first.lines
    → Added (Steps p q s) saved.lines mid.lines → KeepsSaved saved mid
    → ss' ≡ ready ++ s ∷ [] → last.lines ≡ mid.lines → mid.lines ≡ mid.saved ++ said
    → comes_by_line true (chip_domains p.world.setup.domains) s ≡ true → Recorded q ss' s last.lines said old
recorded p q ss ready ss' s first saved mid last said old h was kept same mark a keeps more on copied by =
    let b : Added (Steps p q s) first.lines last.lines = carried (Steps p q s) first.lines saved.lines mid.lines last.lines same on a in
    let is : ss' ≡ ss ++ s ∷ [] = more ∙ ap (λ (l : List Step). l ++ s ∷ []) kept in
    record {
      ran = ran-more p q ss ss' s first.lines last.lines h b is by;
      reached = past-more p q ss ss' s first.lines last.lines h b is old was;
      said = copied-said p q ss s first.lines last.lines mid.saved said old h was b (saved-at first saved mid mark same keeps) (on ∙ copied);
    }

pub ran-first : (p : PlaneState) → p.world ≡ first_world p.world.setup → IsRan p [] []
ran-first p e = (run_none p.world.setup ∙ ap (λ (w : World). (w, [])) (sym e), refl)

-- an event that was accepted is a step
pub accepted : (e : Event) (p q : PlaneState) (ls ls' : List Line) → Added (Accepts p q e) ls ls' → Added (Steps p q (event_step e)) ls ls'
accepted (events.Cmd c) p q ls ls' a = record { lines = a.lines; so = a.so; added = a.added }
accepted (events.Moment now) p q ls ls' a = record { lines = a.lines; so = a.so; added = a.added }
accepted (events.Sight port bytes head) p q ls ls' a = absurd a.so
accepted (events.Told vid mac port) p q ls ls' a = absurd a.so
accepted (events.Forget stations) p q ls ls' a = absurd a.so

-- a hold, whose one line is said by what is held
pub holds-so : (p q : PlaneState) (o : Option Shown) (n : ℕ) (ls ls' : List Line) → (world_step p.world Hold).0 ≡ q.world → q.board ≡ p.board → o ≡ opened p.world.published p.world.waiting
    → n ≡ q.world.steps → ls' ≡ ls ++ held_line o n ∷ [] → Added (Steps p q Hold) ls ls'
holds-so p q o n ls ls' e board is number added = record {
  lines = held_line o n ∷ [];
  so = record { world = by w.waiting e is ∙ ap (λ (k : ℕ). (q.world, held_line o k ∷ [])) (sym number); board = board };
  added = added;
}
  where
    w : World
    w = p.world

    u : World
    u = record w { steps = w.steps + 1 }

    by : (fs : List Waiting) → (holds u fs).0 ≡ q.world → o ≡ opened w.published fs → holds u fs ≡ (q.world, held_line o q.world.steps ∷ [])
    by [] e is = λ i. (e i, held_line (sym is i) ((e i).steps) ∷ [])
    by (f ∷ later) e is = λ i. (e i, held_line (sym is i) ((e i).steps) ∷ [])

-- What a past and one more step come to.

pub world-after : (p : Past) (s : Step) → world_of (after p s) ≡ (world_step (world_of p) s).0
world-after p s = ap (λ (x : Stepped). x.0) (run_push p.setup p.steps s)

pub world-setup : (p : Past) → (world_of p).setup ≡ p.setup
world-setup p = run-setup p.setup p.steps

-- the plane of a past has the chips of its setup
pub has-own-chip : (p : Past) (plane : PlaneState) (dom : ℕ) → plane ≡ state_of p → has_chip p.setup.domains dom ≡ true → has_chip plane.world.setup.domains dom ≡ true
has-own-chip p plane dom is there =
    ap (λ (s : PlaneState). has_chip s.world.setup.domains dom) is ∙ (ap (λ (s : Setup). has_chip s.domains dom) (world-setup p) ∙ there)

pub has-its-chip : (p : Past) (plane : PlaneState) (domains : Domains) (own dom : ℕ) → plane ≡ state_of p → p.setup ≡ record { domains = domains; own = own } → has_chip domains dom ≡ true
    → has_chip plane.world.setup.domains dom ≡ true
has-its-chip p plane domains own dom is setup there = has-own-chip p plane dom is (ap (λ (s : Setup). has_chip s.domains dom) setup ∙ there)

pub world-stands : (p : Past) → IsWorld (world_of p)
world-stands p = run-world p.setup p.steps
