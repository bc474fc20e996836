-- The moments of a run don't go back, and each query that leaves is due.
use Rattle.std.proofs.Common.{◌≡◌, ℕ, ◌-◌, ◌+◌, ◌<◌, ◌≤◌, Bool, true, false, cond, List, [], ◌∷◌, ◌++◌, map, get_or, Option, None, Some, refl, sym, ◌∙◌, subst, arith, append_assoc}
use Rattle.std.proofs.lemmas.List.{append-nil}
use Rattle.std.proofs.lemmas.List.Elements.{All-from_recursion}
use Rattle.std.proofs.lemmas.List.Sums.{fold_push}
use Rattle.std.specs.Prelude.{◌==◌}
use Rattle.std.specs.List.{AllByRecursion, All, flat_map, fold, list_any}
use Rattle.std.specs.Option.{option_map_or}
use Rattle.br_model.specs.declared.steps.Step.{Step}
use Rattle.br_model.specs.declared.transcript.Line.{Line}
use Rattle.br_model.specs.Plane.LineTraits.{is_done, leaving}
use Rattle.br_model.specs.Plane.Steps.{world_step}
use Rattle.br_model.specs.Plane.Traits.{traits}
use Rattle.br_model.specs.Table.Domains.{host}
use Rattle.br_model.specs.Table.Setup.{Setup}
use Rattle.mcast_querier.specs.Election.{other_querier_present_interval, hears, queries_at}
use Rattle.mcast_querier.specs.Hearing.{Asker}
use Rattle.mcast_querier.specs.Leaving.{IsDue}
use Rattle.mcast_querier.specs.Querier.{Act, Ascend, Comes, Hears, Queried, QuerierState, acted, after, election, first_querier, heard_from, moment_of, queries}
use Rattle.mcast_querier.specs.Queries.{query_four, query_six}
use Rattle.mcast_querier.specs.Runs.{Listening, acts, acts_of, comes_by, entered, first_listening, heard_at, heard_in, hears_by, listens, sent}
use Rattle.mcast_querier.proofs.Moments.{PassesBy, step-passes}
use Rattle.mcast_querier.proofs.Silence.{address-stays, yields}

all-append : {X : Type 0} (P : X → Type 0) (xs ys : List X) → AllByRecursion P xs → AllByRecursion P ys → AllByRecursion P (xs ++ ys)
all-append P [] ys p q = q
all-append P (x ∷ xs) ys p q = (p.0, all-append P xs ys p.1 q)

-- Acts one after another.

-- the moment of the last act, or this one
abbrev last_of : ℕ → List Act → ℕ
last_of from [] = from
last_of from (act ∷ later) = last_of (moment_of act) later

last-append : (from : ℕ) (xs ys : List Act) → last_of from (xs ++ ys) ≡ last_of (last_of from xs) ys
last-append from [] ys = refl
last-append from (act ∷ xs) ys = last-append (moment_of act) xs ys

ascend-append : (from : ℕ) (xs ys : List Act) → Ascend from xs → Ascend (last_of from xs) ys → Ascend from (xs ++ ys)
ascend-append from [] ys a b = b
ascend-append from (act ∷ xs) ys a b = (a.0, ascend-append (moment_of act) xs ys a.1 b)

ascend-front : (from : ℕ) (xs ys : List Act) → Ascend from (xs ++ ys) → Ascend from xs
ascend-front from [] ys a = tt
ascend-front from (act ∷ xs) ys a = (a.0, ascend-front (moment_of act) xs ys a.1)

ascend-rest : (from : ℕ) (xs ys : List Act) → Ascend from (xs ++ ys) → Ascend (last_of from xs) ys
ascend-rest from [] ys a = a
ascend-rest from (act ∷ xs) ys a = ascend-rest (moment_of act) xs ys a.1

-- all at this moment
abbrev AllAt : ℕ → List Act → Type 0
AllAt n xs = AllByRecursion (λ act. moment_of act ≡ n) xs

at-once : (from n : ℕ) (xs : List Act) → from ≤ n → AllAt n xs → Ascend from xs × (last_of from xs ≤ n)
at-once from n [] le all = (tt, le)
at-once from n (act ∷ xs) le all =
    let same = all.0 in
    let r = at-once (moment_of act) n xs (omega (arith, same)) all.1 in
    ((omega (arith, same, le), r.0), r.1)

-- The acts of a step.

module _ (askers : List (Option Asker)) (n : ℕ) where
  asked-at : (o : Option Asker) → AllAt n (hears_by o n)
  asked-at None = tt
  asked-at (Some asker) = (refl, tt)

  left-at : (o : Option (ℕ × ℕ)) → AllAt n (heard_at askers n o)
  left-at None = tt
  left-at (Some x) =
      elim (x.1 == host) as (λ b. AllAt n (cond b (hears_by (get_or askers (x.0 - 1) None) n) [])) [
        | true ↦ asked-at (get_or askers (x.0 - 1) None)
        | false ↦ tt
      ]

  heard-at : (l : Line) → AllAt n (heard_in askers n l)
  heard-at l = left-at (leaving l)

  all-heard : (told : List Line) → AllAt n (flat_map (heard_in askers n) told)
  all-heard [] = tt
  all-heard (l ∷ told) = all-append (λ act. moment_of act ≡ n) (heard_in askers n l) (flat_map (heard_in askers n) told) (heard-at l) (all-heard told)

named-at : (o : Option ℕ) (told : List Line) (before after : ℕ) → PassesBy o (list_any is_done told) before after
    → AllAt after (option_map_or (λ (moment : ℕ). cond (list_any is_done told) (Comes moment ∷ []) []) o []) × (before ≤ after)
named-at None told before after p = (tt, omega (arith, p))
named-at (Some moment) told before after p =
    (elim (list_any is_done told) as (λ b. PassesBy (Some moment) b before after → AllAt after (cond b (Comes moment ∷ []) []) × (before ≤ after)) [
      | true ↦ λ p. let le = p.0 in let same = p.1 in ((sym same, tt), omega (arith, le, same))
      | false ↦ λ p. (tt, omega (arith, p))
    ]) p

comes-at : (step : Step) (told : List Line) (before after : ℕ) → PassesBy (traits step).moment (list_any is_done told) before after → AllAt after (comes_by step told) × (before ≤ after)
comes-at step told before after p = named-at (traits step).moment told before after p

-- Runs.

-- the acts so far ascend, up to the last moment
record UpTo (l : Listening) : Type 0 where
  ascend : Ascend 0 l.acts
  last : last_of 0 l.acts ≤ l.world.control.now

listens-up : (l : Listening) (step : Step) → UpTo l → UpTo (listens l step)
listens-up l step up =
    let x = world_step l.world step in
    let n = x.0.control.now in
    let askers = l.askers ++ entered step in
    let new = acts_of askers step x in
    let c = comes-at step x.1 l.world.control.now n (step-passes l.world step) in
    let all : AllAt n new = all-append (λ act. moment_of act ≡ n) (flat_map (heard_in askers n) x.1) (comes_by step x.1) (all-heard askers n x.1) c.0 in
    let last = up.last in
    let grows = c.1 in
    let once = at-once (last_of 0 l.acts) n new (omega (arith, last, grows)) all in
    record { ascend = ascend-append 0 l.acts new up.ascend once.0; last = subst (λ k. k ≤ n) (sym (last-append 0 l.acts new)) once.1 }

run-up : (l : Listening) (steps : List Step) → UpTo l → UpTo (fold listens l steps)
run-up l [] up = up
run-up l (step ∷ later) up = run-up (listens l step) later (listens-up l step up)

pub acts-ascend : (setup : Setup) (steps : List Step) → Ascend 0 (acts setup steps)
acts-ascend setup steps = (run-up (first_listening setup) steps (record { ascend = tt; last = omega arith })).ascend

-- Queries.

pub heard-own : (q : QuerierState) (asker : Asker) (now : ℕ) → (heard_from q asker now).own ≡ q.own
heard-own q asker now = elim (asker.0) as (λ v. (cond v (record q { six = hears q.six asker.1 now }) (record q { four = hears q.four asker.1 now })).own ≡ q.own) [ true ↦ refl | false ↦ refl ]

pub own-stays : (xs : List Act) (x : Queried) → (fold acted x xs).0.own ≡ x.0.own
own-stays [] x = refl
own-stays (Hears asker now ∷ xs) x = own-stays xs (acted x (Hears asker now)) ∙ heard-own x.0 asker now
own-stays (Comes now ∷ xs) x = own-stays xs (acted x (Comes now))

module _ (first : QuerierState) (all : List Act) (ascends : Ascend 0 all) where
  still : (six : Bool) (before later : List Act) (ms : ℕ) → all ≡ before ++ Comes ms ∷ later → queries_at (election six (after first before).0) ms ≡ true → (earlier since : List Act) (address t : ℕ)
      → before ≡ earlier ++ Hears (six, address) t ∷ since → address < (election six first).address → t + other_querier_present_interval ≤ ms
  still six before later ms parts due earlier since address t e lower =
      let heard : Act = Hears (six, address) t in
      let whole : Ascend 0 ((earlier ++ heard ∷ since) ++ Comes ms ∷ later) = subst (λ (l : List Act). Ascend 0 (l ++ Comes ms ∷ later)) e (subst (Ascend 0) parts ascends) in
      let rest = ascend-rest 0 earlier (heard ∷ (since ++ Comes ms ∷ later)) (subst (Ascend 0) (append_assoc earlier (heard ∷ since) (Comes ms ∷ later)) whole) in
      let between : Ascend t ((since ++ Comes ms ∷ []) ++ later) = subst (Ascend t) (sym (append_assoc since (Comes ms ∷ []) later)) rest.1 in
      yields first six earlier since address t ms lower (ascend-front t (since ++ Comes ms ∷ []) later between) (subst (λ (l : List Act). queries_at (election six (after first l).0) ms ≡ true) e due)

  all-due : (before later : List Act) (ms : ℕ) → all ≡ before ++ Comes ms ∷ later → AllByRecursion (IsDue first all) (map (λ query. (ms, query)) (queries (after first before).0 ms))
  all-due before later ms parts = by (queries_at q.four ms) (queries_at q.six ms) refl refl
    where
      q : QuerierState
      q = (after first before).0

      four : queries_at q.four ms ≡ true → IsDue first all (ms, query_four q.own q.four.address)
      four due = record {
        six = false;
        before = before;
        later = later;
        parts = parts;
        due = due;
        bytes = λ i. query_four (own-stays before (first, []) i) (address-stays false before (first, []) i);
        silent = still false before later ms parts due;
      }

      six : queries_at q.six ms ≡ true → IsDue first all (ms, query_six q.own q.six.address)
      six due = record {
        six = true;
        before = before;
        later = later;
        parts = parts;
        due = due;
        bytes = λ i. query_six (own-stays before (first, []) i) (address-stays true before (first, []) i);
        silent = still true before later ms parts due;
      }

      by : (b d : Bool) → queries_at q.four ms ≡ b → queries_at q.six ms ≡ d
          → AllByRecursion (IsDue first all) (map (λ query. (ms, query)) (cond b (query_four q.own q.four.address ∷ []) [] ++ cond d (query_six q.own q.six.address ∷ []) []))
      by true true e f = (four e, (six f, tt))
      by true false e f = (four e, tt)
      by false true e f = (six f, tt)
      by false false e f = tt

  acted-due : (before later : List Act) (act : Act) → all ≡ before ++ act ∷ later → AllByRecursion (IsDue first all) (after first before).1
      → AllByRecursion (IsDue first all) (acted (after first before) act).1
  acted-due before later (Hears asker now) parts due = due
  acted-due before later (Comes now) parts due =
      all-append (IsDue first all) (after first before).1 (map (λ query. (now, query)) (queries (after first before).0 now)) due (all-due before later now parts)

  each-due : (before later : List Act) → all ≡ before ++ later → AllByRecursion (IsDue first all) (after first before).1 → AllByRecursion (IsDue first all) (after first all).1
  each-due before [] parts due = subst (λ (l : List Act). AllByRecursion (IsDue first all) (after first l).1) (sym (parts ∙ append-nil before)) due
  each-due before (act ∷ later) parts due =
      each-due (before ++ act ∷ []) later (parts ∙ sym (append_assoc before (act ∷ []) later))
      (subst (λ (y : Queried). AllByRecursion (IsDue first all) y.1) (sym (fold_push acted (first, []) before act)) (acted-due before later act parts due))

pub sent-due : (a4 a6 : ℕ) (setup : Setup) (steps : List Step) → All (IsDue (first_querier setup.own a4 a6) (acts setup steps)) (sent a4 a6 setup steps)
unfolding sent
sent-due a4 a6 setup steps =
    let first = first_querier setup.own a4 a6 in
    All-from_recursion _ (after first (acts setup steps)).1 (each-due first (acts setup steps) (acts-ascend setup steps) [] (acts setup steps) refl tt)
