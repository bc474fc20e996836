-- While another querier is present no query leaves.
use Rattle.std.proofs.Common.{◌≡◌, ℕ, ◌+◌, ◌<◌, ◌≤◌, Bool, true, false, not, ◌&&◌, cond, List, [], ◌∷◌, ◌++◌, Option, None, Some, refl, sym, ap, ◌∙◌, subst, arith}
use Rattle.std.specs.Prelude.{nat_lt, nat_le, is_some}
use Rattle.std.specs.List.{fold}
use Rattle.std.proofs.lemmas.List.Sums.{fold-append}
use Rattle.std.proofs.lemmas.Bool.{lt-ltb, lt-leb}
use Rattle.mcast_querier.specs.Election.{Election, hears, is_due, other_querier_present_interval, passed, queried, queries_at, resumed, resumed_after}
use Rattle.mcast_querier.specs.Hearing.{Asker}
use Rattle.mcast_querier.specs.Querier.{Act, Ascend, Comes, Hears, Queried, QuerierState, acted, after, election, heard_from, moment_of}

-- another querier is present until this moment at least
record Present (until : ℕ) (e : Election) : Type 0 where
  end : ℕ
  is : e.other ≡ Some end
  long : until ≤ end

hears-keeps : (until : ℕ) (e : Election) (address now : ℕ) → Present until e → until ≤ now + other_querier_present_interval → Present until (hears e address now)
hears-keeps until e address now p long =
    elim (nat_lt address e.address) as (λ b. Present until (cond b (record e { other = Some (now + other_querier_present_interval) }) e)) [
      | true ↦ record { end = now + other_querier_present_interval; is = refl; long = long }
      | false ↦ p
    ]

-- the election stays as it is, and no query is due
stays : (until : ℕ) (e : Election) (now : ℕ) → Present until e → now < until → resumed e now ≡ e
stays until e now p h =
    let long = p.long in
    ap (resumed_after e now) p.is ∙ ap (λ b. cond b (record e { other = None; due = now }) e) (lt-leb p.end now (omega (arith, long, h)))

silent : (until : ℕ) (e : Election) (now : ℕ) → Present until e → is_due e now ≡ false
silent until e now p = ap (λ (o : Option ℕ). not (is_some o) && nat_le e.due now) p.is

queries-not : (until : ℕ) (e : Election) (now : ℕ) → Present until e → now < until → queries_at e now ≡ false
queries-not until e now p h = ap (λ (r : Election). is_due r now) (stays until e now p h) ∙ silent until e now p

passed-same : (until : ℕ) (e : Election) (now : ℕ) → Present until e → now < until → passed e now ≡ e
passed-same until e now p h =
    ap (λ (r : Election). cond (is_due r now) (queried r now) r) (stays until e now p h)
    ∙ ap (λ b. cond b (queried e now) e) (silent until e now p)

passed-keeps : (until : ℕ) (e : Election) (now : ℕ) → Present until e → now < until → Present until (passed e now)
passed-keeps until e now p h = subst (Present until) (sym (passed-same until e now p h)) p

-- of one version

heard-keeps : (until : ℕ) (six : Bool) (q : QuerierState) (asker : Asker) (now : ℕ) → Present until (election six q) → until ≤ now + other_querier_present_interval
    → Present until (election six (heard_from q asker now))
heard-keeps until six q asker now p long =
    elim six as (λ s. Present until (election s q) → Present until (election s (heard_from q asker now))) [
      | true ↦ λ p. elim (asker.0) as (λ v. Present until (cond v (record q { six = hears q.six asker.1 now }) (record q { four = hears q.four asker.1 now })).six) [
        | true ↦ hears-keeps until q.six asker.1 now p long
        | false ↦ p
      ]
      | false ↦ λ p. elim (asker.0) as (λ v. Present until (cond v (record q { six = hears q.six asker.1 now }) (record q { four = hears q.four asker.1 now })).four) [
        | true ↦ p
        | false ↦ hears-keeps until q.four asker.1 now p long
      ]
    ] p

ticked-keeps : (until : ℕ) (six : Bool) (x : Queried) (now : ℕ) → Present until (election six x.0) → now < until → Present until (election six (acted x (Comes now)).0)
ticked-keeps until true x now p h = passed-keeps until x.0.six now p h
ticked-keeps until false x now p h = passed-keeps until x.0.four now p h

-- the moments after one are no earlier than it
last-after : (now ms : ℕ) (acts : List Act) → Ascend now (acts ++ Comes ms ∷ []) → now ≤ ms
last-after now ms [] a = a.0
last-after now ms (act ∷ acts) a = let first = a.0 in let rest = last-after (moment_of act) ms acts a.1 in omega (arith, first, rest)

none-leaves : (until now ms : ℕ) (six : Bool) (acts : List Act) (x : Queried) → Present until (election six x.0) → until ≤ now + other_querier_present_interval
    → Ascend now (acts ++ Comes ms ∷ []) → ms < until → queries_at (election six (fold acted x acts).0) ms ≡ false
none-leaves until now ms six [] x p long a h = queries-not until (election six x.0) ms p h
none-leaves until now ms six (Hears asker n ∷ acts) x p long a h =
    let on = a.0 in
    let still : until ≤ n + other_querier_present_interval = omega (arith, on, long) in
    none-leaves until n ms six acts (acted x (Hears asker n)) (heard-keeps until six x.0 asker n p still) still a.1 h
none-leaves until now ms six (Comes n ∷ acts) x p long a h =
    let on = a.0 in
    let still : until ≤ n + other_querier_present_interval = omega (arith, on, long) in
    let before = last-after n ms acts a.1 in
    none-leaves until n ms six acts (acted x (Comes n)) (ticked-keeps until six x n p (omega (arith, before, h))) still a.1 h

-- a version's own address stays

hears-address : (e : Election) (address now : ℕ) → (hears e address now).address ≡ e.address
hears-address e address now =
    elim (nat_lt address e.address) as (λ b. (cond b (record e { other = Some (now + other_querier_present_interval) }) e).address ≡ e.address) [ true ↦ refl | false ↦ refl ]

resumed-address : (e : Election) (now : ℕ) (o : Option ℕ) → (resumed_after e now o).address ≡ e.address
resumed-address e now None = refl
resumed-address e now (Some end) =
    elim (nat_le end now) as (λ b. (cond b (record e { other = None; due = now }) e).address ≡ e.address) [ true ↦ refl | false ↦ refl ]

passed-address : (e : Election) (now : ℕ) → (passed e now).address ≡ e.address
passed-address e now =
    let r = resumed e now in
    elim (is_due r now) as (λ b. (cond b (queried r now) r).address ≡ e.address) [ true ↦ resumed-address e now e.other | false ↦ resumed-address e now e.other ]

heard-address : (six : Bool) (q : QuerierState) (asker : Asker) (now : ℕ) → (election six (heard_from q asker now)).address ≡ (election six q).address
heard-address true q asker now =
    elim (asker.0) as (λ v. (cond v (record q { six = hears q.six asker.1 now }) (record q { four = hears q.four asker.1 now })).six.address ≡ q.six.address) [
      | true ↦ hears-address q.six asker.1 now
      | false ↦ refl
    ]
heard-address false q asker now =
    elim (asker.0) as (λ v. (cond v (record q { six = hears q.six asker.1 now }) (record q { four = hears q.four asker.1 now })).four.address ≡ q.four.address) [
      | true ↦ refl
      | false ↦ hears-address q.four asker.1 now
    ]

acted-address : (six : Bool) (x : Queried) (act : Act) → (election six (acted x act).0).address ≡ (election six x.0).address
acted-address six x (Hears asker now) = heard-address six x.0 asker now
acted-address true x (Comes now) = passed-address x.0.six now
acted-address false x (Comes now) = passed-address x.0.four now

pub address-stays : (six : Bool) (acts : List Act) (x : Queried) → (election six (fold acted x acts).0).address ≡ (election six x.0).address
address-stays six [] x = refl
address-stays six (act ∷ acts) x = address-stays six acts (acted x act) ∙ acted-address six x act

-- a lower address makes another querier present

hears-lower : (e : Election) (address now : ℕ) → address < e.address → Present (now + other_querier_present_interval) (hears e address now)
hears-lower e address now h =
    subst (λ b. Present (now + other_querier_present_interval) (cond b (record e { other = Some (now + other_querier_present_interval) }) e)) (sym (lt-ltb address e.address h))
    (record { end = now + other_querier_present_interval; is = refl; long = omega arith })

heard-lower : (six : Bool) (q : QuerierState) (address now : ℕ) → address < (election six q).address
    → Present (now + other_querier_present_interval) (election six (heard_from q (six, address) now))
heard-lower true q address now h = hears-lower q.six address now h
heard-lower false q address now h = hears-lower q.four address now h

either : (n m : ℕ) (b : Bool) → (n < m → b ≡ false) → b ≡ true → m ≤ n
either n m b never is = by (nat_lt n m) refl
  where
    strictly : nat_lt n m ≡ true → n < m
    strictly h = grind arith

    at_most : nat_lt n m ≡ false → m ≤ n
    at_most h = grind arith

    by : (c : Bool) → nat_lt n m ≡ c → m ≤ n
    by true h = absurd (cc (never (strictly h), is))
    by false h = at_most h

pub yields : (q : QuerierState) (six : Bool) (before later : List Act) (address t ms : ℕ) → address < (election six q).address
    → Ascend t (later ++ Comes ms ∷ []) → queries_at (election six (after q (before ++ Hears (six, address) t ∷ later)).0) ms ≡ true
    → t + other_querier_present_interval ≤ ms
yields q six before later address t ms lower a leaves =
    let until = t + other_querier_present_interval in
    let x = after q before in
    let own : (election six x.0).address ≡ (election six q).address = address-stays six before (q, []) in
    let y = acted x (Hears (six, address) t) in
    let present : Present until (election six y.0) = heard-lower six x.0 address t (subst (λ n. address < n) (sym own) lower) in
    let long : until ≤ t + other_querier_present_interval = omega arith in
    let whole : after q (before ++ Hears (six, address) t ∷ later) ≡ fold acted y later = fold-append acted (q, []) before (Hears (six, address) t ∷ later) in
    either ms until (queries_at (election six (fold acted y later).0) ms) (λ h. none-leaves until t ms six later y present long a h)
    (ap (λ (z : Queried). queries_at (election six z.0) ms) (sym whole) ∙ leaves)
