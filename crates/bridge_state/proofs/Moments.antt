-- The entries of a database with their moments: the bound of the learned ones, and which of them are old.
use Rattle.std.proofs.Common.{◌≡◌, ℕ, ◌+◌, ◌<◌, ◌≤◌, min, length, is_some, Bool, true, false, not, cond, ◌&&◌, ◌||◌, Option, None}
use Rattle.std.proofs.Common.{Some, option_map, List, [], ◌∷◌, map, filter, ◌==◌, nat_le, nat_lt, refl, sym, ap, subst, ◌∙◌, arith}
use Rattle.std.specs.List.{list_all, AllByRecursion}
use Rattle.std.specs.Cmp.{first_so, second_so, tied_itself}
use Rattle.std.specs.Ordering.{eq_by_cmp, is_eq, is_lt, ordering_reverse}
use Rattle.std.specs.declared.cmp.Ordering.{Ordering}
use Rattle.std.specs.declared.cmp.Ordering.TheVariants.{Less, Equal, Greater}
use Rattle.std.specs.FinMap.Entries.{below_all, by_order, is_sorted-put, is_sorted-where_key}
use Rattle.std.specs.Option.{option_map_or, unwrap_or}
use Rattle.std.proofs.lemmas.Bool.{le-leb, leb-true, ltb-true, false≢true, and_from}
use Rattle.std.proofs.lemmas.List.{length-map}
use Rattle.std.proofs.lemmas.Bool.Decides.{nat_tests}
use Rattle.std.proofs.lemmas.Float.{T_from_true}
use Rattle.lemmas.proofs.Tests.{true_from_T}
use Rattle.br_model.specs.declared.change.Kind.{Kind}
use Rattle.br_model.specs.Control.Ageing.{is_old}
use Rattle.br_model.specs.Control.Learning.{Address, is_learned}
use Rattle.br_model.specs.Table.Limits.{most_addresses}
use Rattle.br_model.specs.Data.Maps.{pair_cmp, get, put, without, is_ascending}
use Rattle.br_model.proofs.Data.PairKeys.{pair_total}
use Rattle.fdb_core.specs.declared.entries.Entry.{Entry}
use Rattle.fdb_core.specs.Fdb.{Table, addresses, moments, place, keys_where, is_at_port, is_expired, is_from, all_from, renewed_if}
use Rattle.fdb_core.proofs.Addresses.{get-told}
use Rattle.bridge_state.specs.Entries.{keys_at, old_keys, entries_of, IsKept}

abbrev Entries : Type 0
Entries = List (Address × Entry)

abbrev pub AllFrom : ℕ → Entries → Type 0
AllFrom b es = all_from b es ≡ true

pub at_port : (p : ℕ) (es : Entries) → keys_where (is_at_port p) es ≡ keys_at p (addresses es)
at_port p [] = refl
at_port p (e ∷ es) = by (is_at_port p e.1) (at_port p es)
  where
    by : (b : Bool) → keys_where (is_at_port p) es ≡ keys_at p (addresses es)
        → map (λ (f : Address × Entry). f.0) (cond b (e ∷ filter (λ (f : Address × Entry). is_at_port p f.1) es) (filter (λ (f : Address × Entry). is_at_port p f.1) es))
        ≡ map (λ (f : Address × (ℕ × Kind)). f.0)
        (cond b ((e.0, place e.1) ∷ filter (λ (f : Address × (ℕ × Kind)). f.1.0 == p) (addresses es)) (filter (λ (f : Address × (ℕ × Kind)). f.1.0 == p) (addresses es)))
    by true ih = ap (λ (ks : List Address). e.0 ∷ ks) ih
    by false ih = ih

-- the bound

lower_test : (l : Bool) (a b u : ℕ) → a ≤ b → (not l || nat_le b u) ≡ true → (not l || nat_le a u) ≡ true
lower_test true a b u h e = le-leb a u (let k = leb-true b u e in omega arith)
lower_test false a b u h e = refl

pub lower : (a b : ℕ) (es : Entries) → a ≤ b → AllFrom b es → AllFrom a es
lower a b [] h all = refl
lower a b (e ∷ es) h all = and_from _ _ (lower_test (is_learned e.1.kind) a b e.1.updated h (first_so _ _ all)) (lower a b es h (second_so _ _ all))

all-put : (b : ℕ) (k : Address) (x : Entry) (es : Entries) → is_from b x ≡ true → AllFrom b es → AllFrom b (put pair_cmp es k x)
all-put b k x [] here all = and_from _ _ here refl
all-put b k x (e ∷ es) here all =
    let first = first_so (is_from b e.1) (list_all (λ (f : Address × Entry). is_from b f.1) es) all in
    let rest = second_so (is_from b e.1) (list_all (λ (f : Address × Entry). is_from b f.1) es) all in
    elim (pair_cmp k e.0) as (λ r. AllFrom b (by_order r ((k, x) ∷ e ∷ es) ((e.0, x) ∷ es) (e ∷ put pair_cmp es k x))) [
      | Less ↦ and_from _ _ here all
      | Equal ↦ and_from _ _ here rest
      | Greater ↦ and_from _ _ first (all-put b k x es here rest)
    ]

from_itself : (l : Bool) (b u : ℕ) → b ≤ u → (not l || nat_le b u) ≡ true
from_itself true b u h = le-leb b u h
from_itself false b u h = refl

-- an entry of the moment `now` is put
pub from-put : (b now : ℕ) (k : Address) (x : Entry) (es : Entries) → x.updated ≡ now → AllFrom b es → AllFrom (min b now) (put pair_cmp es k x)
from-put b now k x es is all =
    all-put (min b now) k x es (from_itself (is_learned x.kind) (min b now) x.updated (omega arith)) (lower (min b now) b es (omega arith) all)

pub from-filter : (b : ℕ) (t : Address × Entry → Bool) (es : Entries) → AllFrom b es → AllFrom b (filter t es)
from-filter b t [] all = refl
from-filter b t (e ∷ es) all =
    let first = first_so (is_from b e.1) (list_all (λ (f : Address × Entry). is_from b f.1) es) all in
    let rest = from-filter b t es (second_so (is_from b e.1) (list_all (λ (f : Address × Entry). is_from b f.1) es) all) in
    elim (t e) as (λ c. AllFrom b (cond c (e ∷ filter t es) (filter t es))) [ true ↦ and_from _ _ first rest | false ↦ rest ]

pub bounded_by : (d : ℕ) (o : Option ℕ) (m : ℕ) → o ≡ Some m → unwrap_or o d ≤ m
bounded_by d None m e = absurd (cc)
bounded_by d (Some a) m e = let s : a ≡ m = cc in omega arith

-- nothing is old before the bound

young : (l : Bool) (b u now hold : ℕ) → now < b + hold → (not l || nat_le b u) ≡ true → (l && nat_le (u + hold) now) ≡ false
young true b u now hold h e = (let k = leb-true b u e in grind (arith, nat_tests))
young false b u now hold h e = refl

pub none_old : (b now hold : ℕ) (es : Entries) → now < b + hold → AllFrom b es → keys_where (is_expired now hold) es ≡ []
none_old b now hold [] h all = refl
none_old b now hold (e ∷ es) h all =
    ap (λ c. map (λ (f : Address × Entry). f.0) (cond c (e ∷ filter (λ (f : Address × Entry). is_expired now hold f.1) es) (filter (λ (f : Address × Entry). is_expired now hold f.1) es)))
    (young (is_learned e.1.kind) b e.1.updated now hold h (first_so _ _ all))
    ∙ none_old b now hold es h (second_so _ _ all)

-- the database's old entries are the definition's

abbrev Has : List (Address × ℕ) → Entries → Type 0
Has ms es = AllByRecursion (λ e. get pair_cmp ms e.0 ≡ Some e.1.updated) es

turned : (r : Ordering) → is_lt r ≡ true → is_eq (ordering_reverse r) ≡ false
turned Less e = refl
turned Equal e = absurd (cc)
turned Greater e = absurd (cc)

apart : (k q : Address) → is_lt (pair_cmp k q) ≡ true → eq_by_cmp pair_cmp q k ≡ false
apart k q e = ap is_eq (pair_total.antisymm q k) ∙ turned (pair_cmp k q) e

has-later : (k : Address) (n : ℕ) (ms : List (Address × ℕ)) (es : Entries) → below_all pair_cmp k es ≡ true → Has ms es → Has ((k, n) ∷ ms) es
has-later k n ms [] below h = h
has-later k n ms (e ∷ es) below h = (
  ap (λ b. cond b (Some n) (get pair_cmp ms e.0)) (apart k e.0 (first_so _ _ below)) ∙ h.0,
  has-later k n ms es (second_so _ _ below) h.1,
)

has-moments : (es : Entries) → is_ascending pair_cmp es ≡ true → Has (moments es) es
has-moments [] up = tt
has-moments (e ∷ es) up = (
  ap (λ r. cond (is_eq r) (Some e.1.updated) (get pair_cmp (moments es) e.0)) (tied_itself pair_total e.0),
  has-later e.0 e.1.updated (moments es) es (first_so _ _ up) (has-moments es (second_so _ _ up)),
)

old-as : (now hold : ℕ) (ms : List (Address × ℕ)) (es : Entries) → Has ms es
    → keys_where (is_expired now hold) es ≡ map (λ e. e.0) (filter (λ e. is_learned e.1.1 && is_old now hold ms e.0) (addresses es))
old-as now hold ms [] h = refl
old-as now hold ms (e ∷ es) h =
    by (is_expired now hold e.1) (old-as now hold ms es h.1)
    ∙ ap (λ b. map (λ (f : Address × (ℕ × Kind)). f.0) (cond b ((e.0, place e.1) ∷ rest) rest)) same
  where
    old : Address × (ℕ × Kind) → Bool
    old f = is_learned f.1.1 && is_old now hold ms f.0

    rest : List (Address × (ℕ × Kind))
    rest = filter old (addresses es)

    same : is_expired now hold e.1 ≡ old (e.0, place e.1)
    same = λ i. is_learned e.1.kind && option_map_or (λ u. nat_le (u + hold) now) (sym h.0 i) false

    by : (b : Bool) → keys_where (is_expired now hold) es ≡ map (λ (f : Address × (ℕ × Kind)). f.0) rest
        → map (λ (f : Address × Entry). f.0) (cond b (e ∷ filter (λ (f : Address × Entry). is_expired now hold f.1) es) (filter (λ (f : Address × Entry). is_expired now hold f.1) es))
        ≡ map (λ (f : Address × (ℕ × Kind)). f.0) (cond b ((e.0, place e.1) ∷ rest) rest)
    by true ih = ap (λ (ks : List Address). e.0 ∷ ks) ih
    by false ih = ih

pub old_as : (now hold b : ℕ) (es : Entries) → is_ascending pair_cmp es ≡ true
    → keys_where (is_expired now hold) es ≡ old_keys now hold (record { addr = addresses es; updated = moments es; oldest = b })
old_as now hold b es up = old-as now hold (moments es) es (has-moments es up)

-- the entries are told by their two lists

told : (ms : List (Address × ℕ)) (es : Entries) → Has ms es
    → map (λ e. (e.0, record { port = e.1.0; kind = e.1.1; updated = unwrap_or (get pair_cmp ms e.0) 0 })) (addresses es) ≡ es
told ms [] h = refl
told ms (e ∷ es) h = λ i. (e.0, record { port = e.1.port; kind = e.1.kind; updated = unwrap_or (h.0 i) 0 }) ∷ told ms es h.1 i

pub entries_told : (b : ℕ) (es : Entries) → is_ascending pair_cmp es ≡ true → entries_of (record { addr = addresses es; updated = moments es; oldest = b }) ≡ es
entries_told b es up = told (moments es) es (has-moments es up)

-- in order

pub ascending-put : (es : Entries) (k : Address) (x : Entry) → is_ascending pair_cmp es ≡ true → is_ascending pair_cmp (put pair_cmp es k x) ≡ true
ascending-put es k x up = true_from_T _ (is_sorted-put pair_cmp pair_total k x es (T_from_true _ up))

pub ascending-without : (es : Entries) (k : Address) → is_ascending pair_cmp es ≡ true → is_ascending pair_cmp (without pair_cmp es k) ≡ true
ascending-without es k up = true_from_T _ (is_sorted-where_key pair_cmp (λ q. not (eq_by_cmp pair_cmp k q)) es (T_from_true _ up))

-- a new address finds room
pub room-absent : (es : Entries) (k : Address) → get pair_cmp es k ≡ None → (is_some (get pair_cmp (addresses es) k) || nat_lt (length (addresses es)) most_addresses) ≡ true
    → length es < most_addresses
room-absent es k none h =
    let e : length (addresses es) ≡ length es = length-map es (λ (e : Address × Entry). (e.0, place e.1)) in
    let k : (is_some (option_map place (get pair_cmp es k)) || nat_lt (length (addresses es)) most_addresses) ≡ true = rw (← get-told place es k) h in
    let t : nat_lt (length (addresses es)) most_addresses ≡ true = rw none at k in
    let l : length (addresses es) < most_addresses = ltb-true _ _ t in
    omega arith

-- whether an address is there
pub there-told : (es : Entries) (k : Address) → is_some (get pair_cmp (addresses es) k) ≡ true → is_some (get pair_cmp es k) ≡ true
there-told es k h = by (get pair_cmp es k) (sym (ap is_some (get-told place es k)) ∙ h)
  where
    by : (o : Option Entry) → is_some (option_map place o) ≡ true → is_some o ≡ true
    by None e = e
    by (Some x) e = refl

-- the entry gets the moment `now` if it passes
pub if_renewed-kept : (fdb new : Table) (passes : Entry → Bool) (k : Address) (o : Option Entry) (b now : ℕ) → new ≡ record fdb { entries = renewed_if passes now k o fdb.entries }
    → IsKept fdb b → IsKept new (min b now)
if_renewed-kept fdb new passes k o b now is kept = subst (λ (t : Table). IsKept t (min b now)) (sym is) (by o)
  where
    same : IsKept fdb (min b now)
    same = record { room = kept.room; ascending = kept.ascending; bounded = lower (min b now) b fdb.entries (omega arith) kept.bounded }

    tested : (x : Entry) (so : Bool) → IsKept (record fdb { entries = cond so (put pair_cmp fdb.entries k (record x { updated = now })) fdb.entries }) (min b now)
    tested x true = record {
      room = kept.room;
      ascending = ascending-put fdb.entries k (record x { updated = now }) kept.ascending;
      bounded = from-put b now k (record x { updated = now }) fdb.entries refl kept.bounded;
    }
    tested x false = same

    by : (o : Option Entry) → IsKept (record fdb { entries = renewed_if passes now k o fdb.entries }) (min b now)
    by None = same
    by (Some x) = tested x (passes x)

-- an entry that is there gets the moment `now`
pub renewed-kept : (fdb new : Table) (k : Address) (b now : ℕ) → is_some (get pair_cmp fdb.entries k) ≡ true
    → ((e : Entry) → get pair_cmp fdb.entries k ≡ Some e → new ≡ record fdb { entries = put pair_cmp fdb.entries k (record e { updated = now }) })
    → IsKept fdb b → IsKept new (min b now)
renewed-kept fdb new k b now there is kept = by (get pair_cmp fdb.entries k) refl there
  where
    by : (o : Option Entry) → get pair_cmp fdb.entries k ≡ o → is_some o ≡ true → IsKept new (min b now)
    by None e h = absurd (false≢true h)
    by (Some x) e h =
        let put_so : IsKept (record fdb { entries = put pair_cmp fdb.entries k (record x { updated = now }) }) (min b now) = record {
          room = kept.room;
          ascending = ascending-put fdb.entries k (record x { updated = now }) kept.ascending;
          bounded = from-put b now k (record x { updated = now }) fdb.entries refl kept.bounded;
        }
        in
        subst (λ (t : Table). IsKept t (min b now)) (sym (is x e)) put_so
