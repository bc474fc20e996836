-- What moves the first of all ends, and what ends before it: nothing.
use Rattle.std.proofs.Common.{◌≡◌, ℕ, ◌<◌, ◌≤◌, Bool, true, false, cond, not, Option, Some, None, List, [], ◌∷◌, ◌++◌, ◌+◌, length, take, get_or, refl, sym, ap, ap₂, ◌∙◌, subst, arith}
use Rattle.std.specs.List.{filter}
use Rattle.std.specs.Prelude.{min, nat_le}
use Rattle.std.specs.Ordering.{nat_cmp, eq_by_cmp}
use Rattle.std.specs.declared.cmp.Ordering.{Ordering}
use Rattle.std.specs.declared.cmp.Ordering.TheVariants.{Less, Equal, Greater}
use Rattle.std.specs.FinMap.Entries.{by_order}
use Rattle.std.proofs.lemmas.Bool.Decides.{nat_tests}
use Rattle.std.proofs.lemmas.List.{take_more, append-nil, map-append}
use Rattle.std.proofs.lemmas.Bool.{lt-leb}
use Rattle.br_model.specs.Control.Ends.{Ends, due, due_members, end_of, is_over, keys}
use Rattle.br_model.specs.Table.GroupPairs.{GroupPair}
use Rattle.br_model.specs.Table.Groups.{Membership, membership_cmp}
use Rattle.br_model.specs.Data.Maps.{get, put, without}
use Rattle.mdb_snoop.specs.Database.{end_joined, joined_until, ended_sooner, ending_soon}
use Rattle.mdb_snoop.specs.Places.{Section, Sections, flat, section}
use Rattle.mdb_snoop.specs.Soonest.{last_moment, moment_of, soonest, soonest_member, soonest_moment, first_end}
use Rattle.mdb_snoop.proofs.Flat.{flat-append}
use Rattle.mdb_snoop.proofs.Mapped.{mapped}

module _ {K X : Type 0} (moment : X → ℕ) where
  soonest-last : (xs : List (K × X)) → soonest moment xs ≤ last_moment
  soonest-last [] = omega arith
  soonest-last (x ∷ xs) = let rest = soonest-last xs in omega arith

  pub soonest-append : (xs ys : List (K × X)) → soonest moment (xs ++ ys) ≡ min (soonest moment xs) (soonest moment ys)
  soonest-append [] ys = let last = soonest-last ys in omega arith
  soonest-append (x ∷ xs) ys = let rest = soonest-append xs ys in omega arith

  module _ (R : K → K → Ordering) where
    soonest-put : (m : List (K × X)) (k : K) (x : X) → min (moment x) (soonest moment m) ≤ soonest moment (put R m k x)
    soonest-put [] k x = omega arith
    soonest-put (e ∷ m) k x = by (soonest-put m k x) (R k e.0)
      where
        by : min (moment x) (soonest moment m) ≤ soonest moment (put R m k x) → (r : Ordering)
            → min (moment x) (min (moment e.1) (soonest moment m)) ≤ soonest moment (by_order r ((k, x) ∷ e ∷ m) ((e.0, x) ∷ m) (e ∷ put R m k x))
        by rest Less = omega arith
        by rest Equal = omega arith
        by rest Greater = omega arith

    soonest-without : (m : List (K × X)) (k : K) → soonest moment m ≤ soonest moment (without R m k)
    soonest-without [] k = omega arith
    soonest-without (e ∷ m) k = by (soonest-without m k) (eq_by_cmp R k e.0)
      where
        by : soonest moment m ≤ soonest moment (without R m k) → (b : Bool)
            → min (moment e.1) (soonest moment m) ≤ soonest moment (cond (not b) (e ∷ without R m k) (without R m k))
        by rest true = omega arith
        by rest false = omega arith

    soonest-get : (m : List (K × X)) (k : K) (x : X) → get R m k ≡ Some x → soonest moment m ≤ moment x
    soonest-get [] k x is = absurd (cc (is))
    soonest-get (e ∷ m) k x is = by (soonest-get m k x) (eq_by_cmp R k e.0) is
      where
        by : (get R m k ≡ Some x → soonest moment m ≤ moment x) → (b : Bool) → cond b (Some e.1) (get R m k) ≡ Some x → min (moment e.1) (soonest moment m) ≤ moment x
        by rest true is = let same : e.1 ≡ x = cc in subst (λ y. min (moment e.1) (soonest moment m) ≤ moment y) same (omega arith)
        by rest false is = let low = rest is in omega arith

-- nothing ends before the first

pub none-due : {K : Type 0} (now : ℕ) (m : List (K × ℕ)) → now < soonest_moment m → due now m ≡ []
none-due now [] h = refl
none-due now (e ∷ m) h =
    ap (λ b. keys (cond b (e ∷ filter (λ x. nat_le x.1 now) m) (filter (λ x. nat_le x.1 now) m))) (lt-leb e.1 now (omega (arith, h))) ∙ none-due now m (omega (arith, h))

pub none-due_members : {K : Type 0} (now : ℕ) (m : List (K × Option ℕ)) → now < soonest_member m → due_members now m ≡ []
none-due_members now [] h = refl
none-due_members now (e ∷ m) h =
    ap (λ b. keys (cond b (e ∷ filter (λ x. is_over now x.1) m) (filter (λ x. is_over now x.1) m))) (by e.1 (omega (arith, h))) ∙ none-due_members now m (omega (arith, h))
  where
    by : (o : Option ℕ) → now < moment_of o → is_over now o ≡ false
    by None less = refl
    by (Some end) less = lt-leb end now less

module _ (e : Ends) (b now : ℕ) (h : b ≤ first_end e) (early : nat_le b now ≡ false) where
  before : now < b
  before = grind (arith, nat_tests)

  pub members-wait : due_members now e.groups ≡ []
  members-wait = let less = before in none-due_members now e.groups (omega arith)

  pub routers-wait : due now e.routers ≡ []
  routers-wait = let less = before in none-due now e.routers (omega arith)

  pub queriers-wait : due now e.queriers ≡ []
  queriers-wait = let less = before in none-due now e.queriers (omega arith)

-- what a join and a leave do to the first

module _ {K : Type 0} (R : K → K → Ordering) (m : List (K × Option ℕ)) (k : K) where
  soonest-joined : (end : Option ℕ) → min (moment_of end) (soonest_member m) ≤ soonest_member (joined_until R m k end)
  soonest-joined end = by (get R m k)
    where
      by : (o : Option (Option ℕ)) → min (moment_of end) (soonest_member m) ≤ soonest_member (put R m k (end_joined o end))
      by None = soonest-put moment_of R m k end
      by (Some None) = let low = soonest-put moment_of R m k None in let last = soonest-last moment_of m in omega arith
      by (Some (Some old)) = soonest-put moment_of R m k end

  soonest-sooner : (end : ℕ) → min end (soonest_member m) ≤ soonest_member (ending_soon R m k end)
  soonest-sooner end = by (get R m k) refl
    where
      by : (o : Option (Option ℕ)) → get R m k ≡ o → min end (soonest_member m) ≤ soonest_member (ended_sooner R m k end (end_of o))
      by None is = omega arith
      by (Some None) is = omega arith
      by (Some (Some old)) is =
          let low = soonest-put moment_of R m k (Some (min old end)) in
          let there = soonest-get moment_of R m k (Some old) is in
          omega arith

-- one part changes: the bound still holds, once it is no later than what is new

module _ (e : Ends) (b : ℕ) (h : b ≤ first_end e) where
  module _ (k : Membership) (new : List (Membership × Option ℕ)) where
    pub joined-bound : (end : Option ℕ) → new ≡ joined_until membership_cmp e.groups k end → min b (moment_of end) ≤ first_end (record e { groups = new })
    joined-bound end is =
        let low = soonest-joined membership_cmp e.groups k end in
        subst (λ l. min b (moment_of end) ≤ first_end (record e { groups = l })) (sym is) (omega arith)

    pub sooner-bound : (end : ℕ) → new ≡ ending_soon membership_cmp e.groups k end → min b end ≤ first_end (record e { groups = new })
    sooner-bound end is =
        let low = soonest-sooner membership_cmp e.groups k end in
        subst (λ l. min b end ≤ first_end (record e { groups = l })) (sym is) (omega arith)

    pub parted-bound : new ≡ without membership_cmp e.groups k → b ≤ first_end (record e { groups = new })
    parted-bound is =
        let low = soonest-without moment_of membership_cmp e.groups k in
        subst (λ l. b ≤ first_end (record e { groups = l })) (sym is) (omega arith)

  module _ (k : ℕ) (new : List (ℕ × ℕ)) where
    pub router-bound : (end : ℕ) → new ≡ put nat_cmp e.routers k end → min b end ≤ first_end (record e { routers = new })
    router-bound end is =
        let low = soonest-put (λ x. x) nat_cmp e.routers k end in
        subst (λ l. min b end ≤ first_end (record e { routers = l })) (sym is) (omega arith)

    pub router_gone-bound : new ≡ without nat_cmp e.routers k → b ≤ first_end (record e { routers = new })
    router_gone-bound is =
        let low = soonest-without (λ x. x) nat_cmp e.routers k in
        subst (λ l. b ≤ first_end (record e { routers = l })) (sym is) (omega arith)

    pub querier-bound : (end : ℕ) → new ≡ put nat_cmp e.queriers k end → min b end ≤ first_end (record e { queriers = new })
    querier-bound end is =
        let low = soonest-put (λ x. x) nat_cmp e.queriers k end in
        subst (λ l. min b end ≤ first_end (record e { queriers = l })) (sym is) (omega arith)

    pub querier_gone-bound : new ≡ without nat_cmp e.queriers k → b ≤ first_end (record e { queriers = new })
    querier_gone-bound is =
        let low = soonest-without (λ x. x) nat_cmp e.queriers k in
        subst (λ l. b ≤ first_end (record e { queriers = l })) (sym is) (omega arith)

-- sections

pub soonest-section : (k : GroupPair) (ms : List (ℕ × Option ℕ)) → soonest_member (section k ms) ≡ soonest_member ms
soonest-section k [] = refl
soonest-section k (e ∷ ms) = ap (min (moment_of e.1)) (soonest-section k ms)

-- lists that are gone through

pub soonest-next : {X : Type 0} (moment : X → ℕ) (f : ℕ → X) (ports : List ℕ) (p a b : ℕ) → a ≡ soonest moment (mapped f ports) → b ≡ min a (moment (f p))
    → b ≡ soonest moment (mapped f (ports ++ p ∷ []))
soonest-next moment f ports p a b so_far then_is =
    let last = soonest-last moment (mapped f ports) in
    let more : soonest moment (mapped f (ports ++ p ∷ [])) ≡ min (soonest moment (mapped f ports)) (min (moment (f p)) last_moment) =
    ap (soonest moment) (map-append (λ q. (q, f q)) ports (p ∷ [])) ∙ soonest-append moment (mapped f ports) (mapped f (p ∷ [])) in
    omega (arith, more, last, so_far, then_is)

pub soonest-section_next : (i : ℕ) (ss : Sections) (d s : Section) (a b : ℕ) → i < length ss → s ≡ get_or ss i d → a ≡ soonest_member (flat (take i ss)) → b ≡ min a (soonest_member s.1)
    → b ≡ soonest_member (flat (take (i + 1) ss))
soonest-section_next i ss d s a b within is so_far then_is =
    then_is
    ∙ ap₂ min so_far (sym (soonest-section s.0 s.1))
    ∙ sym (soonest-append moment_of (flat (take i ss)) (section s.0 s.1))
    ∙ ap soonest_member (ap (λ l. flat (take i ss) ++ l) (sym (append-nil (section s.0 s.1))) ∙ sym (flat-append (take i ss) (s ∷ [])))
    ∙ ap (λ l. soonest_member (flat l)) (sym (take_more ss i d within ∙ ap (λ x. take i ss ++ x ∷ []) (sym is)))
