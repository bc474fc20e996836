-- Sets of ports, told by what they have.
use Rattle.std.proofs.Common.{◌≡◌, ℕ, ◌<◌, ◌≤◌, arith, Bool, true, false, not, ◌&&◌, ◌||◌, cond, List, [], ◌∷◌, ◌++◌, refl, sym, ap, ap₂, ◌∙◌, inl, inr}
use Rattle.std.specs.Prelude.{◌==◌, nat_lt}
use Rattle.std.proofs.Math.Bool.{and-false}
use Rattle.std.specs.List.{filter, list_any}
use Rattle.std.specs.Ordering.{nat_cmp}
use Rattle.std.proofs.lemmas.Bool.{eq-eqb, eqb-true, cases_Bool, cases_lt, false≢true}
use Rattle.std.proofs.lemmas.List.Folds.{list_any-append}
use Rattle.lemmas.proofs.Tests.{and_comm, or-true}
use Rattle.br_model.specs.Data.Maps.{get, has}
use Rattle.br_model.specs.Table.Domains.{last_port, port_places}
use Rattle.br_model.proofs.Data.Sets.{has-is}
use Rattle.port_sets.specs.Numbers.{numbers_below, has_number, IsSetBelow}
use Rattle.port_sets.proofs.Numbers.{same_below, has-below, has-filter}
use Rattle.vlan_groups.specs.Rows.{ports_where}
use Rattle.vlan_groups.proofs.RowLaws.{has-ports_where}
use Rattle.forward_rules.specs.PortSets.{ArePorts, flag_is_set, flagged, set_of}

-- what a set has, told by its test
pub member-of : (f : ℕ → Bool) (set : List ℕ) (q : ℕ) → set ≡ ports_where f → q < port_places → has_number set q ≡ f q
member-of f set q e low = ap (λ (ns : List ℕ). has_number ns q) e ∙ has-below f port_places q low

-- a set is told by what it has
pub set-is : (f : ℕ → Bool) (set : List ℕ) (g : ℕ → Bool) → set ≡ ports_where g → ((q : ℕ) → q < port_places → has_number set q ≡ f q) → set ≡ ports_where f
set-is f set g e h = e ∙ same_below _ _ port_places (λ q low. sym (member-of g set q e low) ∙ h q low)

-- a set is that of a list with the same members
pub is-set_of : (f : ℕ → Bool) (xs set : List ℕ) → set ≡ ports_where f → ((q : ℕ) → q < port_places → f q ≡ has_number xs q) → set ≡ set_of xs
is-set_of f xs set e h = e ∙ same_below _ _ port_places (λ q low. h q low ∙ sym (has-is xs q))

-- a set that ascends is that of its own list
pub set_of-set : (set : List ℕ) → IsSetBelow port_places set → set ≡ set_of set
set_of-set set h = is-set_of (has_number set) set set h (λ q low. refl)

pub set_of-none : [] ≡ set_of []
unfolding numbers_below
set_of-none = refl

pub set_of-append : (xs ys a b set : List ℕ) → a ≡ set_of xs → b ≡ set_of ys → set ≡ ports_where (λ q. has_number a q || has_number b q) → set ≡ set_of (xs ++ ys)
set_of-append xs ys a b set ea eb e =
    is-set_of (λ q. has_number a q || has_number b q) (xs ++ ys) set e
    (λ q low. ap₂ ◌||◌ (member-of (has nat_cmp xs) a q ea low ∙ has-is xs q) (member-of (has nat_cmp ys) b q eb low ∙ has-is ys q) ∙ sym (list_any-append (λ m. q == m) xs ys))

-- with a port before the others
pub set_of-with : (n : ℕ) (xs a set : List ℕ) → a ≡ set_of xs → set ≡ ports_where (λ q. (q == n) || has_number a q) → set ≡ set_of (n ∷ xs)
set_of-with n xs a set ea e =
    is-set_of (λ q. (q == n) || has_number a q) (n ∷ xs) set e
    (λ q low. ap (λ b. (q == n) || b) (member-of (has nat_cmp xs) a q ea low ∙ has-is xs q))

-- the ports that are up and have a flag
pub set_of-flagged : (up : List ℕ) (flags : List (ℕ × ℕ)) (flag : ℕ) (a set : List ℕ) → a ≡ flagged flags flag → set ≡ ports_where (λ q. has_number up q && has_number a q)
    → set ≡ set_of (filter (λ q. flag_is_set (get nat_cmp flags q) flag) up)
set_of-flagged up flags flag a set ea e =
    let p : ℕ → Bool = λ q. flag_is_set (get nat_cmp flags q) flag in
    is-set_of (λ q. has_number up q && has_number a q) (filter p up) set e
    (λ q low. ap (λ b. has_number up q && b) (member-of p a q ea low) ∙ and_comm (has_number up q) (p q) ∙ sym (has-filter p q up))

-- ---- sets of ports

pub member-within : (set : List ℕ) (k : ℕ) → ArePorts set → has_number set k ≡ true → k ≤ last_port
member-within set k within there = elim (cases_lt last_port k) [
  | inl behind ↦ absurd (false≢true (sym (within k behind) ∙ there))
  | inr few ↦ omega (arith, few)
]

-- those that are in both
pub both-within : (old others both : List ℕ) → ArePorts old → both ≡ ports_where (λ m. has_number others m && has_number old m) → ArePorts both
both-within old others both within made n behind =
    ap (λ (ns : List ℕ). has_number ns n) made
    ∙ has-ports_where (λ m. has_number others m && has_number old m) n
    ∙ ap (λ b. nat_lt n port_places && (has_number others n && b)) (within n behind)
    ∙ ap (λ b. nat_lt n port_places && b) (and-false (has_number others n))
    ∙ and-false (nat_lt n port_places)

-- ---- tests of a set

-- a test that a filter keeps nothing tells whether some element passes
pub any-filter : (f : ℕ → Bool) (xs : List ℕ) (none : Bool) → (none ≡ true → filter f xs ≡ []) → (filter f xs ≡ [] → none ≡ true) → not none ≡ list_any f xs
any-filter f [] none to from = ap not (from refl)
any-filter f (x ∷ xs) none to from = by (any-filter f xs none) (f x) to from
  where
    by : ((none ≡ true → filter f xs ≡ []) → (filter f xs ≡ [] → none ≡ true) → not none ≡ list_any f xs) → (b : Bool)
        → (none ≡ true → cond b (x ∷ filter f xs) (filter f xs) ≡ []) → (cond b (x ∷ filter f xs) (filter f xs) ≡ [] → none ≡ true) → not none ≡ (b || list_any f xs)
    by rest true to from = elim (cases_Bool none) [
      | inl e ↦ absurd (cc (to e))
      | inr e ↦ ap not e
    ]
    by rest false to from = rest to from

-- a member that passes
pub any-found : (f : ℕ → Bool) (xs : List ℕ) (n : ℕ) → has_number xs n ≡ true → f n ≡ true → list_any f xs ≡ true
any-found f [] n there passes = there
any-found f (x ∷ xs) n there passes = elim (cases_Bool (n == x)) [
  | inl e ↦ ap (λ b. b || list_any f xs) (ap f (sym (eqb-true n x e)) ∙ passes)
  | inr e ↦
      ap (λ b. f x || b) (any-found f xs n (ap (λ b. b || has_number xs n) (sym e) ∙ there) passes)
      ∙ or-true (f x)
]

-- no member passes
pub any-none : (f : ℕ → Bool) (xs : List ℕ) → ((k : ℕ) → has_number xs k ≡ true → f k ≡ false) → list_any f xs ≡ false
any-none f [] h = refl
any-none f (x ∷ xs) h =
    ap (λ b. b || list_any f xs) (h x (ap (λ b. b || has_number xs x) (eq-eqb x x refl)))
    ∙ any-none f xs (λ k there. h k (ap (λ b. (k == x) || b) there ∙ or-true (k == x)))
