-- What stands at a port, in the form that a search applies.
use Rattle.std.proofs.Common.{◌≡◌, [], ◌∷◌, cond, refl, ℕ, ◌+◌, ◌<◌, ◌≤◌, ◌⊎◌, inl, inr, nat_lt, Bool, true, false}
use Rattle.std.proofs.Common.{List, length, replicate, set, get_or, Option, None, Some, not, ◌==◌, ◌∙◌, ap, ap₂, subst, sym, arith}
use Rattle.std.specs.Ordering.{nat_cmp, is_eq}
use Rattle.br_model.specs.declared.tree.TreePort.{TreePort}
use Rattle.br_model.specs.Data.Maps.{get, put, without}
use Rattle.stp_core.specs.Places.{AreEmptyFrom, entries_at}
use Rattle.stp_core.proofs.PlaceLaws.{get-entries, put-entries, without-entries, numbers-kept}
use Rattle.stp_core.specs.Settling.{AreStates, state_in}
use Rattle.std.specs.Prelude.{IsSome}
use Rattle.std.specs.List.{All, filter}
use Rattle.std.proofs.lemmas.List.Elements.{All-filter, All-head, All-tail}
use Rattle.std.specs.Option.{is_some, option_and_then, option_map, option_map_or}
use Rattle.br_model.specs.Table.Table.{disabled}
use Rattle.std.proofs.lemmas.Bool.{false≢true, cases_eq, cases_lt, eq-eqb, le-ltb, lt-ltb}
use Rattle.std.proofs.lemmas.Bool.Decides.{nat_tests}
use Rattle.std.proofs.lemmas.List.{get_or-replicate, get_or-set_same, get_or-set_other, get_or_past, length-replicate, length-set}
use Rattle.lemmas.proofs.Numbers.{ltb-later}
use Rattle.br_model.specs.Tree.Tree.{Tree, bpdu_of, numbers, port_at, state_at}
use Rattle.br_model.specs.Tree.Step.{message, moved}
use Rattle.br_model.specs.Theorems.TreeLaws.{HaveSent}

pub get_at : (p : ℕ) (os : List (Option TreePort)) → get nat_cmp (entries_at 0 os) p ≡ get_or os p None
get_at p os = get-entries p 0 p os (omega arith)

pub put_at : (p : ℕ) (x : TreePort) (os : List (Option TreePort)) → p < length os → entries_at 0 (set os p (Some x)) ≡ put nat_cmp (entries_at 0 os) p x
put_at p x os low = sym (put-entries p 0 p x os (omega arith) low)

pub without_at : (p : ℕ) (os : List (Option TreePort)) → entries_at 0 (set os p None) ≡ without nat_cmp (entries_at 0 os) p
without_at p os = sym (without-entries p 0 p os (omega arith))

-- which places are empty

pub empty-none : (n : ℕ) (o : Option TreePort) → o ≡ None → AreEmptyFrom 0 (replicate n o)
empty-none n o is k up = by (cases_lt k n)
  where
    by : (k < n) ⊎ (n ≤ k) → get_or (replicate n o) k None ≡ None
    by (inl low) = get_or-replicate n k o None low ∙ is
    by (inr high) = get_or_past (replicate n o) k None (omega (arith, high, length-replicate n o))

pub empty-set : (n p : ℕ) (o : Option TreePort) (os : List (Option TreePort)) → AreEmptyFrom n os → ((k : ℕ) → n ≤ k → k ≡ p → get_or (set os p o) k None ≡ None) → AreEmptyFrom n (set os p o)
empty-set n p o os empty here k up = by (cases_eq k p)
  where
    by : (k ≡ p) ⊎ (k ≡ p → ⊥) → get_or (set os p o) k None ≡ None
    by (inl same) = here k up same
    by (inr apart) = get_or-set_other os p k o None apart ∙ empty k up

pub empty-put : (n m p : ℕ) (x : TreePort) (os : List (Option TreePort)) → AreEmptyFrom n os → p < m → n ≤ m → AreEmptyFrom m (set os p (Some x))
empty-put n m p x os empty low more =
    empty-set m p (Some x) os (λ k up. empty k (omega arith)) (λ k up same. absurd (omega arith))

pub empty-without : (n p : ℕ) (os : List (Option TreePort)) → AreEmptyFrom n os → AreEmptyFrom n (set os p None)
empty-without n p os empty =
    empty-set n p None os empty (λ k up same. at k same (cases_lt p (length os)))
  where
    at : (k : ℕ) → k ≡ p → (p < length os) ⊎ (length os ≤ p) → get_or (set os p None) k None ≡ None
    at k same (inl low) = ap (λ j. get_or (set os p None) j None) same ∙ get_or-set_same os p None None low
    at k same (inr high) = get_or_past (set os p None) k None (omega (arith, same, high, length-set os p None))

-- the ports whose state isn't the one that they had
pub moved_is : (states : List ℕ) (old : Tree) (os : List (Option TreePort)) → AreStates states old
    → numbers (filter (λ e. not (get_or states e.0 disabled == e.1.state)) (entries_at 0 os))
    ≡ filter (λ p. not (state_at old p == state_in (entries_at 0 os) p)) (numbers (entries_at 0 os))
moved_is states old os had =
    numbers-kept (λ e. not (get_or states e.0 disabled == e.1.state)) (λ p. not (state_at old p == state_in (entries_at 0 os) p)) 0 os
    (λ k m x e is.
    let here : m ≡ k = omega arith in
    let now = get_at m os ∙ ap (λ j. get_or os j None) here ∙ is in
    ap₂ (λ a b. not (a == b)) (had m) (sym (ap (λ o. option_map_or (λ y. y.state) o disabled) now)))

abbrev pub state_at_place : List (Option TreePort) → ℕ → ℕ
state_at_place ps k = option_map_or (λ x. x.state) (get_or ps k None) disabled

-- The states of the ports below i are there, and as yet the others are disabled.
abbrev pub Known : List (Option TreePort) → List ℕ → ℕ → Type 0
Known ps states i = (k : ℕ) → get_or states k disabled ≡ cond (nat_lt k i) (state_at_place ps k) disabled

none_there : (n k : ℕ) → get_or (replicate n disabled) k disabled ≡ disabled
none_there n k = by (cases_lt k n)
  where
    by : (k < n) ⊎ (n ≤ k) → get_or (replicate n disabled) k disabled ≡ disabled
    by (inl low) = get_or-replicate n k disabled disabled low
    by (inr up) = get_or_past (replicate n disabled) k disabled (omega (arith, up, length-replicate n disabled))

pub known-none : (ps : List (Option TreePort)) (n : ℕ) → Known ps (replicate n disabled) 0
known-none ps n k = none_there n k ∙ sym (ap (λ b. cond b (state_at_place ps k) disabled) (le-ltb k 0 (omega arith)))

-- one port more
pub known-more : (ps : List (Option TreePort)) (states new : List ℕ) (i s : ℕ) → i < length states → Known ps states i → new ≡ set states i s → state_at_place ps i ≡ s → Known ps new (i + 1)
known-more ps states new i s low before is here k = ap (λ l. get_or l k disabled) is ∙ by (cases_eq k i)
  where
    by : (k ≡ i) ⊎ (k ≡ i → ⊥) → get_or (set states i s) k disabled ≡ cond (nat_lt k (i + 1)) (state_at_place ps k) disabled
    by (inl same) =
        ap (λ j. get_or (set states i s) j disabled) same
        ∙ get_or-set_same states i s disabled low
        ∙ sym here
        ∙ sym (ap (λ j. state_at_place ps j) same)
        ∙ sym (ap (λ b. cond b (state_at_place ps k) disabled) (lt-ltb k (i + 1) (omega arith)))
    by (inr apart) =
        get_or-set_other states i k s disabled apart
        ∙ before k
        ∙ ap (λ b. cond b (state_at_place ps k) disabled) (ltb-later k i apart)

-- one that is disabled
pub known-same : (ps : List (Option TreePort)) (states : List ℕ) (i : ℕ) → Known ps states i → state_at_place ps i ≡ disabled → Known ps states (i + 1)
known-same ps states i before here k = before k ∙ by (cases_eq k i)
  where
    by : (k ≡ i) ⊎ (k ≡ i → ⊥) → cond (nat_lt k i) (state_at_place ps k) disabled ≡ cond (nat_lt k (i + 1)) (state_at_place ps k) disabled
    by (inl same) = any (nat_lt k i) (nat_lt k (i + 1)) (ap (λ j. state_at_place ps j) same ∙ here)
      where
        any : (a b : Bool) → state_at_place ps k ≡ disabled → cond a (state_at_place ps k) disabled ≡ cond b (state_at_place ps k) disabled
        any true true e = refl
        any true false e = e
        any false true e = sym e
        any false false e = refl
    by (inr apart) = ap (λ b. cond b (state_at_place ps k) disabled) (ltb-later k i apart)

-- all ports, where the places behind are empty
pub known-all : (ps : List (Option TreePort)) (states : List ℕ) (n i : ℕ) → n ≤ i → AreEmptyFrom n ps → Known ps states i → (p : ℕ) → get_or states p disabled ≡ state_in (entries_at 0 ps) p
known-all ps states n i high empty all p = all p ∙ by (cases_lt p n) ∙ sym (ap (λ o. option_map_or (λ x. x.state) o disabled) (get_at p ps))
  where
    by : (p < n) ⊎ (n ≤ p) → cond (nat_lt p i) (state_at_place ps p) disabled ≡ state_at_place ps p
    by (inl low) = ap (λ b. cond b (state_at_place ps p) disabled) (lt-ltb p i (omega arith))
    by (inr up) = either (nat_lt p i)
      where
        none : state_at_place ps p ≡ disabled
        none = ap (λ (o : Option TreePort). option_map_or (λ x. x.state) o disabled) (empty p up)

        either : (b : Bool) → cond b (state_at_place ps p) disabled ≡ state_at_place ps p
        either true = refl
        either false = sym none

none_differ : (f : ℕ → ℕ) (ps : List ℕ) → filter (λ p. not (f p == f p)) ps ≡ []
none_differ f [] = refl
none_differ f (p ∷ ps) = ap (λ b. cond (not b) (p ∷ filter (λ q. not (f q == f q)) ps) (filter (λ q. not (f q == f q)) ps)) (eq-eqb (f p) (f p) refl) ∙ none_differ f ps

pub moved_none : (t : Tree) → moved t t ≡ []
moved_none t = none_differ (state_at t) (numbers t.ports)

-- what holds of each port that is up holds of one at which something stands
pub up-at : (P : ℕ → Type 0) (es : List (ℕ × TreePort)) (p : ℕ) → All P (numbers es) → is_some (get nat_cmp es p) ≡ true → P p
up-at P [] p h is = absurd (false≢true is)
up-at P (e ∷ es) p h is = by (up-at P es p (All-tail P e.0 (numbers es) h)) (cases_eq p e.0)
  where
    by : (is_some (get nat_cmp es p) ≡ true → P p) → (p ≡ e.0) ⊎ (p ≡ e.0 → ⊥) → P p
    by rest (inl same) = subst P (sym same) (All-head P e.0 (numbers es) h)
    by rest (inr apart) =
        let other : is_eq (nat_cmp p e.0) ≡ false = grind (arith, nat_tests) in
        rest (ap (λ b. is_some (cond b (Some e.1) (get nat_cmp es p))) (sym other) ∙ is)

sent-up : (t : Tree) (p : ℕ) → IsSome (message t p) → is_some (port_at t p) ≡ true
sent-up t p sent = by (port_at t p) sent
  where
    by : (o : Option TreePort) → IsSome (option_map (λ s. bpdu_of s.message) (option_and_then (λ x. x.last) o)) → is_some o ≡ true
    by None sent = absurd (false≢true sent)
    by (Some x) sent = refl

-- messages went out on ports that are up
pub sent-ports : (P : ℕ → Type 0) (t : Tree) (ps : List ℕ) → All P (numbers t.ports) → HaveSent t ps → All P ps
sent-ports P t ps h sent k d low = up-at P t.ports (get_or ps k d) h (sent-up t (get_or ps k d) (sent k d low))

pub moved-ports : (P : ℕ → Type 0) (old t : Tree) → All P (numbers t.ports) → All P (moved old t)
moved-ports P old t h = All-filter (λ p. not (state_at old p == state_at t p)) P (numbers t.ports) h
