-- What goes with a port, taken from lists by its parts.
use Rattle.std.proofs.Common.{◌≡◌, ℕ, zero, suc, ◌+◌, ◌<◌, ◌==◌, Bool, true, false, cond, ◌&&◌, List, [], ◌∷◌, ◌++◌, length, get_or, take, map, refl, ap, ◌∙◌, arith}
use Rattle.std.specs.List.{filter}
use Rattle.br_model.specs.declared.change.Change.{Change}
use Rattle.br_model.specs.declared.change.Change.TheVariants.{GroupPart, AddrDel, VlanDel}
use Rattle.br_model.specs.declared.change.Kind.{Kind}
use Rattle.br_model.specs.Table.Groups.{Membership}
use Rattle.br_model.specs.Table.GroupPairs.{GroupPair}
use Rattle.br_model.specs.Control.Learning.{Address}
use Rattle.bridge_state.specs.Entries.{keys_at}

-- one item more
pub next : {X Y : Type 0} (f : X → Y) (p : X → Bool) (xs : List X) (i : ℕ) (d : X) → i < length xs
    → map f (filter p (take (i + 1) xs)) ≡ map f (filter p (take i xs)) ++ cond (p (get_or xs i d)) (f (get_or xs i d) ∷ []) []
next f p [] i d h = absurd (omega arith)
next {X} {Y} f p (x ∷ xs) zero d h = by (p x)
  where
    by : (b : Bool) → map f (cond b (x ∷ []) []) ≡ cond b (f x ∷ []) []
    by true = refl
    by false = refl
next {X} {Y} f p (x ∷ xs) (suc i) d h =
    ap (λ n. map f (filter p (take n (x ∷ xs)))) (let e : suc i + 1 ≡ suc (i + 1) = omega arith in e) ∙ by (p x) (next f p xs i d (omega arith))
  where
    last : List Y
    last = cond (p (get_or xs i d)) (f (get_or xs i d) ∷ []) []

    by : (b : Bool) → map f (filter p (take (i + 1) xs)) ≡ map f (filter p (take i xs)) ++ last
        → map f (cond b (x ∷ filter p (take (i + 1) xs)) (filter p (take (i + 1) xs))) ≡ map f (cond b (x ∷ filter p (take i xs)) (filter p (take i xs))) ++ last
    by true ih = ap (λ (l : List Y). f x ∷ l) ih
    by false ih = ih

abbrev pub deletions : (ℕ → Bool) → List Address → List Change
deletions among keys = map (λ k. AddrDel k.0 k.1) (filter (λ k. among k.0) keys)

abbrev pub partings : (ℕ → Bool) → ℕ → List GroupPair → List Change
partings among port pairs = map (λ m. GroupPart port m.0 m.1) (filter (λ m. among m.0) pairs)

pub deletions-at : (among : ℕ → Bool) (port : ℕ) (addr : List (Address × (ℕ × Kind)))
    → deletions among (keys_at port addr) ≡ map (λ e. AddrDel e.0.0 e.0.1) (filter (λ e. e.1.0 == port && among e.0.0) addr)
deletions-at among port [] = refl
deletions-at among port (e ∷ addr) = by (e.1.0 == port) (among e.0.0) refl (deletions-at among port addr)
  where
    rest : List Address
    rest = keys_at port addr

    dropped : List (Address × (ℕ × Kind))
    dropped = filter (λ (e : Address × (ℕ × Kind)). e.1.0 == port && among e.0.0) addr

    by : (b c : Bool) → among e.0.0 ≡ c → deletions among rest ≡ map (λ (e : Address × (ℕ × Kind)). AddrDel e.0.0 e.0.1) dropped
        → deletions among (map (λ (e : Address × (ℕ × Kind)). e.0) (cond b (e ∷ filter (λ (e : Address × (ℕ × Kind)). e.1.0 == port) addr) (filter (λ (e : Address × (ℕ × Kind)). e.1.0 == port) addr)))
        ≡ map (λ (e : Address × (ℕ × Kind)). AddrDel e.0.0 e.0.1) (cond (b && c) (e ∷ dropped) dropped)
    by true true is ih = ap (λ c. map (λ (k : Address). AddrDel k.0 k.1) (cond c (e.0 ∷ filter (λ (k : Address). among k.0) rest) (filter (λ (k : Address). among k.0) rest))) is
        ∙ ap (λ (l : List Change). AddrDel e.0.0 e.0.1 ∷ l) ih
    by true false is ih = ap (λ c. map (λ (k : Address). AddrDel k.0 k.1) (cond c (e.0 ∷ filter (λ (k : Address). among k.0) rest) (filter (λ (k : Address). among k.0) rest))) is ∙ ih
    by false c is ih = ih

pub partings-at : (among : ℕ → Bool) (port : ℕ) (members : List Membership)
    → partings among port (map (λ m. (m.0, m.1)) (filter (λ m. m.2 == port) members)) ≡ map (λ m. GroupPart port m.0 m.1) (filter (λ m. m.2 == port && among m.0) members)
partings-at among port [] = refl
partings-at among port (m ∷ members) = by (m.2 == port) (among m.0) refl (partings-at among port members)
  where
    here : List Membership
    here = filter (λ (m : Membership). m.2 == port) members

    rest : List GroupPair
    rest = map (λ (m : Membership). (m.0, m.1)) here

    dropped : List Membership
    dropped = filter (λ (m : Membership). m.2 == port && among m.0) members

    by : (b c : Bool) → among m.0 ≡ c → partings among port rest ≡ map (λ (m : Membership). GroupPart port m.0 m.1) dropped
        → partings among port (map (λ (m : Membership). (m.0, m.1)) (cond b (m ∷ here) here)) ≡ map (λ (m : Membership). GroupPart port m.0 m.1) (cond (b && c) (m ∷ dropped) dropped)
    by true true is ih =
        ap (λ c. map (λ (k : GroupPair). GroupPart port k.0 k.1) (cond c ((m.0, m.1) ∷ filter (λ (k : GroupPair). among k.0) rest) (filter (λ (k : GroupPair). among k.0) rest))) is
        ∙ ap (λ (l : List Change). GroupPart port m.0 m.1 ∷ l) ih
    by true false is ih =
        ap (λ c. map (λ (k : GroupPair). GroupPart port k.0 k.1) (cond c ((m.0, m.1) ∷ filter (λ (k : GroupPair). among k.0) rest) (filter (λ (k : GroupPair). among k.0) rest))) is ∙ ih
    by false c is ih = ih

pub vlans-at : (port : ℕ) (vlans : List ((ℕ × ℕ) × Bool))
    → map (λ v. VlanDel port v) (map (λ e. e.0.0) (filter (λ e. e.0.1 == port) vlans)) ≡ map (λ e. VlanDel port e.0.0) (filter (λ e. e.0.1 == port) vlans)
vlans-at port vlans = each (filter (λ (e : (ℕ × ℕ) × Bool). e.0.1 == port) vlans)
  where
    each : (es : List ((ℕ × ℕ) × Bool)) → map (λ (v : ℕ). VlanDel port v) (map (λ (e : (ℕ × ℕ) × Bool). e.0.0) es) ≡ map (λ (e : (ℕ × ℕ) × Bool). VlanDel port e.0.0) es
    each [] = refl
    each (e ∷ es) = ap (λ (l : List Change). VlanDel port e.0.0 ∷ l) (each es)
