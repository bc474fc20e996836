-- The class of a frame is what it is for.
use Rattle.std.proofs.Common.{◌≡◌, ℕ, ◌<◌, ◌≤◌, Bool, true, false, not, cond, ◌&&◌, ◌||◌, List, [], ◌∷◌, length, Option, None, Some, refl, sym, ap, subst, ◌∙◌, arith, inl, inr}
use Rattle.std.proofs.lemmas.Bool.{and_from, and_parts, or_cases, or_left, not-true, eqb-true, eq-eqb, ne_eqb, leb-true, ltb-true, lt-ltb, le-leb, or_parts}
use Rattle.std.proofs.lemmas.List.Elements.{All-nil, All-cons, All-contains, Contains-append_right}
use Rattle.std.specs.Prelude.{◌==◌, nat_lt, nat_le}
use Rattle.std.specs.List.{All, Contains, list_any}
use Rattle.std.specs.Option.{option_map_or}
use Rattle.br_model.specs.declared.change.Kind.{Kind}
use Rattle.br_model.specs.declared.frame.Class.{Class}
use Rattle.br_model.specs.declared.frame.Class.TheVariants.{Drop, Trap, Copy, Forward}
use Rattle.br_model.specs.declared.frame.Head.{Head}
use Rattle.br_model.specs.declared.frame.McastMsg.{McastMsg}
use Rattle.br_model.specs.declared.frame.McastMsg.TheVariants.{Plain, Payload, Query, Report, Leave, Records, Unrecognized}
use Rattle.br_model.specs.Data.Maps.{pair_cmp, get}
use Rattle.br_model.specs.Data.Numbers.{is_multicast}
use Rattle.br_model.specs.Forward.Admission.{admit, has_valid_source, is_up}
use Rattle.br_model.specs.Forward.Class.{class, class_by, is_snooped, is_trapped, is_trapped_in, reaches_host, crosses}
use Rattle.br_model.specs.Forward.Eligible.{may}
use Rattle.br_model.specs.Forward.Leave.{ports_out}
use Rattle.br_model.specs.Forward.Targets.{bridge_group_address, pause_address, is_for_the_host, port_of, to_tree}
use Rattle.br_model.specs.Table.Domains.{Domains, foreign, host}
use Rattle.br_model.specs.Table.Table.{Table}
use Rattle.br_model.specs.Theorems.Wanted.{IsOfSnooping, query, report, leave, records, unrecognized, IsRead, tree, snooping, reserved, IsForSoftware, read, station, IsWanted, LeavesElsewhere, StaysInDomain}

or-second : (x y : Bool) → y ≡ true → (x || y) ≡ true
or-second true y e = refl
or-second false y e = e

pub not-both : (x : Bool) → x ≡ true → x ≡ false → ⊥
not-both x e f = absurd (cc (e, f))

-- Members of lists

pub first-there : (x : ℕ) (xs : List ℕ) → Contains (x ∷ xs) x
first-there x xs = (0, omega arith, refl)

pub later-there : (x y : ℕ) (xs : List ℕ) → Contains xs y → Contains (x ∷ xs) y
later-there x y xs there = Contains-append_right (x ∷ []) xs y there

none-at-all : (xs : List ℕ) → (length xs == 0) ≡ true → xs ≡ []
none-at-all [] e = refl
none-at-all (x ∷ xs) e = let none : length (x ∷ xs) ≡ 0 = eqb-true (length (x ∷ xs)) 0 e in absurd (omega (arith, none))

pub some-long : (x : ℕ) (xs : List ℕ) → (length (x ∷ xs) == 0) ≡ false
some-long x xs = ne_eqb (length (x ∷ xs)) 0 (λ e. omega (arith, e))

some-there : (xs : List ℕ) → (length xs == 0) ≡ false → (q : ℕ) × Contains xs q
some-there [] e = absurd (cc (e))
some-there (x ∷ xs) e = (x, first-there x xs)

module _ (p : ℕ → Bool) where
  pub any-there : (xs : List ℕ) → list_any p xs ≡ true → (q : ℕ) × Contains xs q × (p q ≡ true)
  any-there [] e = absurd (cc (e))
  any-there (x ∷ xs) e =
      (elim (p x) as (λ b. p x ≡ b → (b || list_any p xs) ≡ true → (q : ℕ) × Contains (x ∷ xs) q × (p q ≡ true)) [
        | true ↦ λ is any. (x, first-there x xs, is)
        | false ↦ λ is any. let later = any-there xs any in (later.0, later-there x later.0 xs later.1, later.2)
      ]) refl e

  all-fail : (xs : List ℕ) → list_any p xs ≡ false → All (λ x. p x ≡ false) xs
  all-fail [] e = All-nil (λ x. p x ≡ false)
  all-fail (x ∷ xs) e = let both = or_parts (p x) (list_any p xs) e in All-cons (λ x. p x ≡ false) x xs both.0 (all-fail xs both.1)

  pub none-there : (xs : List ℕ) (q : ℕ) → list_any p xs ≡ false → Contains xs q → p q ≡ false
  none-there xs q e there = All-contains (λ x. p x ≡ false) xs q (all-fail xs e) there

pub none-in : (q : ℕ) → Contains [] q → ⊥
none-in q there = All-contains (λ x. ⊥) [] q (All-nil (λ x. ⊥)) there

-- What software reads, by words and by tests

snooped-said : (msg : McastMsg) → is_snooped msg ≡ true → IsOfSnooping msg
snooped-said Plain e = absurd (cc (e))
snooped-said (Payload group) e = absurd (cc (e))
snooped-said (Query six counted) e = query six counted
snooped-said (Report group) e = report group
snooped-said (Leave group) e = leave group
snooped-said (Records six first count) e = records six first count
snooped-said Unrecognized e = unrecognized

said-snooped : (msg : McastMsg) → IsOfSnooping msg → is_snooped msg ≡ true
said-snooped _ (query six counted) = refl
said-snooped _ (report group) = refl
said-snooped _ (leave group) = refl
said-snooped _ (records six first count) = refl
said-snooped _ unrecognized = refl

second-on : (n : ℕ) → pause_address < n → 0x0180C2000002 ≤ n
second-on n h = omega (arith, h)

behind-first : (n : ℕ) → 0x0180C2000002 ≤ n → pause_address < n
behind-first n h = omega (arith, h)

tree-said : (t : Table) (port : ℕ) (head : Head) (msg : McastMsg) → to_tree t port head ≡ true → IsRead t port head msg
tree-said t port head msg e =
    let first = and_parts (head.dst == bridge_group_address) _ e in
    let on = and_parts t.stp _ first.1 in
    let up = and_parts (is_up t port) (has_valid_source head) on.1 in
    tree (eqb-true head.dst bridge_group_address first.0) on.0 up.0 up.1

said-tree : (t : Table) (port : ℕ) (head : Head) → head.dst ≡ bridge_group_address → t.stp ≡ true → is_up t port ≡ true → has_valid_source head ≡ true → to_tree t port head ≡ true
said-tree t port head to on up valid =
    and_from (head.dst == bridge_group_address) _ (eq-eqb head.dst bridge_group_address to)
    (and_from t.stp _ on (and_from (is_up t port) (has_valid_source head) up valid))

-- Software alone may decide a frame just where it is trapped.

module _ (domains : Domains) (t : Table) (port : ℕ) (head : Head) (msg : McastMsg) where
  by-station : (vid : ℕ) → admit t port head ≡ Some vid → is_multicast head.dst ≡ false → (o : Option (ℕ × Kind)) → get pair_cmp t.addr (vid, head.dst) ≡ o
      → option_map_or (λ e. foreign domains port (port_of e) && may t port (port_of e) vid) o false ≡ true
      → IsForSoftware domains t port head msg
  by-station vid admits one None is e = absurd (cc (e))
  by-station vid admits one (Some entry) is e =
      let both = and_parts (foreign domains port (port_of entry)) (may t port (port_of entry) vid) e in station vid entry admits one is both.0 both.1

  trapped-in : (o : Option ℕ) → admit t port head ≡ o → is_trapped_in domains t port o head msg ≡ true → IsForSoftware domains t port head msg
  trapped-in None admits e = absurd (cc (e))
  trapped-in (Some vid) admits e =
      elim (or_cases (t.snoop && is_snooped msg) (reaches_host t port vid head || crosses domains t port vid head) e) [
        | inl snooped ↦ let both = and_parts t.snoop (is_snooped msg) snooped in read (snooping vid admits both.0 (snooped-said msg both.1))
        | inr other ↦ elim (or_cases (reaches_host t port vid head) (crosses domains t port vid head) other) [
          | inl hosts ↦
              let both = and_parts (is_for_the_host head.dst) (may t port host vid) hosts in
              let range = and_parts (nat_lt pause_address head.dst) (nat_le head.dst 0x0180C200000F) both.0 in
              read (reserved vid admits (second-on head.dst (ltb-true pause_address head.dst range.0)) (leb-true head.dst 0x0180C200000F range.1) both.1)
          | inr cross ↦
              let both = and_parts (not (is_multicast head.dst)) (option_map_or (λ e. foreign domains port (port_of e) && may t port (port_of e) vid) (get pair_cmp t.addr (vid, head.dst)) false) cross in
              by-station vid admits (not-true (is_multicast head.dst) both.0) (get pair_cmp t.addr (vid, head.dst)) refl both.1
        ]
      ]

  pub trapped-asks : is_trapped domains t port head msg ≡ true → IsForSoftware domains t port head msg
  trapped-asks e =
      elim (or_cases (to_tree t port head) (is_trapped_in domains t port (admit t port head) head msg) e) [
        | inl is ↦ read (tree-said t port head msg is)
        | inr within ↦ trapped-in (admit t port head) refl within
      ]

  in-vlan : (vid : ℕ) → admit t port head ≡ Some vid → is_trapped_in domains t port (Some vid) head msg ≡ true → is_trapped domains t port head msg ≡ true
  in-vlan vid admits e =
      or-second (to_tree t port head) (is_trapped_in domains t port (admit t port head) head msg)
      (ap (λ (o : Option ℕ). is_trapped_in domains t port o head msg) admits ∙ e)

  pub asks-trapped : IsForSoftware domains t port head msg → is_trapped domains t port head msg ≡ true
  asks-trapped (read (tree to on up valid)) = or_left (to_tree t port head) (is_trapped_in domains t port (admit t port head) head msg) (said-tree t port head to on up valid)
  asks-trapped (read (snooping vid admits on wants)) =
      in-vlan vid admits (or_left (t.snoop && is_snooped msg) (reaches_host t port vid head || crosses domains t port vid head) (and_from t.snoop (is_snooped msg) on (said-snooped msg wants)))
  asks-trapped (read (reserved vid admits above below takes)) =
      in-vlan vid admits
      (or-second (t.snoop && is_snooped msg) (reaches_host t port vid head || crosses domains t port vid head)
      (or_left (reaches_host t port vid head) (crosses domains t port vid head)
      (and_from (is_for_the_host head.dst) (may t port host vid)
      (and_from (nat_lt pause_address head.dst) (nat_le head.dst 0x0180C200000F) (lt-ltb pause_address head.dst (behind-first head.dst above)) (le-leb head.dst 0x0180C200000F below)) takes)))
  asks-trapped (station vid e admits one is elsewhere takes) =
      in-vlan vid admits
      (or-second (t.snoop && is_snooped msg) (reaches_host t port vid head || crosses domains t port vid head)
      (or-second (reaches_host t port vid head) (crosses domains t port vid head)
      (and_from (not (is_multicast head.dst)) _ (ap not one)
      (ap (λ (o : Option (ℕ × Kind)). option_map_or (λ e. foreign domains port (port_of e) && may t port (port_of e) vid) o false) is
      ∙ and_from (foreign domains port (port_of e)) (may t port (port_of e) vid) elsewhere takes))))

  -- The four classes

  wanted-by : (out : List ℕ) → ports_out t port head msg ≡ out → (¬ IsForSoftware domains t port head msg) → IsWanted domains t port head msg (class_by domains port out)
  wanted-by out is alone =
      (elim (length out == 0) as
      (λ b. (length out == 0) ≡ b → IsWanted domains t port head msg (cond b Drop (cond (list_any (λ q. foreign domains port q) out) Copy Forward))) [
        | true ↦ λ e. (alone, is ∙ none-at-all out e)
        | false ↦ λ some.
            (elim (list_any (λ q. foreign domains port q) out) as
            (λ b. list_any (λ q. foreign domains port q) out ≡ b → IsWanted domains t port head msg (cond b Copy Forward)) [
              | true ↦ λ e.
                  let other = any-there (λ q. foreign domains port q) out e in
                  (alone, (other.0, subst (λ (l : List ℕ). Contains l other.0) (sym is) other.1, other.2))
              | false ↦ λ e.
                  let first = some-there out some in (
                    alone,
                    (first.0, subst (λ (l : List ℕ). Contains l first.0) (sym is) first.1),
                    λ p there. none-there (λ q. foreign domains port q) out p e (subst (λ (l : List ℕ). Contains l p) is there),
                  )
            ]) refl
      ]) refl

  pub class-wanted : IsWanted domains t port head msg (class domains t port head msg)
  class-wanted =
      (elim (is_trapped domains t port head msg) as
      (λ b. is_trapped domains t port head msg ≡ b → IsWanted domains t port head msg (cond b Trap (class_by domains port (ports_out t port head msg)))) [
        | true ↦ λ e. trapped-asks e
        | false ↦ λ e. wanted-by (ports_out t port head msg) refl (λ asks. not-both (is_trapped domains t port head msg) (asks-trapped asks) e)
      ]) refl

  -- No frame is wanted in two of them.

  elsewhere-and-not : LeavesElsewhere domains t port head msg → StaysInDomain domains t port head msg → ⊥
  elsewhere-and-not leaves stays = not-both (foreign domains port leaves.0) leaves.2 (stays leaves.0 leaves.1)

  leaves-and-not : (q : ℕ) → Contains (ports_out t port head msg) q → ports_out t port head msg ≡ [] → ⊥
  leaves-and-not q there none = none-in q (subst (λ (l : List ℕ). Contains l q) none there)

  one-class : (c d : Class) → IsWanted domains t port head msg c → IsWanted domains t port head msg d → c ≡ d
  one-class Trap Trap x y = refl
  one-class Trap Copy x y = absurd (y.0 x)
  one-class Trap Forward x y = absurd (y.0 x)
  one-class Trap Drop x y = absurd (y.0 x)
  one-class Copy Trap x y = absurd (x.0 y)
  one-class Copy Copy x y = refl
  one-class Copy Forward x y = absurd (elsewhere-and-not x.1 y.2)
  one-class Copy Drop x y = absurd (leaves-and-not x.1.0 x.1.1 y.1)
  one-class Forward Trap x y = absurd (x.0 y)
  one-class Forward Copy x y = absurd (elsewhere-and-not y.1 x.2)
  one-class Forward Forward x y = refl
  one-class Forward Drop x y = absurd (leaves-and-not x.1.0 x.1.1 y.1)
  one-class Drop Trap x y = absurd (x.0 y)
  one-class Drop Copy x y = absurd (leaves-and-not y.1.0 y.1.1 x.1)
  one-class Drop Forward x y = absurd (leaves-and-not y.1.0 y.1.1 x.1)
  one-class Drop Drop x y = refl

  pub wanted-class : (c : Class) → IsWanted domains t port head msg c → c ≡ class domains t port head msg
  wanted-class c x = one-class c (class domains t port head msg) x class-wanted
