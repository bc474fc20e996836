-- A frame to a known station, or to the host: one port is asked.
use Rattle.std.proofs.Common.{◌≡◌, ℕ, ◌<◌, Bool, true, false, not, ◌&&◌, ◌||◌, cond, List, [], ◌∷◌, length, Option, None, Some, option_map, refl, sym, ap, ap₂, ◌∙◌, inl, inr, arith}
use Rattle.std.specs.Prelude.{◌==◌, nat_lt}
use Rattle.std.specs.Option.{option_map_or, unwrap_or}
use Rattle.std.specs.Ordering.{nat_cmp}
use Rattle.std.proofs.Math.Bool.{and-false}
use Rattle.std.proofs.lemmas.Bool.{cases_Bool, eq-eqb, ne_eqb}
use Rattle.std.proofs.lemmas.Bool.Decides.{eqb_tells}
use Rattle.lemmas.proofs.Tests.{and_assoc, contradicts, or-false}
use Rattle.br_model.specs.Forward.Admission.{admit}
use Rattle.br_model.specs.Forward.Class.{class, class_by, is_snooped, is_trapped_in, crosses}
use Rattle.br_model.specs.Table.Domains.{Domains, foreign, host, port_places}
use Rattle.br_model.specs.Forward.Eligible.{may, untagged}
use Rattle.br_model.specs.Forward.Leave.{ports_out}
use Rattle.br_model.specs.Data.Maps.{pair_cmp, get, has}
use Rattle.br_model.specs.Data.Numbers.{is_multicast, broadcast}
use Rattle.br_model.specs.Table.Table.{Table}
use Rattle.br_model.specs.Forward.Targets.{bridge_group_address, pause_address, port_of, targets, to_tree, unicast_targets}
use Rattle.br_model.specs.Forward.Untagged.{untagged_among}
use Rattle.br_model.specs.declared.change.Kind.{Kind}
use Rattle.br_model.specs.declared.frame.Class.{Class}
use Rattle.br_model.specs.declared.frame.Class.TheVariants.{Copy, Drop, Forward, Trap}
use Rattle.br_model.specs.declared.frame.Head.{Head}
use Rattle.br_model.specs.declared.frame.McastMsg.{McastMsg}
use Rattle.br_model.proofs.Data.Sets.{has-is}
use Rattle.br_model.proofs.Forward.Stations.{other, not-reserved}
use Rattle.port_sets.specs.Numbers.{has_number}
use Rattle.port_sets.proofs.Numbers.{none_below, same_below}
use Rattle.vlan_groups.specs.Rows.{ports_where}
use Rattle.vlan_groups.proofs.RowLaws.{has-ports_where}
use Rattle.forward_rules.specs.PortSets.{placed, set_of}
use Rattle.forward_rules.specs.Verdicts.{known_port}
use Rattle.forward_rules.proofs.Deciding.{class-is, ports-are, untagged-are}
use Rattle.forward_rules.proofs.SetLaws.{any-none, member-of}

abbrev Entry : Type 0
Entry = Option (ℕ × Kind)

-- ---- the entry

-- a known address is a station's
pub station : (t : Table) (vid address q : ℕ) → known_port t vid address ≡ Some q → is_multicast address ≡ false
station t vid address q known = elim (cases_Bool (is_multicast address)) [
  | inl e ↦
      let none : None ≡ Some q = sym (ap (λ b. cond b None (option_map port_of (get pair_cmp t.addr (vid, address)))) e) ∙ known in
      absurd (cc none)
  | inr e ↦ e
]

-- its entry sends to the port
pub sends : (t : Table) (vid address q : ℕ) → known_port t vid address ≡ Some q → option_map port_of (get pair_cmp t.addr (vid, address)) ≡ Some q
sends t vid address q known =
    sym (ap (λ b. cond b None (option_map port_of (get pair_cmp t.addr (vid, address)))) (station t vid address q known)) ∙ known

some-is : (x q : ℕ) → Some x ≡ Some q → x ≡ q
some-is x q e = ap (λ o. unwrap_or o 0) e

to-one : (t : Table) (o : Entry) (q : ℕ) → option_map port_of o ≡ Some q → unicast_targets t o ≡ q ∷ []
to-one t None q e = absurd (cc e)
to-one t (Some entry) q e = ap (λ n. n ∷ []) (some-is (port_of entry) q e)

pub one-target : (t : Table) (vid : ℕ) (head : Head) (msg : McastMsg) (q : ℕ) → known_port t vid head.dst ≡ Some q → targets t vid head msg ≡ q ∷ []
one-target t vid head msg q known =
    let by : is_multicast head.dst ≡ false = station t vid head.dst q known in
    let unicast : targets t vid head msg ≡ unicast_targets t (get pair_cmp t.addr (vid, head.dst)) =
    simp (other head.dst bridge_group_address by refl, other head.dst pause_address by refl, not-reserved head.dst by, other head.dst broadcast by refl, by) in
    unicast ∙ to-one t (get pair_cmp t.addr (vid, head.dst)) q (sends t vid head.dst q known)

-- ---- the ports

-- the set that has this port or none
one-set : (f : ℕ → Bool) (q : ℕ) (on : Bool) (none set : List ℕ) → none ≡ [] → on ≡ f q → set ≡ placed none q on → set ≡ ports_where (λ m. (m == q) && f m)
one-set f q on none set empty is made = made ∙ same_below _ _ port_places (λ m low. elim (eqb_tells m q) [
  | inl e ↦
      ap (λ b. cond b on (has_number none m)) (eq-eqb m q e.1)
      ∙ is
      ∙ ap f (sym e.1)
      ∙ sym (ap (λ b. b && f m) (eq-eqb m q e.1))
  | inr e ↦
      ap (λ b. cond b on (has_number none m)) (ne_eqb m q e.1)
      ∙ ap (λ (ns : List ℕ). has_number ns m) empty
      ∙ sym (ap (λ b. b && f m) (ne_eqb m q e.1))
])

in-one : (xs : List ℕ) (q m : ℕ) → xs ≡ q ∷ [] → has nat_cmp xs m ≡ (m == q)
in-one xs q m e = ap (λ (ns : List ℕ). has nat_cmp ns m) e ∙ has-is (q ∷ []) m ∙ or-false (m == q)

pub one-out : (t : Table) (p vid : ℕ) (head : Head) (msg : McastMsg) (q : ℕ) (takes : Bool) (none ports : List ℕ) → to_tree t p head ≡ false → admit t p head ≡ Some vid
    → known_port t vid head.dst ≡ Some q → none ≡ [] → takes ≡ may t p q vid → ports ≡ placed none q takes → ports ≡ ports_out t p head msg
one-out t p vid head msg q takes none ports away admitted known empty is made =
    let goal : List ℕ = targets t vid head msg in
    ports-are t p vid head msg (set_of goal) (ports_where (λ m. may t p m vid)) ports away admitted refl refl
    (one-set (λ m. may t p m vid) q takes none ports empty is made
    ∙ same_below _ _ port_places (λ m low.
    sym (ap₂ ◌&&◌ (member-of (has nat_cmp goal) (set_of goal) m refl low ∙ in-one goal q m (one-target t vid head msg q known)) (member-of (λ k. may t p k vid) _ m refl low))))

pub one-untagged : (t : Table) (p vid q : ℕ) (takes plain : Bool) (none nothing ports set : List ℕ) → none ≡ [] → nothing ≡ [] → takes ≡ may t p q vid
    → ports ≡ placed none q takes → plain ≡ (takes && untagged t q vid) → set ≡ placed nothing q plain → set ≡ untagged_among t (Some vid) ports
one-untagged t p vid q takes plain none nothing ports set empty blank is made plain_is both =
    let in_ports : ports ≡ ports_where (λ m. (m == q) && may t p m vid) = one-set (λ m. may t p m vid) q takes none ports empty is made in
    untagged-are t vid (λ m. (m == q) && may t p m vid) ports (ports_where (λ m. untagged t m vid)) set in_ports refl
    (one-set (λ m. may t p m vid && untagged t m vid) q plain nothing set blank (plain_is ∙ ap (λ b. b && untagged t q vid) is) both
    ∙ same_below _ _ port_places (λ m low.
    and_assoc (m == q) (may t p m vid) (untagged t m vid)
    ∙ sym (ap₂ ◌&&◌ (member-of (λ k. (k == q) && may t p k vid) ports m in_ports low) (member-of (λ k. untagged t k vid) _ m refl low))))

-- ---- the class

crosses-one : (d : Domains) (t : Table) (p vid : ℕ) (head : Head) (q : ℕ) → known_port t vid head.dst ≡ Some q → crosses d t p vid head ≡ (foreign d p q && may t p q vid)
crosses-one d t p vid head q known =
    ap (λ b. not b && option_map_or (λ e. foreign d p (port_of e) && may t p (port_of e) vid) (get pair_cmp t.addr (vid, head.dst)) false) (station t vid head.dst q known)
    ∙ by (get pair_cmp t.addr (vid, head.dst)) (sends t vid head.dst q known)
  where
    by : (o : Entry) → option_map port_of o ≡ Some q → option_map_or (λ e. foreign d p (port_of e) && may t p (port_of e) vid) o false ≡ (foreign d p q && may t p q vid)
    by None e = absurd (cc e)
    by (Some entry) e = ap (λ n. foreign d p n && may t p n vid) (some-is (port_of entry) q e)

trapped-one : (d : Domains) (t : Table) (p vid : ℕ) (head : Head) (msg : McastMsg) (q : ℕ) (takes trapped : Bool) → known_port t vid head.dst ≡ Some q → takes ≡ may t p q vid
    → trapped ≡ ((t.snoop && is_snooped msg) || (foreign d p q && takes)) → trapped ≡ is_trapped_in d t p (Some vid) head msg
trapped-one d t p vid head msg q takes trapped known is trapped_is =
    trapped_is
    ∙ ap (λ b. (t.snoop && is_snooped msg) || b)
    (ap (λ b. foreign d p q && b) is
    ∙ sym (ap₂ (λ h c. (h && may t p host vid) || c) (not-reserved head.dst (station t vid head.dst q known)) (crosses-one d t p vid head q known)))

some-there : (qs : List ℕ) (q : ℕ) → has_number qs q ≡ true → (length qs == 0) ≡ false
some-there [] q there = absurd (cc there)
some-there (x ∷ xs) q there = ne_eqb (length (x ∷ xs)) 0 (omega arith)

-- a frame that isn't trapped meets no port of another domain
same-domain : (s f takes trapped : Bool) → trapped ≡ (s || (f && takes)) → takes ≡ true → trapped ≡ false → f ≡ false
same-domain s f takes trapped is so free = by s f (ap (λ b. s || (f && b)) (sym so) ∙ sym is ∙ free)
  where
    by : (s f : Bool) → (s || (f && true)) ≡ false → f ≡ false
    by true f e = absurd (cc e)
    by false true e = absurd (cc e)
    by false false e = refl

-- to the port alone
only-it : (q k : ℕ) (takes : Bool) (none ports : List ℕ) → none ≡ [] → ports ≡ placed none q takes → has_number ports k ≡ true → k ≡ q
only-it q k takes none ports empty made there = elim (eqb_tells k q) [
  | inl e ↦ e.1
  | inr e ↦
      contradicts (has_number ports k) there
      (ap (λ (ns : List ℕ). has_number ns k) made
      ∙ has-ports_where (λ m. cond (m == q) takes (has_number none m)) k
      ∙ ap (λ b. nat_lt k port_places && b)
      (ap (λ b. cond b takes (has_number none k)) (ne_eqb k q e.1) ∙ ap (λ (ns : List ℕ). has_number ns k) empty)
      ∙ and-false (nat_lt k port_places))
]

one-class : (d : Domains) (p q : ℕ) (takes : Bool) (none ports : List ℕ) → q < port_places → none ≡ [] → ports ≡ placed none q takes → (takes ≡ true → foreign d p q ≡ false)
    → cond takes Forward Drop ≡ class_by d p ports
one-class d p q takes none ports low empty made same = elim (cases_Bool takes) [
  | inl so ↦
      let there : has_number ports q ≡ true =
      member-of (λ m. cond (m == q) takes (has_number none m)) ports q made low ∙ ap (λ b. cond b takes (has_number none q)) (eq-eqb q q refl) ∙ so in
      ap (λ b. cond b Forward Drop) so
      ∙ sym (ap₂ (λ x y. cond x Drop (cond y Copy Forward)) (some-there ports q there)
      (any-none (λ m. foreign d p m) ports (λ k is. ap (foreign d p) (only-it q k takes none ports empty made is) ∙ same so)))
  | inr non ↦
      let nowhere : ports ≡ [] =
      made
      ∙ none_below _ port_places (λ m low. ap₂ (λ x (ns : List ℕ). cond (m == q) x (has_number ns m)) non empty ∙ neither (m == q)) in
      ap (λ b. cond b Forward Drop) non ∙ sym (ap (λ (qs : List ℕ). class_by d p qs) nowhere)
]
  where
    neither : (b : Bool) → cond b false false ≡ false
    neither true = refl
    neither false = refl

pub class-one : (d : Domains) (t : Table) (p vid : ℕ) (head : Head) (msg : McastMsg) (q : ℕ) (takes trapped : Bool) (none ports : List ℕ) (cls : Class) → q < port_places
    → to_tree t p head ≡ false → admit t p head ≡ Some vid → known_port t vid head.dst ≡ Some q → none ≡ [] → takes ≡ may t p q vid → ports ≡ placed none q takes
    → trapped ≡ ((t.snoop && is_snooped msg) || (foreign d p q && takes)) → cls ≡ cond trapped Trap (cond takes Forward Drop) → cls ≡ class d t p head msg
class-one d t p vid head msg q takes trapped none ports cls low away admitted known empty is made trapped_is cls_is =
    class-is d t p vid head msg trapped ports cls away admitted (trapped-one d t p vid head msg q takes trapped known is trapped_is)
    (one-out t p vid head msg q takes none ports away admitted known empty is made)
    (cls_is ∙ by trapped (λ free so. same-domain (t.snoop && is_snooped msg) (foreign d p q) takes trapped trapped_is so free))
  where
    by : (b : Bool) → (b ≡ false → takes ≡ true → foreign d p q ≡ false) → cond b Trap (cond takes Forward Drop) ≡ cond b Trap (class_by d p ports)
    by true same = refl
    by false same = one-class d p q takes none ports low empty made (same refl)
