-- A frame comes to software just where one bridge needs it there.
use Rattle.std.proofs.Common.{◌≡◌, ℕ, zero, suc, ◌+◌, ◌<◌, ◌≤◌, Bool, true, false, not, cond, ◌&&◌, List, [], ◌∷◌, length, Option, Some, refl, sym, ap, subst, ◌∙◌, arith, inl, inr}
use Rattle.std.proofs.lemmas.Bool.{and_from, and_parts, cases_Bool, eqb-true}
use Rattle.std.proofs.lemmas.Bool.Decides.{nat_tests}
use Rattle.std.proofs.lemmas.List.Elements.{All-contains}
use Rattle.lemmas.proofs.Orders.{eq_by_cmp-true}
use Rattle.std.specs.Prelude.{◌==◌}
use Rattle.std.specs.List.{Contains, filter, list_any, range_with_len}
use Rattle.std.specs.Ordering.{nat_cmp, eq_by_cmp}
use Rattle.br_model.specs.declared.change.Kind.{Kind}
use Rattle.br_model.specs.declared.frame.Class.TheVariants.{Drop, Trap, Copy, Forward}
use Rattle.br_model.specs.declared.frame.Head.{Head}
use Rattle.br_model.specs.declared.frame.McastMsg.{McastMsg}
use Rattle.br_model.specs.Data.Maps.{pair_cmp, get, has}
use Rattle.br_model.specs.Data.Numbers.{is_multicast, broadcast}
use Rattle.br_model.specs.Forward.Admission.{admit, is_forwarding, is_up, member}
use Rattle.br_model.specs.Forward.Class.{class, class_by, is_trapped}
use Rattle.br_model.specs.Forward.Eligible.{may}
use Rattle.br_model.specs.Forward.Leave.{all_ports, egress_ports, ports_in, ports_out}
use Rattle.br_model.specs.Forward.Targets.{bridge_group_address, pause_address, has_flag, isolated, port_of, targets, to_tree}
use Rattle.br_model.specs.Table.Domains.{Domains, foreign, host, port_places}
use Rattle.br_model.specs.Table.Table.{Table}
use Rattle.br_model.specs.Theorems.Wanted.{IsForSoftware, read, station, LeavesElsewhere, ArePorts, NeedsSoftware, reads, sends, comes_to_software}
use Rattle.br_model.proofs.Data.Ranges.{filter-all_ports}
use Rattle.br_model.proofs.Forward.Stations.{other, not-reserved}
use Rattle.br_model.proofs.Forward.Wanted.{first-there, later-there, any-there, none-there, none-in, some-long, not-both, trapped-asks, asks-trapped}

-- A port that passes a test is among those that do.
module _ (p : ℕ → Bool) (q : ℕ) (passes : p q ≡ true) where
  in-range : (a n : ℕ) → a ≤ q → q < a + n → Contains (filter p (range_with_len a n)) q
  in-range a zero low high = absurd (omega (arith, low, high))
  in-range a (suc n) low high =
      let later = filter p (range_with_len (a + 1) n) in
      elim (cases_Bool (a == q)) [
        | inl e ↦
            let is : a ≡ q = eqb-true a q e in
            subst (λ b. Contains (cond b (a ∷ later) later) q) (sym (ap p is ∙ passes)) (subst (λ m. Contains (m ∷ later) q) (sym is) (first-there q later))
        | inr e ↦
            let above : a + 1 ≤ q = grind (arith, nat_tests, low, e) in
            let rest : Contains later q = in-range (a + 1) n above (omega (arith, high)) in
            elim (p a) as (λ b. Contains (cond b (a ∷ later) later) q) [ true ↦ later-there a q later rest | false ↦ rest ]
      ]

  in-ports : (n : ℕ) → n ≡ port_places → q < n → Contains (filter p all_ports) q
  in-ports n is high = subst (λ xs. Contains xs q) (filter-all_ports p n is) (in-range 0 n (omega arith) (omega (arith, high)))

-- A port that may take a frame has a place.

up-below : (t : Table) (q : ℕ) → ArePorts t → is_up t q ≡ true → q < port_places
up-below t q ports is =
    let found = any-there (eq_by_cmp nat_cmp q) t.up is in
    let same : found.0 ≡ q = sym (eq_by_cmp-true q found.0 found.2) in
    subst (λ n. n < port_places) same (All-contains (λ n. n < port_places) t.up found.0 ports found.1)

may-below : (t : Table) (p q vid : ℕ) → ArePorts t → may t p q vid ≡ true → q < port_places
may-below t p q vid ports takes =
    (elim (cases_Bool (q == host)) [
      | inl e ↦ let is : q ≡ host = eqb-true q host e in subst (λ n. n < port_places) (sym is) (omega arith)
      | inr e ↦
          let other = not (q == p) && (is_forwarding t q && (member t q vid && not (has_flag t p isolated && has_flag t q isolated))) in
          let away : other ≡ true = sym (ap (λ b. cond b (member t q vid) other) e) ∙ takes in
          let forwards = and_parts (is_forwarding t q) _ (and_parts (not (q == p)) _ away).1 in
          up-below t q ports (and_parts (is_up t q) _ forwards.0).0
    ])

-- One bridge sends a frame to one station by the port of its entry.

module _ (domains : Domains) (t : Table) (port : ℕ) (head : Head) (msg : McastMsg) where
  station-target : (vid : ℕ) (e : ℕ × Kind) → is_multicast head.dst ≡ false → get pair_cmp t.addr (vid, head.dst) ≡ Some e → targets t vid head msg ≡ port_of e ∷ []
  station-target vid e one is =
      simp (other head.dst bridge_group_address one refl, other head.dst pause_address one refl, not-reserved head.dst one, other head.dst broadcast one refl, one, is)

  no-tree : is_multicast head.dst ≡ false → to_tree t port head ≡ false
  no-tree one = simp (other head.dst bridge_group_address one refl)

  station-leaves : (vid : ℕ) (e : ℕ × Kind) → ArePorts t → admit t port head ≡ Some vid → is_multicast head.dst ≡ false → get pair_cmp t.addr (vid, head.dst) ≡ Some e
      → may t port (port_of e) vid ≡ true → Contains (ports_out t port head msg) (port_of e)
  unfolding ports_out egress_ports
  station-leaves vid e ports admits one is takes =
      let q = port_of e in
      let p : ℕ → Bool = (λ m. has nat_cmp (targets t vid head msg) m && may t port m vid) in
      let target : has nat_cmp (targets t vid head msg) q ≡ true = ap (λ (l : List ℕ). has nat_cmp l q) (station-target vid e one is) ∙ itself q in
      let among : Contains (filter p all_ports) q = in-ports p q (and_from _ _ target takes) port_places refl (may-below t port q vid ports takes) in
      subst (λ b. Contains (cond b [] (ports_in t port (admit t port head) head msg)) q) (sym (no-tree one))
      (subst (λ (o : Option ℕ). Contains (ports_in t port o head msg) q) (sym admits) among)
    where
      itself : (q : ℕ) → has nat_cmp (q ∷ []) q ≡ true
      itself q = grind (arith, nat_tests)

  asks-needs : ArePorts t → IsForSoftware domains t port head msg → NeedsSoftware domains t port head msg
  asks-needs ports (read r) = reads r
  asks-needs ports (station vid e admits one is elsewhere takes) = sends (port_of e, station-leaves vid e ports admits one is takes, elsewhere)

  by-class : (out : List ℕ) → ports_out t port head msg ≡ out → comes_to_software (class_by domains port out) ≡ true → LeavesElsewhere domains t port head msg
  by-class out is comes =
      (elim (length out == 0) as
      (λ b. comes_to_software (cond b Drop (cond (list_any (λ q. foreign domains port q) out) Copy Forward)) ≡ true → LeavesElsewhere domains t port head msg) [
        | true ↦ λ e. absurd (cc (e))
        | false ↦
            (elim (list_any (λ q. foreign domains port q) out) as
            (λ b. list_any (λ q. foreign domains port q) out ≡ b → comes_to_software (cond b Copy Forward) ≡ true → LeavesElsewhere domains t port head msg) [
              | true ↦ λ e _. let there = any-there (λ q. foreign domains port q) out e in (there.0, subst (λ (l : List ℕ). Contains l there.0) (sym is) there.1, there.2)
              | false ↦ λ _ e. absurd (cc (e))
            ]) refl
      ]) comes

  pub comes-needed : ArePorts t → comes_to_software (class domains t port head msg) ≡ true → NeedsSoftware domains t port head msg
  comes-needed ports comes =
      (elim (is_trapped domains t port head msg) as
      (λ b. is_trapped domains t port head msg ≡ b → comes_to_software (cond b Trap (class_by domains port (ports_out t port head msg))) ≡ true → NeedsSoftware domains t port head msg) [
        | true ↦ λ e _. asks-needs ports (trapped-asks domains t port head msg e)
        | false ↦ λ _ e. sends (by-class (ports_out t port head msg) refl e)
      ]) refl comes

  elsewhere-comes : (out : List ℕ) → (q : ℕ) → Contains out q → foreign domains port q ≡ true → comes_to_software (class_by domains port out) ≡ true
  elsewhere-comes [] q there elsewhere = absurd (none-in q there)
  elsewhere-comes (x ∷ xs) q there elsewhere =
      (elim (cases_Bool (list_any (λ m. foreign domains port m) (x ∷ xs))) [
        | inl e ↦ subst (λ b. comes_to_software (cond (length (x ∷ xs) == 0) Drop (cond b Copy Forward)) ≡ true) (sym e)
            (subst (λ b. comes_to_software (cond b Drop Copy) ≡ true) (sym (some-long x xs)) refl)
        | inr e ↦ absurd (not-both (foreign domains port q) elsewhere (none-there (λ m. foreign domains port m) (x ∷ xs) q e there))
      ])

  pub needed-comes : NeedsSoftware domains t port head msg → comes_to_software (class domains t port head msg) ≡ true
  needed-comes (reads r) =
      ap (λ b. comes_to_software (cond b Trap (class_by domains port (ports_out t port head msg)))) (asks-trapped domains t port head msg (read r))
  needed-comes (sends leaves) =
      elim (is_trapped domains t port head msg) as (λ b. comes_to_software (cond b Trap (class_by domains port (ports_out t port head msg))) ≡ true) [
        | true ↦ refl
        | false ↦ elsewhere-comes (ports_out t port head msg) leaves.0 leaves.1 leaves.2
      ]
