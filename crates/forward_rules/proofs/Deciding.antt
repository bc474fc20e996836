-- The parts of a decision, over a table of ports and addresses.
use Rattle.std.proofs.Common.{◌≡◌, ℕ, ◌<◌, Bool, true, false, not, ◌&&◌, ◌||◌, cond, List, [], length, Option, None, Some, is_some, option_map, refl, sym, ap, ap₂, ◌∙◌, arith}
use Rattle.std.specs.Prelude.{◌==◌, nat_lt}
use Rattle.std.specs.Option.{option_map_or}
use Rattle.std.specs.Ordering.{nat_cmp}
use Rattle.lemmas.proofs.Endings.{option_map-none}
use Rattle.lemmas.proofs.Tests.{cond_either}
use borrow.Author.Tests.{ltb-true}
use Rattle.br_model.specs.Forward.Admission.{admit}
use Rattle.br_model.specs.Forward.Class.{class, class_by, is_trapped_in, crosses}
use Rattle.br_model.specs.Table.Domains.{Domains, foreign, port_places}
use Rattle.br_model.specs.Forward.Eligible.{may, untagged}
use Rattle.br_model.specs.Forward.Leave.{all_ports, egress_ports, ports_in, ports_out}
use Rattle.br_model.specs.Table.Limits.{most_addresses}
use Rattle.br_model.specs.Data.Maps.{pair_cmp, get, has}
use Rattle.br_model.specs.Data.Numbers.{is_multicast, broadcast}
use Rattle.br_model.specs.Table.Table.{Table, with_addresses}
use Rattle.br_model.specs.Forward.Targets.{bridge_group_address, pause_address, port_of, targets, to_tree, with_flag, flood}
use Rattle.br_model.specs.declared.change.Kind.{Kind}
use Rattle.br_model.specs.declared.frame.Class.{Class}
use Rattle.br_model.specs.declared.frame.Class.TheVariants.{Drop, Trap}
use Rattle.br_model.specs.declared.frame.Head.{Head}
use Rattle.br_model.specs.declared.frame.McastMsg.{McastMsg}
use Rattle.br_model.proofs.Forward.Stations.{other, not-reserved}
use Rattle.port_sets.specs.Numbers.{numbers_below, has_number}
use Rattle.port_sets.proofs.Numbers.{same_below, filter-set, IsSetBelow-numbers_below}
use Rattle.vlan_groups.specs.Rows.{ports_where}
use Rattle.forward_rules.specs.PortSets.{set_of}
use Rattle.br_model.specs.Forward.Untagged.{untagged_among}
use Rattle.forward_rules.specs.Verdicts.{known_port}
use Rattle.forward_rules.proofs.SetLaws.{member-of}

abbrev Entries : Type 0
Entries = List ((ℕ × ℕ) × (ℕ × Kind))

-- room for a new entry
pub room-left : (es : Entries) (k : ℕ × ℕ) (room : ℕ) → room ≡ most_addresses → (is_some (get pair_cmp es k) || nat_lt (length es) most_addresses) ≡ true
    → get pair_cmp es k ≡ None → length es < room
room-left es k room limit fits none =
    let room_is : nat_lt (length es) most_addresses ≡ true = sym (ap (λ (o : Option (ℕ × Kind)). is_some o || nat_lt (length es) most_addresses) none) ∙ fits in
    let few : length es < most_addresses = ltb-true (length es) most_addresses room_is in
    omega (arith, few, limit)

-- ---- the port of a known station

pub known-none : (ports : Table) (es : Entries) (vid address : ℕ) → is_multicast address ≡ false → get pair_cmp es (vid, address) ≡ None → known_port (with_addresses ports es) vid address ≡ None
known-none ports es vid address station none = ap₂ (λ b (o : Option (ℕ × Kind)). cond b None (option_map port_of o)) station none

pub known-some : (ports : Table) (es : Entries) (vid address : ℕ) (e : ℕ × Kind) → is_multicast address ≡ false → get pair_cmp es (vid, address) ≡ Some e
    → known_port (with_addresses ports es) vid address ≡ Some (port_of e)
known-some ports es vid address e station some = ap₂ (λ b (o : Option (ℕ × Kind)). cond b None (option_map port_of o)) station some

pub unknown-none : (t : Table) (vid address : ℕ) → is_multicast address ≡ false → known_port t vid address ≡ None → get pair_cmp t.addr (vid, address) ≡ None
unknown-none t vid address station none =
    option_map-none port_of (get pair_cmp t.addr (vid, address)) (sym (ap (λ b. cond b None (option_map port_of (get pair_cmp t.addr (vid, address)))) station) ∙ none)

-- ---- where frames are to go

pub nobody-targets : (t : Table) (vid : ℕ) (head : Head) (msg : McastMsg) → (((head.dst == bridge_group_address) && t.stp) || (head.dst == pause_address)) ≡ true → targets t vid head msg ≡ []
nobody-targets t vid head msg h = cond_either ((head.dst == bridge_group_address) && t.stp) (head.dst == pause_address) [] _ h

-- the entries mean nothing to a group address
pub group-targets : (t : Table) (es : List ((ℕ × ℕ) × (ℕ × Kind))) (vid : ℕ) (head : Head) (msg : McastMsg) → is_multicast head.dst ≡ true
    → targets t vid head msg ≡ targets (with_addresses t es) vid head msg
group-targets t es vid head msg group = rw group refl

pub unknown-targets : (t : Table) (vid : ℕ) (head : Head) (msg : McastMsg) → is_multicast head.dst ≡ false → get pair_cmp t.addr (vid, head.dst) ≡ None → targets t vid head msg ≡ with_flag t flood
unknown-targets t vid head msg station none =
    simp (other head.dst bridge_group_address station refl, other head.dst pause_address station refl, not-reserved head.dst station, other head.dst broadcast station refl, station, none)

-- ---- the class

-- no station is known
pub never-crosses : (d : Domains) (t : Table) (p vid : ℕ) (head : Head) → known_port t vid head.dst ≡ None → crosses d t p vid head ≡ false
never-crosses d t p vid head unknown = by (is_multicast head.dst) (get pair_cmp t.addr (vid, head.dst)) unknown
  where
    by : (group : Bool) (o : Option (ℕ × Kind)) → cond group None (option_map port_of o) ≡ None → (not group && option_map_or (λ x. foreign d p (port_of x) && may t p (port_of x) vid) o false) ≡ false
    by true o e = refl
    by false None e = refl
    by false (Some x) e = absurd (cc e)

pub class-is : (d : Domains) (t : Table) (p vid : ℕ) (head : Head) (msg : McastMsg) (trapped : Bool) (ports : List ℕ) (cls : Class) → to_tree t p head ≡ false → admit t p head ≡ Some vid
    → trapped ≡ is_trapped_in d t p (Some vid) head msg → ports ≡ ports_out t p head msg → cls ≡ cond trapped Trap (class_by d p ports) → cls ≡ class d t p head msg
class-is d t p vid head msg trapped ports cls other admitted is out made =
    made
    ∙ ap₂ (λ b (qs : List ℕ). cond b Trap (class_by d p qs)) (is ∙ sym (ap₂ (λ b o. b || is_trapped_in d t p o head msg) other admitted)) out

-- ---- the ports

pub ports-are : (t : Table) (p vid : ℕ) (head : Head) (msg : McastMsg) (goal eligible ports : List ℕ) → to_tree t p head ≡ false → admit t p head ≡ Some vid
    → goal ≡ set_of (targets t vid head msg) → eligible ≡ ports_where (λ q. may t p q vid) → ports ≡ ports_where (λ q. has_number goal q && has_number eligible q)
    → ports ≡ ports_out t p head msg
unfolding numbers_below ports_out egress_ports all_ports
ports-are t p vid head msg goal eligible ports other admitted g e made =
    made
    ∙ same_below _ _ port_places (λ q low. ap₂ ◌&&◌ (member-of (has nat_cmp (targets t vid head msg)) goal q g low) (member-of (λ m. may t p m vid) eligible q e low))
    ∙ sym (ap₂ (λ b o. cond b [] (ports_in t p o head msg)) other admitted)

pub untagged-are : (t : Table) (vid : ℕ) (f : ℕ → Bool) (ports plain both : List ℕ) → ports ≡ ports_where f → plain ≡ ports_where (λ q. untagged t q vid)
    → both ≡ ports_where (λ q. has_number ports q && has_number plain q) → both ≡ untagged_among t (Some vid) ports
untagged-are t vid f ports plain both p u made =
    made
    ∙ same_below _ _ port_places (λ q low. ap (λ b. has_number ports q && b) (member-of (λ m. untagged t m vid) plain q u low))
    ∙ sym (filter-set port_places ports (λ q. untagged t q vid) (p ∙ IsSetBelow-numbers_below f port_places ∙ ap (λ (ns : List ℕ). numbers_below port_places (has_number ns)) (sym p)))

-- a frame for the tree, or one that isn't admitted
pub tree-out : (t : Table) (p : ℕ) (head : Head) (msg : McastMsg) → to_tree t p head ≡ true → [] ≡ ports_out t p head msg
unfolding ports_out
tree-out t p head msg tree = sym (ap (λ b. cond b [] (ports_in t p (admit t p head) head msg)) tree)

pub none-out : (t : Table) (p : ℕ) (head : Head) (msg : McastMsg) → to_tree t p head ≡ false → admit t p head ≡ None → [] ≡ ports_out t p head msg
unfolding ports_out
none-out t p head msg other none = sym (ap₂ (λ b o. cond b [] (ports_in t p o head msg)) other none)

pub none-class : (d : Domains) (t : Table) (p : ℕ) (head : Head) (msg : McastMsg) → to_tree t p head ≡ false → admit t p head ≡ None → Drop ≡ class d t p head msg
none-class d t p head msg other none =
    ap (λ (qs : List ℕ). class_by d p qs) (none-out t p head msg other none)
    ∙ sym (ap₂ (λ b o. cond (b || is_trapped_in d t p o head msg) Trap (class_by d p (ports_out t p head msg))) other none)
