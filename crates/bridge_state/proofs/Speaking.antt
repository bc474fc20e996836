-- Who is heard, and what of a frame is heard by whom.
use Rattle.std.proofs.Common.{◌≡◌, ℕ, ◌^◌, Bool, true, false, not, ◌&&◌, if◌then◌else◌, ◌==◌, cond, List, [], ◌∷◌, ◌++◌, drop, fold, Option, None, Some, option_map, refl, sym, ap, ◌∙◌, arith}
use Rattle.std.proofs.lemmas.Bool.{eqb-true, ne_eqb}
use Rattle.std.proofs.Math.Nat.{mod-lt}
use Rattle.lemmas.proofs.Tests.{and_last}
use Rattle.br_model.specs.declared.change.Change.TheVariants.{AddrPut}
use Rattle.br_model.specs.declared.change.Kind.TheVariants.{Learned}
use Rattle.br_model.specs.declared.frame.Head.{Head}
use Rattle.br_model.specs.declared.frame.McastMsg.{McastMsg}
use Rattle.br_model.specs.declared.frame.McastMsg.TheVariants.{Plain, Payload, Query, Report, Leave, Records, Unrecognized}
use Rattle.br_model.specs.declared.tree.TreeEvent.{TreeEvent}
use Rattle.br_model.specs.declared.tree.TreeEvent.TheVariants.{Message}
use Rattle.br_model.specs.Forward.Admission.{admit, is_up, has_valid_source}
use Rattle.br_model.specs.Wire.Bpdus.{bpdu}
use Rattle.br_model.specs.Control.Control.{renewed}
use Rattle.br_model.specs.Control.Course.{Course, makes}
use Rattle.br_model.specs.Table.DomainPorts.{is_in_domain}
use Rattle.br_model.specs.Table.Domains.{software}
use Rattle.br_model.specs.Wire.IpHeaders.{destination_four, destination_six, is_multicast_four, is_multicast_six, is_whole_four, is_whole_six, mac_of_four, mac_of_six, type_four, type_six}
use Rattle.br_model.specs.Control.Learning.{Address, is_news, is_renewed, teach}
use Rattle.br_model.specs.Table.Limits.{fits}
use Rattle.br_model.specs.Wire.Messages.{message, message_four, message_six}
use Rattle.br_model.specs.Data.Numbers.{is_group_four, is_group_six}
use Rattle.br_model.specs.Control.Reaction.{learns, learns_of}
use Rattle.br_model.specs.Table.Setup.{Setup}
use Rattle.br_model.specs.Control.Snooping.{said, snoops, snoops_in}
use Rattle.br_model.specs.Table.Table.{Table, apply, with_addresses}
use Rattle.br_model.specs.Forward.Targets.{bridge_group_address}
use Rattle.br_model.specs.Control.TreeReaction.{heard}
use Rattle.bridge_state.specs.Hearing.{most}

-- A message that may change nothing changes nothing.
pub unsaid : (port vid : ℕ) (bytes : List ℕ) (m : McastMsg) (r : Course) → most m ≡ 0 → said port vid bytes m r ≡ r
unsaid port vid bytes Plain r none = refl
unsaid port vid bytes (Payload group) r none = refl
unsaid port vid bytes (Query six counted) r none = absurd (cc)
unsaid port vid bytes (Report group) r none = absurd (cc)
unsaid port vid bytes (Leave group) r none = absurd (cc)
unsaid port vid bytes (Records six first count) r none = ap (λ n. said port vid bytes (Records six first n) r) none
unsaid port vid bytes Unrecognized r none = refl

module _ (ports : Table) (port : ℕ) (bytes : List ℕ) (head : Head) (r : Course) (same : with_addresses r.table [] ≡ ports) where
  -- by the VLAN in which the port admits the frame, and whether snooping is on
  snoops-by : (o : Option ℕ) → admit ports port head ≡ o → snoops port bytes head r ≡ snoops_in port o bytes head r
  snoops-by o is = ap (λ x. snoops_in port x bytes head r) (ap (λ t. admit t port head) same ∙ is)

  off : (o : Option ℕ) → ports.snoop ≡ false → snoops_in port o bytes head r ≡ r
  off None is = refl
  off (Some vid) is = ap (λ b. cond b (said port vid bytes (message bytes head) r) r) (ap (λ (t : Table). t.snoop) same ∙ is)

  quiet : (o : Option ℕ) (m : McastMsg) → m ≡ message bytes head → most m ≡ 0 → snoops_in port o bytes head r ≡ r
  quiet None m is none = refl
  quiet (Some vid) m is none = by r.table.snoop (ap (λ x. said port vid bytes x r) (sym is) ∙ unsaid port vid bytes m r none)
    where
      by : (b : Bool) → said port vid bytes (message bytes head) r ≡ r → cond b (said port vid bytes (message bytes head) r) r ≡ r
      by true e = e
      by false e = refl

  pub unheard-off : ports.snoop ≡ false → snoops port bytes head r ≡ r
  unheard-off is = snoops-by _ refl ∙ off (admit ports port head) is

  pub unheard-quiet : (m : McastMsg) → m ≡ message bytes head → most m ≡ 0 → snoops port bytes head r ≡ r
  unheard-quiet m is none = snoops-by _ refl ∙ quiet (admit ports port head) m is none

  pub unheard-dropped : admit ports port head ≡ None → snoops port bytes head r ≡ r
  unheard-dropped is = snoops-by None is

  pub heard-in : (vid : ℕ) (m : McastMsg) → m ≡ message bytes head → admit ports port head ≡ Some vid → ports.snoop ≡ true → snoops port bytes head r ≡ said port vid bytes m r
  heard-in vid m is admits on =
      snoops-by (Some vid) admits
      ∙ ap (λ b. cond b (said port vid bytes (message bytes head) r) r) (ap (λ (t : Table). t.snoop) same ∙ on)
      ∙ ap (λ x. said port vid bytes x r) (sym is)

-- What a frame teaches changes addresses alone.
learns-ports : (port : ℕ) (o : Option Address) (r : Course) → with_addresses (learns port o r).table [] ≡ with_addresses r.table []
learns-ports port None r = refl
learns-ports port (Some key) r = by (is_renewed r.table key port) (is_news r.table key port)
  where
    put : (q : Course) → with_addresses q.table [] ≡ with_addresses r.table [] → with_addresses (makes q (AddrPut key.0 key.1 port Learned)).table [] ≡ with_addresses r.table []
    put q e = at (fits q.table (AddrPut key.0 key.1 port Learned))
      where
        at : (b : Bool)
            → with_addresses
            (cond b (record {
              table = apply q.table (AddrPut key.0 key.1 port Learned);
              control = renewed q.control key;
              changes = q.changes ++ AddrPut key.0 key.1 port Learned ∷ [];
              messages = q.messages;
            }) q).table [] ≡ with_addresses r.table []
        at true = e
        at false = e

    by : (b d : Bool)
        → with_addresses (fold makes (if b then record r { control = renewed r.control key } else r) (if d then AddrPut key.0 key.1 port Learned ∷ [] else [])).table [] ≡ with_addresses r.table []
    by true true = put (record r { control = renewed r.control key }) refl
    by false true = put r refl
    by true false = refl
    by false false = refl

pub taught-ports : (setup : Setup) (port : ℕ) (head : Head) (r : Course) → with_addresses (learns_of setup port head r).table [] ≡ with_addresses r.table []
taught-ports setup port head r = by (is_in_domain setup.domains software port)
  where
    by : (b : Bool) → with_addresses (if b then learns port (teach r.table port head) r else r).table [] ≡ with_addresses r.table []
    by true = learns-ports port (teach r.table port head) r
    by false = refl

-- A frame that the spanning tree reads says nothing to snooping: its address is no group's.
no_group_four : (g : ℕ) → (bridge_group_address == mac_of_four g) ≡ false
no_group_four g = ne_eqb bridge_group_address (mac_of_four g) (λ e. absurd (omega (arith, e, mod-lt g {m = 2 ^ 23} (omega arith))))

no_group_six : (g : ℕ) → (bridge_group_address == mac_of_six g) ≡ false
no_group_six g = ne_eqb bridge_group_address (mac_of_six g) (λ e. absurd (omega (arith, e)))

plain-unless : (b : Bool) (other : McastMsg) → b ≡ false → (if not b then Plain else other) ≡ Plain
plain-unless true other e = absurd (cc)
plain-unless false other e = refl

plain-four : (first : ℕ) (packet : List ℕ) → message_four bridge_group_address first packet ≡ Plain
plain-four first packet =
    plain-unless (is_multicast_four bridge_group_address packet) _
    (and_last (is_whole_four packet) (is_group_four (destination_four packet)) _ (no_group_four (destination_four packet)))

plain-six : (first : ℕ) (packet : List ℕ) → message_six bridge_group_address first packet ≡ Plain
plain-six first packet =
    plain-unless (is_multicast_six bridge_group_address packet) _
    (and_last (is_whole_six packet) (is_group_six (destination_six packet)) _ (no_group_six (destination_six packet)))

tree-address : (bytes : List ℕ) (head : Head) → head.dst ≡ bridge_group_address → message bytes head ≡ Plain
unfolding message
tree-address bytes head is =
    (λ i. if head.kind == type_four then message_four (is i) head.body (drop head.body bytes) else if head.kind == type_six then message_six (is i) head.body (drop head.body bytes) else Plain)
    ∙ by (head.kind == type_four) (head.kind == type_six)
  where
    by : (four six : Bool)
        → (if four then message_four bridge_group_address head.body (drop head.body bytes) else if six then message_six bridge_group_address head.body (drop head.body bytes) else Plain) ≡ Plain
    by true six = plain-four head.body (drop head.body bytes)
    by false true = plain-six head.body (drop head.body bytes)
    by false false = refl

pub tree-hears-alone : (t : Table) (port : ℕ) (bytes : List ℕ) (head : Head) (event : TreeEvent) → heard t port bytes head ≡ Some event → message bytes head ≡ Plain
tree-hears-alone t port bytes head event e = by (head.dst == bridge_group_address) refl (t.stp && (is_up t port && has_valid_source head)) e
  where
    by : (at : Bool) → (head.dst == bridge_group_address) ≡ at → (may : Bool) → (if at && may then option_map (λ m. Message port m) (bpdu bytes) else None) ≡ Some event → message bytes head ≡ Plain
    by true is may h = tree-address bytes head (eqb-true _ _ is)
    by false is may h = absurd (cc)
