-- What is asked of the ends of memberships, router ports and queriers (`br_model.specs.Control.Ends`), and what moves them.
-- Source: RFC 4541 section 2.1 (members, router ports), RFC 2236 section 3 and RFC 3376 section 6 (timers of members and
-- queriers), the kernel's net/bridge (permanent entries, which commands make).
use Rattle.std.specs.Prelude.{ℕ, ◌==◌, min, Bool, true, false, ◌&&◌, if◌then◌else◌, List, [], ◌∷◌, ◌++◌, map, is_some}
use Rattle.std.specs.List.{filter}
use Rattle.std.specs.declared.option.Option.{Option}
use Rattle.std.specs.declared.option.Option.TheVariants.{None, Some}
use Rattle.std.specs.declared.cmp.Ordering.{Ordering}
use Rattle.std.specs.Ordering.{is_eq, nat_cmp}
use Rattle.br_model.specs.declared.group.Group.{Group}
use Rattle.br_model.specs.Control.Ends.{Ends, end_of, keys}
use Rattle.br_model.specs.Table.GroupPairs.{GroupPair}
use Rattle.br_model.specs.Table.Groups.{Membership, group_cmp}
use Rattle.br_model.specs.Data.Maps.{get, put, without}
use Rattle.br_model.specs.Table.Table.{ip_version}

abbrev pub memberships : Ends → List Membership
memberships e = keys e.groups

-- what is known of groups, router ports and queriers, of which none ends
pub record Known : Type 0 where
  pub groups : List Membership
  pub routers : List ℕ
  pub queriers : List ℕ

-- the end of a membership that is joined: one that was made by command has none
abbrev pub end_joined : Option (Option ℕ) → Option ℕ → Option ℕ
end_joined None end = end
end_joined (Some None) end = None
end_joined (Some (Some old)) end = end

-- whether it is there and ends
abbrev pub is_dynamic : Option (Option ℕ) → Bool
is_dynamic o = is_some (end_of o)

module _ {K : Type 0} (R : K → K → Ordering) where
  -- a join, until this end or without end
  abbrev pub joined_until : List (K × Option ℕ) → K → Option ℕ → List (K × Option ℕ)
  joined_until m k end = put R m k (end_joined (get R m k) end)

  abbrev pub ended_sooner : List (K × Option ℕ) → K → ℕ → Option ℕ → List (K × Option ℕ)
  ended_sooner m k end None = m
  ended_sooner m k end (Some old) = put R m k (Some (min old end))

  -- what ends at all ends at this moment at the latest
  abbrev pub ending_soon : List (K × Option ℕ) → K → ℕ → List (K × Option ℕ)
  ending_soon m k end = ended_sooner m k end (end_of (get R m k))

-- IP version 4, and then 6, where they are meant
abbrev pub versions : Bool → Bool → List ℕ
versions four six = (if four then ip_version false ∷ [] else []) ++ (if six then ip_version true ∷ [] else [])

-- the moments with this end at the port, or with none
abbrev pub with_end : List (ℕ × ℕ) → ℕ → Option ℕ → List (ℕ × ℕ)
with_end moments port None = without nat_cmp moments port
with_end moments port (Some end) = put nat_cmp moments port end

-- the ports that are members of the group in the VLAN
abbrev pub ports_in : List Membership → ℕ → Group → List ℕ
ports_in members vid group = map (λ m. m.2) (filter (λ m. m.0 == vid && is_eq (group_cmp m.1 group)) members)

-- the VLANs and groups of which the port is a member
abbrev pub pairs_of_port : List Membership → ℕ → List GroupPair
pairs_of_port members port = map (λ m. (m.0, m.1)) (filter (λ m. m.2 == port) members)
