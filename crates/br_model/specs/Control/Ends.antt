-- The moments at which what snooping learned ends, beside the table that says what stands.
-- Source: RFC 3376 section 8 and RFC 3810 section 9 (the intervals, at the default values of their timers), the kernel's
-- net/bridge (entries that a command makes are permanent).
use Rattle.std.specs.Prelude.{ℕ, ◌+◌, ◌==◌, nat_le, Bool, true, false, if◌then◌else◌, List, [], ◌++◌, map}
use Rattle.std.specs.List.{filter}
use Rattle.std.specs.Ordering.{nat_cmp}
use Rattle.std.specs.declared.option.Option.{Option}
use Rattle.std.specs.declared.option.Option.TheVariants.{None, Some}
use Rattle.br_model.specs.declared.change.Change.{Change}
use Rattle.br_model.specs.declared.change.Change.TheVariants as changes
use Rattle.br_model.specs.Table.Groups.{Membership, membership_cmp}
use Rattle.br_model.specs.Data.Maps.{put, without}
use Rattle.br_model.specs.Table.Table.{ip_version}

-- For how long a report holds, a query, and a membership after a leave, in milliseconds.
abbrev pub member_time : ℕ
member_time = 260000

abbrev pub querier_time : ℕ
querier_time = 255000

abbrev pub leave_time : ℕ
leave_time = 2000

-- Each part of the table that snooping learns, with its moment in milliseconds.
pub record Ends : Type 0 where
  -- of each member of a group; one that was made by command has no end
  pub groups : List (Membership × Option ℕ)
  -- of each port behind which a router is
  pub routers : List (ℕ × ℕ)
  -- of the querier of each IP version
  pub queriers : List (ℕ × ℕ)

abbrev pub no_ends : Ends
no_ends = record { groups = []; routers = []; queriers = [] }

-- the member's end is this
abbrev pub lasts : Ends → Membership → Option ℕ → Ends
lasts e m end = record e { groups = put membership_cmp e.groups m end }

abbrev pub parts : Ends → Membership → Ends
parts e m = record e { groups = without membership_cmp e.groups m }

-- The router at the port is heard at this moment, or is gone.
abbrev pub routes : Bool → Ends → ℕ → ℕ → Ends
routes on e now port = record e { routers = if on then put nat_cmp e.routers port (now + querier_time) else without nat_cmp e.routers port }

-- The querier of the IP version is heard at this moment, or is gone.
abbrev pub queries : Bool → Ends → ℕ → Bool → Ends
queries on e now six = record e { queriers = if on then put nat_cmp e.queriers (ip_version six) (now + querier_time) else without nat_cmp e.queriers (ip_version six) }

-- the end, where it is there and has one
abbrev pub end_of : Option (Option ℕ) → Option ℕ
end_of None = None
end_of (Some end) = end

-- whether an end is this moment or before
abbrev pub is_over : ℕ → Option ℕ → Bool
is_over now None = false
is_over now (Some end) = nat_le end now

abbrev pub keys : {K X : Type 0} → List (K × X) → List K
keys m = map (λ x. x.0) m

-- what ends at this moment or before
abbrev pub due_members : {K : Type 0} → ℕ → List (K × Option ℕ) → List K
due_members now m = keys (filter (λ x. is_over now x.1) m)

abbrev pub due : {K : Type 0} → ℕ → List (K × ℕ) → List K
due now m = keys (filter (λ x. nat_le x.1 now) m)

-- What ends at this moment or before goes: memberships, then router ports, then queriers, each ascending.
abbrev pub endings : ℕ → Ends → List Change
endings now e =
    map (λ m. changes.GroupPart m.2 m.0 m.1) (due_members now e.groups)
    ++ (map (λ port. changes.Router port false) (due now e.routers)
    ++ map (λ version. changes.Querier (version == ip_version true) false) (due now e.queriers))
