-- `port up`, `port down`, `link`.
-- Source: the kernel's net/bridge (br_add_if, br_del_if: what goes with a port) and iproute2's `bridge link`.
use Rattle.std.specs.Prelude.{ℕ, ◌-◌, ◌==◌, Bool, true, false, not, ◌&&◌, if◌then◌else◌, List, [], ◌∷◌, ◌++◌, map}
use Rattle.std.specs.List.{filter}
use Rattle.std.specs.declared.result.Result.{Result}
use Rattle.std.specs.declared.result.Result.TheVariants.{Ok, Err}
use Rattle.std.specs.Int.Bits.{bit_and, bit_or}
use Rattle.std.specs.Option.{unwrap_or}
use Rattle.std.specs.Ordering.{nat_cmp}
use Rattle.br_model.specs.declared.change.Change.{Change}
use Rattle.br_model.specs.declared.change.Change.TheVariants as changes
use Rattle.br_model.specs.declared.steps.Refusal.{Refusal}
use Rattle.br_model.specs.declared.steps.Refusal.TheVariants.{PortIsUp, PortNotUp}
use Rattle.br_model.specs.Forward.Admission.{is_up}
use Rattle.br_model.specs.Table.Domains.{host}
use Rattle.br_model.specs.Data.Maps.{get, has}
use Rattle.br_model.specs.Table.Table.{Table, all_flags, default_vlan}

-- The port isn't up; the host is never down.
abbrev pub is_down : Table → ℕ → Bool
is_down t port = not (port == host) && not (is_up t port)

-- up, and in VLAN 1 without a tag; its state is the spanning tree's
abbrev pub comes_up : ℕ → List Change
comes_up port = changes.PortUp port ∷ changes.VlanAdd port default_vlan true true ∷ []

abbrev pub port_up : Table → ℕ → Result (List Change) Refusal
port_up t port =
    if is_up t port then Err PortIsUp else
    Ok (comes_up port)

-- what the port has in some VLANs: its addresses by VLAN and address, its memberships by VLAN and group
abbrev pub drops_addresses : Table → (ℕ → Bool) → ℕ → List Change
drops_addresses t among port = map (λ e. changes.AddrDel e.0.0 e.0.1) (filter (λ e. e.1.0 == port && among e.0.0) t.addr)

abbrev pub drops_groups : Table → (ℕ → Bool) → ℕ → List Change
drops_groups t among port = map (λ m. changes.GroupPart port m.0 m.1) (filter (λ m. m.2 == port && among m.0) t.groups)

-- by VLAN
abbrev pub drops_vlans : Table → ℕ → List Change
drops_vlans t port = map (λ e. changes.VlanDel port e.0.0) (filter (λ e. e.0.1 == port) t.vlans)

abbrev pub drops_router : Table → ℕ → List Change
drops_router t port = if has nat_cmp t.routers port then changes.Router port false ∷ [] else []

-- all that the port has, and then the port
abbrev pub goes_down : Table → ℕ → List Change
goes_down t port =
    drops_addresses t (λ vid. true) port ++ (drops_groups t (λ vid. true) port
    ++ (drops_vlans t port ++ (drops_router t port ++ changes.PortDown port ∷ [])))

abbrev pub port_down : Table → ℕ → Result (List Change) Refusal
port_down t port =
    if is_down t port then Err PortNotUp else
    Ok (goes_down t port)

-- the flags with these or without them
abbrev pub flags_with : Bool → ℕ → ℕ → ℕ
flags_with on flags these = if on then bit_or flags these else bit_and flags (all_flags - these)

-- none where it is so already
abbrev pub sets_flags : ℕ → ℕ → ℕ → List Change
sets_flags port old new = if old == new then [] else changes.SetFlags port new ∷ []

abbrev pub flags_of : Table → ℕ → ℕ
flags_of t port = unwrap_or (get nat_cmp t.flags port) 0

abbrev pub link : Table → ℕ → ℕ → Bool → Result (List Change) Refusal
link t port flag on =
    if is_down t port then Err PortNotUp else
    Ok (sets_flags port (flags_of t port) (flags_with on (flags_of t port) flag))
