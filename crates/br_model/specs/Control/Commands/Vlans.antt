-- `vlan add`, `vlan del`.
-- Source: iproute2's `bridge vlan`, the kernel's nbp_vlan_add and nbp_vlan_delete. That a membership that is there isn't changed
-- by `vlan add`, that `vlan del` takes every entry and group of the port in the VLAN, and that it is refused where there is no
-- membership, is this profile's.
use Rattle.std.specs.Prelude.{ℕ, ◌==◌, Bool, not, if◌then◌else◌, List, [], ◌∷◌, ◌++◌}
use Rattle.std.specs.declared.result.Result.{Result}
use Rattle.std.specs.declared.result.Result.TheVariants.{Ok, Err}
use Rattle.br_model.specs.declared.change.Change.{Change}
use Rattle.br_model.specs.declared.change.Change.TheVariants as changes
use Rattle.br_model.specs.declared.steps.Refusal.{Refusal}
use Rattle.br_model.specs.declared.steps.Refusal.TheVariants.{PortNotUp, Exists, Absent}
use Rattle.br_model.specs.Forward.Admission.{member}
use Rattle.br_model.specs.Control.Commands.Ports.{is_down, drops_addresses, drops_groups}
use Rattle.br_model.specs.Table.Table.{Table}

abbrev pub vlan_add : Table → ℕ → ℕ → Bool → Bool → Result (List Change) Refusal
vlan_add t port vid untagged pvid =
    if is_down t port then Err PortNotUp else
    if member t port vid then Err Exists else
    Ok (changes.VlanAdd port vid untagged pvid ∷ [])

-- what the port has in the VLAN, and then the membership
abbrev pub leaves_vlan : Table → ℕ → ℕ → List Change
leaves_vlan t port vid =
    drops_addresses t (λ v. v == vid) port ++ (drops_groups t (λ v. v == vid) port ++ changes.VlanDel port vid ∷ [])

abbrev pub vlan_del : Table → ℕ → ℕ → Result (List Change) Refusal
vlan_del t port vid =
    if is_down t port then Err PortNotUp else
    if not (member t port vid) then Err Absent else
    Ok (leaves_vlan t port vid)
