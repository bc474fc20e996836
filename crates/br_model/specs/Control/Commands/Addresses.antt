-- `fdb add`, `fdb del`.
-- Source: iproute2's `bridge fdb`, the kernel's br_fdb_add and br_fdb_delete; the order of refusals is this profile's, and so is that
-- an extern entry doesn't take the place of one that is there.
use Rattle.std.specs.Prelude.{ℕ, not, if◌then◌else◌, List, [], ◌∷◌}
use Rattle.std.specs.declared.result.Result.{Result}
use Rattle.std.specs.declared.result.Result.TheVariants.{Ok, Err}
use Rattle.std.specs.Option.{is_some, is_none}
use Rattle.br_model.specs.declared.change.Change.{Change}
use Rattle.br_model.specs.declared.change.Change.TheVariants as changes
use Rattle.br_model.specs.declared.change.Kind.{Kind}
use Rattle.br_model.specs.declared.steps.Refusal.{Refusal}
use Rattle.br_model.specs.declared.steps.Refusal.TheVariants.{PortNotUp, NotMember, Exists, Absent, FdbFull}
use Rattle.br_model.specs.Forward.Admission.{member}
use Rattle.br_model.specs.Control.Commands.Ports.{is_down}
use Rattle.br_model.specs.Table.Limits.{fits}
use Rattle.br_model.specs.Data.Maps.{pair_cmp, get}
use Rattle.br_model.specs.Table.Table.{Table}

abbrev pub fdb_add : Table → ℕ → ℕ → ℕ → Kind → Result (List Change) Refusal
fdb_add t vid mac port kind =
    if is_down t port then Err PortNotUp else
    if not (member t port vid) then Err NotMember else
    if is_some (get pair_cmp t.addr (vid, mac)) then Err Exists else
    if not (fits t (changes.AddrPut vid mac port kind)) then Err FdbFull else
    Ok (changes.AddrPut vid mac port kind ∷ [])

abbrev pub fdb_del : Table → ℕ → ℕ → Result (List Change) Refusal
fdb_del t vid mac =
    if is_none (get pair_cmp t.addr (vid, mac)) then Err Absent else
    Ok (changes.AddrDel vid mac ∷ [])
