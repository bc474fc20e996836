-- How the queue packs an update, and a board a change.
-- Source: this profile.
use Rattle.std.specs.Prelude.{ℕ, ◌+◌, ◌*◌, ◌^◌}
use Rattle.br_model.specs.declared.change.Change.TheVariants.{PortUp, PortDown, SetFlags, SetState, VlanAdd, VlanDel, GroupJoin, GroupPart, Router, Querier, Snoop, Stp, AddrPut, AddrDel}
use Rattle.br_model.specs.declared.change.Change.{Change}
use Rattle.br_model.specs.declared.change.Update.{Update}
use Rattle.br_model.specs.declared.group.Group.TheVariants.{V4, V6}
use Rattle.br_model.specs.declared.parcel.Form.{Form}
use Rattle.br_model.specs.declared.parcel.Form.TheVariants as forms
use Rattle.br_model.specs.declared.parcel.Slip.{Slip}

-- the number with these halves
abbrev pub whole : ℕ → ℕ → ℕ
whole high low = high * 2 ^ 64 + low

-- the update that stands in few bytes; an IPv6 group is in two halves
abbrev pub update_of : Form → Update
update_of (forms.PortUp port n) = record { ticket = n; change = PortUp port }
update_of (forms.PortDown port n) = record { ticket = n; change = PortDown port }
update_of (forms.SetFlags port n flags) = record { ticket = n; change = SetFlags port flags }
update_of (forms.SetState port n state) = record { ticket = n; change = SetState port state }
update_of (forms.VlanAdd port vid n untagged pvid) = record { ticket = n; change = VlanAdd port vid untagged pvid }
update_of (forms.VlanDel port vid n) = record { ticket = n; change = VlanDel port vid }
update_of (forms.JoinFour port vid n address) = record { ticket = n; change = GroupJoin port vid (V4 address) }
update_of (forms.JoinSix port vid n high low) = record { ticket = n; change = GroupJoin port vid (V6 (whole high low)) }
update_of (forms.PartFour port vid n address) = record { ticket = n; change = GroupPart port vid (V4 address) }
update_of (forms.PartSix port vid n high low) = record { ticket = n; change = GroupPart port vid (V6 (whole high low)) }
update_of (forms.Router port n on) = record { ticket = n; change = Router port on }
update_of (forms.Querier n six on) = record { ticket = n; change = Querier six on }
update_of (forms.Snoop n on) = record { ticket = n; change = Snoop on }
update_of (forms.Stp n on) = record { ticket = n; change = Stp on }
update_of (forms.AddrPut port vid n mac kind) = record { ticket = n; change = AddrPut vid mac port kind }
update_of (forms.AddrDel vid n mac) = record { ticket = n; change = AddrDel vid mac }

-- the change that few bytes say
abbrev pub change_in : Slip → Change
change_in s = (update_of s.form).change
