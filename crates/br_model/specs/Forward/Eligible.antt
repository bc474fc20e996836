-- Which ports may take a frame of a VLAN.
-- Source: IEEE 802.1D-1998 section 7.7.1 (not the port it came by, only forwarding ports), IEEE 802.1Q-2018 section 8.6.4
-- (members alone), the kernel's net/bridge (isolated ports). The host takes what its VLANs have: this profile.
use Rattle.std.specs.Prelude.{ℕ, ◌==◌, Bool, false, not, ◌&&◌, if◌then◌else◌}
use Rattle.std.specs.Option.{unwrap_or}
use Rattle.br_model.specs.Forward.Admission.{is_forwarding, member}
use Rattle.br_model.specs.Table.Domains.{host}
use Rattle.br_model.specs.Data.Maps.{pair_cmp, get}
use Rattle.br_model.specs.Table.Table.{Table}
use Rattle.br_model.specs.Forward.Targets.{has_flag, isolated}

-- whether the VLAN's frames leave the port without a tag
abbrev pub untagged : Table → ℕ → ℕ → Bool
untagged t port vid = unwrap_or (get pair_cmp t.vlans (vid, port)) false

-- whether port q may take a frame of the VLAN that came by port p
abbrev pub may : Table → ℕ → ℕ → ℕ → Bool
may t p q vid =
    if q == host then member t q vid else
    not (q == p) && (is_forwarding t q && (member t q vid && not (has_flag t p isolated && has_flag t q isolated)))
