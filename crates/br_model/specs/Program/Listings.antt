-- What `show` writes of a table: a line for each entry, and a last line `end`.
-- Source: this profile, in the manner of iproute2's bridge (`fdb show`, `vlan show`, `mdb show`).
use Rattle.std.specs.Prelude.{ℕ, ◌==◌, Bool, List, [], ◌∷◌, ◌++◌, codes}
use Rattle.std.specs.Fmt.{decimal}
use Rattle.std.specs.List.{filter, flat_map}
use Rattle.std.specs.Option.{option_eq}
use Rattle.std.specs.Ordering.{nat_cmp}
use Rattle.std.specs.declared.option.Option.TheVariants.{Some}
use Rattle.br_model.specs.declared.change.Kind.{Kind}
use Rattle.br_model.specs.declared.group.Group.{Group}
use Rattle.br_model.specs.declared.group.Group.TheVariants.{V4, V6}
use Rattle.br_model.specs.declared.listing.Listing.{Listing}
use Rattle.br_model.specs.declared.listing.Listing.TheVariants.{Fdb, Vlan, Mdb}
use Rattle.br_model.specs.Table.Groups.{Membership}
use Rattle.br_model.specs.Forward.Leave.{all_ports}
use Rattle.br_model.specs.Data.Maps.{get}
use Rattle.br_model.specs.Text.Roster.{Entry}
use Rattle.br_model.specs.Program.Runs.{run_of}
use Rattle.br_model.specs.Text.Scenario.{Scenario, Ending, Going, Ended, Bad, scenario}
use Rattle.br_model.specs.Text.Spelling.{mac_text, dotted, groups_of_four, kind_word, device_text, further}
use Rattle.br_model.specs.Table.Table.{Table, table}
use Rattle.br_model.specs.Text.Transcript.{bad_text}

-- an entry of the forwarding database
abbrev pub fdb_line : List Entry → (ℕ × ℕ) × (ℕ × Kind) → List ℕ
fdb_line ports e =
    mac_text e.0.1 ++ (codes " dev " ++ (device_text ports e.1.0 ++ (codes " vlan " ++ (decimal e.0.0 ++ (32 ∷ (kind_word e.1.1 ++ 10 ∷ []))))))

-- a port that is a member of a VLAN: whether the VLAN is that of its untagged frames, and whether frames leave it untagged
abbrev pub vlan_line : List Entry → List (ℕ × ℕ) → (ℕ × ℕ) × Bool → List ℕ
vlan_line ports pvid e =
    device_text ports e.0.1 ++ (32 ∷ (decimal e.0.0 ++ (further (option_eq (λ x y. x == y) (get nat_cmp pvid e.0.1) (Some e.0.0)) (codes "pvid")
    ++ (further e.1 (codes "untagged") ++ 10 ∷ []))))

abbrev pub group_text : Group → List ℕ
group_text (V4 n) = dotted n
group_text (V6 n) = groups_of_four n

-- a port that is a member of a group in a VLAN
abbrev pub mdb_line : List Entry → Membership → List ℕ
mdb_line ports m = codes "dev " ++ (device_text ports m.2 ++ (codes " grp " ++ (group_text m.1 ++ (codes " vlan " ++ (decimal m.0 ++ 10 ∷ [])))))

-- the memberships of VLANs by port, and those of a port by VLAN
abbrev pub by_port : List ((ℕ × ℕ) × Bool) → List ((ℕ × ℕ) × Bool)
by_port vlans = flat_map (λ port. filter (λ e. e.0.1 == port) vlans) all_ports

-- Entries and members of groups stand in the order of the table: by VLAN and address; by VLAN, group (version 4 first) and port.
abbrev pub lines_of : Listing → List Entry → Table → List ℕ
lines_of Fdb ports t = flat_map (fdb_line ports) t.addr
lines_of Vlan ports t = flat_map (vlan_line ports t.pvid) (by_port t.vlans)
lines_of Mdb ports t = flat_map (mdb_line ports) t.groups

abbrev pub listing_text : Listing → List Entry → Table → List ℕ
listing_text listing ports t = lines_of listing ports t ++ (codes "end" ++ 10 ∷ [])

-- the listing of the whole history's table, where the scenario ends well
abbrev pub listed_at : Ending → Listing → Scenario → List ℕ
listed_at Going listing s = []
listed_at Ended listing s = listing_text listing s.roster.ports (table (run_of s).0.history)
listed_at (Bad n why) listing s = bad_text n why

-- what `show` writes for the bytes of a scenario
unfoldable pub listed : Listing → List ℕ → List ℕ
listed listing bytes = let s = scenario bytes in listed_at s.ending listing s
