-- Worked runs about VLANs and isolated ports.
-- Source: this profile; the transcripts were worked out by hand.
use Rattle.std.specs.Prelude.{ℕ, List, [], ◌∷◌, ◌++◌, codes}
use Rattle.br_model.specs.Theorems.WholeLines.{lines_text}
use Rattle.br_model.specs.Worked.Rows.{three_up, three_are_up}

-- A tag with VID 0 gives a priority alone: the frame is in the VLAN of the port, and leaves with a tag that keeps the priority.
abbrev pub priority_tag_text : List ℕ
priority_tag_text = lines_text (three_up ++
    codes "cmd vlan add vid 10 dev p1 pvid untagged" ∷
    codes "cmd vlan add vid 10 dev p2" ∷
    codes "publish" ∷
    codes "rx 1 02000000000b02000000000a8100a00088b50102" ∷
    codes "serve" ∷
    codes "end" ∷
    [])

abbrev pub priority_tag_told : List ℕ
priority_tag_told = lines_text (three_are_up ++
    codes "ok 5 1" ∷
    codes "ok 6 1" ∷
    codes "ok 7 0" ∷
    codes "soft 1 at 11" ∷
    codes "tx 1 2 02000000000b02000000000a8100a00a88b50102" ∷
    codes "ok 9 1" ∷
    codes "end 9 12 1 0" ∷
    [])

-- The last VLAN, a VID that is no VLAN's, and a port without a VLAN for untagged frames.
abbrev pub edges_of_the_vlan_range_text : List ℕ
edges_of_the_vlan_range_text = lines_text (three_up ++
    codes "cmd vlan add vid 4094 dev p1" ∷
    codes "cmd vlan add vid 4094 dev p2 untagged" ∷
    codes "cmd vlan del vid 1 dev p1" ∷
    codes "publish" ∷
    codes "rx 1 02000000000b02000000000a81000ffe88b50102" ∷
    codes "serve" ∷
    codes "rx 1 02000000000b02000000000a81000fff88b50102" ∷
    codes "serve" ∷
    codes "rx 1 02000000000b02000000000a88b50102" ∷
    codes "serve" ∷
    codes "end" ∷
    [])

abbrev pub edges_of_the_vlan_range_told : List ℕ
edges_of_the_vlan_range_told = lines_text (three_are_up ++
    codes "ok 5 1" ∷
    codes "ok 6 1" ∷
    codes "ok 7 1" ∷
    codes "ok 8 0" ∷
    codes "soft 1 at 12" ∷
    codes "tx 1 2 02000000000b02000000000a88b50102" ∷
    codes "ok 10 1" ∷
    codes "soft 2 at 12" ∷
    codes "ok 12 0" ∷
    codes "soft 3 at 12" ∷
    codes "ok 14 0" ∷
    codes "end 14 13 1 0" ∷
    [])

-- Isolated ports reach others alone.
abbrev pub isolated_ports_text : List ℕ
isolated_ports_text = lines_text (three_up ++
    codes "cmd link p1 isolated on" ∷
    codes "cmd link p2 isolated on" ∷
    codes "publish" ∷
    codes "rx 1 02000000000b02000000000a88b50102" ∷
    codes "serve" ∷
    codes "end" ∷
    [])

abbrev pub isolated_ports_told : List ℕ
isolated_ports_told = lines_text (three_are_up ++
    codes "ok 5 1" ∷
    codes "ok 6 1" ∷
    codes "ok 7 0" ∷
    codes "soft 1 at 11" ∷
    codes "tx 1 3 02000000000b02000000000a88b50102" ∷
    codes "ok 9 1" ∷
    codes "end 9 12 1 0" ∷
    [])
