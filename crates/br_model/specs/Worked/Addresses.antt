-- Worked runs about addresses: learned, local, published, old.
-- Source: this profile; the transcripts were worked out by hand.
use Rattle.std.specs.Prelude.{ℕ, List, [], ◌∷◌, ◌++◌, codes}
use Rattle.br_model.specs.Theorems.WholeLines.{lines_text}
use Rattle.br_model.specs.Worked.Rows.{three_up, three_are_up}

-- A station that is seen behind another port has moved there, and is forgotten when its entry is old.
abbrev pub address_moves_text : List ℕ
address_moves_text = lines_text (three_up ++
    codes "rx 1 02000000000b02000000000a88b50102" ∷
    codes "serve" ∷
    codes "rx 2 02000000000b02000000000a88b50102" ∷
    codes "serve" ∷
    codes "now 300000" ∷
    codes "end" ∷
    [])

abbrev pub address_moves_told : List ℕ
address_moves_told = lines_text (three_are_up ++
    codes "soft 1 at 9" ∷
    codes "tx 1 2 02000000000b02000000000a88b50102" ∷
    codes "tx 1 3 02000000000b02000000000a88b50102" ∷
    codes "ok 6 1" ∷
    codes "soft 2 at 9" ∷
    codes "tx 2 1 02000000000b02000000000a88b50102" ∷
    codes "tx 2 3 02000000000b02000000000a88b50102" ∷
    codes "ok 8 1" ∷
    codes "ok 9 1" ∷
    codes "end 9 12 3 0" ∷
    [])

-- Frames to an address of the bridge itself go to the host.
abbrev pub local_address_text : List ℕ
local_address_text = lines_text (three_up ++
    codes "cmd fdb add 02:00:00:00:00:0b dev host vlan 1 local" ∷
    codes "publish" ∷
    codes "rx 1 02000000000b02000000000a88b50102" ∷
    codes "serve" ∷
    codes "end" ∷
    [])

abbrev pub local_address_told : List ℕ
local_address_told = lines_text (three_are_up ++
    codes "ok 5 1" ∷
    codes "ok 6 0" ∷
    codes "soft 1 at 10" ∷
    codes "tx 1 0 02000000000b02000000000a88b50102" ∷
    codes "ok 8 1" ∷
    codes "end 8 11 2 0" ∷
    [])

-- Software decides by what is published.
abbrev pub published_point_text : List ℕ
published_point_text = lines_text (three_up ++
    codes "cmd fdb add 02:00:00:00:00:0b dev p2 vlan 1 static" ∷
    codes "rx 1 02000000000b02000000000a88b50102" ∷
    codes "serve" ∷
    codes "publish" ∷
    codes "rx 1 02000000000b02000000000a88b50102" ∷
    codes "serve" ∷
    codes "end" ∷
    [])

abbrev pub published_point_told : List ℕ
published_point_told = lines_text (three_are_up ++
    codes "ok 5 1" ∷
    codes "soft 1 at 9" ∷
    codes "tx 1 2 02000000000b02000000000a88b50102" ∷
    codes "tx 1 3 02000000000b02000000000a88b50102" ∷
    codes "ok 7 1" ∷
    codes "ok 8 0" ∷
    codes "soft 2 at 11" ∷
    codes "tx 2 2 02000000000b02000000000a88b50102" ∷
    codes "ok 10 0" ∷
    codes "end 10 11 2 0" ∷
    [])

-- A frame to a station behind the port by which it came goes nowhere.
abbrev pub destination_on_its_ingress_port_text : List ℕ
destination_on_its_ingress_port_text = lines_text (three_up ++
    codes "rx 1 02000000000b02000000000a88b50102" ∷
    codes "serve" ∷
    codes "publish" ∷
    codes "rx 1 02000000000a02000000000b88b50102" ∷
    codes "serve" ∷
    codes "end" ∷
    [])

abbrev pub destination_on_its_ingress_port_told : List ℕ
destination_on_its_ingress_port_told = lines_text (three_are_up ++
    codes "soft 1 at 9" ∷
    codes "tx 1 2 02000000000b02000000000a88b50102" ∷
    codes "tx 1 3 02000000000b02000000000a88b50102" ∷
    codes "ok 6 1" ∷
    codes "ok 7 0" ∷
    codes "soft 2 at 10" ∷
    codes "ok 9 1" ∷
    codes "end 9 11 2 0" ∷
    [])

-- Learned entries get old, others stay; a moment doesn't go back.
abbrev pub ageing_text : List ℕ
ageing_text = lines_text (three_up ++
    codes "cmd fdb add 02:00:00:00:00:0c dev p2 vlan 1 extern" ∷
    codes "rx 1 02000000000b02000000000a88b50102" ∷
    codes "serve" ∷
    codes "now 299999" ∷
    codes "now 300000" ∷
    codes "now 299999" ∷
    codes "end" ∷
    [])

abbrev pub ageing_told : List ℕ
ageing_told = lines_text (three_are_up ++
    codes "ok 5 1" ∷
    codes "soft 1 at 9" ∷
    codes "tx 1 2 02000000000b02000000000a88b50102" ∷
    codes "tx 1 3 02000000000b02000000000a88b50102" ∷
    codes "ok 7 1" ∷
    codes "ok 8 0" ∷
    codes "ok 9 1" ∷
    codes "refused 10 9" ∷
    codes "end 10 12 3 0" ∷
    [])
