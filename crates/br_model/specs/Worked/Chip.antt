-- Worked runs of a bridge with a chip: the text of each scenario, and what is told of it.
-- Source: this profile; the transcripts were worked out by hand.
use Rattle.std.specs.Prelude.{ℕ, List, [], ◌∷◌, ◌++◌, codes}
use Rattle.br_model.specs.Theorems.WholeLines.{lines_text}
use Rattle.br_model.specs.Worked.Rows.{three_up, three_are_up}

-- Two ports of the chip beside one of software come up, and that is published: how each run begins.
abbrev pub chip_up : List (List ℕ)
chip_up =
    codes "scenario 1" ∷
    codes "port 1 c1 chip 1" ∷
    codes "port 2 c2 chip 1" ∷
    codes "port 3 f3 soft" ∷
    codes "cmd port up c1" ∷
    codes "cmd port up c2" ∷
    codes "cmd port up f3" ∷
    codes "publish" ∷
    []

-- The chip and software share a frame to an unknown station; then the chip reports where its source is.
abbrev pub unknown_unicast_split_text : List ℕ
unknown_unicast_split_text = lines_text (chip_up ++
    codes "rx 1 02000000000b02000000000a88b50102" ∷
    codes "serve" ∷
    codes "report 1" ∷
    codes "end" ∷
    [])

abbrev pub unknown_unicast_split_told : List ℕ
unknown_unicast_split_told = lines_text (three_are_up ++
    codes "chip 1 at 9 0 copy" ∷
    codes "tx 1 2 02000000000b02000000000a88b50102" ∷
    codes "soft 1 at 9" ∷
    codes "tx 1 3 02000000000b02000000000a88b50102" ∷
    codes "ok 6 0" ∷
    codes "ok 7 1" ∷
    codes "end 7 10 1 0" ∷
    [])

-- Software decides by what is published, the chip by what it has applied.
abbrev pub two_points_differ_text : List ℕ
two_points_differ_text = lines_text (chip_up ++
    codes "cmd fdb add 02:00:00:00:00:0b dev c2 vlan 1 static" ∷
    codes "publish" ∷
    codes "rx 1 02000000000b02000000000a88b50102" ∷
    codes "serve" ∷
    codes "turn 1" ∷
    codes "rx 1 02000000000b02000000000a88b50102" ∷
    codes "end" ∷
    [])

abbrev pub two_points_differ_told : List ℕ
two_points_differ_told = lines_text (three_are_up ++
    codes "ok 5 1" ∷
    codes "ok 6 0" ∷
    codes "chip 1 at 10 0 copy" ∷
    codes "tx 1 2 02000000000b02000000000a88b50102" ∷
    codes "soft 1 at 10" ∷
    codes "ok 8 0" ∷
    codes "ok 9 0" ∷
    codes "chip 2 at 10 1 forward" ∷
    codes "tx 2 2 02000000000b02000000000a88b50102" ∷
    codes "end 10 10 0 0" ∷
    [])

-- A station is seen behind a foreign port. Until a turn the chip sends its frames where it was, and then it traps them.
abbrev pub moved_to_a_foreign_port_text : List ℕ
moved_to_a_foreign_port_text = lines_text (chip_up ++
    codes "cmd fdb add 02:00:00:00:00:0b dev c2 vlan 1 extern" ∷
    codes "turn 1" ∷
    codes "publish" ∷
    codes "rx 3 02000000000a02000000000b88b50102" ∷
    codes "serve" ∷
    codes "publish" ∷
    codes "rx 1 02000000000b02000000000a88b50102" ∷
    codes "turn 1" ∷
    codes "rx 1 02000000000b02000000000a88b50102" ∷
    codes "serve" ∷
    codes "end" ∷
    [])

abbrev pub moved_to_a_foreign_port_told : List ℕ
moved_to_a_foreign_port_told = lines_text (three_are_up ++
    codes "ok 5 1" ∷
    codes "ok 6 0" ∷
    codes "ok 7 0" ∷
    codes "soft 1 at 10" ∷
    codes "tx 1 1 02000000000a02000000000b88b50102" ∷
    codes "tx 1 2 02000000000a02000000000b88b50102" ∷
    codes "ok 9 1" ∷
    codes "ok 10 0" ∷
    codes "chip 2 at 11 1 forward" ∷
    codes "tx 2 2 02000000000b02000000000a88b50102" ∷
    codes "ok 12 0" ∷
    codes "chip 3 at 11 2 trap" ∷
    codes "soft 3 at 11" ∷
    codes "tx 3 3 02000000000b02000000000a88b50102" ∷
    codes "ok 14 0" ∷
    codes "end 14 11 0 0" ∷
    [])

-- A station is reported behind a port of the chip. Until a turn the chip traps its frames.
abbrev pub moved_to_a_chip_port_text : List ℕ
moved_to_a_chip_port_text = lines_text (chip_up ++
    codes "cmd fdb add 02:00:00:00:00:0b dev f3 vlan 1 extern" ∷
    codes "turn 1" ∷
    codes "rx 2 02000000000a02000000000b88b50102" ∷
    codes "report 1" ∷
    codes "publish" ∷
    codes "rx 1 02000000000b02000000000a88b50102" ∷
    codes "serve" ∷
    codes "serve" ∷
    codes "end" ∷
    [])

abbrev pub moved_to_a_chip_port_told : List ℕ
moved_to_a_chip_port_told = lines_text (three_are_up ++
    codes "ok 5 1" ∷
    codes "ok 6 0" ∷
    codes "chip 1 at 10 1 copy" ∷
    codes "tx 1 1 02000000000a02000000000b88b50102" ∷
    codes "ok 8 1" ∷
    codes "ok 9 0" ∷
    codes "chip 2 at 11 1 trap" ∷
    codes "soft 1 at 11" ∷
    codes "tx 1 3 02000000000a02000000000b88b50102" ∷
    codes "ok 11 0" ∷
    codes "soft 2 at 11" ∷
    codes "tx 2 2 02000000000b02000000000a88b50102" ∷
    codes "ok 12 0" ∷
    codes "end 12 11 1 0" ∷
    [])

-- A port goes down and comes up, and the chip has not applied yet that its station is gone.
abbrev pub port_down_and_up_text : List ℕ
port_down_and_up_text = lines_text (chip_up ++
    codes "cmd fdb add 02:00:00:00:00:0b dev c2 vlan 1 static" ∷
    codes "turn 1" ∷
    codes "cmd port down c2" ∷
    codes "cmd port up c2" ∷
    codes "rx 1 02000000000b02000000000a88b50102" ∷
    codes "turn 1" ∷
    codes "rx 1 02000000000b02000000000a88b50102" ∷
    codes "end" ∷
    [])

abbrev pub port_down_and_up_told : List ℕ
port_down_and_up_told = lines_text (three_are_up ++
    codes "ok 5 1" ∷
    codes "ok 6 0" ∷
    codes "ok 7 3" ∷
    codes "ok 8 3" ∷
    codes "chip 1 at 16 1 forward" ∷
    codes "tx 1 2 02000000000b02000000000a88b50102" ∷
    codes "ok 10 0" ∷
    codes "chip 2 at 16 2 copy" ∷
    codes "tx 2 2 02000000000b02000000000a88b50102" ∷
    codes "end 11 16 0 1" ∷
    [])

-- The one foreign port is isolated, and so is the port by which the frame enters: software has no share.
abbrev pub isolated_ingress_text : List ℕ
isolated_ingress_text = lines_text (chip_up ++
    codes "cmd link c1 isolated on" ∷
    codes "cmd link f3 isolated on" ∷
    codes "rx 1 02000000000b02000000000a88b50102" ∷
    codes "end" ∷
    [])

abbrev pub isolated_ingress_told : List ℕ
isolated_ingress_told = lines_text (three_are_up ++
    codes "ok 5 1" ∷
    codes "ok 6 1" ∷
    codes "chip 1 at 11 0 forward" ∷
    codes "tx 1 2 02000000000b02000000000a88b50102" ∷
    codes "end 7 11 0 0" ∷
    [])

-- The same links, and a frame by the other port of the chip.
abbrev pub plain_ingress_text : List ℕ
plain_ingress_text = lines_text (chip_up ++
    codes "cmd link c1 isolated on" ∷
    codes "cmd link f3 isolated on" ∷
    codes "rx 2 02000000000b02000000000c88b50102" ∷
    codes "serve" ∷
    codes "end" ∷
    [])

abbrev pub plain_ingress_told : List ℕ
plain_ingress_told = lines_text (three_are_up ++
    codes "ok 5 1" ∷
    codes "ok 6 1" ∷
    codes "chip 1 at 11 0 copy" ∷
    codes "tx 1 1 02000000000b02000000000c88b50102" ∷
    codes "soft 1 at 9" ∷
    codes "tx 1 3 02000000000b02000000000c88b50102" ∷
    codes "ok 8 0" ∷
    codes "end 8 11 0 0" ∷
    [])

-- A foreign port goes down and comes up, and with it the share of software, without a turn.
abbrev pub bits_follow_a_foreign_port_text : List ℕ
bits_follow_a_foreign_port_text = lines_text (chip_up ++
    codes "rx 1 02000000000b02000000000a88b50102" ∷
    codes "cmd port down f3" ∷
    codes "rx 1 02000000000b02000000000a88b50102" ∷
    codes "cmd port up f3" ∷
    codes "rx 1 02000000000b02000000000a88b50102" ∷
    codes "end" ∷
    [])

abbrev pub bits_follow_a_foreign_port_told : List ℕ
bits_follow_a_foreign_port_told = lines_text (three_are_up ++
    codes "chip 1 at 9 0 copy" ∷
    codes "tx 1 2 02000000000b02000000000a88b50102" ∷
    codes "ok 6 2" ∷
    codes "chip 2 at 11 0 forward" ∷
    codes "tx 2 2 02000000000b02000000000a88b50102" ∷
    codes "ok 8 3" ∷
    codes "chip 3 at 14 0 copy" ∷
    codes "tx 3 2 02000000000b02000000000a88b50102" ∷
    codes "end 9 14 0 2" ∷
    [])

-- The turn that puts an entry hits it, which saves it once. What is forgotten is forgotten once, though the chip still has it
-- until a turn.
abbrev pub sweep_text : List ℕ
sweep_text = lines_text (chip_up ++
    codes "cmd fdb add 02:00:00:00:00:0b dev c2 vlan 1 extern" ∷
    codes "turn 1" ∷
    codes "sweep 1" ∷
    codes "sweep 1" ∷
    codes "sweep 1" ∷
    codes "turn 1" ∷
    codes "end" ∷
    [])

abbrev pub sweep_told : List ℕ
sweep_told = lines_text (three_are_up ++
    codes "ok 5 1" ∷
    codes "ok 6 0" ∷
    codes "ok 7 0" ∷
    codes "ok 8 1" ∷
    codes "ok 9 0" ∷
    codes "ok 10 0" ∷
    codes "end 10 11 0 0" ∷
    [])

-- A frame of the station saves it once more.
abbrev pub hit_by_a_frame_text : List ℕ
hit_by_a_frame_text = lines_text (chip_up ++
    codes "cmd fdb add 02:00:00:00:00:0b dev c2 vlan 1 extern" ∷
    codes "turn 1" ∷
    codes "sweep 1" ∷
    codes "rx 2 02000000000a02000000000b88b50102" ∷
    codes "sweep 1" ∷
    codes "sweep 1" ∷
    codes "end" ∷
    [])

abbrev pub hit_by_a_frame_told : List ℕ
hit_by_a_frame_told = lines_text (three_are_up ++
    codes "ok 5 1" ∷
    codes "ok 6 0" ∷
    codes "ok 7 0" ∷
    codes "chip 1 at 10 1 copy" ∷
    codes "tx 1 1 02000000000a02000000000b88b50102" ∷
    codes "ok 9 0" ∷
    codes "ok 10 1" ∷
    codes "end 10 11 1 1" ∷
    [])

-- Commands and steps that are refused count as steps, and change nothing else.
abbrev pub refusals_without_post_text : List ℕ
refusals_without_post_text = lines_text (three_up ++
    codes "cmd port up p1" ∷
    codes "cmd fdb add 02:00:00:00:00:0b dev p2 vlan 7 static" ∷
    codes "cmd fdb add 02:00:00:00:00:0b dev p2 vlan 1 static" ∷
    codes "cmd fdb add 02:00:00:00:00:0b dev p3 vlan 1 static" ∷
    codes "cmd fdb del 02:00:00:00:00:0a vlan 1" ∷
    codes "cmd mdb add 10.0.0.1 dev p1 vlan 1" ∷
    codes "turn 1" ∷
    codes "turn 1" ∷
    codes "serve" ∷
    codes "report 1" ∷
    codes "cmd port down p3" ∷
    codes "cmd link p3 flood off" ∷
    codes "end" ∷
    [])

abbrev pub refusals_without_post_told : List ℕ
refusals_without_post_told = lines_text (three_are_up ++
    codes "refused 5 1" ∷
    codes "refused 6 3" ∷
    codes "ok 7 1" ∷
    codes "refused 8 4" ∷
    codes "refused 9 5" ∷
    codes "refused 10 13" ∷
    codes "ok 11 0" ∷
    codes "refused 12 11" ∷
    codes "refused 13 10" ∷
    codes "refused 14 12" ∷
    codes "ok 15 2" ∷
    codes "refused 16 2" ∷
    codes "end 16 12 0 0" ∷
    [])
