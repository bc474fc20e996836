-- Worked runs of snooping: the text of each scenario and what is told of it, the changes that some come to, and what is done where
-- no group more has room.
-- Source: this profile; they were worked out by hand.
use Rattle.std.specs.Prelude.{ℕ, ◌+◌, zero, suc, true, false, List, [], ◌∷◌, ◌++◌, drop, map, codes}
use Rattle.std.specs.List.{range_with_len}
use Rattle.std.specs.declared.option.Option.{Option}
use Rattle.std.specs.declared.option.Option.TheVariants.{None, Some}
use Rattle.std.specs.declared.result.Result.{Result}
use Rattle.std.specs.declared.result.Result.TheVariants.{Ok, Err}
use Rattle.br_model.specs.declared.change.Change.{Change}
use Rattle.br_model.specs.declared.change.Change.TheVariants as changes
use Rattle.br_model.specs.declared.frame.FrameFault.{FrameFault}
use Rattle.br_model.specs.declared.frame.Head.{Head}
use Rattle.br_model.specs.declared.group.Group.TheVariants.{V4, V6}
use Rattle.br_model.specs.declared.change.Kind.TheVariants.{Learned}
use Rattle.br_model.specs.Control.Control.{first_control, ends_with}
use Rattle.br_model.specs.Control.Course.{Course, from}
use Rattle.br_model.specs.Control.Ends.{no_ends}
use Rattle.br_model.specs.Wire.Frames.{frame}
use Rattle.br_model.specs.Control.Reaction.{at_moment, ends}
use Rattle.br_model.specs.Worked.Readings.{bytes_of}
use Rattle.br_model.specs.Program.Runs.{run_of}
use Rattle.br_model.specs.Text.Scenario.{scenario}
use Rattle.br_model.specs.Control.Snooping.{snoops}
use Rattle.br_model.specs.Table.Table.{start, default_flags}
use Rattle.br_model.specs.Theorems.WholeLines.{lines_text}
use Rattle.br_model.specs.Worked.Chip.{chip_up}
use Rattle.br_model.specs.Worked.Rows.{three_up, three_are_up}

-- frames, as digits

-- a report of 239.1.2.3, of IGMP version 2
abbrev pub report : List ℕ
report = codes "01005e01020302000000000a08004500001c000000000102bedb0a000001ef0102031600f8faef010203"

-- the same by another station
abbrev pub other_report : List ℕ
other_report = codes "01005e01020302000000000b08004500001c000000000102bedb0a000001ef0102031600f8faef010203"

-- the same in VLAN 10
abbrev pub tagged_report : List ℕ
tagged_report = codes "01005e01020302000000000a8100000a08004500001c000000000102bedb0a000001ef0102031600f8faef010203"

-- a report of 224.0.0.5, which is always flooded
abbrev pub near_report : List ℕ
near_report = codes "01005e00000502000000000b08004500001c000000000102bedb0a000001e0000005160009fae0000005"

-- a leave of 239.1.2.3
abbrev pub leave : List ℕ
leave = codes "01005e00000202000000000a08004500001c000000000102cfdd0a000001e00000021700f7faef010203"

-- a general query of IGMP
abbrev pub query : List ℕ
query = codes "01005e00000102000000000e08004500001c000000000102cfd60a000009e00000011164ee9b00000000"

-- the same from 0.0.0.0
abbrev pub query_from_zero : List ℕ
query_from_zero = codes "01005e00000102000000000e08004500001c000000000102cfd600000000e00000011164ee9b00000000"

-- a query to 239.1.2.3 alone
abbrev pub query_of_a_group : List ℕ
query_of_a_group = codes "01005e01020302000000000e08004500001c000000000102cfd60a000009ef0102031164fd96ef010203"

-- a report of ff05::1234, of MLD version 1
abbrev pub mld_report : List ℕ
mld_report = codes "33330000123402000000000a86dd6000000000200001fe80000000000000000000000000000aff0500000000000000000000000012343a0005020000010083005bae00000000ff050000000000000000000000001234"

-- a general query of MLD
abbrev pub mld_query : List ℕ
mld_query = codes "33330000000102000000000d86dd6000000000200001fe80000000000000000000000000000eff0200000000000000000000000000013a000502000001008200590a2710000000000000000000000000000000000000"

-- records that join 239.1.2.3 and then leave 239.0.0.0, and the same the other way round
abbrev pub late_records : List ℕ
late_records = codes "01005e00001602000000000a08004500002c00000000010200000a000001e00000162200f6f70000000204000000ef01020303000000ef000000"

abbrev pub swapping_records : List ℕ
swapping_records = codes "01005e00001602000000000a08004500002c00000000010200000a000001e00000162200f6f70000000203000000ef00000004000000ef010203"

-- runs

-- A report, a query, a datagram, another report, and a leave that is fast; a datagram to a group that is always flooded.
abbrev pub snooping_text : List ℕ
snooping_text = lines_text (three_up ++
    (codes "rx 1 " ++ report) ∷
    codes "serve" ∷
    (codes "rx 3 " ++ query) ∷
    codes "serve" ∷
    codes "publish" ∷
    codes "rx 2 01005e01020302000000000c080045000014000000000111bed30a000002ef010203" ∷
    codes "serve" ∷
    (codes "rx 1 " ++ report) ∷
    codes "serve" ∷
    codes "cmd link p1 fastleave on" ∷
    (codes "rx 1 " ++ leave) ∷
    codes "serve" ∷
    codes "rx 2 01005e00000502000000000c080045000014000000000111cfd20a000002e0000005" ∷
    codes "serve" ∷
    codes "end" ∷
    [])

abbrev pub snooping_told : List ℕ
snooping_told = lines_text (three_are_up ++
    codes "soft 1 at 9" ∷
    (codes "tx 1 0 " ++ report) ∷
    (codes "tx 1 2 " ++ report) ∷
    (codes "tx 1 3 " ++ report) ∷
    codes "ok 6 2" ∷
    codes "soft 2 at 9" ∷
    (codes "tx 2 0 " ++ query) ∷
    (codes "tx 2 1 " ++ query) ∷
    (codes "tx 2 2 " ++ query) ∷
    codes "ok 8 3" ∷
    codes "ok 9 0" ∷
    codes "soft 3 at 14" ∷
    codes "tx 3 1 01005e01020302000000000c080045000014000000000111bed30a000002ef010203" ∷
    codes "tx 3 3 01005e01020302000000000c080045000014000000000111bed30a000002ef010203" ∷
    codes "ok 11 1" ∷
    codes "soft 4 at 14" ∷
    (codes "tx 4 3 " ++ report) ∷
    codes "ok 13 0" ∷
    codes "ok 14 1" ∷
    codes "soft 5 at 14" ∷
    (codes "tx 5 3 " ++ leave) ∷
    codes "ok 16 1" ∷
    codes "soft 6 at 14" ∷
    codes "tx 6 0 01005e00000502000000000c080045000014000000000111cfd20a000002e0000005" ∷
    codes "tx 6 1 01005e00000502000000000c080045000014000000000111cfd20a000002e0000005" ∷
    codes "tx 6 3 01005e00000502000000000c080045000014000000000111cfd20a000002e0000005" ∷
    codes "ok 18 0" ∷
    codes "end 18 17 3 0" ∷
    [])

-- A report of MLD, and its end.
abbrev pub mld_report_text : List ℕ
mld_report_text = lines_text (three_up ++
    (codes "rx 1 " ++ mld_report) ∷
    codes "serve" ∷
    codes "now 259999" ∷
    codes "now 260000" ∷
    codes "end" ∷
    [])

abbrev pub mld_report_told : List ℕ
mld_report_told = lines_text (three_are_up ++
    codes "soft 1 at 9" ∷
    (codes "tx 1 0 " ++ mld_report) ∷
    (codes "tx 1 2 " ++ mld_report) ∷
    (codes "tx 1 3 " ++ mld_report) ∷
    codes "ok 6 2" ∷
    codes "ok 7 0" ∷
    codes "ok 8 1" ∷
    codes "end 8 12 1 0" ∷
    [])

-- A record that joins is cut short: its message is flooded, and nobody joins.
abbrev pub truncated_record_text : List ℕ
truncated_record_text = lines_text (chip_up ++
    codes "rx 1 01005e00001602000000000a080045000020000000000102cfc50a000001e00000162200d9fe0000000104000000" ∷
    codes "serve" ∷
    codes "end" ∷
    [])

abbrev pub truncated_record_told : List ℕ
truncated_record_told = lines_text (three_are_up ++
    codes "chip 1 at 9 0 trap" ∷
    codes "soft 1 at 9" ∷
    codes "tx 1 0 01005e00001602000000000a080045000020000000000102cfc50a000001e00000162200d9fe0000000104000000" ∷
    codes "tx 1 2 01005e00001602000000000a080045000020000000000102cfc50a000001e00000162200d9fe0000000104000000" ∷
    codes "tx 1 3 01005e00001602000000000a080045000020000000000102cfc50a000001e00000162200d9fe0000000104000000" ∷
    codes "ok 6 0" ∷
    codes "end 6 9 0 0" ∷
    [])

-- A report at a port of the chip is trapped; it makes a member when software posts it, and teaches nothing then.
abbrev pub report_at_a_chip_port_text : List ℕ
report_at_a_chip_port_text = lines_text (chip_up ++
    (codes "rx 1 " ++ report) ∷
    codes "serve" ∷
    codes "end" ∷
    [])

abbrev pub report_at_a_chip_port_told : List ℕ
report_at_a_chip_port_told = lines_text (three_are_up ++
    codes "chip 1 at 9 0 trap" ∷
    codes "soft 1 at 9" ∷
    (codes "tx 1 0 " ++ report) ∷
    (codes "tx 1 2 " ++ report) ∷
    (codes "tx 1 3 " ++ report) ∷
    codes "ok 6 1" ∷
    codes "end 6 10 0 0" ∷
    [])

-- Three ports come up, and nothing is published: software sends no frame on, and a transcript has just the answers.
abbrev pub three_unpublished : List (List ℕ)
three_unpublished =
    codes "scenario 1" ∷
    codes "port 1 p1 soft" ∷
    codes "port 2 p2 soft" ∷
    codes "port 3 p3 soft" ∷
    codes "cmd port up p1" ∷
    codes "cmd port up p2" ∷
    codes "cmd port up p3" ∷
    []

abbrev pub three_answers : List (List ℕ)
three_answers =
    codes "transcript 1" ∷
    codes "ok 1 3" ∷
    codes "ok 2 3" ∷
    codes "ok 3 3" ∷
    []

-- A leave ends a membership 2 seconds later, a second one no later than the first; a report after a leave lasts as long as any.
-- While snooping is off nothing is renewed or left, and what was learned ends at its moment. A query that comes again holds from
-- then on.
abbrev pub ends_of_members_text : List ℕ
ends_of_members_text = lines_text (three_unpublished ++
    (codes "rx 1 " ++ report) ∷
    codes "serve" ∷
    (codes "rx 2 " ++ other_report) ∷
    codes "serve" ∷
    (codes "rx 3 " ++ query) ∷
    codes "serve" ∷
    codes "now 1000" ∷
    (codes "rx 1 " ++ leave) ∷
    codes "serve" ∷
    codes "now 2500" ∷
    (codes "rx 1 " ++ leave) ∷
    codes "serve" ∷
    codes "now 2999" ∷
    codes "now 3000" ∷
    (codes "rx 1 " ++ report) ∷
    codes "serve" ∷
    (codes "rx 1 " ++ leave) ∷
    codes "serve" ∷
    (codes "rx 1 " ++ report) ∷
    codes "serve" ∷
    codes "now 5000" ∷
    codes "cmd snooping off" ∷
    (codes "rx 1 " ++ leave) ∷
    codes "serve" ∷
    (codes "rx 3 " ++ query) ∷
    codes "serve" ∷
    codes "now 254999" ∷
    codes "now 255000" ∷
    codes "cmd snooping on" ∷
    codes "now 260000" ∷
    (codes "rx 3 " ++ query) ∷
    codes "serve" ∷
    codes "now 262999" ∷
    codes "now 263000" ∷
    (codes "rx 2 " ++ other_report) ∷
    codes "serve" ∷
    codes "now 270000" ∷
    (codes "rx 3 " ++ query) ∷
    codes "serve" ∷
    codes "now 515000" ∷
    codes "now 522999" ∷
    codes "now 523000" ∷
    codes "now 525000" ∷
    codes "end" ∷
    [])

abbrev pub ends_of_members_told : List ℕ
ends_of_members_told = lines_text (three_answers ++
    codes "soft 1 at 0" ∷
    codes "ok 5 2" ∷
    codes "soft 2 at 0" ∷
    codes "ok 7 2" ∷
    codes "soft 3 at 0" ∷
    codes "ok 9 3" ∷
    codes "ok 10 0" ∷
    codes "soft 4 at 0" ∷
    codes "ok 12 0" ∷
    codes "ok 13 0" ∷
    codes "soft 5 at 0" ∷
    codes "ok 15 0" ∷
    codes "ok 16 0" ∷
    codes "ok 17 1" ∷
    codes "soft 6 at 0" ∷
    codes "ok 19 1" ∷
    codes "soft 7 at 0" ∷
    codes "ok 21 0" ∷
    codes "soft 8 at 0" ∷
    codes "ok 23 0" ∷
    codes "ok 24 0" ∷
    codes "ok 25 1" ∷
    codes "soft 9 at 0" ∷
    codes "ok 27 0" ∷
    codes "soft 10 at 0" ∷
    codes "ok 29 0" ∷
    codes "ok 30 0" ∷
    codes "ok 31 2" ∷
    codes "ok 32 1" ∷
    codes "ok 33 1" ∷
    codes "soft 11 at 0" ∷
    codes "ok 35 2" ∷
    codes "ok 36 0" ∷
    codes "ok 37 1" ∷
    codes "soft 12 at 0" ∷
    codes "ok 39 1" ∷
    codes "ok 40 0" ∷
    codes "soft 13 at 0" ∷
    codes "ok 42 0" ∷
    codes "ok 43 1" ∷
    codes "ok 44 0" ∷
    codes "ok 45 1" ∷
    codes "ok 46 2" ∷
    codes "end 46 31 4 0" ∷
    [])

-- All that ends at one moment, behind the addresses that expire then. Two queries and a report to a near group change nothing.
abbrev pub all_ends_text : List ℕ
all_ends_text = lines_text (three_unpublished ++
    codes "cmd vlan add vid 10 dev p1" ∷
    (codes "rx 2 " ++ other_report) ∷
    codes "serve" ∷
    (codes "rx 1 " ++ tagged_report) ∷
    codes "serve" ∷
    (codes "rx 1 " ++ mld_report) ∷
    codes "serve" ∷
    (codes "rx 1 " ++ report) ∷
    codes "serve" ∷
    (codes "rx 3 " ++ query_from_zero) ∷
    codes "serve" ∷
    (codes "rx 3 " ++ query_of_a_group) ∷
    codes "serve" ∷
    (codes "rx 2 " ++ near_report) ∷
    codes "serve" ∷
    (codes "rx 3 " ++ query) ∷
    codes "serve" ∷
    (codes "rx 1 " ++ mld_query) ∷
    codes "serve" ∷
    codes "cmd ageing 260" ∷
    codes "now 260000" ∷
    codes "end" ∷
    [])

abbrev pub all_ends_told : List ℕ
all_ends_told = lines_text (three_answers ++
    codes "ok 4 1" ∷
    codes "soft 1 at 0" ∷
    codes "ok 6 2" ∷
    codes "soft 2 at 0" ∷
    codes "ok 8 2" ∷
    codes "soft 3 at 0" ∷
    codes "ok 10 2" ∷
    codes "soft 4 at 0" ∷
    codes "ok 12 1" ∷
    codes "soft 5 at 0" ∷
    codes "ok 14 1" ∷
    codes "soft 6 at 0" ∷
    codes "ok 16 0" ∷
    codes "soft 7 at 0" ∷
    codes "ok 18 0" ∷
    codes "soft 8 at 0" ∷
    codes "ok 20 2" ∷
    codes "soft 9 at 0" ∷
    codes "ok 22 3" ∷
    codes "ok 23 0" ∷
    codes "ok 24 13" ∷
    codes "end 24 36 10 0" ∷
    [])

-- the changes that a scenario comes to, behind those of three ports that come up
abbrev pub learned_of : List ℕ → List Change
learned_of bytes = drop 9 (run_of (scenario bytes)).0.history

abbrev pub all_ends_learned : List Change
all_ends_learned =
    changes.VlanAdd 1 10 false false ∷
    changes.AddrPut 1 0x02000000000B 2 Learned ∷
    changes.GroupJoin 2 1 (V4 0xEF010203) ∷
    changes.AddrPut 10 0x02000000000A 1 Learned ∷
    changes.GroupJoin 1 10 (V4 0xEF010203) ∷
    changes.AddrPut 1 0x02000000000A 1 Learned ∷
    changes.GroupJoin 1 1 (V6 0xFF050000000000000000000000001234) ∷
    changes.GroupJoin 1 1 (V4 0xEF010203) ∷
    changes.AddrPut 1 0x02000000000E 3 Learned ∷
    changes.Querier false true ∷
    changes.Router 3 true ∷
    changes.AddrPut 1 0x02000000000D 1 Learned ∷
    changes.Querier true true ∷
    changes.Router 1 true ∷
    changes.AddrDel 1 0x02000000000A ∷
    changes.AddrDel 1 0x02000000000B ∷
    changes.AddrDel 1 0x02000000000D ∷
    changes.AddrDel 1 0x02000000000E ∷
    changes.AddrDel 10 0x02000000000A ∷
    changes.GroupPart 1 1 (V4 0xEF010203) ∷
    changes.GroupPart 2 1 (V4 0xEF010203) ∷
    changes.GroupPart 1 1 (V6 0xFF050000000000000000000000001234) ∷
    changes.GroupPart 1 10 (V4 0xEF010203) ∷
    changes.Router 1 false ∷
    changes.Router 3 false ∷
    changes.Querier false false ∷
    changes.Querier true false ∷
    []

-- A membership by command neither leaves nor ends. A command takes a membership that a report made, and its end with it; `vlan del`
-- takes those in the VLAN, and `port down` the router port.
abbrev pub members_by_command_text : List ℕ
members_by_command_text = lines_text (three_unpublished ++
    codes "cmd mdb add 239.1.2.3 dev p1 vlan 1" ∷
    (codes "rx 1 " ++ leave) ∷
    codes "serve" ∷
    (codes "rx 1 " ++ report) ∷
    codes "serve" ∷
    codes "now 260000" ∷
    codes "cmd mdb del 239.1.2.3 dev p1 vlan 1" ∷
    (codes "rx 1 " ++ report) ∷
    codes "serve" ∷
    codes "cmd mdb add 239.1.2.3 dev p1 vlan 1" ∷
    codes "cmd mdb del 239.1.2.3 dev p1 vlan 1" ∷
    codes "now 520000" ∷
    (codes "rx 1 " ++ report) ∷
    codes "serve" ∷
    (codes "rx 1 " ++ mld_report) ∷
    codes "serve" ∷
    (codes "rx 1 " ++ query) ∷
    codes "serve" ∷
    codes "cmd vlan del vid 1 dev p1" ∷
    codes "cmd port down p1" ∷
    codes "now 780000" ∷
    codes "end" ∷
    [])

abbrev pub members_by_command_told : List ℕ
members_by_command_told = lines_text (three_answers ++
    codes "ok 4 1" ∷
    codes "soft 1 at 0" ∷
    codes "ok 6 1" ∷
    codes "soft 2 at 0" ∷
    codes "ok 8 0" ∷
    codes "ok 9 0" ∷
    codes "ok 10 1" ∷
    codes "soft 3 at 0" ∷
    codes "ok 12 1" ∷
    codes "refused 13 4" ∷
    codes "ok 14 1" ∷
    codes "ok 15 0" ∷
    codes "soft 4 at 0" ∷
    codes "ok 17 1" ∷
    codes "soft 5 at 0" ∷
    codes "ok 19 1" ∷
    codes "soft 6 at 0" ∷
    codes "ok 21 3" ∷
    codes "ok 22 5" ∷
    codes "ok 23 2" ∷
    codes "ok 24 1" ∷
    codes "end 24 27 4 0" ∷
    [])

-- A membership ends at the moment at which the ports, designated for 15 seconds, become learning. A report at a port that listens
-- or learns makes no member.
abbrev pub states_behind_text : List ℕ
states_behind_text = lines_text (three_unpublished ++
    (codes "rx 1 " ++ report) ∷
    codes "serve" ∷
    codes "now 245000" ∷
    codes "cmd stp on" ∷
    (codes "rx 2 " ++ other_report) ∷
    codes "serve" ∷
    codes "now 260000" ∷
    (codes "rx 2 " ++ other_report) ∷
    codes "serve" ∷
    codes "end" ∷
    [])

abbrev pub states_behind_learned : List Change
states_behind_learned =
    changes.AddrPut 1 0x02000000000A 1 Learned ∷
    changes.GroupJoin 1 1 (V4 0xEF010203) ∷
    changes.Stp true ∷
    changes.SetState 1 1 ∷
    changes.SetState 2 1 ∷
    changes.SetState 3 1 ∷
    changes.GroupPart 1 1 (V4 0xEF010203) ∷
    changes.SetState 1 2 ∷
    changes.SetState 2 2 ∷
    changes.SetState 3 2 ∷
    changes.AddrPut 1 0x02000000000B 2 Learned ∷
    []

-- room

-- 1,024 groups 239.0.0.0 and upwards at port 1 in VLAN 1, the first by a report and the others by command; the port has fastleave
abbrev pub end_from_first : ℕ → Option ℕ
end_from_first zero = Some 260000
end_from_first (suc n) = None

abbrev pub full : Course
full = from
    (record start {
      up = 1 ∷ 2 ∷ [];
      flags = (1, 47) ∷ (2, default_flags) ∷ [];
      state = (1, 3) ∷ (2, 3) ∷ [];
      vlans = ((1, 1), true) ∷ ((1, 2), true) ∷ [];
      pvid = (1, 1) ∷ (2, 1) ∷ [];
      groups = map (λ n. (1, V4 (0xEF000000 + n), 1)) (range_with_len 0 1024);
    })
    (ends_with (first_control 0x020000000001) (record no_ends { groups = map (λ n. ((1, V4 (0xEF000000 + n), 1), end_from_first n)) (range_with_len 0 1024) }))

-- what snooping does with a frame
abbrev pub snooped : ℕ → List ℕ → Result Head FrameFault → Course → Course
snooped port bytes (Err why) r = r
snooped port bytes (Ok head) r = snoops port bytes head r

-- with the one that the digits spell
unfoldable pub snooped_of : ℕ → List ℕ → Course → Course
snooped_of port text r = snooped port (bytes_of text) (frame (bytes_of text)) r

-- what ends at the moment, behind what was done so far
abbrev pub with_ends : ℕ → Course → List Change
with_ends now r = (ends (at_moment now r)).changes

-- A group more is left out, and nothing of it ends.
abbrev pub left_out : List Change
left_out = changes.GroupPart 1 1 (V4 0xEF000000) ∷ []

-- The room that a record makes is there for the next one, not for the one before it.
abbrev pub late : List Change
late = changes.GroupPart 1 1 (V4 0xEF000000) ∷ []

abbrev pub swapped : List Change
swapped =
    changes.GroupPart 1 1 (V4 0xEF000000) ∷
    changes.GroupJoin 1 1 (V4 0xEF010203) ∷
    changes.GroupPart 1 1 (V4 0xEF010203) ∷
    []
