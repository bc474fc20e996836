-- Worked runs: the text of each scenario, and the notices that its drivers get.
-- Source: this profile; the notices were worked out by hand.
use Rattle.std.specs.Prelude.{ℕ, List, [], ◌∷◌, codes}
use Rattle.br_model.specs.Theorems.WholeLines.{lines_text}

-- A port of a chip joins, gets a VLAN, learns a station and loses it. The host stays outside the VLAN.
abbrev pub station_text : List ℕ
station_text = lines_text (
    codes "scenario 1" ∷
    codes "port 1 p1 chip 1" ∷
    codes "port 2 p2 soft" ∷
    codes "cmd port up p1" ∷
    codes "cmd vlan add vid 10 dev p1 pvid untagged" ∷
    codes "rx 1 ffffffffffff02000000000a88b50102" ∷
    codes "report 1" ∷
    codes "turn 1" ∷
    codes "cmd vlan del vid 10 dev p1" ∷
    codes "turn 1" ∷
    codes "cmd port down p2" ∷
    codes "end" ∷
    [])

abbrev pub station_notices : List ℕ
station_notices = lines_text (
    codes "notices 1" ∷
    codes "told 1 netdev_up dev p1" ∷
    codes "told 1 port_obj_add port_vlan vid 1 dev p1 pvid untagged" ∷
    codes "told 1 port_attr_set port_stp_state dev p1 forwarding" ∷
    codes "told 2 port_obj_add port_vlan vid 10 dev p1 pvid untagged" ∷
    codes "queued 4 1 fdb_add_to_device 02:00:00:00:00:0a dev p1 vlan 10 extern" ∷
    codes "applied 5 1 1 fdb_add_to_device 02:00:00:00:00:0a dev p1 vlan 10 extern" ∷
    codes "queued 6 2 fdb_del_to_device 02:00:00:00:00:0a vlan 10" ∷
    codes "told 6 port_obj_del port_vlan vid 10 dev p1" ∷
    codes "applied 7 1 2 fdb_del_to_device 02:00:00:00:00:0a vlan 10" ∷
    codes "end 8 5 2 0" ∷
    [])

-- Two chips in edition 2. Members of groups are queued beside addresses, each chip takes its own turns, and the rest is told at once.
abbrev pub two_queues_text : List ℕ
two_queues_text = lines_text (
    codes "scenario 2" ∷
    codes "port 1 a1 chip 1" ∷
    codes "port 2 b1 chip 2" ∷
    codes "cmd port up a1" ∷
    codes "cmd port up b1" ∷
    codes "cmd mdb add 239.1.2.3 dev b1 vlan 1" ∷
    codes "cmd mdb add ff05:0000:0000:0000:0000:0000:0000:1234 dev host vlan 1" ∷
    codes "cmd fdb add 02:00:00:00:00:0e dev host vlan 1 local" ∷
    codes "turn 2" ∷
    codes "turn 1" ∷
    codes "turn 2" ∷
    codes "cmd snooping off" ∷
    codes "cmd stp on" ∷
    codes "cmd link a1 flood off" ∷
    codes "cmd link a1 isolated on" ∷
    codes "cmd mdb del 239.1.2.3 dev b1 vlan 1" ∷
    codes "end" ∷
    [])

abbrev pub two_queues_notices : List ℕ
two_queues_notices = lines_text (
    codes "notices 1" ∷
    codes "told 1 netdev_up dev a1" ∷
    codes "told 1 port_obj_add port_vlan vid 1 dev a1 pvid untagged" ∷
    codes "told 1 port_attr_set port_stp_state dev a1 forwarding" ∷
    codes "told 2 netdev_up dev b1" ∷
    codes "told 2 port_obj_add port_vlan vid 1 dev b1 pvid untagged" ∷
    codes "told 2 port_attr_set port_stp_state dev b1 forwarding" ∷
    codes "queued 3 1 port_obj_add port_mdb 239.1.2.3 dev b1 vlan 1" ∷
    codes "queued 4 2 port_obj_add host_mdb ff05:0000:0000:0000:0000:0000:0000:1234 dev host vlan 1" ∷
    codes "queued 5 3 fdb_add_to_device 02:00:00:00:00:0e dev host vlan 1 local" ∷
    codes "applied 6 2 1 port_obj_add port_mdb 239.1.2.3 dev b1 vlan 1" ∷
    codes "applied 7 1 1 port_obj_add port_mdb 239.1.2.3 dev b1 vlan 1" ∷
    codes "applied 8 2 2 port_obj_add host_mdb ff05:0000:0000:0000:0000:0000:0000:1234 dev host vlan 1" ∷
    codes "told 9 port_attr_set bridge_mc_disabled on" ∷
    codes "told 10 stp on" ∷
    codes "told 10 port_attr_set port_stp_state dev a1 listening" ∷
    codes "told 10 port_attr_set port_stp_state dev b1 listening" ∷
    codes "told 11 port_attr_set port_bridge_flags dev a1 learning mcast_flood bcast_flood" ∷
    codes "told 12 port_attr_set port_bridge_flags dev a1 learning mcast_flood bcast_flood isolated" ∷
    codes "queued 13 4 port_obj_del port_mdb 239.1.2.3 dev b1 vlan 1" ∷
    codes "end 13 12 4 5" ∷
    [])

-- A bad line ends the notices, too.
abbrev pub bad_text : List ℕ
bad_text = lines_text (
    codes "scenario 1" ∷
    codes "port 1 p1 soft" ∷
    codes "cmd vlan add vid 7 dev host" ∷
    codes "turn 2" ∷
    codes "end" ∷
    [])

abbrev pub bad_notices : List ℕ
bad_notices = lines_text (
    codes "notices 1" ∷
    codes "told 1 port_obj_add port_vlan vid 7 dev host" ∷
    codes "bad 4 port" ∷
    [])
