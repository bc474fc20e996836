-- Worked worlds, tables and runs that meet the cases of the laws on refused steps, classes, states, limits and moments.
-- Source: this profile; worked out by hand.
use Rattle.std.specs.Prelude.{ℕ, true, false, List, [], ◌∷◌, map}
use Rattle.std.specs.List.{range_with_len}
use Rattle.std.specs.declared.option.Option.TheVariants.{None}
use Rattle.br_model.specs.declared.change.Change.{Change}
use Rattle.br_model.specs.declared.change.Change.TheVariants.{AddrPut}
use Rattle.br_model.specs.declared.change.Kind.{Kind}
use Rattle.br_model.specs.declared.change.Kind.TheVariants.{Local, Static, Learned, Extern}
use Rattle.br_model.specs.declared.domains.Edition.TheVariants.{One}
use Rattle.br_model.specs.declared.frame.Class.{Class}
use Rattle.br_model.specs.declared.frame.Class.TheVariants.{Drop, Trap, Copy, Forward}
use Rattle.br_model.specs.declared.frame.Head.{Head}
use Rattle.br_model.specs.declared.frame.McastMsg.{McastMsg}
use Rattle.br_model.specs.declared.frame.McastMsg.TheVariants.{Plain, Query, Unrecognized}
use Rattle.br_model.specs.declared.group.Ip.TheVariants.{V4}
use Rattle.br_model.specs.declared.steps.Command.TheVariants.{PortUp, PortDown, VlanAdd, FdbAdd, FdbDel, MdbAdd, Stp}
use Rattle.br_model.specs.declared.steps.Refusal.{Refusal}
use Rattle.br_model.specs.declared.steps.Refusal.TheVariants.{PortNotUp, NotMember, Exists, Absent, NothingWaiting, NothingPending, NothingReported, NotAGroup, NothingToPost}
use Rattle.br_model.specs.declared.steps.Step.{Step}
use Rattle.br_model.specs.declared.steps.Step.TheVariants.{Rx, Cmd, Now, Serve, Hold, Post, Turn, Report}
use Rattle.br_model.specs.Control.Control.{first_control}
use Rattle.br_model.specs.Control.Course.{Course, from}
use Rattle.br_model.specs.Plane.Runs.{run}
use Rattle.br_model.specs.Plane.World.{World, first_world}
use Rattle.br_model.specs.Table.Limits.{most_addresses}
use Rattle.br_model.specs.Table.Setup.{Setup, first_own}
use Rattle.br_model.specs.Table.Table.{Table, start, table, with_addresses}
use Rattle.br_model.specs.Worked.Hold.{a_to_b, station_b}

-- two ports of a chip beside one of software
abbrev pub chip_ports : Setup
chip_ports = record { domains = record { edition = One; ports = (0, 0) ∷ (1, 1) ∷ (2, 1) ∷ (3, 0) ∷ [] }; own = first_own }

abbrev pub at_first : World
at_first = first_world chip_ports

-- steps that are refused at first, and why
abbrev pub refused_at_first : List (Step × Refusal)
refused_at_first =
    (Cmd (PortDown 1), PortNotUp) ∷
    (Cmd (FdbAdd 7 station_b 0 Local), NotMember) ∷
    (Cmd (VlanAdd 0 1 true true), Exists) ∷
    (Cmd (FdbDel 1 station_b), Absent) ∷
    (Cmd (MdbAdd 0 1 (V4 0x0A000001)), NotAGroup) ∷
    (Serve, NothingWaiting) ∷
    (Hold, NothingWaiting) ∷
    (Post 1 None, NothingToPost) ∷
    (Turn 1, NothingPending) ∷
    (Report 1, NothingReported) ∷
    []

abbrev pub station_a : ℕ
station_a = 0x02000000000A

abbrev pub station_c : ℕ
station_c = 0x02000000000C

abbrev pub station_d : ℕ
station_d = 0x02000000000D

-- Station b is behind the chip's other port, c behind that of software, and d behind the port by which the frames come.
abbrev pub stations_known : List Step
stations_known =
    Cmd (PortUp 1) ∷
    Cmd (PortUp 2) ∷
    Cmd (PortUp 3) ∷
    Cmd (FdbAdd 1 station_b 2 Static) ∷
    Cmd (FdbAdd 1 station_c 3 Static) ∷
    Cmd (FdbAdd 1 station_d 1 Static) ∷
    []

unfoldable pub known_table : Table
known_table = table (run chip_ports stations_known).0.history

-- an untagged frame from station a
abbrev pub head_to : ℕ → Head
head_to dst = record { dst = dst; src = station_a; tag = None; kind = 0x88B5; body = 14 }

-- Destinations and messages, and the class of such a frame by port 1: to the three stations, to one that is not known and to all;
-- to the reserved addresses 00, 01 and 03; to all hosts, as no message, as a query and as a broken one.
abbrev pub classes_known : List (ℕ × McastMsg × Class)
classes_known =
    (station_b, Plain, Forward) ∷
    (station_c, Plain, Trap) ∷
    (station_d, Plain, Drop) ∷
    (0x02000000000E, Plain, Copy) ∷
    (0xFFFFFFFFFFFF, Plain, Copy) ∷
    (0x0180C2000000, Plain, Copy) ∷
    (0x0180C2000001, Plain, Drop) ∷
    (0x0180C2000003, Plain, Trap) ∷
    (0x01005E000001, Plain, Copy) ∷
    (0x01005E000001, Query false true, Trap) ∷
    (0x01005E000001, Unrecognized, Trap) ∷
    []

-- With the spanning tree on, port 1 learns by 15 s, when port 2 comes up and listens.
abbrev pub tree_steps : List Step
tree_steps = Cmd (Stp true) ∷ Cmd (PortUp 1) ∷ Now 15000 ∷ Cmd (PortUp 2) ∷ []

-- a static entry in VLAN 1, behind port 1
abbrev pub entry_of : ℕ → (ℕ × ℕ) × (ℕ × Kind)
entry_of address = ((1, address), (1, Static))

-- as many entries as may be
unfoldable pub full_of_addresses : Course
full_of_addresses = from (with_addresses start (map entry_of (range_with_len 1 most_addresses))) (first_control first_own)

-- an address in another VLAN
abbrev pub one_address_more : Change
one_address_more = AddrPut 2 station_a 2 Learned

-- A static, an extern and a learned entry, each at another moment, and one that went.
abbrev pub moment_steps : List Step
moment_steps =
    Cmd (PortUp 1) ∷
    Cmd (PortUp 2) ∷
    Now 1000 ∷
    Cmd (FdbAdd 1 station_b 2 Static) ∷
    Now 2000 ∷
    Cmd (FdbAdd 1 station_c 2 Extern) ∷
    Cmd (FdbAdd 1 station_d 2 Extern) ∷
    Now 3000 ∷
    Rx 1 a_to_b ∷
    Serve ∷
    Cmd (FdbDel 1 station_d) ∷
    []
