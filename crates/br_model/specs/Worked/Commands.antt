-- Worked answers of `show`, `gen` and `demo`.
-- Source: this profile; all were worked out by hand.
use Rattle.std.specs.Prelude.{ℕ, List, [], ◌∷◌, ◌++◌, codes}
use Rattle.std.specs.List.{flat_map}
use Rattle.br_model.specs.declared.domains.Edition.TheVariants.{One}
use Rattle.br_model.specs.declared.frame.Class.TheVariants.{Copy}
use Rattle.br_model.specs.declared.frame.FrameFault.TheVariants.{Short}
use Rattle.br_model.specs.declared.steps.Refusal.TheVariants.{NothingWaiting}
use Rattle.br_model.specs.declared.transcript.Line.{Line}
use Rattle.br_model.specs.declared.transcript.Line.TheVariants.{Chip, Unread, Soft, Held, Tx, Ctl, Overrun, Done, Refused, End}
use Rattle.br_model.specs.Program.Generator.{ports, frame_steps}
use Rattle.br_model.specs.Plane.World.{World, first_world}
use Rattle.br_model.specs.Text.ScenarioText.{step_text}
use Rattle.br_model.specs.Table.Setup.{first_own}
use Rattle.br_model.specs.Theorems.WholeLines.{lines_text}

-- the tables of the run in which a frame goes to a known station
abbrev pub first_frame_fdb : List ℕ
first_frame_fdb = lines_text (
    codes "02:00:00:00:00:0a dev p1 vlan 1 static" ∷
    codes "02:00:00:00:00:0b dev p2 vlan 1 static" ∷
    codes "end" ∷
    [])

abbrev pub first_frame_vlan : List ℕ
first_frame_vlan = lines_text (
    codes "host 1 untagged" ∷
    codes "p1 1 pvid untagged" ∷
    codes "p2 1 pvid untagged" ∷
    codes "end" ∷
    [])

abbrev pub no_rows : List ℕ
no_rows = lines_text (codes "end" ∷ [])

-- entries of all orders, of which none is published
abbrev pub orders_text : List ℕ
orders_text = lines_text (
    codes "scenario 1" ∷
    codes "port 9 b soft" ∷
    codes "port 2 a soft" ∷
    codes "cmd port up b" ∷
    codes "cmd port up a" ∷
    codes "cmd vlan add vid 2 dev b" ∷
    codes "cmd vlan add vid 2 dev host pvid" ∷
    codes "cmd vlan add vid 5 dev a pvid" ∷
    codes "cmd fdb add 02:00:00:00:00:0b dev b vlan 2 extern" ∷
    codes "cmd fdb add 02:00:00:00:00:0d dev a vlan 1 static" ∷
    codes "cmd fdb add 02:00:00:00:00:0c dev host vlan 1 local" ∷
    codes "cmd mdb add ff0e:0000:0000:0000:0000:0000:0000:0001 dev b vlan 1" ∷
    codes "cmd mdb add 239.1.2.3 dev b vlan 1" ∷
    codes "cmd mdb add 239.1.2.3 dev a vlan 1" ∷
    codes "cmd mdb add 239.1.2.3 dev b vlan 2" ∷
    codes "cmd mdb add 239.1.2.3 dev host vlan 2" ∷
    codes "end" ∷
    [])

abbrev pub orders_fdb : List ℕ
orders_fdb = lines_text (
    codes "02:00:00:00:00:0c dev host vlan 1 local" ∷
    codes "02:00:00:00:00:0d dev a vlan 1 static" ∷
    codes "02:00:00:00:00:0b dev b vlan 2 extern" ∷
    codes "end" ∷
    [])

abbrev pub orders_vlan : List ℕ
orders_vlan = lines_text (
    codes "host 1 untagged" ∷
    codes "host 2 pvid" ∷
    codes "a 1 untagged" ∷
    codes "a 5 pvid" ∷
    codes "b 1 pvid untagged" ∷
    codes "b 2" ∷
    codes "end" ∷
    [])

abbrev pub orders_mdb : List ℕ
orders_mdb = lines_text (
    codes "dev a grp 239.1.2.3 vlan 1" ∷
    codes "dev b grp 239.1.2.3 vlan 1" ∷
    codes "dev b grp ff0e:0000:0000:0000:0000:0000:0000:0001 vlan 1" ∷
    codes "dev host grp 239.1.2.3 vlan 2" ∷
    codes "dev b grp 239.1.2.3 vlan 2" ∷
    codes "end" ∷
    [])

-- a station learned at the port above, and groups whose order isn't that of their ports
abbrev pub crossed_lines : List (List ℕ)
crossed_lines =
    codes "scenario 1" ∷
    codes "port 1 a soft" ∷
    codes "port 2 b soft" ∷
    codes "cmd port up a" ∷
    codes "cmd port up b" ∷
    codes "cmd mdb add ff0e:0000:0000:0000:0000:0000:0000:0001 dev a vlan 1" ∷
    codes "cmd mdb add 239.1.2.4 dev a vlan 1" ∷
    codes "cmd mdb add 239.1.2.3 dev b vlan 1" ∷
    codes "publish" ∷
    codes "rx 2 02000000000c02000000000a88b50102" ∷
    codes "serve" ∷
    codes "cmd fdb add 02:00:00:00:00:0b dev a vlan 1 static" ∷
    []

abbrev pub crossed_text : List ℕ
crossed_text = lines_text (crossed_lines ++ codes "end" ∷ [])

abbrev pub crossed_fdb : List ℕ
crossed_fdb = lines_text (
    codes "02:00:00:00:00:0a dev b vlan 1 learned" ∷
    codes "02:00:00:00:00:0b dev a vlan 1 static" ∷
    codes "end" ∷
    [])

abbrev pub crossed_mdb : List ℕ
crossed_mdb = lines_text (
    codes "dev b grp 239.1.2.3 vlan 1" ∷
    codes "dev a grp 239.1.2.4 vlan 1" ∷
    codes "dev a grp ff0e:0000:0000:0000:0000:0000:0000:0001 vlan 1" ∷
    codes "end" ∷
    [])

-- the same with a bad last line
abbrev pub broken_text : List ℕ
broken_text = lines_text (crossed_lines ++ codes "ending" ∷ [])

abbrev pub broken : List ℕ
broken = lines_text (codes "bad 13 word" ∷ [])

abbrev pub unended : List ℕ
unended = lines_text (codes "bad 1 unended" ∷ [])

-- `gen 0 1`
abbrev pub generated : List ℕ
generated = lines_text (
    codes "scenario 1" ∷
    codes "port 1 g1 chip 1" ∷
    codes "port 2 g2 chip 1" ∷
    codes "port 3 g3 chip 1" ∷
    codes "port 4 g4 chip 1" ∷
    codes "port 5 g5 soft" ∷
    codes "port 6 g6 soft" ∷
    codes "cmd port up g1" ∷
    codes "cmd port up g2" ∷
    codes "cmd port up g3" ∷
    codes "cmd port up g4" ∷
    codes "cmd port up g5" ∷
    codes "cmd port up g6" ∷
    codes "publish" ∷
    codes "rx 6 02000000001202000000001788b50000" ∷
    codes "serve" ∷
    codes "end" ∷
    [])

-- `gen 2 3`: the second frame goes to all, and behind the third is a report
abbrev pub three_generated : List ℕ
three_generated = lines_text (
    codes "scenario 1" ∷
    codes "port 1 g1 chip 1" ∷
    codes "port 2 g2 chip 1" ∷
    codes "port 3 g3 chip 1" ∷
    codes "port 4 g4 chip 1" ∷
    codes "port 5 g5 soft" ∷
    codes "port 6 g6 soft" ∷
    codes "cmd port up g1" ∷
    codes "cmd port up g2" ∷
    codes "cmd port up g3" ∷
    codes "cmd port up g4" ∷
    codes "cmd port up g5" ∷
    codes "cmd port up g6" ∷
    codes "publish" ∷
    codes "rx 5 02000000001002000000001488b50000" ∷
    codes "serve" ∷
    codes "rx 1 ffffffffffff02000000001788b50000" ∷
    codes "serve" ∷
    codes "rx 1 02000000001402000000001488b50000" ∷
    codes "serve" ∷
    codes "report 1" ∷
    codes "end" ∷
    [])

-- the lines of some frames, as if the number of each were 0
abbrev pub lines_of_frames : List ℕ → List ℕ
lines_of_frames frames = flat_map (λ i. flat_map (step_text ports) (frame_steps i 0)) frames

-- frames 5, 7, 64 and 6720, which is a multiple of 3, 5, 7 and 64
abbrev pub what_is_behind : List ℕ
what_is_behind = lines_text (
    codes "rx 1 02000000001002000000001088b50000" ∷
    codes "serve" ∷
    codes "turn 1" ∷
    codes "rx 1 02000000001002000000001088b50000" ∷
    codes "serve" ∷
    codes "publish" ∷
    codes "rx 1 02000000001002000000001088b50000" ∷
    codes "serve" ∷
    codes "now 64000" ∷
    codes "rx 1 02000000001002000000001088b50000" ∷
    codes "serve" ∷
    codes "report 1" ∷
    codes "turn 1" ∷
    codes "publish" ∷
    codes "now 6720000" ∷
    [])

-- lines of each kind: of those that are counted two, three, four and five, one of each other
abbrev pub all_kinds : List Line
all_kinds =
    Chip 1 0 0 Copy ∷ Chip 2 0 0 Copy ∷ Unread 3 Short ∷
    Soft 1 0 ∷ Soft 2 0 ∷ Soft 4 0 ∷ Held 4 0 ∷
    Tx 1 1 (0 ∷ []) ∷ Tx 1 2 (0 ∷ []) ∷ Tx 1 3 (0 ∷ []) ∷ Tx 1 4 (0 ∷ []) ∷ Ctl 1 (0 ∷ []) ∷
    Overrun 5 ∷ Overrun 6 ∷ Overrun 7 ∷ Overrun 8 ∷ Overrun 9 ∷
    Done 1 0 ∷ Refused 1 NothingWaiting ∷ End 1 0 0 0 ∷
    []

abbrev pub before_all : World
before_all = first_world (record { domains = record { edition = One; ports = [] }; own = first_own })

abbrev pub all_kinds_summed : List ℕ
all_kinds_summed = lines_text (codes "demo frames 9 chip 2 soft 3 tx 4 overrun 5 changes 0 pending 0" ∷ [])

-- `demo 0 0` and `demo 0 1`
abbrev pub no_frame_summed : List ℕ
no_frame_summed = lines_text (codes "demo frames 0 chip 0 soft 0 tx 0 overrun 0 changes 18 pending 0" ∷ [])

abbrev pub one_frame_summed : List ℕ
one_frame_summed = lines_text (codes "demo frames 1 chip 0 soft 1 tx 5 overrun 0 changes 19 pending 1" ∷ [])
