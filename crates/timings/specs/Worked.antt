-- Worked inputs of `outcomes` and `explain`, and what is said of them.
-- Source: this profile; the answers are those of two scripts that try every count and point by replaying.
use Rattle.std.specs.Prelude.{ℕ, List, [], ◌∷◌, codes}
use Rattle.br_model.specs.Theorems.WholeLines.{lines_text}
use Rattle.timings.specs.Replies.{Reply, Positive, Negative, BadLine}

-- A station is added, deleted, and added elsewhere, while no update is applied.
abbrev pub meanwhile : List ℕ
meanwhile = lines_text (
    codes "scenario 1" ∷
    codes "port 1 p1 chip 1" ∷
    codes "port 2 p2 chip 1" ∷
    codes "port 3 p3 soft" ∷
    codes "cmd port up p1" ∷
    codes "cmd port up p2" ∷
    codes "cmd port up p3" ∷
    codes "publish" ∷
    codes "cmd fdb add 02:00:00:00:00:0b dev p2 vlan 1 extern" ∷
    codes "cmd fdb del 02:00:00:00:00:0b vlan 1" ∷
    codes "cmd fdb add 02:00:00:00:00:0b dev p3 vlan 1 extern" ∷
    codes "end" ∷
    codes "probes 1" ∷
    codes "rx 1 02000000000b02000000000a88b50102" ∷
    codes "rx 3 02000000000b02000000000a88b50102" ∷
    codes "rx 1 ffffffffffff02000000000a88b50102" ∷
    codes "end" ∷
    [])

abbrev pub meanwhile_text : List ℕ
meanwhile_text = lines_text (
    codes "outcomes 1" ∷
    codes "out 1 chip 1 0 copy 2" ∷
    codes "out 1 chip 1 1 forward 2" ∷
    codes "out 1 chip 1 2 copy 2" ∷
    codes "out 1 chip 1 3 trap -" ∷
    codes "out 1 soft 9 copy 3" ∷
    codes "out 1 soft 9 trap 2 3" ∷
    codes "out 1 soft 12 trap 3" ∷
    codes "out 2 soft 9 soft 1 2" ∷
    codes "out 2 soft 12 soft -" ∷
    codes "out 3 chip 1 0 copy 2" ∷
    codes "out 3 soft 9 copy 0 3" ∷
    codes "end" ∷
    [])

abbrev pub meanwhile_says : Reply
meanwhile_says = record { text = meanwhile_text; verdict = Positive }

-- Two updates are late at the second frame, and none at the third.
abbrev pub moved_twice : List ℕ
moved_twice = lines_text (
    codes "scenario 1" ∷
    codes "port 1 p1 chip 1" ∷
    codes "port 2 p2 chip 1" ∷
    codes "port 3 p3 soft" ∷
    codes "cmd port up p1" ∷
    codes "cmd port up p2" ∷
    codes "cmd port up p3" ∷
    codes "cmd fdb add 02:00:00:00:00:0b dev p2 vlan 1 extern" ∷
    codes "rx 1 02000000000b02000000000a88b50102" ∷
    codes "cmd fdb del 02:00:00:00:00:0b vlan 1" ∷
    codes "cmd fdb add 02:00:00:00:00:0b dev p3 vlan 1 extern" ∷
    codes "rx 1 02000000000b02000000000a88b50102" ∷
    codes "applied 1 3" ∷
    codes "rx 1 02000000000b02000000000a88b50102" ∷
    codes "end" ∷
    codes "seen 1" ∷
    codes "blind 0" ∷
    codes "saw 1 2 02000000000b02000000000a88b50102" ∷
    codes "saw 2 2 02000000000b02000000000a88b50102" ∷
    codes "saw 3 3 02000000000b02000000000a88b50102" ∷
    codes "end" ∷
    [])

abbrev pub moved_twice_text : List ℕ
moved_twice_text = lines_text (
    codes "yes" ∷
    codes "by 1 1 0 1" ∷
    codes "by 2 1 1 3" ∷
    codes "by 3 1 3 3" ∷
    codes "scenario 1" ∷
    codes "port 1 p1 chip 1" ∷
    codes "port 2 p2 chip 1" ∷
    codes "port 3 p3 soft" ∷
    codes "cmd port up p1" ∷
    codes "publish" ∷
    codes "cmd port up p2" ∷
    codes "publish" ∷
    codes "cmd port up p3" ∷
    codes "publish" ∷
    codes "cmd fdb add 02:00:00:00:00:0b dev p2 vlan 1 extern" ∷
    codes "publish" ∷
    codes "rx 1 02000000000b02000000000a88b50102" ∷
    codes "publish" ∷
    codes "serve" ∷
    codes "publish" ∷
    codes "cmd fdb del 02:00:00:00:00:0b vlan 1" ∷
    codes "publish" ∷
    codes "cmd fdb add 02:00:00:00:00:0b dev p3 vlan 1 extern" ∷
    codes "publish" ∷
    codes "turn 1" ∷
    codes "rx 1 02000000000b02000000000a88b50102" ∷
    codes "publish" ∷
    codes "turn 1" ∷
    codes "turn 1" ∷
    codes "rx 1 02000000000b02000000000a88b50102" ∷
    codes "publish" ∷
    codes "serve" ∷
    codes "publish" ∷
    codes "end" ∷
    [])

abbrev pub moved_twice_says : Reply
moved_twice_says = record { text = moved_twice_text; verdict = Positive }

-- The driver has acknowledged an update, but the chip still floods.
abbrev pub kept_flooding : List ℕ
kept_flooding = lines_text (
    codes "scenario 1" ∷
    codes "port 1 sw1 chip 1" ∷
    codes "port 2 sw2 chip 1" ∷
    codes "port 3 sw3 chip 1" ∷
    codes "port 4 p4 soft" ∷
    codes "port 5 p5 soft" ∷
    codes "cmd port up sw1" ∷
    codes "cmd port up sw2" ∷
    codes "cmd port up sw3" ∷
    codes "cmd port up p4" ∷
    codes "cmd port up p5" ∷
    codes "cmd fdb add 02:00:00:00:00:0b dev sw2 vlan 1 static" ∷
    codes "applied 1 1" ∷
    codes "rx 1 02000000000b02000000000a88b5" ∷
    codes "end" ∷
    codes "seen 1" ∷
    codes "blind 0" ∷
    codes "saw 1 2 02000000000b02000000000a88b5" ∷
    codes "saw 1 3 02000000000b02000000000a88b5" ∷
    codes "end" ∷
    [])

abbrev pub kept_flooding_text : List ℕ
kept_flooding_text = lines_text (
    codes "no 1" ∷
    codes "saw 1 2 02000000000b02000000000a88b5" ∷
    codes "saw 1 3 02000000000b02000000000a88b5" ∷
    codes "would 1 2 02000000000b02000000000a88b5" ∷
    [])

abbrev pub kept_flooding_says : Reply
kept_flooding_says = record { text = kept_flooding_text; verdict = Negative }

-- An observation with these lines behind its frame.
abbrev pub observed : List (List ℕ) → List ℕ
observed later = lines_text (
    codes "scenario 1" ∷
    codes "port 1 a chip 1" ∷
    codes "port 2 b soft" ∷
    codes "cmd port up a" ∷
    codes "rx 1 02000000000b02000000000a88b5" ∷
    later)

-- and with these in its second section
abbrev pub sighted : List (List ℕ) → List ℕ
sighted later = observed (codes "end" ∷ codes "seen 1" ∷ later)

abbrev pub bad_observations : List (List ℕ)
bad_observations =
    observed (codes "turn 9" ∷ []) ∷
    observed (codes "capture 4" ∷ []) ∷
    observed (codes "applied 2 1" ∷ []) ∷
    observed (codes "applied 1 1048577" ∷ []) ∷
    observed (codes "saw 1 1 00" ∷ []) ∷
    observed (codes "end" ∷ codes "applied 1 1" ∷ []) ∷
    observed (codes "end" ∷ codes "seen 2" ∷ []) ∷
    sighted (codes "blind 3" ∷ []) ∷
    sighted (codes "ignore 1" ∷ codes "blind 0" ∷ []) ∷
    sighted (codes "saw 1 0 00" ∷ codes "ignore 1" ∷ []) ∷
    sighted (codes "ignore 2" ∷ []) ∷
    sighted (codes "saw 0 1 00" ∷ []) ∷
    sighted (codes "cmd port up a" ∷ []) ∷
    sighted [] ∷
    []

abbrev pub bad_lines : List (List ℕ)
bad_lines =
    lines_text (codes "bad 6 place" ∷ []) ∷
    lines_text (codes "bad 6 place" ∷ []) ∷
    lines_text (codes "bad 6 port" ∷ []) ∷
    lines_text (codes "bad 6 number" ∷ []) ∷
    lines_text (codes "bad 6 place" ∷ []) ∷
    lines_text (codes "bad 7 place" ∷ []) ∷
    lines_text (codes "bad 7 word" ∷ []) ∷
    lines_text (codes "bad 8 port" ∷ []) ∷
    lines_text (codes "bad 9 place" ∷ []) ∷
    lines_text (codes "bad 9 place" ∷ []) ∷
    lines_text (codes "bad 8 number" ∷ []) ∷
    lines_text (codes "bad 8 number" ∷ []) ∷
    lines_text (codes "bad 8 place" ∷ []) ∷
    lines_text (codes "bad 8 unended" ∷ []) ∷
    []

abbrev pub is_bad : List ℕ → Reply
is_bad text = record { text = text; verdict = BadLine }
