-- Worked runs with editions and several chips: the text of each scenario, and what is told of it.
-- Source: this profile; the transcripts were worked out by hand.
use Rattle.std.specs.Prelude.{ℕ, List, [], ◌∷◌, codes}
use Rattle.br_model.specs.Theorems.WholeLines.{lines_text}

-- two ports of the chip beside one of software; a query, a member of a group, and two streams.
abbrev pub groups_of : List ℕ → List (List ℕ)
groups_of first =
    first ∷
    codes "port 1 c1 chip 1" ∷
    codes "port 2 c2 chip 1" ∷
    codes "port 3 f3 soft" ∷
    codes "cmd port up c1" ∷
    codes "cmd port up c2" ∷
    codes "cmd port up f3" ∷
    codes "publish" ∷
    codes "rx 3 01005e00000102000000000e08004500001c000000000102cfd60a000009e00000011164ee9b00000000" ∷
    codes "serve" ∷
    codes "cmd mdb add 239.1.2.3 dev c2 vlan 1" ∷
    codes "publish" ∷
    codes "rx 1 01005e01020302000000000c080045000014000000000111bed30a000002ef010203" ∷
    codes "turn 1" ∷
    codes "turn 1" ∷
    codes "rx 1 01005e01020302000000000c080045000014000000000111bed30a000002ef010203" ∷
    codes "serve" ∷
    codes "end" ∷
    []

-- In edition 2 the member reaches the chip by a turn of the queue.
abbrev pub groups_deferred_text : List ℕ
groups_deferred_text = lines_text (groups_of (codes "scenario 2"))

abbrev pub groups_deferred_told : List ℕ
groups_deferred_told = lines_text (
    codes "transcript 1" ∷
    codes "ok 1 3" ∷
    codes "ok 2 3" ∷
    codes "ok 3 3" ∷
    codes "ok 4 0" ∷
    codes "soft 1 at 9" ∷
    codes "tx 1 0 01005e00000102000000000e08004500001c000000000102cfd60a000009e00000011164ee9b00000000" ∷
    codes "tx 1 1 01005e00000102000000000e08004500001c000000000102cfd60a000009e00000011164ee9b00000000" ∷
    codes "tx 1 2 01005e00000102000000000e08004500001c000000000102cfd60a000009e00000011164ee9b00000000" ∷
    codes "ok 6 3" ∷
    codes "ok 7 1" ∷
    codes "ok 8 0" ∷
    codes "chip 2 at 13 0 copy" ∷
    codes "ok 10 0" ∷
    codes "ok 11 0" ∷
    codes "chip 3 at 13 2 copy" ∷
    codes "tx 3 2 01005e01020302000000000c080045000014000000000111bed30a000002ef010203" ∷
    codes "soft 2 at 13" ∷
    codes "tx 2 3 01005e01020302000000000c080045000014000000000111bed30a000002ef010203" ∷
    codes "ok 13 0" ∷
    codes "end 13 13 0 1" ∷
    [])

-- In edition 1 it reaches it at once.
abbrev pub groups_at_once_text : List ℕ
groups_at_once_text = lines_text (groups_of (codes "scenario 1"))

abbrev pub groups_at_once_told : List ℕ
groups_at_once_told = lines_text (
    codes "transcript 1" ∷
    codes "ok 1 3" ∷
    codes "ok 2 3" ∷
    codes "ok 3 3" ∷
    codes "ok 4 0" ∷
    codes "soft 1 at 9" ∷
    codes "tx 1 0 01005e00000102000000000e08004500001c000000000102cfd60a000009e00000011164ee9b00000000" ∷
    codes "tx 1 1 01005e00000102000000000e08004500001c000000000102cfd60a000009e00000011164ee9b00000000" ∷
    codes "tx 1 2 01005e00000102000000000e08004500001c000000000102cfd60a000009e00000011164ee9b00000000" ∷
    codes "ok 6 3" ∷
    codes "ok 7 1" ∷
    codes "ok 8 0" ∷
    codes "chip 2 at 13 0 copy" ∷
    codes "tx 2 2 01005e01020302000000000c080045000014000000000111bed30a000002ef010203" ∷
    codes "ok 10 0" ∷
    codes "refused 11 11" ∷
    codes "chip 3 at 13 1 copy" ∷
    codes "tx 3 2 01005e01020302000000000c080045000014000000000111bed30a000002ef010203" ∷
    codes "soft 2 at 13" ∷
    codes "tx 2 3 01005e01020302000000000c080045000014000000000111bed30a000002ef010203" ∷
    codes "ok 13 0" ∷
    codes "end 13 13 0 1" ∷
    [])

-- Each chip has a queue of its own: a turn of one leaves the other one as it is.
abbrev pub two_chips_text : List ℕ
two_chips_text = lines_text (
    codes "scenario 1" ∷
    codes "port 1 a1 chip 1" ∷
    codes "port 2 b2 chip 2" ∷
    codes "port 200 f3 soft" ∷
    codes "cmd port up a1" ∷
    codes "cmd port up b2" ∷
    codes "cmd port up f3" ∷
    codes "publish" ∷
    codes "cmd fdb add 02:00:00:00:00:0b dev b2 vlan 1 static" ∷
    codes "publish" ∷
    codes "rx 1 02000000000b02000000000a88b50102" ∷
    codes "serve" ∷
    codes "turn 1" ∷
    codes "rx 1 02000000000b02000000000a88b50102" ∷
    codes "serve" ∷
    codes "turn 2" ∷
    codes "turn 2" ∷
    codes "end" ∷
    [])

abbrev pub two_chips_told : List ℕ
two_chips_told = lines_text (
    codes "transcript 1" ∷
    codes "ok 1 3" ∷
    codes "ok 2 3" ∷
    codes "ok 3 3" ∷
    codes "ok 4 0" ∷
    codes "ok 5 1" ∷
    codes "ok 6 0" ∷
    codes "chip 1 at 10 0 copy" ∷
    codes "soft 1 at 10" ∷
    codes "tx 1 2 02000000000b02000000000a88b50102" ∷
    codes "ok 8 0" ∷
    codes "ok 9 0" ∷
    codes "chip 2 at 10 1 trap" ∷
    codes "soft 2 at 10" ∷
    codes "tx 2 2 02000000000b02000000000a88b50102" ∷
    codes "ok 11 0" ∷
    codes "ok 12 0" ∷
    codes "refused 13 11" ∷
    codes "end 13 10 0 0" ∷
    [])

-- Without the turns of the second chip its update is pending.
abbrev pub one_turn_less_text : List ℕ
one_turn_less_text = lines_text (
    codes "scenario 1" ∷
    codes "port 1 a1 chip 1" ∷
    codes "port 2 b2 chip 2" ∷
    codes "port 200 f3 soft" ∷
    codes "cmd port up a1" ∷
    codes "cmd port up b2" ∷
    codes "cmd port up f3" ∷
    codes "publish" ∷
    codes "cmd fdb add 02:00:00:00:00:0b dev b2 vlan 1 static" ∷
    codes "publish" ∷
    codes "rx 1 02000000000b02000000000a88b50102" ∷
    codes "serve" ∷
    codes "turn 1" ∷
    codes "rx 1 02000000000b02000000000a88b50102" ∷
    codes "serve" ∷
    codes "end" ∷
    [])

abbrev pub one_turn_less_told : List ℕ
one_turn_less_told = lines_text (
    codes "transcript 1" ∷
    codes "ok 1 3" ∷
    codes "ok 2 3" ∷
    codes "ok 3 3" ∷
    codes "ok 4 0" ∷
    codes "ok 5 1" ∷
    codes "ok 6 0" ∷
    codes "chip 1 at 10 0 copy" ∷
    codes "soft 1 at 10" ∷
    codes "tx 1 2 02000000000b02000000000a88b50102" ∷
    codes "ok 8 0" ∷
    codes "ok 9 0" ∷
    codes "chip 2 at 10 1 trap" ∷
    codes "soft 2 at 10" ∷
    codes "tx 2 2 02000000000b02000000000a88b50102" ∷
    codes "ok 11 0" ∷
    codes "end 11 10 1 0" ∷
    [])

-- lines that name an edition, a port or a domain that can't be, and a chip that isn't there
abbrev pub bad_domains : List (List ℕ)
bad_domains =
    lines_text (codes "scenario 1" ∷ codes "port 255 x soft" ∷ []) ∷
    lines_text (codes "scenario 1" ∷ codes "port 1 a chip 5" ∷ []) ∷
    lines_text (codes "scenario 1" ∷ codes "port 1 a chip 0" ∷ []) ∷
    lines_text (codes "scenario 1" ∷ codes "port 63 a chip 3" ∷ codes "turn 2" ∷ []) ∷
    lines_text (codes "scenario 1" ∷ codes "report 5" ∷ []) ∷
    lines_text (codes "scenario 1" ∷ codes "sweep x" ∷ []) ∷
    lines_text (codes "scenario 1" ∷ codes "report 4" ∷ []) ∷
    lines_text (codes "scenario 3" ∷ []) ∷
    []

abbrev pub bad_domains_told : List (List ℕ)
bad_domains_told =
    lines_text (codes "transcript 1" ∷ codes "bad 2 number" ∷ []) ∷
    lines_text (codes "transcript 1" ∷ codes "bad 2 number" ∷ []) ∷
    lines_text (codes "transcript 1" ∷ codes "bad 2 number" ∷ []) ∷
    lines_text (codes "transcript 1" ∷ codes "bad 3 port" ∷ []) ∷
    lines_text (codes "transcript 1" ∷ codes "bad 2 number" ∷ []) ∷
    lines_text (codes "transcript 1" ∷ codes "bad 2 number" ∷ []) ∷
    lines_text (codes "transcript 1" ∷ codes "bad 2 port" ∷ []) ∷
    lines_text (codes "transcript 1" ∷ codes "bad 1 word" ∷ []) ∷
    []
