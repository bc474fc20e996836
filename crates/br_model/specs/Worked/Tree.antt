-- Worked runs of a bridge with its spanning tree on: the text of each scenario, and what is told of it.
-- Source: this profile; the transcripts were worked out by hand.
use Rattle.std.specs.Prelude.{ℕ, List, [], ◌∷◌, ◌++◌, codes}
use Rattle.br_model.specs.Theorems.WholeLines.{lines_text}
use Rattle.br_model.specs.Worked.Chip.{chip_up}
use Rattle.br_model.specs.Worked.Rows.{three_are_up}

-- The spanning tree is switched on and sends on each port; a message of another bridge at a port of the chip is trapped, and
-- read when software posts it.
abbrev pub bpdu_at_a_chip_port_text : List ℕ
bpdu_at_a_chip_port_text = lines_text (chip_up ++
    codes "cmd stp on" ∷
    codes "publish" ∷
    codes "rx 1 0180c200000002000000000000264242030000000000800002000000000000000000800002000000000080020000140002000f00" ∷
    codes "serve" ∷
    codes "end" ∷
    [])

abbrev pub bpdu_at_a_chip_port_told : List ℕ
bpdu_at_a_chip_port_told = lines_text (three_are_up ++
    codes "ctl 1 0180c200000002000000000100264242030000000000800002000000000100000000800002000000000180010000140002000f000000000000000000" ∷
    codes "ctl 2 0180c200000002000000000100264242030000000000800002000000000100000000800002000000000180020000140002000f000000000000000000" ∷
    codes "ctl 3 0180c200000002000000000100264242030000000000800002000000000100000000800002000000000180030000140002000f000000000000000000" ∷
    codes "ok 5 4" ∷
    codes "ok 6 0" ∷
    codes "chip 1 at 13 0 trap" ∷
    codes "soft 1 at 13" ∷
    codes "ok 8 0" ∷
    codes "end 8 13 0 0" ∷
    [])

-- Two ports hear one bridge that is better, and the second of its ports is the lesser one; when its messages have aged out, this
-- bridge is the root again and says so.
abbrev pub tie_and_lost_root_text : List ℕ
tie_and_lost_root_text = lines_text (
    codes "scenario 1" ∷
    codes "port 1 p1 soft" ∷
    codes "port 2 p2 soft" ∷
    codes "cmd port up p1" ∷
    codes "cmd port up p2" ∷
    codes "cmd stp on" ∷
    codes "publish" ∷
    codes "rx 1 0180c200000002000000000000264242030000000000800002000000000000000000800002000000000080020000140002000f00" ∷
    codes "serve" ∷
    codes "rx 2 0180c200000002000000000000264242030000000000800002000000000000000000800002000000000080010000140002000f00" ∷
    codes "serve" ∷
    codes "now 15000" ∷
    codes "now 20000" ∷
    codes "end" ∷
    [])

abbrev pub tie_and_lost_root_told : List ℕ
tie_and_lost_root_told = lines_text (
    codes "transcript 1" ∷
    codes "ok 1 3" ∷
    codes "ok 2 3" ∷
    codes "ctl 1 0180c200000002000000000100264242030000000000800002000000000100000000800002000000000180010000140002000f000000000000000000" ∷
    codes "ctl 2 0180c200000002000000000100264242030000000000800002000000000100000000800002000000000180020000140002000f000000000000000000" ∷
    codes "ok 3 3" ∷
    codes "ok 4 0" ∷
    codes "soft 1 at 9" ∷
    codes "ok 6 0" ∷
    codes "soft 2 at 9" ∷
    codes "ok 8 1" ∷
    codes "ok 9 1" ∷
    codes "ctl 1 0180c200000002000000000100264242030000000001800002000000000100000000800002000000000180010000140002000f000000000000000000" ∷
    codes "ctl 2 0180c200000002000000000100264242030000000001800002000000000100000000800002000000000180020000140002000f000000000000000000" ∷
    codes "ok 10 1" ∷
    codes "end 10 12 0 0" ∷
    [])
