-- Worked audits: the text of each scenario, and what is told of it.
-- Source: this profile; what is told was worked out by hand.
use Rattle.std.specs.Prelude.{ℕ, List, [], ◌∷◌, ◌++◌, codes}
use Rattle.br_model.specs.Theorems.WholeLines.{lines_text}
use Rattle.br_model.specs.Worked.Chip.{chip_up}

-- A chip has an entry at its port 2. Then its station is seen behind a foreign port, and the update that tells the chip waits.
abbrev pub moved_station : List (List ℕ)
moved_station = chip_up ++
    codes "cmd fdb add 02:00:00:00:00:0b dev c2 vlan 1 extern" ∷
    codes "turn 1" ∷
    codes "publish" ∷
    codes "rx 3 02000000000a02000000000b88b50102" ∷
    codes "serve" ∷
    []

abbrev pub stale_entry_text : List ℕ
stale_entry_text = lines_text (moved_station ++ codes "end" ∷ [])

abbrev pub stale_entry_told : List ℕ
stale_entry_told = lines_text (
    codes "domain 1" ∷
    codes "entry 02:00:00:00:00:0b dev f3 vlan 1 learned pending" ∷
    codes "stale 02:00:00:00:00:0b dev c2 vlan 1 extern" ∷
    codes "pending 1" ∷
    codes "end" ∷
    [])

-- The same, and then the chip is told.
abbrev pub told_chip_text : List ℕ
told_chip_text = lines_text (moved_station ++ codes "turn 1" ∷ codes "end" ∷ [])

abbrev pub told_chip_told : List ℕ
told_chip_told = lines_text (
    codes "domain 1" ∷
    codes "entry 02:00:00:00:00:0b dev f3 vlan 1 learned offload" ∷
    codes "pending 0" ∷
    codes "end" ∷
    [])

-- A chip has an entry, which is deleted and put again: its last update waits, though the chip's entry is the same.
abbrev pub put_again_text : List ℕ
put_again_text = lines_text (chip_up ++
    codes "cmd fdb add 02:00:00:00:00:0b dev c2 vlan 1 static" ∷
    codes "turn 1" ∷
    codes "cmd fdb del 02:00:00:00:00:0b vlan 1" ∷
    codes "cmd fdb add 02:00:00:00:00:0b dev c2 vlan 1 static" ∷
    codes "end" ∷
    [])

abbrev pub put_again_told : List ℕ
put_again_told = lines_text (
    codes "domain 1" ∷
    codes "entry 02:00:00:00:00:0b dev c2 vlan 1 static pending" ∷
    codes "pending 2" ∷
    codes "end" ∷
    [])
