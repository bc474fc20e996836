-- Worked runs: messages as text, and what is told of them.
-- Source: this profile; the messages were worked out by hand.
use Rattle.std.specs.Prelude.{ℕ, List, [], ◌∷◌, ◌++◌, codes}
use Rattle.br_model.specs.Theorems.WholeLines.{lines_text}

-- Two static entries come.
abbrev pub monitor_and_follow_told : List ℕ
monitor_and_follow_told = lines_text (
    codes "nl 300000001c00000000000000000000000700000002000000400000000a00020002000000000a00000600050001000000" ∷
    codes "nl 300000001c00000001000000000000000700000003000000400000000a00020002000000000b00000600050001000000" ∷
    codes "end" ∷
    [])

-- A chip learns an entry at its port 2, which reaches it by a turn; then the station moves to port 3, which is no port of a chip, and
-- the turn that tells the chip is no offload.
abbrev pub moved_entry_told : List ℕ
moved_entry_told = lines_text (
    codes "nl 300000001c00000000000000000000000700000003000000020010000a00020002000000000b00000600050001000000" ∷
    codes "nl 300000001c00000000000000000000000700000003000000020030000a00020002000000000b00000600050001000000" ∷
    codes "nl 300000001c00000001000000000000000700000004000000020000000a00020002000000000b00000600050001000000" ∷
    codes "end" ∷
    [])

-- The table that those two entries give.
abbrev pub monitor_and_follow_followed : List ℕ
monitor_and_follow_followed = lines_text (
    codes "02:00:00:00:00:0a port 1 vlan 1 static" ∷
    codes "02:00:00:00:00:0b port 2 vlan 1 static" ∷
    codes "end" ∷
    [])

-- And the one of the station that moved, at the end, and before it moved.
abbrev pub moved_entry_followed : List ℕ
moved_entry_followed = lines_text (
    codes "02:00:00:00:00:0b port 3 vlan 1 learned" ∷
    codes "end" ∷
    [])

abbrev pub offloaded_entry_text : List ℕ
offloaded_entry_text = lines_text (
    codes "# a chip has learned it, and has it" ∷
    [] ∷
    codes "nl 300000001c00000000000000000000000700000003000000020010000a00020002000000000b00000600050001000000" ∷
    codes "  nl  300000001C00000000000000000000000700000003000000020030000A00020002000000000B00000600050001000000 " ∷
    codes "end" ∷
    codes "nl" ∷
    [])

abbrev pub offloaded_entry_followed : List ℕ
offloaded_entry_followed = lines_text (
    codes "02:00:00:00:00:0b port 2 vlan 1 extern offload" ∷
    codes "end" ∷
    [])

-- Lines that are refused: an entry goes that isn't there, and the last byte of a message is no padding.
abbrev pub absent_entry_text : List ℕ
absent_entry_text = lines_text (
    codes "nl 300000001d00000000000000000000000700000002000000400000000a00020002000000000a00000600050001000000" ∷
    codes "end" ∷
    [])

abbrev pub other_padding_text : List ℕ
other_padding_text = lines_text (
    codes "nl 300000001c00000000000000000000000700000002000000400000000a00020002000000000a00000600050001000001" ∷
    codes "end" ∷
    [])

abbrev pub bad_line : List ℕ → List ℕ
bad_line text = text ++ 10 ∷ []
