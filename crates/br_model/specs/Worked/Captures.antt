-- Worked runs with a capture: the text of each scenario, and what is told of it.
-- Source: this profile; the transcripts were worked out by hand.
use Rattle.std.specs.Prelude.{ℕ, List, [], ◌∷◌, ◌++◌, map, take, codes}
use Rattle.br_model.specs.Worked.Readings.{bytes_of}
use Rattle.br_model.specs.Theorems.WholeLines.{lines_text}
use Rattle.br_model.specs.Worked.Rows.{three_up, three_are_up}

-- three ports that are up, a line `capture` of this length, and these bytes behind it
abbrev pub capture_of : List ℕ → List ℕ → List ℕ
capture_of length bytes = lines_text (three_up ++ (codes "capture " ++ length) ∷ []) ++ bytes

-- a section header, an interface and a packet, as digits: the parts of these that vary
abbrev pub section : List ℕ → List ℕ → List ℕ → List ℕ
section magic link interface =
    bytes_of (codes "0a0d0d0a1c000000" ++ (magic ++ codes "01000000ffffffffffffffff1c000000"))
    ++ (bytes_of (codes "0100000014000000" ++ (link ++ codes "00000000040014000000"))
    ++ bytes_of (codes "0600000030000000" ++ (interface ++ codes "0000000000000000100000001000000002000000000b02000000000a88b5010230000000")))

-- 96 bytes
abbrev pub good_section : List ℕ
good_section = section (codes "4d3c2b1a") (codes "0100") (codes "00000000")

abbrev pub serve_and_end : List ℕ
serve_and_end = lines_text (codes "serve" ∷ codes "end" ∷ [])

abbrev pub capture_text : List ℕ
capture_text = capture_of (codes "96") (good_section ++ serve_and_end)

abbrev pub capture_told : List ℕ
capture_told = lines_text (three_are_up ++
    codes "soft 1 at 9" ∷
    codes "tx 1 2 02000000000b02000000000a88b50102" ∷
    codes "tx 1 3 02000000000b02000000000a88b50102" ∷
    codes "ok 6 1" ∷
    codes "end 6 10 1 0" ∷
    [])

-- a section that isn't whole, and one without its last byte
abbrev pub capture_unended_text : List ℕ
capture_unended_text = capture_of (codes "96") (take 95 good_section)

abbrev pub capture_cut_inside_a_block_text : List ℕ
capture_cut_inside_a_block_text = capture_of (codes "95") (take 95 good_section ++ serve_and_end)

-- an interface that isn't described, another magic, a link type that isn't Ethernet
abbrev pub capture_interface_text : List ℕ
capture_interface_text = capture_of (codes "96") (section (codes "4d3c2b1a") (codes "0100") (codes "01000000") ++ serve_and_end)

abbrev pub capture_magic_text : List ℕ
capture_magic_text = capture_of (codes "96") (section (codes "4d3c2b1b") (codes "0100") (codes "00000000") ++ serve_and_end)

abbrev pub capture_link_type_text : List ℕ
capture_link_type_text = capture_of (codes "96") (section (codes "4d3c2b1a") (codes "0200") (codes "00000000") ++ serve_and_end)

-- no line behind the section
abbrev pub after_capture_text : List ℕ
after_capture_text = capture_of (codes "96") good_section

-- a section of no bytes, and a declaration behind it
abbrev pub empty_capture_text : List ℕ
empty_capture_text = capture_of (codes "0") (lines_text (codes "port 4 p4 soft" ∷ []))

abbrev pub bad_captures : List (List ℕ)
bad_captures =
    capture_unended_text ∷
    capture_cut_inside_a_block_text ∷
    capture_interface_text ∷
    capture_magic_text ∷
    capture_link_type_text ∷
    after_capture_text ∷
    empty_capture_text ∷
    []

-- what is told of each
abbrev pub bad_captures_told : List (List ℕ)
bad_captures_told = map (λ last. lines_text (three_are_up ++ last ∷ [])) (
    codes "bad 9 unended" ∷
    codes "bad 9 capture 48" ∷
    codes "bad 9 capture 48" ∷
    codes "bad 9 capture 0" ∷
    codes "bad 9 capture 48" ∷
    codes "bad 10 unended" ∷
    codes "bad 10 place" ∷
    [])
