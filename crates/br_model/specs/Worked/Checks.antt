-- Inputs of `check` and its answers.
-- Source: this profile; worked out by hand.
use Rattle.std.specs.Prelude.{ℕ, List, [], ◌∷◌, ◌++◌, codes, map}
use Rattle.br_model.specs.Program.Checks.{check_answer}
use Rattle.br_model.specs.Theorems.WholeLines.{lines_text}

-- A held frame is posted by a count that wasn't published, by one below its floor, and by its floor.
abbrev pub points_scenario : List ℕ
points_scenario = lines_text (
    codes "scenario 1" ∷
    codes "port 1 p1 soft" ∷
    codes "port 2 p2 soft" ∷
    codes "port 3 p3 soft" ∷
    codes "cmd port up p1" ∷
    codes "cmd port up p2" ∷
    codes "cmd port up p3" ∷
    codes "publish" ∷
    codes "rx 1 02000000000b02000000000a88b50102" ∷
    codes "hold" ∷
    codes "post 1 at 5" ∷
    codes "post 1 at 0" ∷
    codes "post 1 at 9" ∷
    codes "end" ∷
    [])

-- its transcript, without the last line's line feed
abbrev pub points_told : List ℕ
points_told =
    lines_text (
    codes "transcript 1" ∷
    codes "ok 1 3" ∷
    codes "ok 2 3" ∷
    codes "ok 3 3" ∷
    codes "ok 4 0" ∷
    codes "held 1 9" ∷
    codes "refused 7 15" ∷
    codes "refused 8 15" ∷
    codes "soft 1 at 9" ∷
    codes "tx 1 2 02000000000b02000000000a88b50102" ∷
    codes "tx 1 3 02000000000b02000000000a88b50102" ∷
    codes "ok 9 1" ∷
    [])
    ++ codes "end 9 10 1 0"

-- where the command isn't `check`
abbrev pub points_elsewhere : List ℕ
points_elsewhere = lines_text (
    codes "transcript 1" ∷
    codes "ok 1 3" ∷
    codes "ok 2 3" ∷
    codes "ok 3 3" ∷
    codes "ok 4 0" ∷
    codes "held 1 9" ∷
    codes "bad 11 place" ∷
    [])

-- A frame leaves a port twice.
abbrev pub split_input : List ℕ
split_input = lines_text (
    codes "scenario 1" ∷
    codes "port 1 c1 chip 1" ∷
    codes "port 2 c2 chip 1" ∷
    codes "port 3 f3 soft" ∷
    codes "cmd port up c1" ∷
    codes "cmd port up c2" ∷
    codes "cmd port up f3" ∷
    codes "publish" ∷
    codes "rx 1 02000000000b02000000000a88b50102" ∷
    codes "serve" ∷
    codes "report 1" ∷
    codes "end" ∷
    codes "transcript 1" ∷
    codes "ok 1 3" ∷
    codes "ok 2 3" ∷
    codes "ok 3 3" ∷
    codes "ok 4 0" ∷
    codes "chip 1 at 9 0 copy" ∷
    codes "tx 1 2 02000000000b02000000000a88b50102" ∷
    codes "soft 1 at 9" ∷
    codes "tx 1 2 02000000000b02000000000a88b50102" ∷
    codes "tx 1 3 02000000000b02000000000a88b50102" ∷
    codes "ok 6 0" ∷
    codes "ok 7 1" ∷
    codes "end 7 10 1 0" ∷
    [])

-- A transcript that is right, without and with its last line feed; with an empty line behind it, with a line behind it. One without its
-- last line; none; one with a number that differs; with an empty line in place of its first; a bad scenario before one; and one in
-- which a frame leaves a port twice.
abbrev pub inputs : List (List ℕ)
inputs =
    (points_scenario ++ points_told) ∷
    (points_scenario ++ (points_told ++ 10 ∷ [])) ∷
    (points_scenario ++ (points_told ++ 10 ∷ 10 ∷ [])) ∷
    (points_scenario ++ (points_told ++ lines_text ([] ∷ codes "end 9 10 1 0" ∷ []))) ∷
    lines_text (codes "scenario 1" ∷ codes "end" ∷ codes "transcript 1" ∷ []) ∷
    (lines_text (codes "scenario 1" ∷ []) ++ codes "end") ∷
    lines_text (codes "scenario 1" ∷ codes "end" ∷ codes "transcript 1" ∷ codes "end 0 0 0 1" ∷ []) ∷
    lines_text (codes "scenario 1" ∷ codes "end" ∷ [] ∷ codes "end 0 0 0 0" ∷ []) ∷
    lines_text (codes "scenario 1" ∷ codes "port 0 a soft" ∷ codes "end" ∷ codes "transcript 1" ∷ []) ∷
    split_input ∷
    []

abbrev pub answers : List (List ℕ)
answers =
    lines_text (codes "yes" ∷ []) ∷
    lines_text (codes "yes" ∷ []) ∷
    lines_text (codes "no 14" ∷ codes "expected" ∷ codes "found" ∷ []) ∷
    lines_text (codes "no 14" ∷ codes "expected" ∷ codes "found end 9 10 1 0" ∷ []) ∷
    lines_text (codes "no 2" ∷ codes "expected end 0 0 0 0" ∷ codes "found" ∷ []) ∷
    lines_text (codes "no 1" ∷ codes "expected transcript 1" ∷ codes "found" ∷ []) ∷
    lines_text (codes "no 2" ∷ codes "expected end 0 0 0 0" ∷ codes "found end 0 0 0 1" ∷ []) ∷
    lines_text (codes "no 1" ∷ codes "expected transcript 1" ∷ codes "found" ∷ []) ∷
    lines_text (codes "bad 2 number" ∷ []) ∷
    lines_text (codes "no 9" ∷ codes "expected tx 1 3 02000000000b02000000000a88b50102" ∷ codes "found tx 1 2 02000000000b02000000000a88b50102" ∷ []) ∷
    []

abbrev pub answered : List (List ℕ)
answered = map check_answer inputs
