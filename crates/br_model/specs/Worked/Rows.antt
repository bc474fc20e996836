-- Worked runs: the text of each scenario, and what is told of it.
-- Source: this profile; the transcripts were worked out by hand.
use Rattle.std.specs.Prelude.{ℕ, List, [], ◌∷◌, ◌++◌, codes}
use Rattle.br_model.specs.Theorems.WholeLines.{lines_text}

-- a frame to a known station
abbrev pub first_frame_text : List ℕ
first_frame_text = lines_text (
    codes "scenario 1" ∷
    codes "port 1 p1 soft" ∷
    codes "port 2 p2 soft" ∷
    codes "cmd port up p1" ∷
    codes "cmd port up p2" ∷
    codes "cmd fdb add 02:00:00:00:00:0a dev p1 vlan 1 static" ∷
    codes "cmd fdb add 02:00:00:00:00:0b dev p2 vlan 1 static" ∷
    codes "publish" ∷
    codes "rx 1 02000000000b02000000000a88b50102" ∷
    codes "serve" ∷
    codes "end" ∷
    [])

abbrev pub first_frame_told : List ℕ
first_frame_told = lines_text (
    codes "transcript 1" ∷
    codes "ok 1 3" ∷
    codes "ok 2 3" ∷
    codes "ok 3 1" ∷
    codes "ok 4 1" ∷
    codes "ok 5 0" ∷
    codes "soft 1 at 8" ∷
    codes "tx 1 2 02000000000b02000000000a88b50102" ∷
    codes "ok 7 0" ∷
    codes "end 7 8 2 0" ∷
    [])

-- refusals, and no last line
abbrev pub first_refusals_text : List ℕ
first_refusals_text = lines_text (
    codes "scenario 1" ∷
    codes "port 1 p1 soft" ∷
    codes "cmd port up p1" ∷
    codes "cmd port up p1" ∷
    codes "cmd fdb add 02:00:00:00:00:0a dev p1 vlan 7 static" ∷
    codes "serve" ∷
    codes "turn 1" ∷
    [])

abbrev pub first_refusals_told : List ℕ
first_refusals_told = lines_text (
    codes "transcript 1" ∷
    codes "ok 1 3" ∷
    codes "refused 2 1" ∷
    codes "refused 3 3" ∷
    codes "refused 4 10" ∷
    codes "refused 5 11" ∷
    codes "bad 8 unended" ∷
    [])

-- no step, and a last line without its line feed
abbrev pub empty_scenario_text : List ℕ
empty_scenario_text = codes "scenario 1" ++ 10 ∷ codes "end"

abbrev pub empty_scenario_told : List ℕ
empty_scenario_told = lines_text (codes "transcript 1" ∷ codes "end 0 0 0 0" ∷ [])

-- three ports that are up, and published: how other runs begin
abbrev pub three_up : List (List ℕ)
three_up =
    codes "scenario 1" ∷
    codes "port 1 p1 soft" ∷
    codes "port 2 p2 soft" ∷
    codes "port 3 p3 soft" ∷
    codes "cmd port up p1" ∷
    codes "cmd port up p2" ∷
    codes "cmd port up p3" ∷
    codes "publish" ∷
    []

abbrev pub three_are_up : List (List ℕ)
three_are_up =
    codes "transcript 1" ∷
    codes "ok 1 3" ∷
    codes "ok 2 3" ∷
    codes "ok 3 3" ∷
    codes "ok 4 0" ∷
    []
