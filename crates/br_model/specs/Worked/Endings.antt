-- Runs that stop on their way, and where a scenario has to end to be seen to.
-- Source: this profile; worked out by hand.
use Rattle.std.specs.Prelude.{ℕ, List, [], ◌∷◌, ◌++◌, codes, map}
use Rattle.br_model.specs.Program.Runs.{body_parts}
use Rattle.br_model.specs.Theorems.WholeLines.{lines_text}
use Rattle.br_model.specs.Worked.Rows.{first_frame_text}

-- the parts of a transcript: nothing; its first line; that of one step; those of five steps, and of a frame that enters without a line;
-- those of the serve; and no more
abbrev pub parts_of_first_frame : List (List ℕ)
parts_of_first_frame = map (λ n. body_parts n first_frame_text) (0 ∷ 1 ∷ 2 ∷ 7 ∷ 8 ∷ 9 ∷ [])

abbrev pub five_done : List (List ℕ)
five_done =
    codes "transcript 1" ∷
    codes "ok 1 3" ∷
    codes "ok 2 3" ∷
    codes "ok 3 1" ∷
    codes "ok 4 1" ∷
    codes "ok 5 0" ∷
    []

abbrev pub all_done : List (List ℕ)
all_done = five_done ++ (codes "soft 1 at 8" ∷ codes "tx 1 2 02000000000b02000000000a88b50102" ∷ codes "ok 7 0" ∷ [])

abbrev pub first_frame_parts : List (List ℕ)
first_frame_parts =
    [] ∷
    lines_text (codes "transcript 1" ∷ []) ∷
    lines_text (codes "transcript 1" ∷ codes "ok 1 3" ∷ []) ∷
    lines_text five_done ∷
    lines_text all_done ∷
    lines_text all_done ∷
    []

-- fifteen bytes
abbrev pub ended_text : List ℕ
ended_text = lines_text (codes "scenario 1" ∷ codes "end" ∷ [])

-- fourteen, the last line without its line feed
abbrev pub unfed_text : List ℕ
unfed_text = lines_text (codes "scenario 1" ∷ []) ++ codes "end"
