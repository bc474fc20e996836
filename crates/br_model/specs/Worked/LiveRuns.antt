-- Steps that workers may have taken, and steps that they may not.
-- Source: this profile; worked out by hand.
use Rattle.std.specs.Prelude.{ℕ, Bool, true, false, List, [], ◌∷◌, ◌++◌, codes, map}
use Rattle.std.specs.Option.{unwrap_or}
use Rattle.std.specs.declared.option.Option.TheVariants.{Some}
use Rattle.br_model.specs.declared.steps.Command.TheVariants.{PortUp}
use Rattle.br_model.specs.declared.steps.Step.{Step}
use Rattle.br_model.specs.declared.steps.Step.TheVariants.{Rx, Cmd, Now, Serve, Hold, Post, Turn, Report, Publish}
use Rattle.br_model.specs.Data.Digits.{bytes_from_hex}
use Rattle.br_model.specs.Program.LiveRun.{is_live_run}
use Rattle.br_model.specs.Program.LiveText.{live_text}
use Rattle.br_model.specs.Text.Scenario.{scenario}
use Rattle.br_model.specs.Theorems.WholeLines.{lines_text}

-- two frames at ports of software
abbrev pub two_frames : List ℕ
two_frames = lines_text (
    codes "scenario 1" ∷
    codes "port 1 p1 soft" ∷
    codes "port 2 p2 soft" ∷
    codes "cmd port up p1" ∷
    codes "cmd port up p2" ∷
    codes "publish" ∷
    codes "rx 1 02000000000b02000000000a88b50102" ∷
    codes "serve" ∷
    codes "rx 2 02000000000a02000000000b88b50102" ∷
    codes "end" ∷
    [])

abbrev pub a_to_b : Step
a_to_b = Rx 1 (unwrap_or (bytes_from_hex (codes "02000000000b02000000000a88b50102")) [])

abbrev pub b_to_a : Step
b_to_a = Rx 2 (unwrap_or (bytes_from_hex (codes "02000000000a02000000000b88b50102")) [])

-- another frame
abbrev pub a_elsewhere : Step
a_elsewhere = Rx 2 (unwrap_or (bytes_from_hex (codes "02000000000b02000000000a88b50102")) [])

abbrev pub drained : List Step
drained = Turn 1 ∷ Turn 1 ∷ Publish ∷ []

abbrev pub begun : List Step
begun = Cmd (PortUp 1) ∷ Cmd (PortUp 2) ∷ Publish ∷ []

-- Both are held before the first is posted, and each post is published. The chip of domain 1, which has no ports, applies what was
-- learned.
abbrev pub workers : List Step
workers = a_to_b ∷ b_to_a ∷ Hold ∷ Hold ∷ Post 1 (Some 6) ∷ Publish ∷ Post 2 (Some 7) ∷ Publish ∷ drained

-- The frame of the other port comes first; there are more publications, before the last step that stands before the first frame and
-- behind it; all is left to the drain; the drain has steps that are refused.
abbrev pub may_be : List (List Step)
may_be =
    (begun ++ workers) ∷
    (begun ++ (b_to_a ∷ Hold ∷ Post 1 (Some 6) ∷ Publish ∷ a_to_b ∷ Hold ∷ Post 2 (Some 7) ∷ Publish ∷ drained)) ∷
    (Publish ∷ begun ++ workers) ∷
    (begun ++ (Publish ∷ Publish ∷ workers)) ∷
    (begun ++ (a_to_b ∷ b_to_a ∷ Serve ∷ Serve ∷ drained)) ∷
    (begun ++ (workers ++ (Turn 1 ∷ Report 1 ∷ Publish ∷ []))) ∷
    []

-- A frame is missing, comes twice, waits, is held, or is another one; a moment that the scenario doesn't have; a serve before its steps;
-- what is accepted isn't published at once, by a serve and by a post; no publication at the end; a turn too few; no step at all.
abbrev pub may_not_be : List (List Step)
may_not_be =
    (begun ++ (a_to_b ∷ Serve ∷ drained)) ∷
    (begun ++ (a_to_b ∷ workers ++ (Serve ∷ drained))) ∷
    (begun ++ (a_to_b ∷ b_to_a ∷ Serve ∷ drained)) ∷
    (begun ++ (a_to_b ∷ b_to_a ∷ Hold ∷ Serve ∷ drained)) ∷
    (begun ++ (a_to_b ∷ a_elsewhere ∷ Serve ∷ Serve ∷ drained)) ∷
    (begun ++ (Now 5 ∷ workers)) ∷
    (Serve ∷ begun ++ workers) ∷
    (begun ++ (a_to_b ∷ Serve ∷ b_to_a ∷ Serve ∷ drained)) ∷
    (begun ++ (a_to_b ∷ b_to_a ∷ Hold ∷ Hold ∷ Post 1 (Some 6) ∷ Post 2 (Some 6) ∷ Publish ∷ drained)) ∷
    (begun ++ (a_to_b ∷ b_to_a ∷ Serve ∷ Serve ∷ Turn 1 ∷ Turn 1 ∷ [])) ∷
    (begun ++ (a_to_b ∷ b_to_a ∷ Serve ∷ Serve ∷ Turn 1 ∷ Publish ∷ [])) ∷
    [] ∷
    []

abbrev pub judged : List (List Step) → List Bool
judged runs = map (λ steps. is_live_run steps (scenario two_frames)) runs

abbrev pub six_times : List Bool
six_times = true ∷ true ∷ true ∷ true ∷ true ∷ true ∷ []

abbrev pub twelve_times_not : List Bool
twelve_times_not = false ∷ false ∷ false ∷ false ∷ false ∷ false ∷ false ∷ false ∷ false ∷ false ∷ false ∷ false ∷ []

-- what is written of the workers' steps
abbrev pub workers_written : List ℕ
workers_written = live_text (scenario two_frames) (begun ++ workers)

abbrev pub workers_lines : List ℕ
workers_lines = lines_text (
    codes "scenario 1" ∷
    codes "bridge 02:00:00:00:00:01" ∷
    codes "port 1 p1 soft" ∷
    codes "port 2 p2 soft" ∷
    codes "cmd port up p1" ∷
    codes "cmd port up p2" ∷
    codes "publish" ∷
    codes "rx 1 02000000000b02000000000a88b50102" ∷
    codes "rx 2 02000000000a02000000000b88b50102" ∷
    codes "hold" ∷
    codes "hold" ∷
    codes "post 1 at 6" ∷
    codes "publish" ∷
    codes "post 2 at 7" ∷
    codes "publish" ∷
    codes "turn 1" ∷
    codes "turn 1" ∷
    codes "publish" ∷
    codes "end" ∷
    codes "transcript 1" ∷
    codes "ok 1 3" ∷
    codes "ok 2 3" ∷
    codes "ok 3 0" ∷
    codes "held 1 6" ∷
    codes "held 2 6" ∷
    codes "soft 1 at 6" ∷
    codes "tx 1 2 02000000000b02000000000a88b50102" ∷
    codes "ok 8 1" ∷
    codes "ok 9 0" ∷
    codes "soft 2 at 7" ∷
    codes "tx 2 1 02000000000a02000000000b88b50102" ∷
    codes "ok 10 1" ∷
    codes "ok 11 0" ∷
    codes "ok 12 0" ∷
    codes "ok 13 0" ∷
    codes "ok 14 0" ∷
    codes "end 14 8 0 0" ∷
    [])
