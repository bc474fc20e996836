-- Worked runs with a frame that is held, and with steps of a domain that has no chip: no line of a scenario says so yet.
-- Source: this profile; the lines were worked out by hand.
use Rattle.std.specs.Prelude.{ℕ, List, [], ◌∷◌, ◌++◌, codes}
use Rattle.std.specs.declared.option.Option.TheVariants.{None}
use Rattle.std.specs.Option.{unwrap_or}
use Rattle.br_model.specs.declared.domains.Edition.TheVariants.{One}
use Rattle.br_model.specs.declared.change.Kind.TheVariants.{Static}
use Rattle.br_model.specs.declared.steps.Command.TheVariants.{PortUp, FdbAdd}
use Rattle.br_model.specs.declared.steps.Step.{Step}
use Rattle.br_model.specs.declared.steps.Step.TheVariants.{Rx, Cmd, Hold, Post, Turn, Report, Sweep, Publish}
use Rattle.br_model.specs.Data.Digits.{bytes_from_hex}
use Rattle.br_model.specs.Plane.Runs.{run, end_line}
use Rattle.br_model.specs.Plane.World.{Stepped}
use Rattle.br_model.specs.Table.Domains.{software}
use Rattle.br_model.specs.Table.Setup.{Setup, first_own}
use Rattle.br_model.specs.Text.Transcript.{text, line_text}
use Rattle.br_model.specs.Theorems.WholeLines.{lines_text}

-- the text of a run, with its last line
abbrev pub lines_of : Stepped → List ℕ
lines_of x = text x.1 ++ line_text (end_line x.0)

-- three ports of software
abbrev pub soft_ports : Setup
soft_ports = record { domains = record { edition = One; ports = (0, 0) ∷ (1, 0) ∷ (2, 0) ∷ (3, 0) ∷ [] }; own = first_own }

-- a frame to station b
abbrev pub a_to_b : List ℕ
a_to_b = unwrap_or (bytes_from_hex (codes "02000000000b02000000000a88b50102")) []

abbrev pub station_b : ℕ
station_b = 0x02000000000B

-- A frame that is held is decided by what was published when it was taken, and is sent once.
abbrev pub hold_steps : List Step
hold_steps =
    Cmd (PortUp 1) ∷
    Cmd (PortUp 2) ∷
    Cmd (PortUp 3) ∷
    Publish ∷
    Rx 1 a_to_b ∷
    Hold ∷
    Cmd (FdbAdd 1 station_b 2 Static) ∷
    Publish ∷
    Post 1 None ∷
    Post 1 None ∷
    []

abbrev pub hold_lines : List ℕ
hold_lines = lines_text (
    codes "ok 1 3" ∷
    codes "ok 2 3" ∷
    codes "ok 3 3" ∷
    codes "ok 4 0" ∷
    codes "held 1 9" ∷
    codes "ok 7 1" ∷
    codes "ok 8 0" ∷
    codes "soft 1 at 9" ∷
    codes "tx 1 2 02000000000b02000000000a88b50102" ∷
    codes "tx 1 3 02000000000b02000000000a88b50102" ∷
    codes "ok 9 1" ∷
    codes "refused 10 14" ∷
    codes "end 10 11 2 0" ∷
    [])

abbrev pub hold_told : List ℕ
hold_told = lines_of (run soft_ports hold_steps)

-- Where there is no chip, nothing is pending or reported, and a sweep forgets nothing.
abbrev pub no_chip_steps : List Step
no_chip_steps = Turn software ∷ Report software ∷ Sweep software ∷ []

abbrev pub no_chip_lines : List ℕ
no_chip_lines = lines_text (codes "refused 1 11" ∷ codes "refused 2 12" ∷ codes "ok 3 0" ∷ codes "end 3 0 0 0" ∷ [])

abbrev pub no_chip_told : List ℕ
no_chip_told = lines_of (run soft_ports no_chip_steps)
