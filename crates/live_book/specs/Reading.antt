-- What a line of a run tells of the step that wrote it. Steps are numbered from 1 on.
-- Source: this profile.
use Rattle.std.specs.Prelude.{ℕ, ◌-◌, ◌==◌, nat_lt, nat_le, Bool, true, false, ◌||◌, if◌then◌else◌, List}
use Rattle.std.specs.List.{fold, slice_get}
use Rattle.std.specs.Option.{option_map_or}
use Rattle.std.specs.declared.option.Option.{Option}
use Rattle.std.specs.declared.option.Option.TheVariants.{None, Some}
use Rattle.std.specs.declared.result.Result.{Result}
use Rattle.std.specs.declared.result.Result.TheVariants.{Ok, Err}
use Rattle.br_model.specs.declared.steps.Refusal.{Refusal}
use Rattle.br_model.specs.declared.steps.Step.{Step}
use Rattle.br_model.specs.declared.transcript.Line.{Line}
use Rattle.br_model.specs.Plane.LineTraits.{line_traits}
use Rattle.br_model.specs.Program.LiveRun.{is_full, is_publish, is_report_at}

abbrev pub publishes : Option Step → Bool
publishes None = false
publishes (Some s) = is_publish s

-- The step of this number stands in the first part or in the drain, which begin behind so many steps, or a publication comes next.
abbrev pub may_change : List Step → ℕ → ℕ → ℕ → Bool
may_change steps first drain number = nat_le number first || (nat_lt drain number || publishes (slice_get steps number))

-- whether a step that ends so accepts no changes
abbrev pub accepts_none : Result ℕ Refusal → Bool
accepts_none (Ok changes) = changes == 0
accepts_none (Err why) = true

-- A step that accepted changes is one that may: by what the line that ends it says, if one does.
abbrev pub is_end_published : (ℕ → Bool) → Option (ℕ × Result ℕ Refusal) → Bool
is_end_published may answer = option_map_or (λ a. accepts_none a.1 || may a.0) answer true

abbrev pub is_published : (ℕ → Bool) → Line → Bool
is_published may l = is_end_published may (line_traits l).answer

abbrev pub is_report_of : ℕ → Option Step → Bool
is_report_of dom None = false
is_report_of dom (Some s) = is_report_at dom s

-- whether the step of this number is a report of the domain's chip
abbrev pub reports : List Step → ℕ → ℕ → Bool
reports steps dom number = is_report_of dom (slice_get steps (number - 1))

-- Whether the last report was refused for want of room, after a step that ends so: of these numbers are the reports.
abbrev pub refused_by : (ℕ → Bool) → Bool → Option (ℕ × Result ℕ Refusal) → Bool
refused_by is_report before answer = option_map_or (λ a. if is_report a.0 then is_full a.1 else before) answer before

-- the same after a line more
abbrev pub refused_after : (ℕ → Bool) → Bool → Line → Bool
refused_after is_report before l = refused_by is_report before (line_traits l).answer

-- whether the lines tell that the last report of this domain's chip was refused for want of room
abbrev pub was_refused : List Step → List Line → ℕ → Bool
was_refused steps told dom = fold (refused_after (reports steps dom)) false told
