-- The refusals and their numbers, which stand for them in a transcript.
-- Source: this profile.
use Rattle.std.specs.Prelude.{ℕ, ◌==◌, List, [], ◌∷◌}
use Rattle.std.specs.List.{find}
use Rattle.std.specs.declared.option.Option.{Option}
use Rattle.br_model.specs.declared.steps.Refusal.{Refusal}
use Rattle.br_model.specs.declared.steps.Refusal.TheVariants.{PortIsUp, PortNotUp, NotMember, Exists, Absent, FdbFull, GroupsFull, HistoryFull}
use Rattle.br_model.specs.declared.steps.Refusal.TheVariants.{Backward, NothingWaiting, NothingPending, NothingReported, NotAGroup, NothingToPost, NoSuchPoint}

abbrev pub refusal_number : Refusal → ℕ
refusal_number PortIsUp = 1
refusal_number PortNotUp = 2
refusal_number NotMember = 3
refusal_number Exists = 4
refusal_number Absent = 5
refusal_number FdbFull = 6
refusal_number GroupsFull = 7
refusal_number HistoryFull = 8
refusal_number Backward = 9
refusal_number NothingWaiting = 10
refusal_number NothingPending = 11
refusal_number NothingReported = 12
refusal_number NotAGroup = 13
refusal_number NothingToPost = 14
refusal_number NoSuchPoint = 15

-- every refusal once
abbrev pub refusals : List Refusal
refusals =
    PortIsUp ∷ PortNotUp ∷ NotMember ∷ Exists ∷ Absent ∷ FdbFull ∷ GroupsFull ∷ HistoryFull ∷
    Backward ∷ NothingWaiting ∷ NothingPending ∷ NothingReported ∷ NotAGroup ∷ NothingToPost ∷ NoSuchPoint ∷ []

-- the refusal of that number
abbrev pub refusal_of : ℕ → Option Refusal
refusal_of n = find (λ refusal. n == refusal_number refusal) refusals
