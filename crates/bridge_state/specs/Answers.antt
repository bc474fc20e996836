-- What a command is answered, by what its definition says.
use Rattle.std.specs.Prelude.{◌≡◌, List, Option, Vec, option_to_list}
use Rattle.std.specs.declared.alloc.Global.{Global}
use Rattle.std.specs.declared.result.Result.{Result}
use Rattle.std.specs.declared.result.Result.TheVariants.{Ok, Err}
use Rattle.br_model.specs.declared.change.Change.{Change}
use Rattle.br_model.specs.declared.steps.Refusal.{Refusal}
use Rattle.bridge_state.specs.declared.faults.EventFault.{EventFault}
use Rattle.bridge_state.specs.declared.faults.EventFault.TheVariants.{Refused, NoMemory}

-- its changes, or its refusal
abbrev pub Answers : Result (Vec Change Global) EventFault → Result (List Change) Refusal → Type 0
Answers (Ok changes) answer = answer ≡ Ok changes.items
Answers (Err (Refused why)) answer = answer ≡ Err why
Answers (Err NoMemory) answer = Unit {0}

-- its one change, if any, or its refusal
abbrev pub AnswersOne : Result (Option Change) EventFault → Result (List Change) Refusal → Type 0
AnswersOne (Ok change) answer = answer ≡ Ok (option_to_list change)
AnswersOne (Err (Refused why)) answer = answer ≡ Err why
AnswersOne (Err NoMemory) answer = Unit {0}
