-- A command that never says no ends as one that reads lines does.
use Rattle.std.proofs.Common.{◌≡◌, true, false, List, ℕ, sym, ◌∙◌}
use Rattle.br_model.specs.Program.Outcomes.{Call}
use Rattle.br_model.specs.Table.Limits.{most_bytes}
use Rattle.run_status.specs.declared.status.Status.{Status}
use Rattle.run_status.specs.declared.status.Status.TheVariants as statuses
use Rattle.run_status.specs.Statuses.{At, EndsIn, Ways, no_parts, nothing, reading_ways}
use Rattle.whole_answer.specs.Answers.{Asked, answer_ways}

module _ (failed : Type 0) (asked : Asked) (always : (bytes : List ℕ) → asked.yes bytes ≡ true) where
  abbrev ways : Ways
  ways = reading_ways failed asked.lines most_bytes asked.text nothing no_parts

  at_so : (s : Status) (call : Call) → At (answer_ways failed asked) s call → At ways s call
  at_so statuses.Ok call h = (h.answers, h.within)
  at_so statuses.No call h = let no : true ≡ false = sym (always h.answers.input) ∙ h.yes_so in absurd (cc)
  at_so statuses.Usage call h = h
  at_so statuses.BadLine call h = h
  at_so statuses.ReadFault call h = h
  at_so statuses.WriteFault call h = h
  at_so statuses.NoMemory call h = h
  at_so statuses.TooLong call h = h

  pub reads_so : (r : Status) (call : Call) → EndsIn (answer_ways failed asked) r call → EndsIn ways r call
  reads_so statuses.WriteFault call h = record {
    output = h.output;
    wrote = h.wrote;
    missing = h.missing;
    some = h.some;
    otherwise = (h.otherwise.0, at_so h.otherwise.0 _ h.otherwise.1);
  }
  reads_so statuses.Ok call h = at_so statuses.Ok call h
  reads_so statuses.No call h = at_so statuses.No call h
  reads_so statuses.Usage call h = h
  reads_so statuses.BadLine call h = h
  reads_so statuses.ReadFault call h = h
  reads_so statuses.NoMemory call h = h
  reads_so statuses.TooLong call h = h
