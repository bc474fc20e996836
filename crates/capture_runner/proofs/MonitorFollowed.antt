-- What `monitor` writes, `follow` takes.
use Rattle.std.proofs.Common.{◌≡◌, ℕ, ◌+◌, true, false, List, [], ◌∷◌, ◌++◌, length, ap, ◌∙◌, arith}
use Rattle.std.specs.Prelude.{codes}
use Rattle.std.specs.List.{flat_map, list_all}
use Rattle.br_model.specs.Program.Outcomes.{EndsWithin}
use Rattle.br_model.specs.Program.Runs.{run_of, setup_of}
use Rattle.br_model.specs.Table.Limits.{most_bytes}
use Rattle.br_model.specs.Text.Operands.{is_byte}
use Rattle.br_model.specs.Text.Scenario.{Ending, Ended, scenario}
use Rattle.neigh_netlink.specs.Follow as following
use Rattle.neigh_netlink.specs.Follow.{Following, followed, followed_at, follows, row_line}
use Rattle.neigh_netlink.specs.Monitor.{messages, monitored, monitored_at}
use Rattle.neigh_netlink.specs.Neighbours.{rows}
use Rattle.neigh_netlink.specs.Offloaded.{entries_of}
use Rattle.neigh_netlink.specs.MessageLines.{message_lines}
use Rattle.neigh_netlink.specs.FollowedMessages.{text_of}
use Rattle.neigh_netlink.proofs.FewMessages.{lines-few}
use Rattle.neigh_netlink.proofs.WholeRuns.{lined-followed}
use Rattle.scenario_reader.proofs.ScenarioLines.{steps_have_lines}
use Rattle.scenario_reader.proofs.ScenarioPorts.{ports_are_declared}

monitored-is : (bytes : List ℕ) → (scenario bytes).ending ≡ Ended → monitored bytes ≡ text_of (messages (setup_of (scenario bytes).roster) (scenario bytes).steps)
unfolding monitored
monitored-is bytes ended = ap (λ (d : Ending). monitored_at d (scenario bytes)) ended

pub monitored-followed : (bytes : List ℕ) → list_all is_byte bytes ≡ true → (scenario bytes).ending ≡ Ended → follows (monitored bytes)
    ≡ record { lines = length (messages (setup_of (scenario bytes).roster) (scenario bytes).steps) + 1; table = entries_of (run_of (scenario bytes)).0; ending = following.Ended }
monitored-followed bytes are ended =
    ap follows (monitored-is bytes ended)
    ∙ lined-followed (scenario bytes).roster.ports (setup_of (scenario bytes).roster) (scenario bytes).steps (ports_are_declared false bytes) (steps_have_lines false bytes are)

pub followed-text : (bytes : List ℕ) → list_all is_byte bytes ≡ true → (scenario bytes).ending ≡ Ended
    → followed (monitored bytes) ≡ flat_map row_line (rows (entries_of (run_of (scenario bytes)).0)) ++ (codes "end" ++ 10 ∷ [])
unfolding followed
followed-text bytes are ended = ap (λ (f : Following). followed_at f.ending f.table) (monitored-followed bytes are ended)

pub monitored-within : (bytes : List ℕ) → list_all is_byte bytes ≡ true → (scenario bytes).ending ≡ Ended → EndsWithin message_lines most_bytes (monitored bytes)
monitored-within bytes are ended = record {
  ended = ap (λ (f : Following). f.ending) (monitored-followed bytes are ended);
  seen = λ full.
      absurd (omega (arith, full, ap length (monitored-is bytes ended), lines-few (setup_of (scenario bytes).roster) (scenario bytes).steps));
}
