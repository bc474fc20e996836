use Rattle.std.proofs.Common.{◌≡◌, ◌+◌, ◌*◌, ◌≤◌, ◌++◌}
use Rattle.std.specs.String.{string_bytes, string_len, string_capacity}
use Rattle.br_model.specs.Program.Generator.{made}
use Rattle.scenario_generator.specs.Generating.{text_left}
use Rattle.scenario_generator.proofs.generator.generate.Given as goal

abbrev pub invariant-loop : goal.invariant-loop
invariant-loop l = record {
  text : string_bytes l.text ++ text_left l.generator ≡ made l.x l.count;
  left : l.generator.left + l.counter ≡ l.count;
  room : string_len l.text + (83 * l.generator.left + 4) ≤ string_capacity l.text;
}
