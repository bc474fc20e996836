use Rattle.std.proofs.Common.{ℕ, List, [], ◌∷◌, ◌++◌, ◌∙◌, ap}
use Rattle.std.specs.Prelude.{codes}
use Rattle.std.specs.String.{string_bytes}
use Rattle.std.proofs.lemmas.Result.{on_ok_weaker}
use Rattle.driver_notices.proofs.writer.append_snoop.Goals as goal

pub returns : goal.returns
returns c =
    on_ok_weaker c.writeln.result
    (λ last.
    last ∙ ap (λ (word : List ℕ). string_bytes c.args.to.now ++ (codes "port_attr_set bridge_mc_disabled " ++ (word ++ 10 ∷ []))) c.switch_word-switch.ensures)
    c.writeln.ensures.bytes
