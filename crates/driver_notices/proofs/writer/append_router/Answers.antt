use Rattle.std.proofs.Common.{ℕ, List, [], ◌∷◌, ◌++◌, ◌∙◌, ap}
use Rattle.std.specs.Prelude.{codes}
use Rattle.std.specs.String.{string_bytes}
use Rattle.std.proofs.lemmas.Result.{on_ok_weaker}
use Rattle.br_model.specs.Text.Spelling.{device_text}
use Rattle.driver_notices.proofs.writer.append_router.Goals as goal

pub returns : goal.returns
returns c =
    let text = λ (device word : List ℕ). string_bytes c.args.to.now ++ (codes "port_attr_set port_mrouter dev " ++ (device ++ (32 ∷ (word ++ 10 ∷ [])))) in
    on_ok_weaker c.writeln.result
    (λ last.
    last ∙ ap (λ (device : List ℕ). text device c.switch_word-switch.result.now) c.device-device.ensures
    ∙ ap (λ (word : List ℕ). text (device_text c.args.roster.now.ports c.args.port) word) c.switch_word-switch.ensures)
    c.writeln.ensures.bytes
