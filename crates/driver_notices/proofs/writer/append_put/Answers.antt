use Rattle.std.proofs.Common.{ℕ, List, [], ◌∷◌, ◌++◌, ◌∙◌, ap}
use Rattle.std.specs.Fmt.{decimal}
use Rattle.std.specs.Prelude.{codes}
use Rattle.std.specs.String.{string_bytes}
use Rattle.std.proofs.lemmas.Result.{on_ok_weaker}
use Rattle.lemmas.proofs.Lists.{three_parts}
use Rattle.br_model.specs.Text.Spelling.{device_text, kind_word, mac_text}
use Rattle.driver_notices.proofs.writer.append_put.Goals as goal

pub returns : goal.returns
returns c =
    let rest = λ (v : ℕ) (device kind : List ℕ). codes " dev " ++ (device ++ (codes " vlan " ++ (decimal v ++ (32 ∷ (kind ++ 10 ∷ []))))) in
    let device = device_text c.args.roster.now.ports c.args.port in
    on_ok_weaker c.writeln.result
    (λ last.
    three_parts (string_bytes c.args.to.now) _ _ _ (codes "fdb_add_to_device ") (mac_text c.args.mac) (rest c.args.vid device (kind_word c.args.kind))
    c.in_ok-push_str.ensures.bytes c.in_ok-append_mac.ensures
    (last
    ∙ ap (λ (v : ℕ). string_bytes c.append_mac.new.to ++ rest v c.device-device.result.now c.kind_word-kind.result.now) c.number-vid.ensures.value
    ∙ ap (λ (d : List ℕ). string_bytes c.append_mac.new.to ++ rest c.args.vid d c.kind_word-kind.result.now) c.device-device.ensures
    ∙ ap (λ (kind : List ℕ). string_bytes c.append_mac.new.to ++ rest c.args.vid device kind) c.kind_word-kind.ensures))
    c.writeln.ensures.bytes
