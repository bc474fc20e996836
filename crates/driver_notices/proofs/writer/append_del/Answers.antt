use Rattle.std.proofs.Common.{ℕ, [], ◌∷◌, ◌++◌, ◌∙◌, ap}
use Rattle.std.specs.Fmt.{decimal}
use Rattle.std.specs.Prelude.{codes}
use Rattle.std.specs.String.{string_bytes}
use Rattle.std.proofs.lemmas.Result.{on_ok_weaker}
use Rattle.lemmas.proofs.Lists.{three_parts}
use Rattle.br_model.specs.Text.Spelling.{mac_text}
use Rattle.driver_notices.proofs.writer.append_del.Goals as goal

pub returns : goal.returns
returns c =
    let rest = λ (v : ℕ). codes " vlan " ++ (decimal v ++ 10 ∷ []) in
    on_ok_weaker c.writeln.result
    (λ last.
    three_parts (string_bytes c.args.to.now) _ _ _ (codes "fdb_del_to_device ") (mac_text c.args.mac) (rest c.args.vid)
    c.in_ok-push_str.ensures.bytes c.in_ok-append_mac.ensures
    (last ∙ ap (λ (v : ℕ). string_bytes c.append_mac.new.to ++ rest v) c.number-vid.ensures.value))
    c.writeln.ensures.bytes
