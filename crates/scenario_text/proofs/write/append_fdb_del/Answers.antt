use Rattle.std.proofs.Common.{ℕ, ◌++◌, ◌∙◌, ap}
use Rattle.std.specs.Fmt.{decimal}
use Rattle.std.specs.Prelude.{codes}
use Rattle.std.specs.String.{string_bytes}
use Rattle.std.proofs.lemmas.Result.{on_ok_weaker}
use Rattle.lemmas.proofs.Lists.{three_parts}
use Rattle.br_model.specs.Text.Spelling.{mac_text}
use Rattle.scenario_text.proofs.write.append_fdb_del.Goals as goal

pub returns : goal.returns
returns c =
    on_ok_weaker c.write.result
    (λ last.
    three_parts (string_bytes c.args.to.now) _ _ _ (codes "cmd fdb del ") (mac_text c.args.mac) (codes " vlan " ++ decimal c.args.vid)
    c.in_ok-push_str.ensures.bytes c.in_ok-append_mac.ensures
    (last ∙ ap (λ (v : ℕ). string_bytes c.append_mac.new.to ++ (codes " vlan " ++ decimal v)) c.number-vid.ensures.value))
    c.write.ensures.bytes
