use Rattle.std.proofs.Common.{ℕ, List, ◌++◌, ◌∙◌, ap}
use Rattle.std.specs.Fmt.{decimal}
use Rattle.std.specs.Prelude.{codes}
use Rattle.std.specs.String.{string_bytes}
use Rattle.std.proofs.lemmas.Result.{on_ok_weaker}
use Rattle.br_model.specs.Text.Spelling.{device_text}
use Rattle.scenario_text.proofs.Written.{vlan_add_words}
use Rattle.scenario_text.proofs.write.append_vlan_add.Goals as goal

pub returns : goal.returns
returns c =
    let text = λ (v : ℕ) (device marks : List ℕ). string_bytes c.args.to.now ++ (codes "cmd vlan add vid " ++ (decimal v ++ (codes " dev " ++ (device ++ marks)))) in
    on_ok_weaker c.write.result
    (λ last.
    last ∙ ap (λ (v : ℕ). text v c.device-device.result.now c.marks-marks.result.now) c.number-vid.ensures.value
    ∙ ap (λ (device : List ℕ). text c.args.vid device c.marks-marks.result.now) c.device-device.ensures
    ∙ ap (λ (marks : List ℕ). text c.args.vid (device_text c.args.roster.now.ports c.args.port) marks) c.marks-marks.ensures
    ∙ ap (λ (line : List ℕ). string_bytes c.args.to.now ++ line) (vlan_add_words c.args.roster.now.ports c.args.port c.args.vid c.args.untagged c.args.pvid))
    c.write.ensures.bytes
