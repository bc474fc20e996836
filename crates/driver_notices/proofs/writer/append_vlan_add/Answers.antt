use Rattle.std.proofs.Common.{ℕ, List, ◌++◌, ◌∙◌, ap}
use Rattle.std.specs.Fmt.{decimal}
use Rattle.std.specs.Prelude.{codes}
use Rattle.std.specs.String.{string_bytes}
use Rattle.std.proofs.lemmas.Result.{on_ok_weaker}
use Rattle.br_model.specs.Text.Spelling.{device_text}
use Rattle.driver_notices.proofs.writer.append_vlan_add.Goals as goal

pub returns : goal.returns
returns c =
    let text = λ (v : ℕ) (device marks : List ℕ). string_bytes c.args.to.now ++ (codes "port_obj_add port_vlan vid " ++ (decimal v ++ (codes " dev " ++ (device ++ marks)))) in
    on_ok_weaker c.write.result
    (λ last.
    last ∙ ap (λ (v : ℕ). text v c.device-device.result.now c.marks-marks.result.now) c.number-vid.ensures.value
    ∙ ap (λ (device : List ℕ). text c.args.vid device c.marks-marks.result.now) c.device-device.ensures
    ∙ ap (λ (marks : List ℕ). text c.args.vid (device_text c.args.roster.now.ports c.args.port) marks) c.marks-marks.ensures)
    c.write.ensures.bytes
