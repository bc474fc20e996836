use Rattle.std.proofs.Common.{ℕ, List, [], ◌∷◌, ◌++◌, ◌∙◌, ap}
use Rattle.std.specs.Fmt.{decimal}
use Rattle.std.specs.Prelude.{codes}
use Rattle.std.specs.String.{string_bytes}
use Rattle.std.proofs.lemmas.Result.{on_ok_weaker}
use Rattle.driver_notices.proofs.writer.append_vlan_del.Goals as goal

pub returns : goal.returns
returns c =
    let text = λ (v : ℕ) (device : List ℕ). string_bytes c.args.to.now ++ (codes "port_obj_del port_vlan vid " ++ (decimal v ++ (codes " dev " ++ (device ++ 10 ∷ [])))) in
    on_ok_weaker c.writeln.result
    (λ last.
    last ∙ ap (λ (v : ℕ). text v c.device-device.result.now) c.number-vid.ensures.value
    ∙ ap (λ (device : List ℕ). text c.args.vid device) c.device-device.ensures)
    c.writeln.ensures.bytes
