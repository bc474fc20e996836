use Rattle.std.proofs.Common.{ℕ, List, [], ◌∷◌, ◌++◌, ◌∙◌, ap}
use Rattle.std.specs.Fmt.{decimal}
use Rattle.std.specs.Prelude.{codes}
use Rattle.std.specs.String.{string_bytes}
use Rattle.std.proofs.lemmas.Result.{on_ok_weaker}
use Rattle.lemmas.proofs.Lists.{three_parts}
use Rattle.br_model.specs.Program.Listings.{group_text}
use Rattle.br_model.specs.Text.Spelling.{device_text}
use Rattle.driver_notices.specs.Lines.{group_object}
use Rattle.driver_notices.proofs.writer.append_member.Goals as goal

pub returns : goal.returns
returns c =
    let rest = λ (v : ℕ) (device : List ℕ). codes " dev " ++ (device ++ (codes " vlan " ++ (decimal v ++ 10 ∷ []))) in
    let old = string_bytes c.args.to.now in
    on_ok_weaker c.writeln.result
    (λ last.
    three_parts old _ _ _ (group_object c.args.port) (group_text c.args.group) (rest c.args.vid (device_text c.args.roster.now.ports c.args.port))
    (c.in_ok-push_str.ensures.bytes ∙ ap (λ (object : List ℕ). old ++ object) c.group_object-object.ensures)
    c.in_ok-append_group.ensures
    (last
    ∙ ap (λ (v : ℕ). string_bytes c.append_group.new.to ++ rest v c.device-device.result.now) c.number-vid.ensures.value
    ∙ ap (λ (d : List ℕ). string_bytes c.append_group.new.to ++ rest c.args.vid d) c.device-device.ensures))
    c.writeln.ensures.bytes
