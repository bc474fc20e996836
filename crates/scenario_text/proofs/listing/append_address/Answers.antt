use Rattle.std.proofs.Common.{ℕ, List, [], ◌∷◌, ◌++◌, ◌∙◌, ap}
use Rattle.std.specs.Fmt.{decimal}
use Rattle.std.specs.Prelude.{codes}
use Rattle.std.specs.String.{string_bytes}
use Rattle.std.proofs.lemmas.Result.{on_ok_weaker}
use Rattle.lemmas.proofs.Lists.{two_parts}
use Rattle.br_model.specs.Text.Spelling.{mac_text, kind_word}
use Rattle.scenario_text.proofs.listing.append_address.Goals as goal

pub returns : goal.returns
returns c =
    let rest = λ (v : ℕ) (kind : List ℕ). codes " dev " ++ (c.args.device.now ++ (codes " vlan " ++ (decimal v ++ (32 ∷ (kind ++ 10 ∷ []))))) in
    on_ok_weaker c.writeln.result
    (λ last.
    two_parts (string_bytes c.args.to.now) _ _ (mac_text c.args.mac) (rest c.args.vid (kind_word c.args.kind)) c.in_ok-append_mac.ensures
    (last
    ∙ ap (λ (v : ℕ). string_bytes c.append_mac.new.to ++ rest v c.kind_word-kind.result.now) c.number-vid.ensures.value
    ∙ ap (λ (kind : List ℕ). string_bytes c.append_mac.new.to ++ rest c.args.vid kind) c.kind_word-kind.ensures))
    c.writeln.ensures.bytes
