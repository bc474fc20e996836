use Rattle.std.proofs.Common.{ℕ, List, [], ◌∷◌, ◌++◌, ◌∙◌, ap}
use Rattle.std.specs.Fmt.{decimal}
use Rattle.std.specs.Prelude.{codes}
use Rattle.std.specs.String.{string_bytes}
use Rattle.std.proofs.lemmas.Result.{on_ok_weaker}
use Rattle.lemmas.proofs.Lists.{two_parts}
use Rattle.br_model.specs.Text.Spelling.{further, kind_word, mac_text}
use Rattle.neigh_netlink.proofs.row_lines.append_row.Goals as goal

pub returns : goal.returns
returns c =
    let row = c.args.row.now in
    let rest = λ (p v : ℕ) (kind mark : List ℕ). codes " port " ++ (decimal p ++ (codes " vlan " ++ (decimal v ++ (32 ∷ kind ++ (mark ++ 10 ∷ []))))) in
    on_ok_weaker c.writeln.result
    (λ last.
    two_parts (string_bytes c.args.text.now) _ _ (mac_text row.1) (rest row.2 row.0 (kind_word row.3) (further row.4 (codes "offload"))) c.in_ok-append_mac.ensures
    (last
    ∙ ap (λ (p : ℕ). string_bytes c.append_mac.new.to ++ rest p c.number-vid.result c.kind_word-kind.result.now c.mark-mark.result.now) c.number-port.ensures.value
    ∙ ap (λ (v : ℕ). string_bytes c.append_mac.new.to ++ rest row.2 v c.kind_word-kind.result.now c.mark-mark.result.now) c.number-vid.ensures.value
    ∙ ap (λ (kind : List ℕ). string_bytes c.append_mac.new.to ++ rest row.2 row.0 kind c.mark-mark.result.now) c.kind_word-kind.ensures
    ∙ ap (λ (mark : List ℕ). string_bytes c.append_mac.new.to ++ rest row.2 row.0 (kind_word row.3) mark) c.mark-mark.ensures))
    c.writeln.ensures.bytes
