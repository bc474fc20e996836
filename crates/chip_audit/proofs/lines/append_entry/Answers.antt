use Rattle.std.proofs.Common.{ℕ, List, ◌∷◌, ◌++◌, ◌∙◌, ap, append_assoc}
use Rattle.std.specs.Fmt.{decimal}
use Rattle.std.specs.Prelude.{codes}
use Rattle.std.specs.String.{string_bytes}
use Rattle.std.proofs.lemmas.Result.{on_ok_weaker}
use Rattle.br_model.specs.Text.Spelling.{mac_text, device_text, kind_word}
use Rattle.chip_audit.proofs.lines.append_entry.Goals as goal

pub returns : goal.returns
returns c =
    let rest = λ (v : ℕ) (name kind : List ℕ). codes " dev " ++ (name ++ (codes " vlan " ++ (decimal v ++ (32 ∷ kind)))) in
    let old = string_bytes c.args.to.now in
    let mid = string_bytes c.append_mac.new.to in
    let named = device_text c.args.roster.now.ports c.args.port in
    on_ok_weaker c.write.result
    (λ last.
    last
    ∙ ap (λ (v : ℕ). mid ++ rest v c.device-name.result.now c.kind_word-kind.result.now) c.number-vid.ensures.value
    ∙ ap (λ (name : List ℕ). mid ++ rest c.args.key.now.0 name c.kind_word-kind.result.now) c.device-name.ensures
    ∙ ap (λ (kind : List ℕ). mid ++ rest c.args.key.now.0 named kind) c.kind_word-kind.ensures
    ∙ ap (λ (s : List ℕ). s ++ rest c.args.key.now.0 named (kind_word c.args.kind)) c.in_ok-append_mac.ensures
    ∙ append_assoc old (mac_text c.args.key.now.1) (rest c.args.key.now.0 named (kind_word c.args.kind)))
    c.write.ensures.bytes
