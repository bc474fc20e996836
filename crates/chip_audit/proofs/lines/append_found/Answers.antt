use Rattle.std.proofs.Common.{ℕ, List, [], ◌∷◌, ◌++◌, ◌∙◌, ap, append_assoc, codes, string_bytes}
use Rattle.chip_audit.specs.Lines.{entry_text, offload_word}
use Rattle.chip_audit.proofs.lines.append_found.Goals as goal

pub returns : goal.returns
unfolding lib.Utf8.encode
returns c =
    let old = string_bytes c.args.to.now in
    let found = c.args.found.now in
    let text : List ℕ = entry_text c.args.roster.now.ports (c.args.key.now, (found.port, found.kind)) in
    let word : List ℕ = offload_word found.offloaded in
    c.in_ok-push.ensures.bytes
    ∙ ap (λ (s : List ℕ). s ++ 10 ∷ []) (c.in_ok-push_str-2.ensures.bytes ∙ ap (λ (w : List ℕ). string_bytes c.append_entry.new.to ++ w) c.offload_word.ensures
    ∙ ap (λ (s : List ℕ). s ++ word) (c.in_ok-append_entry.ensures ∙ ap (λ (s : List ℕ). s ++ text) c.in_ok-push_str.ensures.bytes))
    ∙ append_assoc ((old ++ codes "entry ") ++ text) word (10 ∷ [])
    ∙ append_assoc (old ++ codes "entry ") text (word ++ 10 ∷ [])
    ∙ append_assoc old (codes "entry ") (text ++ (word ++ 10 ∷ []))
