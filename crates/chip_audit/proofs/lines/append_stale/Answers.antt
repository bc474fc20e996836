use Rattle.std.proofs.Common.{ℕ, List, [], ◌∷◌, ◌++◌, ◌∙◌, ap, append_assoc, codes, string_bytes}
use Rattle.chip_audit.specs.Lines.{entry_text}
use Rattle.chip_audit.proofs.lines.append_stale.Goals as goal

pub returns : goal.returns
unfolding lib.Utf8.encode
returns c =
    let old = string_bytes c.args.to.now in
    let text : List ℕ = entry_text c.args.roster.now.ports c.args.row.now in
    c.in_ok-push.ensures.bytes
    ∙ ap (λ (s : List ℕ). s ++ 10 ∷ []) (c.in_ok-append_entry.ensures ∙ ap (λ (s : List ℕ). s ++ text) c.in_ok-push_str.ensures.bytes)
    ∙ append_assoc (old ++ codes "stale ") text (10 ∷ [])
    ∙ append_assoc old (codes "stale ") (text ++ 10 ∷ [])
