use Rattle.std.proofs.Common.{◌++◌, sym, ap, ap₂, ◌∙◌}
use Rattle.plane_parts.specs.Sent.{lines_in}
use Rattle.plane_parts.proofs.Adding.{same_sent}
use Rattle.plane_parts.proofs.sending.send.Goals as goal

pub returns-clause-lines : goal.returns-clause-lines
returns-clause-lines c =
    let out = c.args.out.now in
    c.push_sent.ensures.lines
    ∙ ap (λ ls. c.args.lines.now.lines ++ ls)
    (same_sent c.args.id out.ports out.untagged _ _ c.args.bytes.now c.args.head.now c.in-Some.vid
    (sym (ap₂ (λ a b. a ++ b) c.parts.ensures.front c.parts.ensures.rest))
    (c.tag_bytes-tag.ensures ∙ sym (ap₂ (λ a b. a ++ (c.tag_bytes-tag.result ++ b)) c.parts.ensures.front c.parts.ensures.rest))
    ∙ ap (λ o. lines_in c.args.id c.args.bytes.now c.args.head.now o out.ports out.untagged) (sym c.in-Some.is))
