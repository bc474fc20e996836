use Rattle.std.proofs.Common.{ℕ, List, [], ◌∷◌, ◌++◌, ap, sym, take, ◌∙◌}
use Rattle.std.specs.List.{flat_map}
use Rattle.std.specs.String.{string_bytes}
use Rattle.std.proofs.lemmas.List.{flat_map_more, take_more}
use Rattle.driver_notices.specs.declared.line.NoticeLine.{NoticeLine}
use Rattle.driver_notices.specs.Lines.{line_text}
use Rattle.driver_notices.proofs.writer.append_lines.Goals as goal

pub loop-line-preserved : goal.loop-line-preserved
loop-line-preserved c =
    let x = c.line-item.result in
    let lines = c.args.lines.now in
    let at = c.loop-line.line-index in
    let one = line_text c.args.roster.now.ports in
    c.in_ok-append_line.ensures
    ∙ ap (λ (s : List ℕ). s ++ one x) c.loop-line.invariant
    ∙ flat_map_more one (string_bytes c.args.to.now) (take at lines) x
    ∙ ap (λ (xs : List NoticeLine). string_bytes c.args.to.now ++ flat_map one xs)
    (sym (take_more lines at x c.loop-line-test.true ∙ ap (λ (y : NoticeLine). take at lines ++ y ∷ []) (sym c.line-item.is)))
