use Rattle.std.proofs.Common.{ℕ, List, ◌++◌, ap, arith, ◌∙◌}
use Rattle.std.specs.String.{string_bytes}
use Rattle.std.proofs.lemmas.Result.{on_ok_weaker}
use Rattle.br_model.proofs.spelling.append_mac.Goals as goal
use Rattle.br_model.proofs.Text.MacTexts.{mac_parts}

pub returns : goal.returns
returns c =
    let colon = c.in_ok-push.ensures.bytes ∙ ap (λ (t : List ℕ). string_bytes c.append_three.new.to ++ t) (c.in_ok-push.ensures.ascii (omega arith)) in
    on_ok_weaker c.append_three-2.result
    (λ last.
    mac_parts c.args.mac _ _ _ _ _ _ _ _ _ _ c.byte.ensures c.byte-2.ensures c.byte-3.ensures c.byte-4.ensures c.byte-5.ensures c.byte-6.ensures
    c.in_ok-append_three.ensures colon last)
    c.append_three-2.ensures
