use Rattle.std.proofs.Common.{ℕ, List, [], ◌∷◌, ◌++◌, ◌∙◌, ap, arith}
use Rattle.std.specs.Prelude.{codes}
use Rattle.std.specs.List.{flat_map}
use Rattle.std.specs.String.{string_bytes}
use Rattle.std.proofs.lemmas.Result.{on_ok_weaker}
use Rattle.br_model.specs.Text.Head.{edition_line, port_line}
use Rattle.br_model.specs.Text.Spelling.{mac_text}
use Rattle.scenario_text.proofs.Joins.{five_parts}
use Rattle.scenario_text.proofs.head.append_head.Goals as goal

pub returns : goal.returns
returns c =
    let feed = c.in_ok-push.ensures.bytes ∙ ap (λ (t : List ℕ). string_bytes c.append_mac.new.to ++ t) (c.in_ok-push.ensures.ascii (omega arith)) in
    on_ok_weaker c.append_ports.result
    (λ last.
    five_parts (string_bytes c.args.to.now) _ _ _ _ _ (edition_line c.args.roster.now.edition) (codes "bridge ") (mac_text c.args.own) (10 ∷ []) (flat_map port_line c.args.roster.now.ports)
    (c.in_ok-push_str.ensures.bytes ∙ ap (λ (t : List ℕ). string_bytes c.args.to.now ++ t) (rw c.edition.ensures at c.opening_line.ensures))
    c.in_ok-push_str-2.ensures.bytes c.in_ok-append_mac.ensures feed last)
    c.append_ports.ensures
