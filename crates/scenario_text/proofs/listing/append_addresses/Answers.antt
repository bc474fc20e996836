use Rattle.std.proofs.Common.{ℕ, List, [], ◌∷◌, ◌++◌, ap}
use Rattle.std.specs.Fmt.{decimal}
use Rattle.std.specs.Prelude.{codes}
use Rattle.std.specs.String.{string_bytes}
use Rattle.br_model.specs.Program.Listings.{fdb_line}
use Rattle.br_model.specs.Text.Spelling.{mac_text, kind_word}
use Rattle.scenario_text.proofs.Listed.{line_more}
use Rattle.scenario_text.proofs.listing.append_addresses.Goals as goal

pub loop-vid-preserved : goal.loop-vid-preserved
loop-vid-preserved c =
    let key = c.in-Some.field-0-0.now in
    let entry = c.in-Some.field-0-1.now in
    let behind = codes " vlan " ++ (decimal key.0 ++ (32 ∷ (kind_word entry.1 ++ 10 ∷ []))) in
    line_more (fdb_line c.args.roster.now.ports) (string_bytes c.loop-vid.to) _ _ _ c.loop-vid.vid-iterator c.next.new.self (key, entry)
    c.in_ok-append_address.ensures
    (ap (λ (name : List ℕ). mac_text key.1 ++ (codes " dev " ++ (name ++ behind))) c.device.ensures)
    c.in-Some.ensures.steps
    c.loop-vid.invariant
