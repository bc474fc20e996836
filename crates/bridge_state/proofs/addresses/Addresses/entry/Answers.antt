use Rattle.std.proofs.Common.{ap, option_map, sym, ◌∙◌}
use Rattle.br_model.specs.Control.Learning.{Address}
use Rattle.br_model.specs.Data.Maps.{pair_cmp, get}
use Rattle.fdb_core.specs.declared.entries.Entry.{Entry}
use Rattle.fdb_core.proofs.Addresses.{get-told}
use Rattle.bridge_state.specs.Entries.{Entries}
use Rattle.bridge_state.proofs.addresses.Addresses.entry.Goals as goal

pub returns-clause-moment : goal.returns-clause-moment
returns-clause-moment c =
    let key : Address = (c.args.vid, c.args.mac) in
    ap (option_map (λ (e : Entry). e.updated)) c.find.ensures.entry
    ∙ sym (get-told (λ (e : Entry). e.updated) c.self.inside.fdb.entries key)
    ∙ ap (λ (s : Entries). get pair_cmp s.updated key) c.self.view_is
