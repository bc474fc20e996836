-- What ends, as changes.
use Rattle.std.specs.Prelude.{ℕ, Bool, true, false, if◌then◌else◌, List, [], ◌∷◌, ◌++◌}
use Rattle.br_model.specs.declared.change.Change.{Change}
use Rattle.br_model.specs.declared.change.Change.TheVariants.{GroupPart, Router, Querier}
use Rattle.br_model.specs.Table.Groups.{Membership}

abbrev pub part : Membership → Change
part m = GroupPart m.2 m.0 m.1

abbrev pub router_off : ℕ → Change
router_off port = Router port false

abbrev pub queriers_off : Bool → Bool → List Change
queriers_off four six = (if four then Querier false false ∷ [] else []) ++ (if six then Querier true false ∷ [] else [])
