-- Where the deferred changes of a history stand.
use Rattle.std.specs.Prelude.{ℕ, ◌+◌, if◌then◌else◌, List, [], ◌∷◌}
use Rattle.br_model.specs.declared.change.Change.{Change}
use Rattle.br_model.specs.declared.domains.Edition.{Edition}
use Rattle.br_model.specs.Table.Change.{deferred}

-- the places of the deferred changes, the first of which stands at place n
abbrev pub places_from : Edition → ℕ → List Change → List ℕ
places_from edition n [] = []
places_from edition n (c ∷ later) = if deferred edition c then n ∷ places_from edition (n + 1) later else places_from edition (n + 1) later

abbrev pub places : Edition → List Change → List ℕ
places edition history = places_from edition 0 history
