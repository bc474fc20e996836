-- Loops over members, and the tree beside what a control state keeps up.
use Rattle.std.proofs.Common.{◌≡◌, ◌<◌, ℕ, List, [], ◌∷◌, fold, length, Option, None, Some, refl, ap, ◌∙◌}
use Rattle.std.specs.Iterator.{Yields, YieldsFirst}
use Rattle.std.proofs.lemmas.Iterator.Consumers.{YieldsList-turn, YieldsList-from_first}
use Rattle.br_model.specs.declared.change.Change.{Change}
use Rattle.br_model.specs.declared.change.Change.TheVariants as changes
use Rattle.br_model.specs.Control.Control.{Control, keeps_up}
use Rattle.br_model.specs.Control.Learning.{Address}
use Rattle.br_model.specs.Tree.Tree.{Tree}
use Rattle.bridge_state.specs.Plans.{renewed_at}

-- as long as there is another member, a loop has seen fewer than there are
pub fewer_seen : (from s t u seen : List ℕ) (r : Option ℕ) (x : ℕ) → s ≡ from → Yields (YieldsFirst (λ (x : List ℕ). x)) s seen t → r ≡ Some x → YieldsFirst (λ (x : List ℕ). x) t r u
    → length seen < length from
fewer_seen from s t u seen r x e run is next = (YieldsList-turn (YieldsList-from_first (λ x. x) (λ (x : List ℕ). x) from e) seen t run r u x is next).0

-- with another tree
abbrev pub with_tree : Tree → Control → Control
with_tree tree c = record c { tree = tree }

beside : (tree : Tree) (c : Control) (d : Change) → keeps_up (with_tree tree c) d ≡ with_tree tree (keeps_up c d)
beside tree c (changes.AddrPut vid mac port kind) = refl
beside tree c d = refl

-- what is kept up beside a tree
pub all_beside : (tree : Tree) (c : Control) (cs : List Change) → fold keeps_up (with_tree tree c) cs ≡ with_tree tree (fold keeps_up c cs)
all_beside tree c [] = refl
all_beside tree c (d ∷ ds) = ap (λ (x : Control). fold keeps_up x ds) (beside tree c d) ∙ all_beside tree (keeps_up c d) ds

pub renewed_beside : (tree : Tree) (c : Control) (o : Option Address) → renewed_at (with_tree tree c) o ≡ with_tree tree (renewed_at c o)
renewed_beside tree c None = refl
renewed_beside tree c (Some key) = refl
