-- What follows on a change needs no more of the tree before it than what the code remembers.
use Rattle.std.proofs.Common.{◌≡◌, ℕ, Bool, Option, None, Some, refl}
use Rattle.std.specs.Option.{is_some}
use Rattle.br_model.specs.Tree.Tree.{Tree}
use Rattle.br_model.specs.Tree.Vectors.{is_root}
use Rattle.br_model.specs.Tree.Step.{settled, follows, tree_step}
use Rattle.stp_core.specs.Settling.{settled_by, follows_by, ranked, ranking}

pub settled_is : (kept : Bool) (before : Tree) (now : ℕ) (t : Tree)
    → settled kept before now t ≡ settled_by kept (record { is_root = is_root before; is_changing = is_some before.change_end }) now t
unfolding settled
settled_is kept before now t = refl

pub follows_is : (before : Tree) (now : ℕ) (t : Tree)
    → follows before now t ≡ follows_by (record { is_root = is_root before; is_changing = is_some before.change_end }) now t
unfolding settled
follows_is before now t = refl

pub ranked_is : (t : Tree) (now : ℕ) (p : Option ℕ) (n : ℕ)
    → tree_step t now (ranking p n) ≡ follows_by (record { is_root = is_root t; is_changing = is_some t.change_end }) now (ranked t p n)
unfolding tree_step
ranked_is t now None n = follows_is t now (record t { priority = n })
ranked_is t now (Some p) n = follows_is t now (ranked t (Some p) n)
