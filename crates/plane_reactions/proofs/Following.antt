-- What followed the bridge before a reaction follows the front of its history after it.
use Rattle.std.proofs.Common.{◌≡◌, ℕ, List, ◌++◌, length, take, refl, sym, ap, subst, ◌∙◌}
use Rattle.std.proofs.Math.Seq.{take-append_seam}
use Rattle.br_model.specs.declared.change.Change.{Change}
use Rattle.br_model.specs.Control.Reaction.{Reaction}
use Rattle.br_model.specs.Table.Domains.{Domains}
use Rattle.br_model.specs.Table.Setup.{Setup}
use Rattle.bridge_core.specs.Kept.{Controlled}

-- the bridge with these changes behind its history
abbrev pub reacted : Controlled → Reaction → Controlled
reacted b r = record b { history = b.history ++ r.changes; control = r.control }

pub front : (old new : Controlled) (r : Reaction) (from : ℕ) → new ≡ reacted old r → from ≡ length old.history → take from new.history ≡ old.history
front old new r from is at = ap (λ (h : List Change). take from h) (ap (λ (b : Controlled). b.history) is) ∙ ap (λ n. take n (old.history ++ r.changes)) at ∙ take-append_seam old.history r.changes

pub same_setup : (old new : Controlled) (r : Reaction) → new ≡ reacted old r → new.setup ≡ old.setup
same_setup old new r is = ap (λ (b : Controlled). b.setup) is

-- what holds of the domains and of the history before
pub before : (Holds : Domains → List Change → Type 0) (old new : Controlled) (r : Reaction) (from : ℕ) → new ≡ reacted old r → from ≡ length old.history
    → Holds old.setup.domains old.history → Holds new.setup.domains (take from new.history)
before Holds old new r from is at h =
    subst (λ (s : Setup). Holds s.domains (take from new.history)) (sym (same_setup old new r is))
    (subst (λ (cs : List Change). Holds old.setup.domains cs) (sym (front old new r from is at)) h)
