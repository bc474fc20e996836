-- Rows of forms that begin with another word than the line.
use Rattle.std.proofs.Common.{◌≡◌, ℕ, ◌<◌, ◌==◌, Bool, true, false, not, ◌&&◌, if◌then◌else◌, List, [], ◌∷◌, ◌++◌, length, refl, sym, ◌∙◌, ap, Option, Some, Bor, arith}
use Rattle.std.specs.Prelude.{codes}
use Rattle.std.specs.Cmp.{first_so, second_so}
use Rattle.std.specs.List.{list_all}
use Rattle.std.specs.Str.{bytes_eq}
use Rattle.std.proofs.lemmas.Bool.{not-true}
use Rattle.br_model.specs.declared.steps.Command.{Command}
use Rattle.br_model.specs.Text.CommandForms.{commands, ports, links, vlans, fdbs}
use Rattle.br_model.specs.Text.Forms.{Token, Fixed, Has, Row, fits, pick, said, line}
use Rattle.br_model.specs.Text.Roster.{Roster}
use Rattle.br_model.specs.Text.Words.{Word}
use Rattle.br_model.proofs.Text.Words.{other}
use Rattle.bridge_command.specs.Seen.{word, later_commands}

abbrev begins_otherwise : Word → List Token → Bool
begins_otherwise first [] = false
begins_otherwise first (Fixed w ∷ ts) = not (bytes_eq first w)
begins_otherwise first (Has o ∷ ts) = false

no_fit : (ts : List Token) (at : ℕ → Word) → begins_otherwise (at 0) ts ≡ true → fits ts 0 at ≡ false
no_fit [] at h = absurd (cc)
no_fit (Fixed w ∷ ts) at h = ap (λ (b : Bool). b && fits ts 1 at) (not-true _ h)
no_fit (Has o ∷ ts) at h = absurd (cc)

past : {A : Type 0} (b c : Bool) (row other : Option (Row A)) → c ≡ false → (if b && c then row else other) ≡ other
past true c row other h = ap (λ (d : Bool). if d then row else other) h
past false c row other h = refl

picks_later : {A : Type 0} (rows later : List (Row A)) (n : ℕ) (at : ℕ → Word) → list_all (λ row. begins_otherwise (at 0) row.shape) rows ≡ true → pick (rows ++ later) n at ≡ pick later n at
picks_later [] later n at h = refl
picks_later (r ∷ rows) later n at h =
    past (n == length r.shape) (fits r.shape 0 at) (Some r) (pick (rows ++ later) n at) (no_fit r.shape at (first_so _ _ h))
    ∙ picks_later rows later n at (second_so _ _ h)

-- the rows of ports, VLANs and addresses

abbrev earlier : List (Row Command)
earlier = ports ++ (links ++ (vlans ++ fdbs))

pub is_later : (r : Roster) (n : ℕ) (at : ℕ → Word) → (at 0 ≡ codes "port" → ⊥) → (at 0 ≡ codes "link" → ⊥) → (at 0 ≡ codes "vlan" → ⊥) → (at 0 ≡ codes "fdb" → ⊥)
    → line later_commands r n at ≡ line commands r n at
is_later r n at p l v f = sym (ap (λ (o : Option (Row Command)). said r o at) (picks_later earlier later_commands n at otherwise))
  where
    otherwise : list_all (λ row. begins_otherwise (at 0) row.shape) earlier ≡ true
    otherwise = rw (other (at 0) (codes "port") p, other (at 0) (codes "link") l, other (at 0) (codes "vlan") v, other (at 0) (codes "fdb") f) refl

pub no_words : (r : Roster) (ws : List (Bor Word)) → length ws < 1 → line later_commands r (length ws) (word ws) ≡ line commands r (length ws) (word ws)
no_words r [] h = refl
no_words r (w ∷ ws) h = absurd (omega arith)
