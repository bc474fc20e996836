-- The forms of `link`: the first two want the name of a flag, which `cost` and `priority` aren't.
use Rattle.std.proofs.Common.{◌≡◌, ℕ, Bool, true, false, ◌&&◌, if◌then◌else◌, Option, None, Some, is_some, refl, ◌∙◌, ap}
use Rattle.std.specs.Prelude.{codes}
use Rattle.std.specs.Str.{bytes_eq}
use Rattle.std.specs.declared.result.Result.TheVariants.{Ok, Err}
use Rattle.br_model.specs.declared.scenario.LineWhy.TheVariants as why
use Rattle.br_model.specs.declared.steps.Command.{Command}
use Rattle.br_model.specs.declared.steps.Command.TheVariants.{Link}
use Rattle.br_model.specs.Text.CommandForms.{links}
use Rattle.br_model.specs.Text.FlagWords.{flags, flag_named}
use Rattle.br_model.specs.Text.Forms.{Row, line, said, after}
use Rattle.br_model.specs.Text.Operands.{flag, found, port_name}
use Rattle.br_model.specs.Text.Roster.{Roster}
use Rattle.br_model.specs.Text.Words.{Word}
use Rattle.br_model.proofs.Text.Words.{equal, other}
use Rattle.bridge_command.specs.Seen.{placed, switched}

-- of two rows that both want `named`, the one whose last word it is; the others' words aren't there

first : (r : Roster) (word : ℕ → Word) (x y z w : Row Command) (link named on off cost priority : Bool) → link ≡ true → on ≡ true → off ≡ false → cost ≡ false → priority ≡ false
    → said r (if link && (named && (on && true)) then Some x else if link && (named && (off && true)) then Some y else
    if link && (cost && true) then Some z else if link && (priority && true) then Some w else None) word
    ≡ (if named then said r (Some x) word else Err why.Word)
first r word x y z w link true on off cost priority h i j k l = rw (h, i) refl
first r word x y z w link false on off cost priority h i j k l = rw (h, k, l) refl

second : (r : Roster) (word : ℕ → Word) (x y z w : Row Command) (link named on off cost priority : Bool) → link ≡ true → on ≡ false → off ≡ true → cost ≡ false → priority ≡ false
    → said r (if link && (named && (on && true)) then Some x else if link && (named && (off && true)) then Some y else
    if link && (cost && true) then Some z else if link && (priority && true) then Some w else None) word
    ≡ (if named then said r (Some y) word else Err why.Word)
second r word x y z w link true on off cost priority h i j k l = rw (h, i, j) refl
second r word x y z w link false on off cost priority h i j k l = rw (h, k, l) refl

-- the flag is there where its name is one
there : (r : Roster) (name : Word) (f : Option ℕ) (on : Bool)
    → (if is_some f then placed r (after (port_name r.ports name) (λ p. after (found why.Word f) (λ g. Ok (Link p g on)))) else Err why.Word) ≡ switched r name f on
there r name None on = refl
there r name (Some f) on = refl

pub on_row : (r : Roster) (n : ℕ) (word : ℕ → Word) → n ≡ 4 → word 0 ≡ codes "link" → word 3 ≡ codes "on" → (word 2 ≡ codes "cost" → ⊥) → (word 2 ≡ codes "priority" → ⊥)
    → line links r n word ≡ switched r (word 1) (flag_named flags (word 2)) true
unfolding flag
on_row r n word four link on cost priority =
    ap (λ (m : ℕ). line links r m word) four
    ∙ first r word _ _ _ _ _ (is_some (flag_named flags (word 2))) _ _ _ _ (equal _ _ link) (equal _ _ on) (ap (λ (w : Word). bytes_eq w (codes "off")) on) (other _ _ cost) (other _ _ priority)
    ∙ there r (word 1) (flag_named flags (word 2)) true

pub off_row : (r : Roster) (n : ℕ) (word : ℕ → Word) → n ≡ 4 → word 0 ≡ codes "link" → word 3 ≡ codes "off" → (word 2 ≡ codes "cost" → ⊥) → (word 2 ≡ codes "priority" → ⊥)
    → line links r n word ≡ switched r (word 1) (flag_named flags (word 2)) false
unfolding flag
off_row r n word four link off cost priority =
    ap (λ (m : ℕ). line links r m word) four
    ∙ second r word _ _ _ _ _ (is_some (flag_named flags (word 2))) _ _ _ _ (equal _ _ link) (ap (λ (w : Word). bytes_eq w (codes "on")) off) (equal _ _ off) (other _ _ cost) (other _ _ priority)
    ∙ there r (word 1) (flag_named flags (word 2)) false
