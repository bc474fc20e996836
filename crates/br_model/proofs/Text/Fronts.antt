-- The line at the front of bytes.
use Rattle.std.proofs.Common.{◌≡◌, ℕ, true, if◌then◌else◌, List, [], ◌∷◌, ◌++◌, Option, None, Some, refl, sym, ◌∙◌, ap}
use Rattle.std.proofs.lemmas.List.{append-nil}
use Rattle.std.specs.Cmp.{first_so, second_so}
use Rattle.std.proofs.lemmas.Bool.{not-true}
use Rattle.br_model.specs.Text.Scenario.{Front, front, in_front}
use Rattle.br_model.specs.Theorems.WholeLines.{is_line}

-- bytes before a line
abbrev pub before : List ℕ → Option Front → Option Front
before bytes None = None
before bytes (Some f) = Some (record { line = bytes ++ f.line; behind = f.behind })

further : (byte : ℕ) (bytes : List ℕ) (f : Option Front) → in_front byte (before bytes f) ≡ before (byte ∷ bytes) f
further byte bytes None = refl
further byte bytes (Some f) = refl

nothing : (f : Option Front) → f ≡ before [] f
nothing None = refl
nothing (Some f) = refl

-- bytes without a line feed in front
pub front_before : (bytes more : List ℕ) → is_line bytes ≡ true → front (bytes ++ more) ≡ before bytes (front more)
unfolding front
front_before [] more h = nothing (front more)
front_before (byte ∷ bytes) more h =
    ap (λ b. if b then Some (record { line = []; behind = bytes ++ more }) else in_front byte (front (bytes ++ more))) (not-true _ (first_so _ _ h))
    ∙ ap (in_front byte) (front_before bytes more (second_so _ _ h))
    ∙ further byte bytes (front more)

feed : (more : List ℕ) → front (10 ∷ more) ≡ Some (record { line = []; behind = more })
unfolding front
feed more = refl

none : front [] ≡ None
unfolding front
none = refl

-- a line and its line feed
pub front_line : (line more : List ℕ) → is_line line ≡ true → front (line ++ 10 ∷ more) ≡ Some (record { line = line; behind = more })
front_line line more h =
    front_before line (10 ∷ more) h ∙ ap (before line) (feed more) ∙ ap (λ (l : List ℕ). Some (record { line = l; behind = more })) (append-nil line)

-- no line feed
pub front_none : (bytes : List ℕ) → is_line bytes ≡ true → front bytes ≡ None
front_none bytes h = ap front (sym (append-nil bytes)) ∙ front_before bytes [] h ∙ ap (before bytes) none
