-- A bad line is bad whatever follows it.
use Rattle.std.proofs.Common.{◌≡◌, ℕ, zero, suc, ◌<◌, ◌==◌, Bool, true, false, List, [], ◌∷◌, ◌++◌, length, take, drop}
use Rattle.std.proofs.Common.{Result, Ok, Err, refl, sym, ◌∙◌, ap, subst, arith, nat_lt, append_assoc, length-append, length-drop, length-take-le, take-append-drop}
use Rattle.std.proofs.lemmas.Bool.{eqb-true, ltb-true, ltb-false}
use Rattle.std.proofs.lemmas.List.{append-nil}
use Rattle.br_model.specs.declared.scenario.LineWhy.{LineWhy}
use Rattle.br_model.specs.declared.scenario.LineWhy.TheVariants.{Long}
use Rattle.br_model.specs.declared.scenario.Said.{Said}
use Rattle.br_model.specs.Text.Scenario.{Scenario, Ending, Going, Ended, Bad, Progress, bad, longest_line, read, section_length, takes, whole_says}
use Rattle.br_model.specs.Theorems.WholeLines.{is_line}
use Rattle.br_model.proofs.Text.Endings.{has_ended, read_ended}
use Rattle.br_model.proofs.Text.Reading.{read_bad, read_line, read_long, read_part, read_rest}

-- the first line of some bytes, if it has its line feed
data Cut (bytes : List ℕ) : Type 0 where
  Unfed : is_line bytes ≡ true → Cut bytes
  Fed : (line behind : List ℕ) → bytes ≡ line ++ 10 ∷ behind → is_line line ≡ true → Cut bytes

not_feed : (byte : ℕ) (line : List ℕ) → (byte == 10) ≡ false → is_line line ≡ true → is_line (byte ∷ line) ≡ true
not_feed byte line is h = cc

cut_byte : (byte : ℕ) (bytes : List ℕ) (b : Bool) → (byte == 10) ≡ b → Cut bytes → Cut (byte ∷ bytes)
cut_byte byte bytes true is c = Fed [] bytes (ap (λ k. k ∷ bytes) (eqb-true byte 10 is)) refl
cut_byte byte bytes false is (Unfed h) = Unfed (not_feed byte bytes is h)
cut_byte byte bytes false is (Fed line behind parts h) = Fed (byte ∷ line) behind (ap (λ (l : List ℕ). byte ∷ l) parts) (not_feed byte line is h)

cut : (bytes : List ℕ) → Cut bytes
cut [] = Unfed refl
cut (byte ∷ bytes) = cut_byte byte bytes (byte == 10) refl (cut bytes)

module _ (number : ℕ) (why : LineWhy) where
  abbrev IsBad : Scenario → Type 0
  IsBad s = s.ending ≡ Bad number why

  not_going : (s : Scenario) → s.ending ≡ Going → IsBad s → ⊥
  not_going s going is = let h : Going ≡ Bad number why = sym going ∙ is in absurd (cc)

  -- what is so for fewer bytes than these
  abbrev Stays : ℕ → Type 0
  Stays k = (s : Scenario) (bytes more : List ℕ) → length bytes < k → IsBad (read 0 s bytes).scenario → IsBad (read 0 s (bytes ++ more)).scenario

  module _ (k : ℕ) (stays : Stays k) (s : Scenario) (going : s.ending ≡ Going) (more : List ℕ) where
    section_stays : (line behind : List ℕ) (said : Said) (b : Bool) → is_line line ≡ true → whole_says s.roster line ≡ Ok said → nat_lt (length behind) (section_length said) ≡ b → length behind < k
        → IsBad (read 0 s (line ++ 10 ∷ behind)).scenario → IsBad (read 0 s (line ++ 10 ∷ (behind ++ more))).scenario
    section_stays line behind said true h says short few is =
        absurd (not_going s going (subst (λ (p : Progress). IsBad p.scenario) (read_part s said line behind going h says (ltb-true _ _ short)) is))
    section_stays line behind said false h says whole few is =
        let n : ℕ = section_length said in
        let section : List ℕ = take n behind in
        let rest : List ℕ = drop n behind in
        let parts : section ++ rest ≡ behind = take-append-drop n behind in
        let sized : length section ≡ n = length-take-le n behind (ltb-false _ _ whole) in
        let t : Scenario = takes s said section in
        let here : read 0 s (line ++ 10 ∷ behind) ≡ read 0 t rest =
        ap (λ (b : List ℕ). read 0 s (line ++ 10 ∷ b)) (sym parts) ∙ read_line s said line section rest going h says sized in
        let there : read 0 s (line ++ 10 ∷ (behind ++ more)) ≡ read 0 t (rest ++ more) =
        ap (λ (b : List ℕ). read 0 s (line ++ 10 ∷ (b ++ more))) (sym parts)
        ∙ ap (λ (b : List ℕ). read 0 s (line ++ 10 ∷ b)) (append_assoc section rest more)
        ∙ read_line s said line section (rest ++ more) going h says sized in
        subst (λ (p : Progress). IsBad p.scenario) (sym there)
        (stays t rest more (omega (arith, few, length-drop n behind)) (subst (λ (p : Progress). IsBad p.scenario) here is))

    line_stays : (line behind : List ℕ) (r : Result Said LineWhy) → is_line line ≡ true → whole_says s.roster line ≡ r → length behind < k
        → IsBad (read 0 s (line ++ 10 ∷ behind)).scenario → IsBad (read 0 s (line ++ 10 ∷ (behind ++ more))).scenario
    line_stays line behind (Err fault) h says few is =
        subst (λ (p : Progress). IsBad p.scenario) (read_bad s fault line behind going h says ∙ sym (read_bad s fault line (behind ++ more) going h says)) is
    line_stays line behind (Ok said) h says few is = section_stays line behind said (nat_lt (length behind) (section_length said)) h says refl few is

    rest_stays : (bytes : List ℕ) (b : Bool) → is_line bytes ≡ true → nat_lt longest_line (length bytes) ≡ b → IsBad (read 0 s bytes).scenario → IsBad (read 0 s (bytes ++ more)).scenario
    rest_stays bytes true h long is =
        let far = ltb-true longest_line (length bytes) long in
        let here : (read 0 s bytes).scenario ≡ bad s Long = ap (λ (b : List ℕ). (read 0 s b).scenario) (sym (append-nil bytes)) ∙ read_long s bytes [] going h far in
        subst (λ (t : Scenario). IsBad t) (here ∙ sym (read_long s bytes more going h far)) is
    rest_stays bytes false h short is =
        absurd (not_going s going (subst (λ (p : Progress). IsBad p.scenario) (read_rest s bytes going h (ltb-false longest_line (length bytes) short)) is))

    cut_stays : (bytes : List ℕ) → Cut bytes → length bytes < suc k → IsBad (read 0 s bytes).scenario → IsBad (read 0 s (bytes ++ more)).scenario
    cut_stays bytes (Unfed h) few is = rest_stays bytes (nat_lt longest_line (length bytes)) h refl is
    cut_stays bytes (Fed line behind parts h) few is =
        let fewer : length behind < k = omega (arith, few, ap length parts, length-append line (10 ∷ behind)) in
        subst (λ (b : List ℕ). IsBad (read 0 s b).scenario) (sym (ap (λ (b : List ℕ). b ++ more) parts ∙ append_assoc line (10 ∷ behind) more))
        (line_stays line behind (whole_says s.roster line) h refl fewer (subst (λ (b : List ℕ). IsBad (read 0 s b).scenario) parts is))

  over_stays : (s : Scenario) (bytes more : List ℕ) → has_ended s.ending ≡ true → IsBad (read 0 s bytes).scenario → IsBad (read 0 s (bytes ++ more)).scenario
  over_stays s bytes more e is =
      subst (λ (t : Scenario). IsBad t) (ap (λ (p : Progress). p.scenario) (read_ended s bytes e) ∙ sym (ap (λ (p : Progress). p.scenario) (read_ended s (bytes ++ more) e))) is

  any_stays : (k : ℕ) → Stays k → (s : Scenario) (d : Ending) → s.ending ≡ d → (bytes more : List ℕ) → length bytes < suc k → IsBad (read 0 s bytes).scenario
      → IsBad (read 0 s (bytes ++ more)).scenario
  any_stays k stays s Going e bytes more few is = cut_stays k stays s e more bytes (cut bytes) few is
  any_stays k stays s Ended e bytes more few is = over_stays s bytes more (ap has_ended e) is
  any_stays k stays s (Bad n w) e bytes more few is = over_stays s bytes more (ap has_ended e) is

  so_many : (k : ℕ) → Stays k
  so_many zero s bytes more few is = absurd (omega (arith, few))
  so_many (suc k) s bytes more few is = any_stays k (so_many k) s s.ending refl bytes more few is

  pub stays_bad : (s : Scenario) (bytes more : List ℕ) → IsBad (read 0 s bytes).scenario → IsBad (read 0 s (bytes ++ more)).scenario
  stays_bad s bytes more is = so_many (suc (length bytes)) s bytes more (omega arith) is
