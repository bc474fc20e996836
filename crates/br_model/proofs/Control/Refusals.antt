-- Refusals are found by their numbers.
use Rattle.std.proofs.Common.{◌≡◌, ℕ, ◌==◌, Bool, true, false, cond, List, [], ◌∷◌, Option, Some, refl, sym, ◌∙◌, ap}
use Rattle.std.specs.Cmp.{first_so, second_so}
use Rattle.std.specs.List.{find, list_all}
use Rattle.std.proofs.lemmas.Bool.{eqb-true}
use Rattle.std.proofs.lemmas.Option.{same_Some}
use Rattle.br_model.specs.declared.steps.Refusal.{Refusal}
use Rattle.br_model.specs.declared.steps.Refusal.TheVariants.{PortIsUp}
use Rattle.br_model.specs.Control.Refusals.{refusal_number, refusals, refusal_of}

module _ {X : Type 0} (test : X → Bool) where
  passes_here : (y : X) (b : Bool) (rest : Option X) {x : X} → test y ≡ b → (rest ≡ Some x → test x ≡ true) → cond b (Some y) rest ≡ Some x → test x ≡ true
  passes_here y true rest {x} e more h = sym (ap test (same_Some y x h)) ∙ e
  passes_here y false rest e more h = more h

  -- what is found passes the test
  found_passes : (xs : List X) {x : X} → find test xs ≡ Some x → test x ≡ true
  found_passes [] h = cc
  found_passes (y ∷ ys) h = passes_here y (test y) (find test ys) refl (found_passes ys) h

  holds_here : (p : X → Bool) (y : X) (b : Bool) (rest : Option X) {x : X} → p y ≡ true → (rest ≡ Some x → p x ≡ true) → cond b (Some y) rest ≡ Some x → p x ≡ true
  holds_here p y true rest {x} here more h = sym (ap p (same_Some y x h)) ∙ here
  holds_here p y false rest here more h = more h

  -- what holds of all holds of what is found
  found_holds : (p : X → Bool) (xs : List X) {x : X} → list_all p xs ≡ true → find test xs ≡ Some x → p x ≡ true
  found_holds p [] all h = cc
  found_holds p (y ∷ ys) all h = holds_here p y (test y) (find test ys) (first_so (p y) _ all) (found_holds p ys (second_so (p y) _ all)) h

pub refusal_is : (n : ℕ) {r : Refusal} → refusal_of n ≡ Some r → n ≡ refusal_number r
refusal_is n {r} h = eqb-true n (refusal_number r) (found_passes (λ r. n == refusal_number r) refusals h)

pub refusal_found : (r : Refusal) → refusal_of (refusal_number r) ≡ Some r
refusal_found PortIsUp = refl
refusal_found r = refl

-- what holds of the number of each refusal in the list holds of the number of any
pub each_number : (p : ℕ → Bool) (r : Refusal) → list_all (λ r. p (refusal_number r)) refusals ≡ true → p (refusal_number r) ≡ true
each_number p r all = found_holds (λ s. refusal_number r == refusal_number s) (λ r. p (refusal_number r)) refusals all (refusal_found r)
