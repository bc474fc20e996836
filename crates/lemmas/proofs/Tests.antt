-- What tests answer together, and what follows from an answer.
use Rattle.std.proofs.Common.{◌≡◌, Bool, true, false, cond, if◌then◌else◌, not, ◌&&◌, ◌||◌, T, Some, None, is_some, refl, sym, ◌∙◌}

-- ---- one test

pub true_from_T : (b : Bool) → T b → b ≡ true
true_from_T true h = refl
true_from_T false h = absurd h

pub not_from_ne_true : (b : Bool) → (b ≡ true → ⊥) → not b ≡ true
not_from_ne_true true h = absurd (h refl)
not_from_ne_true false h = refl

pub contradicts : {A : Type 0} (b : Bool) → b ≡ true → b ≡ false → A
contradicts b is isnt = (let e : true ≡ false = sym is ∙ isnt in absurd (cc))

pub by_test : {A : Type 0} (b : Bool) → (b ≡ true → A) → (b ≡ false → A) → A
by_test true f g = f refl
by_test false f g = g refl

-- what holds of both, holds of the one that is chosen
pub by_if : {A : Type 0} (P : A → Type 0) (b : Bool) (x y : A) → P x → P y → P (if b then x else y)
by_if P true x y p q = p
by_if P false x y p q = q

pub cond-not : {A : Type 0} (b : Bool) (x y : A) → cond (not b) x y ≡ cond b y x
cond-not true x y = refl
cond-not false x y = refl

pub is_some-cond : {A : Type 0} (b : Bool) (x : A) → is_some (cond b (Some x) None) ≡ b
is_some-cond true x = refl
is_some-cond false x = refl

-- ---- two tests and more

pub T_and : (a b : Bool) → T a → T b → T (a && b)
T_and true b p q = q
T_and false b p q = p

pub and-false : (b : Bool) → (b && false) ≡ false
and-false true = refl
and-false false = refl

pub and-true : (b : Bool) → (b && true) ≡ b
and-true true = refl
and-true false = refl

pub and_comm : (a b : Bool) → (a && b) ≡ (b && a)
and_comm true true = refl
and_comm true false = refl
and_comm false true = refl
and_comm false false = refl

pub and_assoc : (a b c : Bool) → (a && (b && c)) ≡ ((a && b) && c)
and_assoc true b c = refl
and_assoc false b c = refl

pub and_first : (a b : Bool) → (a && b) ≡ true → (a && true) ≡ true
and_first true b h = refl
and_first false b h = h

pub and_last : (a b c : Bool) → c ≡ false → (a && (b && c)) ≡ false
and_last true true c e = e
and_last true false c e = refl
and_last false b c e = refl

pub or-true : (b : Bool) → (b || true) ≡ true
or-true true = refl
or-true false = refl

pub or-false : (b : Bool) → (b || false) ≡ b
or-false true = refl
or-false false = refl

pub or_twice : (a b : Bool) → (a || b) ≡ (a || (a || b))
or_twice true b = refl
or_twice false b = refl

pub or_swap : (a b c : Bool) → (a || (b || c)) ≡ (b || (a || c))
or_swap true true c = refl
or_swap true false c = refl
or_swap false true c = refl
or_swap false false c = refl

pub or_exchange : (a b c : Bool) → ((a || b) || c) ≡ (b || (a || c))
or_exchange true true c = refl
or_exchange true false c = refl
or_exchange false b c = refl

pub cond-or : (a b : Bool) → cond a true b ≡ (a || b)
cond-or true b = refl
cond-or false b = refl

pub and-not : (a b : Bool) → (a && not b) ≡ cond b false a
and-not true true = refl
and-not true false = refl
and-not false true = refl
and-not false false = refl

pub cond_either : {A : Type 0} (a b : Bool) (x y : A) → (a || b) ≡ true → cond a x (cond b x y) ≡ x
cond_either true b x y h = refl
cond_either false true x y h = refl
cond_either false false x y h = absurd (cc)
