-- What is said of an answer that may be none or an error.
use Rattle.std.proofs.Common.{◌≡◌, Bool, true, false, if◌then◌else◌, Option, None, Some, is_some, option_map, IfNone, Result, Ok, Err, IfOk, OnOk, OnErr, refl}

pub some_is : {X : Type 0} (o : Option X) → is_some o ≡ true → (x : X) × (o ≡ Some x)
some_is None e = absurd (cc)
some_is (Some x) e = (x, refl)

pub none_then : {X P Q : Type 0} (o : Option X) → IfNone o P → (P → Q) → IfNone o Q
none_then None p f = f p
none_then (Some x) p f = tt

pub on_either : {X E P Q R : Type 0} (r : Result X E) → OnOk r P → OnErr r Q → (P → R) → (Q → R) → R
on_either (Ok x) p q f g = f p
on_either (Err e) p q f g = g q

pub OnErr_from : {X E P : Type 0} (r : Result X E) → P → OnErr r P
OnErr_from (Ok x) p = tt
OnErr_from (Err e) p = p

-- what both answers say, the one that is chosen says
pub IfOk_either : {X E : Type 0} (P : X → Type 0) (b : Bool) (x y : Result X E) → IfOk x P → IfOk y P → IfOk (if b then x else y) P
IfOk_either P true x y p q = p
IfOk_either P false x y p q = q

pub option_map-none : {X Y : Type 0} (f : X → Y) (o : Option X) → option_map f o ≡ None → o ≡ None
option_map-none f None e = refl
option_map-none f (Some x) e = absurd (cc)
