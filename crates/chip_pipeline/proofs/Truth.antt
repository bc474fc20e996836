-- Tests of which one decides.
use Rattle.std.proofs.Common.{◌≡◌, Bool, true, false, not, ◌&&◌, ◌||◌, refl, sym}

pub both : (a s x b : Bool) → b ≡ (a && s) → b ≡ true → x ≡ (a && (s && x))
both true true x b e is = refl
both true false x b e is = absurd (cc)
both false s x b e is = absurd (cc)

pub neither : (a s x b : Bool) → b ≡ (a && s) → b ≡ false → b ≡ (a && (s && x))
neither true true x b e is = absurd (cc)
neither true false x b e is = e
neither false s x b e is = e

pub either : (a b c : Bool) → c ≡ true → true ≡ (a || (b || c))
either true b c is = refl
either false true c is = refl
either false false c is = sym is

pub or-last : (a b c : Bool) → c ≡ false → (a || b) ≡ (a || (b || c))
or-last true b c is = refl
or-last false true c is = refl
or-last false false c is = sym is

pub all-known : (a b m : Bool) → (a && b) ≡ true → m ≡ (a && (b && m))
all-known true true m h = refl
all-known true false m h = absurd (cc)
all-known false b m h = absurd (cc)

pub first-fails : (a b : Bool) → a ≡ true → false ≡ (not a && b)
first-fails true b h = refl
first-fails false b h = absurd (cc)

pub second-fails : (a b c : Bool) → b ≡ false → false ≡ (not a && (b && c))
second-fails true b c h = refl
second-fails false true c h = absurd (cc)
second-fails false false c h = refl

pub third-tells : (a b c : Bool) → a ≡ false → b ≡ true → c ≡ (not a && (b && c))
third-tells true b c h k = absurd (cc)
third-tells false true c h k = refl
third-tells false false c h k = absurd (cc)
