-- The lines of a listing, one by one.
use Rattle.std.proofs.Common.{◌≡◌, ℕ, ◌+◌, ◌==◌, Bool, true, false, if◌then◌else◌, ◌||◌, List, [], ◌∷◌, ◌++◌, map, refl, sym, ap, ◌∙◌, append_assoc, arith}
use Rattle.std.specs.List.{flat_map, range_with_len}
use Rattle.std.proofs.lemmas.Grind.{flat_map-append}
use Rattle.std.proofs.lemmas.List.{append-nil}
use Rattle.std.proofs.lemmas.List.FromFn.{map-range_with_len_more}
use Rattle.std.proofs.lemmas.List.Folds.{flat_map-map}
use Rattle.lemmas.proofs.Lists.{two_parts}
use Rattle.br_model.specs.Forward.Leave.{all_ports}
use Rattle.br_model.specs.Table.Domains.{port_places}
use Rattle.br_model.specs.Text.Roster.{Entry, has_number, host_name}
use Rattle.br_model.specs.Text.Spelling.{name_of, device_text}

-- a port that isn't declared has no name

no_name_by : (b : Bool) (ports : List Entry) (name : List ℕ) (n : ℕ) → (b || has_number ports n) ≡ false → (has_number ports n ≡ false → name_of ports n ≡ [])
    → (if b then name else name_of ports n) ≡ []
no_name_by true ports name n h rest = absurd (cc)
no_name_by false ports name n h rest = rest h

no_name : (ports : List Entry) (n : ℕ) → has_number ports n ≡ false → name_of ports n ≡ []
no_name [] n h = refl
no_name (e ∷ ports) n h = no_name_by (e.port == n) ports e.name n h (no_name ports n)

pub no_device : (ports : List Entry) (n : ℕ) → (n == 0) ≡ false → has_number ports n ≡ false → [] ≡ device_text ports n
no_device ports n far none =
    sym (ap (λ (b : Bool). if b then host_name else name_of ports n) far ∙ no_name ports n none)

-- s is the text so far, xs what is left, all what is to stand at the end: one line more
pub line_more : {A : Type 0} (f : A → List ℕ) (s t line all : List ℕ) (xs ys : List A) (x : A) → t ≡ s ++ line → line ≡ f x → xs ≡ x ∷ ys → s ++ flat_map f xs ≡ all → t ++ flat_map f ys ≡ all
line_more f s t line all xs ys x e is first h =
    ap (λ (u : List ℕ). u ++ flat_map f ys) (e ∙ ap (λ (l : List ℕ). s ++ l) is)
    ∙ append_assoc s (f x) (flat_map f ys)
    ∙ sym (ap (λ (zs : List _). s ++ flat_map f zs) first)
    ∙ h

-- the port of the next number

range_more : {A : Type 0} (f : ℕ → List A) (n : ℕ) → flat_map f (range_with_len 0 (n + 1)) ≡ flat_map f (range_with_len 0 n) ++ f n
range_more f n =
    let e : 0 + n ≡ n = omega arith in
    sym (flat_map-map f (λ (x : ℕ). x) (range_with_len 0 (n + 1)))
    ∙ ap (λ (xs : List ℕ). flat_map f xs) (map-range_with_len_more (λ (x : ℕ). x) 0 n n e)
    ∙ flat_map-append f (map (λ (x : ℕ). x) (range_with_len 0 n)) (n ∷ [])
    ∙ ap (λ (t : List _). t ++ (f n ++ [])) (flat_map-map f (λ (x : ℕ). x) (range_with_len 0 n))
    ∙ ap (λ (t : List _). flat_map f (range_with_len 0 n) ++ t) (append-nil (f n))

pub port_more : {A : Type 0} (line : A → List ℕ) (at : ℕ → List A) (s0 s1 s2 : List ℕ) (n port : ℕ)
    → s1 ≡ s0 ++ flat_map line (flat_map at (range_with_len 0 n)) → s2 ≡ s1 ++ flat_map line (at port) → port ≡ n
    → s2 ≡ s0 ++ flat_map line (flat_map at (range_with_len 0 (n + 1)))
port_more line at s0 s1 s2 n port e g is =
    two_parts s0 s1 s2 (flat_map line (flat_map at (range_with_len 0 n))) (flat_map line (at n)) e (g ∙ ap (λ (p : ℕ). s1 ++ flat_map line (at p)) is)
    ∙ ap (λ (t : List ℕ). s0 ++ t) (sym (flat_map-append line (flat_map at (range_with_len 0 n)) (at n)))
    ∙ ap (λ (xs : List _). s0 ++ flat_map line xs) (sym (range_more at n))

pub all_numbers : {A : Type 0} (at : ℕ → List A) (n : ℕ) → n ≡ port_places → flat_map at (range_with_len 0 n) ≡ flat_map at all_ports
unfolding all_ports
all_numbers at n e = ap (λ (k : ℕ). flat_map at (range_with_len 0 k)) e
