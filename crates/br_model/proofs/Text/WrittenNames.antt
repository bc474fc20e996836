-- Declared ports are read back from their numbers and their names.
use Rattle.std.proofs.Common.{◌≡◌, ℕ, ◌^◌, ◌<◌, ◌≤◌, ◌==◌, nat_lt, nat_le, Bool, true, false, not, ◌&&◌, ◌||◌, if◌then◌else◌, List, [], ◌∷◌, length, refl, sym, ◌∙◌, ap, subst, arith}
use Rattle.std.specs.Cmp.{first_so, second_so}
use Rattle.std.specs.Fmt.{decimal}
use Rattle.std.specs.List.{list_all}
use Rattle.std.specs.Option.{is_some}
use Rattle.std.specs.declared.option.Option.{Option}
use Rattle.std.specs.declared.option.Option.TheVariants.{Some}
use Rattle.std.specs.declared.result.Result.TheVariants.{Ok, Err}
use Rattle.std.specs.Str.{bytes_eq}
use Rattle.std.proofs.lemmas.Bool.{eqb-true, not-true, and_from}
use Rattle.lemmas.proofs.Lists.{bytes_eq-sym}
use Rattle.br_model.specs.declared.scenario.LineWhy.TheVariants as why
use Rattle.br_model.specs.Table.Domains.{host, last_port, last_chip}
use Rattle.br_model.specs.Text.Operands.{number, number_in, port_number, port_name, device, found, unless}
use Rattle.br_model.specs.Text.Roster.{Entry, has_number, port_named, is_name, is_name_byte, host_name, longest_name}
use Rattle.br_model.specs.Text.Spelling.{name_of, device_text}
use Rattle.br_model.specs.Text.Words.{Word, is_word}
use Rattle.br_model.specs.Text.Operands.{is_device}
use Rattle.br_model.specs.Text.Declarations.{are_declared, fits_beside}
use Rattle.br_model.proofs.Text.Words.{equal}
use Rattle.br_model.proofs.Text.WrittenNumbers.{decimal_read}
use Rattle.br_model.proofs.Text.WrittenWords.{is_letter, letters, is_proper}

-- numbers in a range

pub number_read : (low high n : ℕ) → n < 2 ^ 64 → nat_le low n ≡ true → nat_le n high ≡ true → number low high (decimal n) ≡ Ok n
unfolding number
number_read low high n small above below =
    ap (number_in low high) (decimal_read n small)
    ∙ ap (λ (b : Bool). if b then Ok n else Err why.Number) (and_from _ _ above below)

-- ports by their numbers

-- what is said of an entry with the port, and else of one of the others
among : (P : Type 0) (e : Entry) (ports : List Entry) (port : ℕ) → (e.port ≡ port → P) → (has_number ports port ≡ true → P) → has_number (e ∷ ports) port ≡ true → P
among P e ports port here there h = by (e.port == port) refl
  where
    by : (b : Bool) → (e.port == port) ≡ b → P
    by true is = here (eqb-true _ _ is)
    by false is = there (ap (λ (b : Bool). b || has_number ports port) (sym is) ∙ h)

-- what is known of a first entry
pub record Fits (e : Entry) (ports : List Entry) : Type 0 where
  pub low : nat_le 1 e.port ≡ true
  pub high : nat_le e.port last_port ≡ true
  pub of_chip : nat_le e.dom last_chip ≡ true
  pub named : is_name e.name ≡ true
  pub new : has_number ports e.port ≡ false
  pub alone : is_some (port_named ports e.name) ≡ false
  pub rest : are_declared ports ≡ true

pub fits : (e : Entry) (ports : List Entry) → are_declared (e ∷ ports) ≡ true → Fits e ports
fits e ports h =
    let all = first_so (fits_beside ports e) (are_declared ports) h in
    let free : Bool = not (has_number ports e.port) && not (is_some (port_named ports e.name)) in
    let from_high = second_so (nat_le 1 e.port) (nat_le e.port last_port && (nat_le e.dom last_chip && (is_name e.name && free))) all in
    let from_dom = second_so (nat_le e.port last_port) (nat_le e.dom last_chip && (is_name e.name && free)) from_high in
    let from_name = second_so (nat_le e.dom last_chip) (is_name e.name && free) from_dom in
    let news = second_so (is_name e.name) free from_name in
    record {
      low = first_so (nat_le 1 e.port) _ all;
      high = first_so (nat_le e.port last_port) _ from_high;
      of_chip = first_so (nat_le e.dom last_chip) _ from_dom;
      named = first_so (is_name e.name) _ from_name;
      new = not-true _ (first_so (not (has_number ports e.port)) _ news);
      alone = not-true _ (second_so (not (has_number ports e.port)) _ news);
      rest = second_so (fits_beside ports e) _ h;
    }

at_most : (ports : List Entry) (port : ℕ) → are_declared ports ≡ true → has_number ports port ≡ true → nat_le port last_port ≡ true
at_most [] port all h = absurd (cc)
at_most (e ∷ ports) port all h =
    among (nat_le port last_port ≡ true) e ports port
    (λ same. ap (λ (n : ℕ). nat_le n last_port) (sym same) ∙ (fits e ports all).high)
    (at_most ports port (fits e ports all).rest) h

pub at_least : (ports : List Entry) (port : ℕ) → are_declared ports ≡ true → has_number ports port ≡ true → nat_le 1 port ≡ true
at_least [] port all h = absurd (cc)
at_least (e ∷ ports) port all h =
    among (nat_le 1 port ≡ true) e ports port
    (λ same. ap (λ (n : ℕ). nat_le 1 n) (sym same) ∙ (fits e ports all).low)
    (at_least ports port (fits e ports all).rest) h

small_port : (port : ℕ) → nat_le port last_port ≡ true → port < 2 ^ 64
small_port port h =
    let below : port ≤ last_port = grind arith in
    omega arith

pub port_small : (ports : List Entry) (port : ℕ) → are_declared ports ≡ true → has_number ports port ≡ true → port < 2 ^ 64
port_small ports port all h = small_port port (at_most ports port all h)

pub port_number_read : (ports : List Entry) (port : ℕ) → are_declared ports ≡ true → has_number ports port ≡ true
    → port_number ports (decimal port) ≡ Ok port
unfolding port_number
port_number_read ports port all h =
    ap (λ (o : Option ℕ). unless why.Port (λ n. not (nat_le n last_port && has_number ports n)) (found why.Number o)) (decimal_read port (port_small ports port all h))
    ∙ ap (λ (b : Bool). if not b then Err why.Port else Ok port) (and_from _ _ (at_most ports port all h) h)

-- ports by their names

-- the name of the first entry, or of one of the others
name_by : (P : Word → Type 0) (e : Entry) (ports : List Entry) (port : ℕ) → has_number (e ∷ ports) port ≡ true
    → (e.port ≡ port → P e.name) → (has_number ports port ≡ true → P (name_of ports port)) → P (name_of (e ∷ ports) port)
name_by P e ports port h here there = by (e.port == port) refl h
  where
    by : (b : Bool) → (e.port == port) ≡ b → (b || has_number ports port) ≡ true → P (if b then e.name else name_of ports port)
    by true is h = here (eqb-true _ _ is)
    by false is h = there h

-- an entry's name isn't a port's where no port has it
unlike : (ports : List Entry) (port : ℕ) (name : Word) → has_number ports port ≡ true → is_some (port_named ports name) ≡ false → bytes_eq (name_of ports port) name ≡ false
unlike [] port name h none = absurd (cc)
unlike (e ∷ ports) port name h none =
    name_by (λ w. bytes_eq w name ≡ false) e ports port h
    (λ same. bytes_eq-sym e.name name ∙ first (bytes_eq name e.name) e.port (port_named ports name) none)
    (λ there. unlike ports port name there (later (bytes_eq name e.name) e.port (port_named ports name) none))
  where
    first : (b : Bool) (n : ℕ) (o : Option ℕ) → is_some (if b then Some n else o) ≡ false → b ≡ false
    first true n o h = absurd (cc)
    first false n o h = refl

    later : (b : Bool) (n : ℕ) (o : Option ℕ) → is_some (if b then Some n else o) ≡ false → is_some o ≡ false
    later true n o h = absurd (cc)
    later false n o h = h

pub port_named_read : (ports : List Entry) (port : ℕ) → are_declared ports ≡ true → has_number ports port ≡ true → port_named ports (name_of ports port) ≡ Some port
port_named_read [] port all h = absurd (cc)
port_named_read (e ∷ ports) port all h =
    name_by (λ w. port_named (e ∷ ports) w ≡ Some port) e ports port h
    (λ same. ap (λ (b : Bool). if b then Some e.port else port_named ports e.name) (equal e.name e.name refl) ∙ ap Some same)
    (λ there.
    ap (λ (b : Bool). if b then Some e.port else port_named ports (name_of ports port))
    (unlike ports port e.name there (fits e ports all).alone)
    ∙ port_named_read ports port (fits e ports all).rest there)

pub port_name_read : (ports : List Entry) (port : ℕ) → are_declared ports ≡ true → has_number ports port ≡ true → port_name ports (name_of ports port) ≡ Ok port
unfolding port_name
port_name_read ports port all h = ap (found why.Port) (port_named_read ports port all h)

-- names are words

either : (P : Type 0) (a b : Bool) → (a ≡ true → P) → (b ≡ true → P) → (a || b) ≡ true → P
either P true b one other h = one refl
either P false b one other h = other h

in_row : (low high c : ℕ) → 33 ≤ low → high < 128 → (nat_le low c && nat_le c high) ≡ true → is_letter c ≡ true
in_row low high c l m h = letter c low high l m (first_so _ _ h) (second_so _ _ h)
  where
    letter : (c low high : ℕ) → 33 ≤ low → high < 128 → nat_le low c ≡ true → nat_le c high ≡ true → is_letter c ≡ true
    letter c low high l m above below = grind arith

is_one : (d c : ℕ) → 33 ≤ d → d < 128 → (c == d) ≡ true → is_letter c ≡ true
is_one d c l m h =
    let same : c ≡ d = eqb-true _ _ h in
    in_row d d c l m (and_from _ _ (at_most_same d c same) (at_least_same d c same))
  where
    at_most_same : (d c : ℕ) → c ≡ d → nat_le d c ≡ true
    at_most_same d c e = grind arith

    at_least_same : (d c : ℕ) → c ≡ d → nat_le c d ≡ true
    at_least_same d c e = grind arith

name_letter : (c : ℕ) → is_name_byte c ≡ true → is_letter c ≡ true
name_letter c h =
    either (is_letter c ≡ true) _ _ (in_row 65 90 c (omega arith) (omega arith)) (
    either (is_letter c ≡ true) _ _ (in_row 97 122 c (omega arith) (omega arith)) (
    either (is_letter c ≡ true) _ _ (in_row 48 57 c (omega arith) (omega arith)) (
    either (is_letter c ≡ true) _ _ (is_one 46 c (omega arith) (omega arith)) (
    either (is_letter c ≡ true) _ _ (is_one 45 c (omega arith) (omega arith)) (
    is_one 95 c (omega arith) (omega arith)))))) h

name_letters : (w : Word) → list_all is_name_byte w ≡ true → letters w ≡ true
name_letters [] h = refl
name_letters (c ∷ w) h = and_from _ _ (name_letter c (first_so _ _ h)) (name_letters w (second_so _ _ h))

named_by : (ports : List Entry) (port : ℕ) → are_declared ports ≡ true → has_number ports port ≡ true → is_name (name_of ports port) ≡ true
named_by [] port all h = absurd (cc)
named_by (e ∷ ports) port all h =
    name_by (λ w. is_name w ≡ true) e ports port h
    (λ same. (fits e ports all).named)
    (λ there. named_by ports port (fits e ports all).rest there)

some_word : (w : Word) → nat_lt 0 (length w) ≡ true → is_word w ≡ true
some_word [] h = h
some_word (c ∷ w) h = refl

pub given_name_proper : (w : Word) → is_name w ≡ true → is_proper w ≡ true
given_name_proper w h =
    and_from _ _ (some_word w (first_so _ _ h)) (name_letters w (first_so _ _ (second_so (nat_le (length w) longest_name) _ (second_so (nat_lt 0 (length w)) _ h))))

pub name_proper : (ports : List Entry) (port : ℕ) → are_declared ports ≡ true → has_number ports port ≡ true → is_proper (name_of ports port) ≡ true
name_proper ports port all h = given_name_proper (name_of ports port) (named_by ports port all h)

-- devices

-- the host's number is no declared port's
pub not_host : (ports : List Entry) (port : ℕ) → are_declared ports ≡ true → has_number ports port ≡ true → (port == host) ≡ false
not_host ports port all h = above port (at_least ports port all h)
  where
    above : (port : ℕ) → nat_le 1 port ≡ true → (port == 0) ≡ false
    above port h = grind arith

-- nor is its name
name_not_host : (w : Word) → is_name w ≡ true → bytes_eq w host_name ≡ false
name_not_host w h = not-true _ (second_so (list_all is_name_byte w) _ (second_so (nat_le (length w) longest_name) _ (second_so (nat_lt 0 (length w)) _ h)))

-- what is said of the host, and of each declared port by its name
by_device : (P : ℕ → Word → Type 0) (ports : List Entry) (port : ℕ) → is_device ports port ≡ true
    → P host host_name → (has_number ports port ≡ true → P port (name_of ports port)) → P port (device_text ports port)
by_device P ports port h at_host at_port = by (port == host) refl h
  where
    by : (b : Bool) → (port == host) ≡ b → (b || has_number ports port) ≡ true → P port (if b then host_name else name_of ports port)
    by true is h = subst (λ (n : ℕ). P n host_name) (sym (eqb-true _ _ is)) at_host
    by false is h = at_port h

pub device_read : (ports : List Entry) (port : ℕ) → are_declared ports ≡ true → is_device ports port ≡ true → device ports (device_text ports port) ≡ Ok port
unfolding device
device_read ports port all h =
    by_device (λ p w. device ports w ≡ Ok p) ports port h refl
    (λ there.
    ap (λ (b : Bool). if b then Ok host else port_name ports (name_of ports port)) (name_not_host (name_of ports port) (named_by ports port all there))
    ∙ port_name_read ports port all there)

pub device_proper : (ports : List Entry) (port : ℕ) → are_declared ports ≡ true → is_device ports port ≡ true → is_proper (device_text ports port) ≡ true
device_proper ports port all h =
    by_device (λ p w. is_proper w ≡ true) ports port h refl (λ there. name_proper ports port all there)
