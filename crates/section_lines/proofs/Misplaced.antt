-- Which forms words have, by what their line says; and forms that stand nowhere.
use Rattle.std.proofs.Common.{◌≡◌, true≢false, ℕ, ◌+◌, ◌==◌, nat_le, Bool, true, false, not, ◌&&◌, if◌then◌else◌, cond, List, [], ◌∷◌, ◌++◌, length, map, is_some, Option, Some, None, Result, Ok, Err, refl, sym, ap, ◌∙◌}
use Rattle.std.specs.Cmp.{first_so, second_so}
use Rattle.std.specs.Str.{bytes_eq}
use Rattle.std.proofs.lemmas.Option.{same_Some}
use Rattle.br_model.specs.declared.scenario.LineWhy.{LineWhy}
use Rattle.br_model.specs.declared.scenario.LineWhy.TheVariants as why
use Rattle.br_model.specs.declared.scenario.Said.{Said}
use Rattle.br_model.specs.Data.Digits.{bytes_from_hex, decimal_from, station}
use Rattle.br_model.specs.Table.Domains.{first_chip_domain, host, last_chip, last_port}
use Rattle.br_model.specs.Text.FlagWords.{flags, flag_named}
use Rattle.br_model.specs.Text.Forms.{Token, Fixed, Has, Row, Makes, after, fits, line, operands_from, pick, reads, said}
use Rattle.br_model.specs.Text.IpWords.{address}
use Rattle.br_model.specs.Text.Operands.{Operand, Value, Number, Chip, NewPort, NewName, PortNumber, PortName, Device, Station, GroupAddress, Hex, Flag, bytes_of, can_stand, chip_domain, device, flag, found, group, has_colons, hex, mac, new_name, new_port, number, number_in, port_name, port_number, read, station_of, twelve, unless}
use Rattle.br_model.specs.Text.Roster.{Entry, Roster, has_number, host_name, is_chip, is_name, port_named}
use Rattle.br_model.specs.Text.Words.{Word}
use Rattle.timings.specs.InputForms.{is_known, nowhere}

-- whether a line is of no form
abbrev pub is_unknown : {A : Type 0} → Result A LineWhy → Bool
is_unknown (Ok x) = false
is_unknown (Err why.Long) = false
is_unknown (Err why.Unended) = false
is_unknown (Err why.Word) = true
is_unknown (Err why.Place) = false
is_unknown (Err why.Number) = false
is_unknown (Err why.Port) = false
is_unknown (Err why.Address) = false
is_unknown (Err why.Hex) = false
is_unknown (Err (why.Capture at)) = false
is_unknown (Err why.NoMemory) = false

-- An operand that can stand where it does is of a form.

found-known : {A : Type 0} (fault : LineWhy) (o : Option A) → is_unknown {A = A} (Err fault) ≡ false → is_unknown (found fault o) ≡ false
found-known fault None e = e
found-known fault (Some x) e = refl

if-known : {A : Type 0} (b : Bool) (x y : Result A LineWhy) → is_unknown x ≡ false → is_unknown y ≡ false → is_unknown (if b then x else y) ≡ false
if-known true x y p q = p
if-known false x y p q = q

unless-known : {A : Type 0} (fault : LineWhy) (test : A → Bool) (r : Result A LineWhy) → is_unknown {A = A} (Err fault) ≡ false → is_unknown r ≡ false → is_unknown (unless fault test r) ≡ false
unless-known fault test (Err e) p q = q
unless-known fault test (Ok x) p q = if-known (test x) (Err fault) (Ok x) p refl

number-known : (low high : ℕ) (w : Word) → is_unknown (number low high w) ≡ false
unfolding number
number-known low high w = by (decimal_from w)
  where
    by : (o : Option ℕ) → is_unknown (number_in low high o) ≡ false
    by None = refl
    by (Some n) = if-known (nat_le low n && nat_le n high) (Ok n) (Err why.Number) refl refl

chip-known : (ports : List Entry) (w : Word) → is_unknown (chip_domain ports w) ≡ false
unfolding chip_domain
chip-known ports w = unless-known why.Port (λ dom. not (is_chip ports dom)) (number first_chip_domain last_chip w) refl (number-known first_chip_domain last_chip w)

new-port-known : (ports : List Entry) (w : Word) → is_unknown (new_port ports w) ≡ false
unfolding new_port
new-port-known ports w = unless-known why.Port (λ n. has_number ports n) (number 1 last_port w) refl (number-known 1 last_port w)

new-name-known : (ports : List Entry) (w : Word) → is_unknown (new_name ports w) ≡ false
unfolding new_name
new-name-known ports w = if-known (is_name w && not (is_some (port_named ports w))) (Ok w) (Err why.Port) refl refl

port-number-known : (ports : List Entry) (w : Word) → is_unknown (port_number ports w) ≡ false
unfolding port_number
port-number-known ports w =
    unless-known why.Port (λ n. not (nat_le n last_port && has_number ports n)) (found why.Number (decimal_from w)) refl (found-known why.Number (decimal_from w) refl)

port-name-known : (ports : List Entry) (w : Word) → is_unknown (port_name ports w) ≡ false
unfolding port_name
port-name-known ports w = found-known why.Port (port_named ports w) refl

device-known : (ports : List Entry) (w : Word) → is_unknown (device ports w) ≡ false
unfolding device
device-known ports w = if-known (bytes_eq w host_name) (Ok host) (port_name ports w) refl (port-name-known ports w)

mac-known : (w : Word) → is_unknown (mac w) ≡ false
unfolding mac
mac-known w = if-known (length w == 17 && has_colons w) (station_of (bytes_from_hex (twelve w))) (Err why.Address) (by (bytes_from_hex (twelve w))) refl
  where
    by : (o : Option (List ℕ)) → is_unknown (station_of o) ≡ false
    by None = refl
    by (Some bytes) = found-known why.Address (station bytes) refl

group-known : (w : Word) → is_unknown (group w) ≡ false
unfolding group
group-known w = found-known why.Address (address w) refl

hex-known : (w : Word) → is_unknown (hex w) ≡ false
unfolding hex
hex-known w = by (bytes_from_hex w)
  where
    by : (o : Option (List ℕ)) → is_unknown (bytes_of o) ≡ false
    by None = refl
    by (Some []) = refl
    by (Some (b ∷ bytes)) = refl

flag-known : (w : Word) → is_some (flag_named flags w) ≡ true → is_unknown (flag w) ≡ false
unfolding flag
flag-known w h = by (flag_named flags w) h
  where
    by : (o : Option ℕ) → is_some o ≡ true → is_unknown (found why.Word o) ≡ false
    by None e = absurd (cc)
    by (Some n) e = refl

read-known : (ports : List Entry) (o : Operand) (w : Word) → can_stand o w ≡ true → is_unknown (read ports o w) ≡ false
read-known ports (Number low high) w h = number-known low high w
read-known ports Chip w h = chip-known ports w
read-known ports NewPort w h = new-port-known ports w
read-known ports NewName w h = new-name-known ports w
read-known ports PortNumber w h = port-number-known ports w
read-known ports PortName w h = port-name-known ports w
read-known ports Device w h = device-known ports w
read-known ports Station w h = mac-known w
read-known ports GroupAddress w h = group-known w
read-known ports Hex w h = hex-known w
read-known ports Flag w h = flag-known w h

-- the operands of words that fit
reads-known : (A : Type 0) (ports : List Entry) (ts : List Token) (i : ℕ) (says : Makes A (operands_from i ts)) (w : ℕ → Word) → fits ts i w ≡ true
    → is_unknown (reads ports (operands_from i ts) says w) ≡ false
reads-known A ports [] i says w h = refl
reads-known A ports (Fixed v ∷ ts) i says w h = reads-known A ports ts (i + 1) says w (second_so _ _ h)
reads-known A ports (Has o ∷ ts) i says w h =
    by (λ x. reads-known A ports ts (i + 1) (says x) w (second_so _ _ h)) (read ports o (w i)) (read-known ports o (w i) (first_so _ _ h))
  where
    by : ((x : Value o) → is_unknown (reads ports (operands_from (i + 1) ts) (says x) w) ≡ false) → (r : Result (Value o) LineWhy) → is_unknown r ≡ false
        → is_unknown (after {B = A} r (λ x. reads ports (operands_from (i + 1) ts) (says x) w)) ≡ false
    by later (Ok x) e = later x
    by later (Err fault) e = e

-- A row is picked where its words fit.

picked-fits : {A : Type 0} (rows : List (Row A)) (n : ℕ) (w : ℕ → Word) (r : Row A) → pick rows n w ≡ Some r → fits r.shape 0 w ≡ true
picked-fits [] n w r e = absurd (cc)
picked-fits (s ∷ rows) n w r e = by (picked-fits rows n w r) (n == length s.shape) (fits s.shape 0 w) refl e
  where
    by : (pick rows n w ≡ Some r → fits r.shape 0 w ≡ true) → (b c : Bool) → fits s.shape 0 w ≡ c → (if b && c then Some s else pick rows n w) ≡ Some r → fits r.shape 0 w ≡ true
    by later true true f g = ap (λ x. fits x.shape 0 w) (sym (same_Some s r g)) ∙ f
    by later true false f g = later g
    by later false c f g = later g

-- The words of a line are of a form exactly where one is picked.
pub is-known : {A : Type 0} (rows : List (Row A)) (roster : Roster) (n : ℕ) (w : ℕ → Word) → is_some (pick rows n w) ≡ not (is_unknown (line rows roster n w))
is-known {A} rows roster n w = by (pick rows n w) refl
  where
    by : (o : Option (Row A)) → pick rows n w ≡ o → is_some o ≡ not (is_unknown (said roster o w))
    by None e = refl
    by (Some r) e =
        sym (ap not (if-known (r.place roster) (reads roster.ports (operands_from 0 r.shape) r.says w) (Err why.Place)
        (reads-known A roster.ports r.shape 0 r.says w (picked-fits rows n w r e)) refl))

-- Forms of the same words are picked alike.

pub picks-alike : {A B : Type 0} (f : Row A → Row B) → ((r : Row A) → (f r).shape ≡ r.shape) → (rows : List (Row A)) (n : ℕ) (w : ℕ → Word)
    → is_some (pick (map f rows) n w) ≡ is_some (pick rows n w)
picks-alike f same [] n w = refl
picks-alike f same (r ∷ rows) n w =
    ap (λ s. is_some (cond (n == length s && fits s 0 w) (Some (f r)) (pick (map f rows) n w))) (same r)
    ∙ by (picks-alike f same rows n w) (n == length r.shape && fits r.shape 0 w)
  where
    by : is_some (pick (map f rows) n w) ≡ is_some (pick rows n w) → (b : Bool) → is_some (cond b (Some (f r)) (pick (map f rows) n w)) ≡ is_some (cond b (Some r) (pick rows n w))
    by later true = refl
    by later false = later

-- a line of a form that stands nowhere
abbrev pub misplaced : {A : Type 0} → Bool → Result A LineWhy
misplaced known = if known then Err why.Place else Err why.Word

-- Where no form stands, each is misplaced.
pub none-stands : {A B : Type 0} (f : Row A → Row B) → ((r : Row A) → (f r).shape ≡ r.shape) → ((r : Row A) (roster : Roster) → (f r).place roster ≡ false)
    → (rows : List (Row A)) (roster : Roster) (n : ℕ) (w : ℕ → Word) → line (map f rows) roster n w ≡ misplaced (is_some (pick rows n w))
none-stands f same away [] roster n w = refl
none-stands {A} {B} f same away (r ∷ rows) roster n w =
    ap (λ s. said roster (cond (n == length s && fits s 0 w) (Some (f r)) (pick (map f rows) n w)) w) (same r)
    ∙ by (none-stands f same away rows roster n w) (n == length r.shape && fits r.shape 0 w)
  where
    by : line (map f rows) roster n w ≡ misplaced (is_some (pick rows n w)) → (b : Bool)
        → said roster (cond b (Some (f r)) (pick (map f rows) n w)) w ≡ misplaced (is_some (cond b (Some r) (pick rows n w)))
    by later true = ap (λ p. if p then reads roster.ports (operands_from 0 (f r).shape) (f r).says w else Err why.Place) (away r roster)
    by later false = later

pub nowhere-misplaced : {A : Type 0} (rows : List (Row A)) (roster : Roster) (n : ℕ) (w : ℕ → Word) → line (map nowhere rows) roster n w ≡ misplaced (is_some (pick rows n w))
nowhere-misplaced rows roster n w = none-stands nowhere (λ r. refl) (λ r roster. refl) rows roster n w

pub known-misplaced : (rows : List (Row Said)) (roster : Roster) (n : ℕ) (w : ℕ → Word) → line (map is_known rows) roster n w ≡ misplaced (is_some (pick rows n w))
known-misplaced rows roster n w = none-stands is_known (λ r. refl) (λ r roster. refl) rows roster n w

-- Rows behind others, none of which is picked, and in front of others, where one is.

pub picked-behind : {A : Type 0} (rows later : List (Row A)) (n : ℕ) (w : ℕ → Word) → is_some (pick rows n w) ≡ false → pick (rows ++ later) n w ≡ pick later n w
picked-behind [] later n w h = refl
picked-behind (r ∷ rows) later n w h = by (picked-behind rows later n w) (n == length r.shape && fits r.shape 0 w) h
  where
    by : (is_some (pick rows n w) ≡ false → pick (rows ++ later) n w ≡ pick later n w) → (b : Bool) → is_some (cond b (Some r) (pick rows n w)) ≡ false
        → cond b (Some r) (pick (rows ++ later) n w) ≡ pick later n w
    by rest true e = absurd (true≢false e)
    by rest false e = rest e

pub picked-before : {A : Type 0} (rows later : List (Row A)) (n : ℕ) (w : ℕ → Word) → is_some (pick rows n w) ≡ true → pick (rows ++ later) n w ≡ pick rows n w
picked-before [] later n w h = absurd (true≢false (sym h))
picked-before (r ∷ rows) later n w h = by (picked-before rows later n w) (n == length r.shape && fits r.shape 0 w) h
  where
    by : (is_some (pick rows n w) ≡ true → pick (rows ++ later) n w ≡ pick rows n w) → (b : Bool) → is_some (cond b (Some r) (pick rows n w)) ≡ true
        → cond b (Some r) (pick (rows ++ later) n w) ≡ cond b (Some r) (pick rows n w)
    by rest true e = refl
    by rest false e = rest e

-- What the answer of a line says of its words.

pub of-no-form : {A : Type 0} (rows : List (Row A)) (roster : Roster) (n : ℕ) (w : ℕ → Word) (fault : LineWhy) → Err fault ≡ line rows roster n w → fault ≡ why.Word
    → false ≡ is_some (pick rows n w)
of-no-form {A} rows roster n w fault e is = sym (is-known rows roster n w ∙ ap (λ r. not (is_unknown r)) (sym e) ∙ ap (λ y. not (is_unknown {A = A} (Err y))) is)

pub of-a-form : {A : Type 0} (rows : List (Row A)) (roster : Roster) (n : ℕ) (w : ℕ → Word) (fault : LineWhy) → Err fault ≡ line rows roster n w → (fault ≡ why.Word → ⊥)
    → true ≡ is_some (pick rows n w)
of-a-form {A} rows roster n w fault e other = sym (is-known rows roster n w ∙ ap (λ r. not (is_unknown r)) (sym e) ∙ ap not (by fault other))
  where
    by : (y : LineWhy) → (y ≡ why.Word → ⊥) → is_unknown {A = A} (Err y) ≡ false
    by why.Long h = refl
    by why.Unended h = refl
    by why.Word h = absurd (h refl)
    by why.Place h = refl
    by why.Number h = refl
    by why.Port h = refl
    by why.Address h = refl
    by why.Hex h = refl
    by (why.Capture at) h = refl
    by why.NoMemory h = refl

pub says-one : {A : Type 0} (rows : List (Row A)) (roster : Roster) (n : ℕ) (w : ℕ → Word) (x : A) → Ok x ≡ line rows roster n w → true ≡ is_some (pick rows n w)
says-one rows roster n w x e = sym (is-known rows roster n w ∙ ap (λ r. not (is_unknown r)) (sym e))
