-- What is written for an operand is one word, can stand there, and is read back.
use Rattle.std.proofs.Common.{◌≡◌, ℕ, ◌^◌, ◌<◌, ◌≤◌, ◌==◌, nat_lt, nat_le, Bool, true, false, not, ◌&&◌, ◌||◌, if◌then◌else◌, List, [], ◌∷◌, map, refl, ◌∙◌, ap, subst, arith}
use Rattle.std.specs.Cmp.{first_so, second_so}
use Rattle.std.specs.Fmt.{decimal}
use Rattle.std.specs.List.{filter, list_all, list_any}
use Rattle.std.specs.Option.{is_some}
use Rattle.std.specs.declared.result.Result.TheVariants.{Ok, Err}
use Rattle.std.proofs.lemmas.Bool.{eqb-true, not-true, leb-true, ltb-true}
use Rattle.br_model.specs.declared.scenario.LineWhy.TheVariants as why
use Rattle.br_model.specs.Data.Digits.{hex_of}
use Rattle.br_model.specs.Table.Domains.{first_chip_domain, last_chip, last_port}
use Rattle.br_model.specs.Text.Declarations.{are_declared}
use Rattle.br_model.specs.Text.FlagWords.{flags, flag_named, name_of_flag}
use Rattle.br_model.specs.Text.Operands.{Operand, Number, Chip, NewPort, NewName, PortNumber, PortName, Device, Station, GroupAddress, Hex, Flag, Value, read, spelled}
use Rattle.br_model.specs.Text.Operands.{in_range, can_stand, number, chip_domain, new_port, new_name, unless, mac, hex, flag, bytes_of, is_station, is_byte, is_flag}
use Rattle.br_model.specs.Text.Roster.{Entry, has_number, is_chip, port_named, is_name}
use Rattle.br_model.specs.Text.Spelling.{mac_text}
use Rattle.br_model.specs.Text.Words.{Word, is_word}
use Rattle.br_model.proofs.Text.WrittenAddresses.{mac_read, mac_proper}
use Rattle.br_model.proofs.Text.WrittenGroups.{ip_read, ip_proper}
use Rattle.br_model.proofs.Text.WrittenNames.{port_small, port_number_read, port_name_read, name_proper, given_name_proper, device_read, device_proper, number_read}
use Rattle.br_model.proofs.Text.WrittenNumbers.{decimal_proper, hex_read, hex_proper}
use Rattle.br_model.proofs.Text.WrittenWords.{is_proper}

-- whether a number that is in range has no more than 64 bits
abbrev pub is_narrow : Operand → Bool
is_narrow (Number low high) = nat_lt high (2 ^ 64)
is_narrow Chip = true
is_narrow NewPort = true
is_narrow NewName = true
is_narrow PortNumber = true
is_narrow PortName = true
is_narrow Device = true
is_narrow Station = true
is_narrow GroupAddress = true
is_narrow Hex = true
is_narrow Flag = true

below : (high n : ℕ) → nat_lt high (2 ^ 64) ≡ true → nat_le n high ≡ true → n < 2 ^ 64
below high n narrow h =
    let small : high < 2 ^ 64 = under high narrow in
    let most : n ≤ high = leb-true n high h in
    omega arith
  where
    under : (high : ℕ) → nat_lt high (2 ^ 64) ≡ true → high < 2 ^ 64
    under high h = grind arith

in_number : (low high n : ℕ) → nat_lt high (2 ^ 64) ≡ true → (nat_le low n && nat_le n high) ≡ true → number low high (decimal n) ≡ Ok n
in_number low high n narrow h = number_read low high n (below high n narrow (second_so (nat_le low n) _ h)) (first_so _ _ h) (second_so (nat_le low n) _ h)

-- what is said of each number of a list
among : (P : ℕ → Type 0) (t : ℕ → Bool) (d : ℕ) (ds : List ℕ) (n : ℕ) → P d → (list_any (λ x. x == n) (filter t ds) ≡ true → P n)
    → list_any (λ x. x == n) (filter t (d ∷ ds)) ≡ true → P n
among P t d ds n this later = by (t d)
  where
    is : (b : Bool) → (d == n) ≡ b → (b || list_any (λ x. x == n) (filter t ds)) ≡ true → P n
    is true e h = subst P (eqb-true _ _ e) this
    is false e h = later h

    by : (b : Bool) → list_any (λ x. x == n) (if b then d ∷ filter t ds else filter t ds) ≡ true → P n
    by true h = is (d == n) refl h
    by false h = later h

-- what is said of each domain that a chip can have
by_chip : (P : ℕ → Type 0) → P 1 → P 2 → P 3 → P 4 → (ports : List Entry) (dom : ℕ) → is_chip ports dom ≡ true → P dom
by_chip P a b c d ports dom =
    let t : ℕ → Bool = λ x. x == first_chip_domain || list_any (λ y. y == x) (map (λ (e : Entry). e.dom) ports) in
    among P t 1 (2 ∷ 3 ∷ 4 ∷ []) dom a (among P t 2 (3 ∷ 4 ∷ []) dom b (among P t 3 (4 ∷ []) dom c (among P t 4 [] dom d (λ none. absurd (cc)))))

chip_read : (ports : List Entry) (dom : ℕ) → is_chip ports dom ≡ true → chip_domain ports (decimal dom) ≡ Ok dom
unfolding chip_domain
chip_read ports dom h =
    let is_number : number first_chip_domain last_chip (decimal dom) ≡ Ok dom =
    by_chip (λ n. number first_chip_domain last_chip (decimal n) ≡ Ok n) (in_number 1 4 1 refl refl) (in_number 1 4 2 refl refl) (in_number 1 4 3 refl refl) (in_number 1 4 4 refl refl) ports dom h in
    ap (unless why.Port (λ d. not (is_chip ports d))) is_number ∙ ap (λ (b : Bool). if not b then Err why.Port else Ok dom) h

chip_proper : (ports : List Entry) (dom : ℕ) → is_chip ports dom ≡ true → is_proper (decimal dom) ≡ true
chip_proper ports dom h =
    let few : dom < 2 ^ 64 = by_chip (λ n. n < 2 ^ 64) (omega arith) (omega arith) (omega arith) (omega arith) ports dom h in
    decimal_proper dom few

new_port_read : (ports : List Entry) (port : ℕ) → (nat_le 1 port && nat_le port last_port) ≡ true → has_number ports port ≡ false → new_port ports (decimal port) ≡ Ok port
unfolding new_port
new_port_read ports port h free =
    ap (unless why.Port (λ n. has_number ports n)) (in_number 1 last_port port refl h) ∙ ap (λ (b : Bool). if b then Err why.Port else Ok port) free

new_name_read : (ports : List Entry) (name : Word) → (is_name name && not (is_some (port_named ports name))) ≡ true → new_name ports name ≡ Ok name
unfolding new_name
new_name_read ports name h = ap (λ (b : Bool). if b then Ok name else Err why.Port) h

station_read : (address : ℕ) → is_station address ≡ true → mac (mac_text address) ≡ Ok address
station_read address h = mac_read address (ltb-true address (2 ^ 48) (first_so _ _ h)) (not-true _ (second_so _ _ h))

hex_is : (bytes : List ℕ) → is_word bytes ≡ true → list_all is_byte bytes ≡ true → hex (hex_of bytes) ≡ Ok bytes
unfolding hex
hex_is [] some h = absurd (cc)
hex_is (b ∷ bytes) some h = ap bytes_of (hex_read (b ∷ bytes) h)

-- what is said of each flag that has a name
by_flag : (P : ℕ → Type 0) → P 1 → P 2 → P 4 → P 8 → P 16 → P 32 → (f : ℕ) → is_flag f ≡ true → P f
by_flag P a b c d e g f h =
    here 1 a _ (here 2 b _ (here 4 c _ (here 8 d _ (here 16 e _ (here 32 g false (λ none. absurd (cc))))))) h
  where
    here : (n : ℕ) → P n → (more : Bool) → (more ≡ true → P f) → (n == f || more) ≡ true → P f
    here n this more later h = by (n == f) refl h
      where
        by : (b : Bool) → (n == f) ≡ b → (b || more) ≡ true → P f
        by true is h = subst P (eqb-true _ _ is) this
        by false is h = later h

flag_read : (f : ℕ) → is_flag f ≡ true → flag (name_of_flag flags f) ≡ Ok f
unfolding flag
flag_read = by_flag (λ f. flag (name_of_flag flags f) ≡ Ok f) refl refl refl refl refl refl

flag_proper : (f : ℕ) → is_flag f ≡ true → is_proper (name_of_flag flags f) ≡ true
flag_proper = by_flag (λ f. is_proper (name_of_flag flags f) ≡ true) refl refl refl refl refl refl

flag_stands : (f : ℕ) → is_flag f ≡ true → is_some (flag_named flags (name_of_flag flags f)) ≡ true
flag_stands = by_flag (λ f. is_some (flag_named flags (name_of_flag flags f)) ≡ true) refl refl refl refl refl refl

pub operand_read : (ports : List Entry) (o : Operand) (value : Value o) → are_declared ports ≡ true → is_narrow o ≡ true → in_range ports o value ≡ true
    → read ports o (spelled ports o value) ≡ Ok value
operand_read ports (Number low high) n all narrow h = in_number low high n narrow h
operand_read ports Chip dom all narrow h = chip_read ports dom h
operand_read ports NewPort port all narrow h = new_port_read ports port (first_so _ _ h) (not-true _ (second_so (nat_le 1 port && nat_le port last_port) _ h))
operand_read ports NewName name all narrow h = new_name_read ports name h
operand_read ports PortNumber port all narrow h = port_number_read ports port all h
operand_read ports PortName port all narrow h = port_name_read ports port all h
operand_read ports Device port all narrow h = device_read ports port all h
operand_read ports Station address all narrow h = station_read address h
operand_read ports GroupAddress address all narrow h = ip_read address h
operand_read ports Hex bytes all narrow h = hex_is bytes (first_so _ _ h) (second_so (is_word bytes) _ h)
operand_read ports Flag f all narrow h = flag_read f h

pub operand_proper : (ports : List Entry) (o : Operand) (value : Value o) → are_declared ports ≡ true → is_narrow o ≡ true → in_range ports o value ≡ true
    → is_proper (spelled ports o value) ≡ true
operand_proper ports (Number low high) n all narrow h = decimal_proper n (below high n narrow (second_so (nat_le low n) _ h))
operand_proper ports Chip dom all narrow h = chip_proper ports dom h
operand_proper ports NewPort port all narrow h = decimal_proper port (below last_port port refl (second_so (nat_le 1 port) _ (first_so _ _ h)))
operand_proper ports NewName name all narrow h = given_name_proper name (first_so _ _ h)
operand_proper ports PortNumber port all narrow h = decimal_proper port (port_small ports port all h)
operand_proper ports PortName port all narrow h = name_proper ports port all h
operand_proper ports Device port all narrow h = device_proper ports port all h
operand_proper ports Station address all narrow h = mac_proper address
operand_proper ports GroupAddress address all narrow h = ip_proper address
operand_proper ports Hex bytes all narrow h = hex_proper bytes (first_so _ _ h) (second_so (is_word bytes) _ h)
operand_proper ports Flag f all narrow h = flag_proper f h

pub operand_stands : (ports : List Entry) (o : Operand) (value : Value o) → in_range ports o value ≡ true → can_stand o (spelled ports o value) ≡ true
operand_stands ports (Number low high) n h = refl
operand_stands ports Chip dom h = refl
operand_stands ports NewPort port h = refl
operand_stands ports NewName name h = refl
operand_stands ports PortNumber port h = refl
operand_stands ports PortName port h = refl
operand_stands ports Device port h = refl
operand_stands ports Station address h = refl
operand_stands ports GroupAddress address h = refl
operand_stands ports Hex bytes h = refl
operand_stands ports Flag f h = flag_stands f h
