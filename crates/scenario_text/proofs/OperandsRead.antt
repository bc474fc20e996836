-- The value that a word gives is in the range of its operand.
use Rattle.std.proofs.Common.{◌≡◌, ℕ, zero, suc, ◌+◌, ◌-◌, ◌*◌, ◌^◌, ◌<◌, ◌≤◌, ◌==◌, nat_le, Bool, true, false, not, ◌&&◌, ◌||◌}
use Rattle.std.proofs.Common.{if◌then◌else◌, List, [], ◌∷◌, length, refl, sym, ◌∙◌, ap, subst, arith, Option, Some, None, Result, Ok, Err}
use Rattle.std.proofs.Math.Nat.{lt_of_lt_of_le, mul-le-mul_left, mul_assoc, mul_comm, pow-succ', pow-zero}
use Rattle.std.specs.Cmp.{first_so, second_so}
use Rattle.std.specs.List.{fold, list_all, list_any, slice_split}
use Rattle.std.specs.Option.{is_some, option_map}
use Rattle.std.specs.Str.{bytes_eq}
use Rattle.std.proofs.lemmas.Bool.{eq-eqb, and_from, or_left, or_right, not-false, leb-true, lt-ltb, ltb-true}
use Rattle.br_model.specs.declared.group.Ip.{Ip}
use Rattle.br_model.specs.declared.group.Ip.TheVariants.{V4, V6}
use Rattle.br_model.specs.declared.scenario.LineWhy.{LineWhy}
use Rattle.br_model.specs.declared.scenario.LineWhy.TheVariants as why
use Rattle.br_model.specs.Data.Digits.{bytes_from_hex, byte_of, decimal_from, in_front, nibble, station, up_to}
use Rattle.br_model.specs.Data.Numbers.{is_multicast, number as number_of}
use Rattle.br_model.specs.Table.Domains.{host, last_port, first_chip_domain, last_chip}
use Rattle.br_model.specs.Text.FlagWords.{flag_named, flags}
use Rattle.br_model.specs.Text.IpWords.{address, address_four, address_six, each, four_digits, four_or_six, in_parts, octet}
use Rattle.br_model.specs.Text.Operands.{Operand, Number, Chip, NewPort, NewName, PortNumber, PortName, Device, Station, GroupAddress, Hex, Flag, Value, bytes_of, chip_domain, device, flag, found}
use Rattle.br_model.specs.Text.Operands.{group, has_colons, hex, in_range, is_byte, is_device, is_flag, is_ip, is_station, mac, new_name, new_port, number, number_in, port_name, port_number, read}
use Rattle.br_model.specs.Text.Operands.{station_of, twelve, unless}
use Rattle.br_model.specs.Text.Roster.{Entry, has_number, is_chip, is_name, host_name, port_named}
use Rattle.br_model.specs.Text.Words.{Word, is_word}

-- truth values

-- what was tested

unless_test : {A : Type 0} (fault : LineWhy) (test : A → Bool) (r : Result A LineWhy) (x : A) → unless fault test r ≡ Ok x → test x ≡ false
unless_test fault test (Err e) x h = absurd (cc)
unless_test fault test (Ok y) x h = by (test y) refl h
  where
    by : (b : Bool) → test y ≡ b → (if b then Err fault else Ok y) ≡ Ok x → test x ≡ false
    by true e h = absurd (cc)
    by false e h = let same : y ≡ x = cc in ap test (sym same) ∙ e

unless_ok : {A : Type 0} (fault : LineWhy) (test : A → Bool) (r : Result A LineWhy) (x : A) → unless fault test r ≡ Ok x → r ≡ Ok x
unless_ok fault test (Err e) x h = absurd (cc)
unless_ok fault test (Ok y) x h = ap Ok (by (test y) h)
  where
    by : (b : Bool) → (if b then Err fault else Ok y) ≡ Ok x → y ≡ x
    by true h = absurd (cc)
    by false h = cc

found_so : {A : Type 0} (fault : LineWhy) (o : Option A) (x : A) → found fault o ≡ Ok x → o ≡ Some x
found_so fault None x h = absurd (cc)
found_so fault (Some y) x h = let same : y ≡ x = cc in ap Some same

-- numbers

number_found : (low high : ℕ) (o : Option ℕ) (n : ℕ) → number_in low high o ≡ Ok n → (nat_le low n && nat_le n high) ≡ true
number_found low high None n h = absurd (cc)
number_found low high (Some m) n h = by (nat_le low m && nat_le m high) refl h
  where
    by : (b : Bool) → (nat_le low m && nat_le m high) ≡ b → (if b then Ok m else Err why.Number) ≡ Ok n → (nat_le low n && nat_le n high) ≡ true
    by true e h = let same : m ≡ n = cc in ap (λ (k : ℕ). nat_le low k && nat_le k high) (sym same) ∙ e
    by false e h = absurd (cc)

number_so : (low high : ℕ) (w : Word) (n : ℕ) → number low high w ≡ Ok n → (nat_le low n && nat_le n high) ≡ true
unfolding number
number_so low high w n h = number_found low high (decimal_from w) n h

up_so : (most : ℕ) (o : Option ℕ) (n : ℕ) → up_to most o ≡ Some n → n ≤ most
up_so most None n h = absurd (cc)
up_so most (Some m) n h = by (nat_le m most) refl h
  where
    by : (b : Bool) → nat_le m most ≡ b → (if b then Some m else None) ≡ Some n → n ≤ most
    by true e h = let same : m ≡ n = cc in subst (λ (k : ℕ). k ≤ most) same (leb-true m most e)
    by false e h = absurd (cc)

-- ports

chip_so : (ports : List Entry) (w : Word) (dom : ℕ) → chip_domain ports w ≡ Ok dom → is_chip ports dom ≡ true
unfolding chip_domain
chip_so ports w dom h = not-false (is_chip ports dom) (unless_test why.Port (λ d. not (is_chip ports d)) (number first_chip_domain last_chip w) dom h)

new_port_so : (ports : List Entry) (w : Word) (port : ℕ) → new_port ports w ≡ Ok port → ((nat_le 1 port && nat_le port last_port) && not (has_number ports port)) ≡ true
unfolding new_port
new_port_so ports w port h =
    let free : has_number ports port ≡ false = unless_test why.Port (λ n. has_number ports n) (number 1 last_port w) port h in
    and_from _ _ (number_so 1 last_port w port (unless_ok why.Port (λ n. has_number ports n) (number 1 last_port w) port h)) (ap not free)

new_name_so : (ports : List Entry) (w name : Word) → new_name ports w ≡ Ok name → (is_name name && not (is_some (port_named ports name))) ≡ true
unfolding new_name
new_name_so ports w name h = by (is_name w && not (is_some (port_named ports w))) refl h
  where
    by : (b : Bool) → (is_name w && not (is_some (port_named ports w))) ≡ b → (if b then Ok w else Err why.Port) ≡ Ok name → (is_name name && not (is_some (port_named ports name))) ≡ true
    by true e h = let same : w ≡ name = cc in ap (λ (v : Word). is_name v && not (is_some (port_named ports v))) (sym same) ∙ e
    by false e h = absurd (cc)

port_number_so : (ports : List Entry) (w : Word) (port : ℕ) → port_number ports w ≡ Ok port → has_number ports port ≡ true
unfolding port_number
port_number_so ports w port h =
    let tested = not-false (nat_le port last_port && has_number ports port) (unless_test why.Port (λ n. not (nat_le n last_port && has_number ports n)) (found why.Number (decimal_from w)) port h) in
    second_so (nat_le port last_port) (has_number ports port) tested

named_so : (ports : List Entry) (w : Word) (port : ℕ) → port_named ports w ≡ Some port → has_number ports port ≡ true
named_so [] w port h = absurd (cc)
named_so (e ∷ ports) w port h = by (bytes_eq w e.name) h (named_so ports w port)
  where
    by : (b : Bool) → (if b then Some e.port else port_named ports w) ≡ Some port → (port_named ports w ≡ Some port → has_number ports port ≡ true) → (e.port == port || has_number ports port) ≡ true
    by true h later = let same : e.port ≡ port = cc in or_left (e.port == port) (has_number ports port) (eq-eqb e.port port same)
    by false h later = or_right (e.port == port) (has_number ports port) (later h)

port_name_so : (ports : List Entry) (w : Word) (port : ℕ) → port_name ports w ≡ Ok port → has_number ports port ≡ true
unfolding port_name
port_name_so ports w port h = named_so ports w port (found_so why.Port (port_named ports w) port h)

device_so : (ports : List Entry) (w : Word) (port : ℕ) → device ports w ≡ Ok port → is_device ports port ≡ true
unfolding device
device_so ports w port h = by (bytes_eq w host_name) h
  where
    by : (b : Bool) → (if b then Ok host else port_name ports w) ≡ Ok port → (port == host || has_number ports port) ≡ true
    by true h = let same : port ≡ host = cc in or_left (port == host) (has_number ports port) (eq-eqb port host same)
    by false h = or_right (port == host) (has_number ports port) (port_name_so ports w port h)

-- bytes

nibble_so : (c n : ℕ) → nibble c ≡ Some n → n < 16
nibble_so c n h = by (nat_le 48 c && nat_le c 57) (nat_le 65 c && nat_le c 70) (nat_le 97 c && nat_le c 102) refl refl refl h
  where
    by : (i j k : Bool) → (nat_le 48 c && nat_le c 57) ≡ i → (nat_le 65 c && nat_le c 70) ≡ j → (nat_le 97 c && nat_le c 102) ≡ k
        → (if i then Some (c - 48) else if j then Some (c - 55) else if k then Some (c - 87) else None) ≡ Some n → n < 16
    by true j k d e f h = let same : c - 48 ≡ n = cc in let most = leb-true c 57 (second_so (nat_le 48 c) _ d) in omega arith
    by false true k d e f h = let same : c - 55 ≡ n = cc in let most = leb-true c 70 (second_so (nat_le 65 c) _ e) in omega arith
    by false false true d e f h = let same : c - 87 ≡ n = cc in let most = leb-true c 102 (second_so (nat_le 97 c) _ f) in omega arith
    by false false false d e f h = absurd (cc)

byte_so : (high low : Option ℕ) (n : ℕ) → ((k : ℕ) → high ≡ Some k → k < 16) → ((k : ℕ) → low ≡ Some k → k < 16) → byte_of high low ≡ Some n → is_byte n ≡ true
byte_so None low n a b h = absurd (cc)
byte_so (Some x) None n a b h = absurd (cc)
byte_so (Some x) (Some y) n a b h =
    let same : 16 * x + y ≡ n = cc in
    let first : x < 16 = a x refl in
    let second : y < 16 = b y refl in
    let all : n < 256 = omega arith in
    lt-ltb n 256 all

-- the bytes of so many digits
pub hex_bytes : (digits bytes : List ℕ) → bytes_from_hex digits ≡ Some bytes → (list_all is_byte bytes ≡ true) × (2 * length bytes ≡ length digits)
hex_bytes [] bytes h = let same : [] ≡ bytes = cc in subst (λ (l : List ℕ). (list_all is_byte l ≡ true) × (2 * length l ≡ 0)) same (refl, refl)
hex_bytes (c ∷ []) bytes h = absurd (cc)
hex_bytes (c ∷ d ∷ cs) bytes h = by (byte_of (nibble c) (nibble d)) (bytes_from_hex cs) refl refl h (hex_bytes cs)
  where
    by : (o : Option ℕ) (p : Option (List ℕ)) → byte_of (nibble c) (nibble d) ≡ o → bytes_from_hex cs ≡ p → in_front o p ≡ Some bytes
        → ((more : List ℕ) → bytes_from_hex cs ≡ Some more → (list_all is_byte more ≡ true) × (2 * length more ≡ length cs))
        → (list_all is_byte bytes ≡ true) × (2 * length bytes ≡ length (c ∷ d ∷ cs))
    by None p e f h later = absurd (cc)
    by (Some b) None e f h later = absurd (cc)
    by (Some b) (Some more) e f h later =
        let same : b ∷ more ≡ bytes = cc in
        let rest = later more f in
        subst (λ (l : List ℕ). (list_all is_byte l ≡ true) × (2 * length l ≡ length (c ∷ d ∷ cs))) same
        (and_from _ _ (byte_so (nibble c) (nibble d) b (λ k is. nibble_so c k is) (λ k is. nibble_so d k is) e) rest.0, omega (arith, rest.1))

hex_so : (w : Word) (bytes : List ℕ) → hex w ≡ Ok bytes → (is_word bytes && list_all is_byte bytes) ≡ true
unfolding hex
hex_so w bytes h = by (bytes_from_hex w) refl h
  where
    by : (o : Option (List ℕ)) → bytes_from_hex w ≡ o → bytes_of o ≡ Ok bytes → (is_word bytes && list_all is_byte bytes) ≡ true
    by None e h = absurd (cc)
    by (Some []) e h = absurd (cc)
    by (Some (b ∷ bs)) e h =
        let same : b ∷ bs ≡ bytes = cc in
        ap (λ (l : List ℕ). is_word l && list_all is_byte l) (sym same) ∙ (hex_bytes w (b ∷ bs) e).0

-- what digits of a base spell

abbrev AreBelow : ℕ → List ℕ → Type 0
AreBelow base [] = Unit {0}
AreBelow base (d ∷ ds) = (d < base) × AreBelow base ds

turned : (a b p : ℕ) → a * (b * p) ≡ p * (b * a)
turned a b p = sym (mul_assoc a b p) ∙ ap (λ (n : ℕ). n * p) (mul_comm a b) ∙ mul_comm (b * a) p

spelled_so : (base a : ℕ) (ds : List ℕ) → AreBelow base ds → fold (λ n digit. base * n + digit) a ds < suc a * base ^ length ds
spelled_so base a [] h = subst (λ (p : ℕ). a < suc a * p) (sym (pow-zero base)) (omega arith)
spelled_so base a (d ∷ ds) h =
    let later = spelled_so base (base * a + d) ds h.1 in
    let p : ℕ = base ^ length ds in
    let least : suc (base * a + d) ≤ base * suc a = omega (arith, h.0) in
    let here : fold (λ n digit. base * n + digit) (base * a + d) ds < p * suc (base * a + d) =
    subst (λ (n : ℕ). fold (λ n digit. base * n + digit) (base * a + d) ds < n) (mul_comm (suc (base * a + d)) p) later in
    let whole : suc a * base ^ suc (length ds) ≡ p * (base * suc a) = ap (λ (n : ℕ). suc a * n) (pow-succ' base (length ds)) ∙ turned (suc a) base p in
    subst (λ (n : ℕ). fold (λ n digit. base * n + digit) (base * a + d) ds < n) (sym whole) (lt_of_lt_of_le here (mul-le-mul_left p least))

bytes_below : (bytes : List ℕ) → list_all is_byte bytes ≡ true → AreBelow 256 bytes
bytes_below [] h = tt
bytes_below (b ∷ bytes) h = (ltb-true b 256 (first_so _ _ h), bytes_below bytes (second_so _ _ h))

-- so many bytes
number_below : (n : ℕ) (bytes : List ℕ) → list_all is_byte bytes ≡ true → length bytes ≡ n → number_of bytes < 1 * 256 ^ n
number_below n bytes h is = subst (λ (k : ℕ). number_of bytes < 1 * 256 ^ k) is (spelled_so 256 0 bytes (bytes_below bytes h))

-- addresses of stations

station_so : (bytes : List ℕ) (a : ℕ) → list_all is_byte bytes ≡ true → length bytes ≡ 6 → station bytes ≡ Some a → is_station a ≡ true
station_so bytes a are six h = by (is_multicast (number_of bytes) || number_of bytes == 0) refl h
  where
    by : (b : Bool) → (is_multicast (number_of bytes) || number_of bytes == 0) ≡ b → (if b then None else Some (number_of bytes)) ≡ Some a → is_station a ≡ true
    by true e h = absurd (cc)
    by false e h =
        let same : number_of bytes ≡ a = cc in
        subst (λ (n : ℕ). is_station n ≡ true) same (and_from _ _ (lt-ltb (number_of bytes) (2 ^ 48) (number_below 6 bytes are six)) (ap not e))

pub mac_so : (w : Word) (a : ℕ) → mac w ≡ Ok a → is_station a ≡ true
unfolding mac
mac_so w a h = by (length w == 17 && has_colons w) (bytes_from_hex (twelve w)) refl h
  where
    by : (b : Bool) (o : Option (List ℕ)) → bytes_from_hex (twelve w) ≡ o → (if b then station_of o else Err why.Address) ≡ Ok a → is_station a ≡ true
    by true None e h = absurd (cc)
    by true (Some bytes) e h =
        let are = hex_bytes (twelve w) bytes e in
        let six : length bytes ≡ 6 = omega (arith, are.1) in
        station_so bytes a are.0 six (found_so why.Address (station bytes) a h)
    by false o e h = absurd (cc)

-- IP addresses

each_so : (base : ℕ) (part : Word → Option ℕ) (ws : List Word) (ds : List ℕ) → ((w : Word) (d : ℕ) → part w ≡ Some d → d < base) → each part ws ≡ Some ds → AreBelow base ds × (length ds ≡ length ws)
each_so base part [] ds small h = let same : [] ≡ ds = cc in subst (λ (l : List ℕ). AreBelow base l × (length l ≡ 0)) same (tt, refl)
each_so base part (w ∷ ws) ds small h = by (part w) (each part ws) refl refl h (λ ds. each_so base part ws ds small)
  where
    by : (o : Option ℕ) (p : Option (List ℕ)) → part w ≡ o → each part ws ≡ p → in_front o p ≡ Some ds
        → ((more : List ℕ) → each part ws ≡ Some more → AreBelow base more × (length more ≡ length ws)) → AreBelow base ds × (length ds ≡ suc (length ws))
    by None p e f h later = absurd (cc)
    by (Some d) None e f h later = absurd (cc)
    by (Some d) (Some more) e f h later =
        let same : d ∷ more ≡ ds = cc in
        let rest = later more f in
        subst (λ (l : List ℕ). AreBelow base l × (length l ≡ suc (length ws))) same ((small w d e, rest.0), ap suc rest.1)

parts_so : (count base : ℕ) (part : Word → Option ℕ) (ws : List Word) (n : ℕ) → ((w : Word) (d : ℕ) → part w ≡ Some d → d < base) → in_parts count base part ws ≡ Some n → n < 1 * base ^ count
parts_so count base part ws n small h = by (length ws == count) (each part ws) refl refl h
  where
    by : (b : Bool) (o : Option (List ℕ)) → (length ws == count) ≡ b → each part ws ≡ o → (if b then option_map (fold (λ n digit. base * n + digit) 0) o else None) ≡ Some n → n < 1 * base ^ count
    by true None d e h = absurd (cc)
    by true (Some ds) d e h =
        let same : fold (λ n digit. base * n + digit) 0 ds ≡ n = cc in
        let are = each_so base part ws ds small e in
        let long : length ds ≡ count = are.1 ∙ as_long (length ws) count d in
        subst (λ (k : ℕ). k < 1 * base ^ count) same (subst (λ (k : ℕ). fold (λ n digit. base * n + digit) 0 ds < 1 * base ^ k) long (spelled_so base 0 ds are.0))
      where
        as_long : (a b : ℕ) → (a == b) ≡ true → a ≡ b
        as_long a b h = grind arith
    by false o d e h = absurd (cc)

octet_so : (w : Word) (d : ℕ) → octet w ≡ Some d → d < 2 ^ 8
octet_so w d h = let most : d ≤ 255 = up_so 255 (decimal_from w) d h in omega arith

four_so : (w : Word) (d : ℕ) → four_digits w ≡ Some d → d < 2 ^ 16
four_so w d h = by (length w == 4) (bytes_from_hex w) refl refl h
  where
    by : (b : Bool) (o : Option (List ℕ)) → (length w == 4) ≡ b → bytes_from_hex w ≡ o → (if b then option_map number_of o else None) ≡ Some d → d < 2 ^ 16
    by true None e f h = absurd (cc)
    by true (Some bytes) e f h =
        let same : number_of bytes ≡ d = cc in
        let are = hex_bytes w bytes f in
        let two : length bytes ≡ 2 = half (length bytes) (length w) are.1 e in
        subst (λ (k : ℕ). k < 2 ^ 16) same (number_below 2 bytes are.0 two)
      where
        half : (n m : ℕ) → 2 * n ≡ m → (m == 4) ≡ true → n ≡ 2
        half n m e h = grind arith
    by false o e f h = absurd (cc)

ip_so : (w : Word) (g : Ip) → address w ≡ Some g → is_ip g ≡ true
ip_so w g h = by (address_four w) (address_six w) refl refl h
  where
    by : (o p : Option ℕ) → address_four w ≡ o → address_six w ≡ p → four_or_six o p ≡ Some g → is_ip g ≡ true
    by (Some n) p e f h =
        let same : V4 n ≡ g = cc in
        subst (λ (a : Ip). is_ip a ≡ true) same (lt-ltb n (2 ^ 32) (parts_so 4 (2 ^ 8) octet (slice_split (λ c. c == 46) w) n octet_so e))
    by None (Some n) e f h =
        let same : V6 n ≡ g = cc in
        subst (λ (a : Ip). is_ip a ≡ true) same (lt-ltb n (2 ^ 128) (parts_so 8 (2 ^ 16) four_digits (slice_split (λ c. c == 58) w) n four_so f))
    by None None e f h = absurd (cc)

group_so : (w : Word) (g : Ip) → group w ≡ Ok g → is_ip g ≡ true
unfolding group
group_so w g h = ip_so w g (found_so why.Address (address w) g h)

-- flags

flag_among : (fs : List (Word × ℕ)) (w : Word) (f : ℕ) → flag_named fs w ≡ Some f → list_any (λ x. x.1 == f) fs ≡ true
flag_among [] w f h = absurd (cc)
flag_among (x ∷ fs) w f h = by (bytes_eq w x.0) h (flag_among fs w f)
  where
    by : (b : Bool) → (if b then Some x.1 else flag_named fs w) ≡ Some f → (flag_named fs w ≡ Some f → list_any (λ y. y.1 == f) fs ≡ true) → (x.1 == f || list_any (λ y. y.1 == f) fs) ≡ true
    by true h later = let same : x.1 ≡ f = cc in or_left (x.1 == f) (list_any (λ y. y.1 == f) fs) (eq-eqb x.1 f same)
    by false h later = or_right (x.1 == f) (list_any (λ y. y.1 == f) fs) (later h)

flag_so : (w : Word) (f : ℕ) → flag w ≡ Ok f → is_flag f ≡ true
unfolding flag
flag_so w f h = flag_among flags w f (found_so why.Word (flag_named flags w) f h)

-- all operands

pub operand_so : (ports : List Entry) (o : Operand) (w : Word) (value : Value o) → read ports o w ≡ Ok value → in_range ports o value ≡ true
operand_so ports (Number low high) w n h = number_so low high w n h
operand_so ports Chip w dom h = chip_so ports w dom h
operand_so ports NewPort w port h = new_port_so ports w port h
operand_so ports NewName w name h = new_name_so ports w name h
operand_so ports PortNumber w port h = port_number_so ports w port h
operand_so ports PortName w port h = port_name_so ports w port h
operand_so ports Device w port h = device_so ports w port h
operand_so ports Station w a h = mac_so w a h
operand_so ports GroupAddress w g h = group_so w g h
operand_so ports Hex w bytes h = hex_so w bytes h
operand_so ports Flag w f h = flag_so w f h
