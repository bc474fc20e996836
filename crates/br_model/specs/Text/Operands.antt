-- The operands of a line: what each kind is called in a form, how it is read (its value, or its cause), how its value is written,
-- and which values words give.
-- Source: this profile; a VLAN is from 1 to 4094 (IEEE 802.1Q-2018 section 9.6), an address of one station has an even first byte
-- (IEEE 802.3 clause 3.2.3).
use Rattle.std.specs.Prelude.{ℕ, ◌^◌, ◌==◌, nat_lt, nat_le, Bool, true, not, ◌&&◌, ◌||◌, if◌then◌else◌, List, [], ◌∷◌, length, codes, slice_index_or}
use Rattle.std.specs.Fmt.{decimal}
use Rattle.std.specs.List.{list_all, list_any}
use Rattle.std.specs.declared.option.Option.{Option}
use Rattle.std.specs.declared.option.Option.TheVariants.{None, Some}
use Rattle.std.specs.declared.result.Result.{Result}
use Rattle.std.specs.declared.result.Result.TheVariants.{Ok, Err}
use Rattle.std.specs.Option.{is_some}
use Rattle.br_model.specs.declared.group.Ip.{Ip}
use Rattle.br_model.specs.declared.group.Ip.TheVariants.{V4, V6}
use Rattle.br_model.specs.declared.scenario.LineWhy.{LineWhy}
use Rattle.br_model.specs.declared.scenario.LineWhy.TheVariants as why
use Rattle.std.specs.Str.{bytes_eq}
use Rattle.br_model.specs.Data.Digits.{decimal_from, bytes_from_hex, hex_of, station}
use Rattle.br_model.specs.Data.Numbers.{is_multicast}
use Rattle.br_model.specs.Table.Domains.{host, last_port, first_chip_domain, last_chip}
use Rattle.br_model.specs.Text.FlagWords.{flags, flag_named, name_of_flag}
use Rattle.br_model.specs.Text.IpWords.{address}
use Rattle.br_model.specs.Text.Roster.{Entry, has_number, is_chip, port_named, is_name, host_name}
use Rattle.br_model.specs.Text.Spelling.{name_of, device_text, mac_text, ip_text}
use Rattle.br_model.specs.Text.Words.{Word, is_word}

pub data Operand : Type 0 where
  -- a decimal number from the first to the second
  Number : ℕ → ℕ → Operand
  -- the domain of a switch chip that exists
  Chip : Operand
  -- the number of a port that isn't declared yet, and its name
  NewPort : Operand
  NewName : Operand
  -- a declared port, by its number and by its name, and one that may be `host`
  PortNumber : Operand
  PortName : Operand
  Device : Operand
  -- an address of one station
  Station : Operand
  -- an IP address, a group's or not
  GroupAddress : Operand
  -- bytes, at least one
  Hex : Operand
  -- the name of a port's flag
  Flag : Operand

-- the cost of a port's path, and priorities (IEEE 802.1D-1998 section 8.10.2)
abbrev pub most_cost : ℕ
most_cost = 65535

abbrev pub most_port_priority : ℕ
most_port_priority = 255

abbrev pub most_priority : ℕ
most_priority = 65535

-- seconds of ageing
abbrev pub most_seconds : ℕ
most_seconds = 1000000

-- the last moment, in milliseconds: 2^53 - 1
abbrev pub last_moment : ℕ
last_moment = 9007199254740991

-- the last id of a frame, and the last point: 2^32 - 1
abbrev pub last_id : ℕ
last_id = 4294967295

abbrev pub last_point : ℕ
last_point = 4294967295

-- the bytes of the longest section: 2^24
abbrev pub longest_section : ℕ
longest_section = 16777216

-- what the operands are called in a form
abbrev pub operands : List (Word × Operand)
operands =
    (codes "NUMBER", NewPort) ∷
    (codes "DOMAIN", Number first_chip_domain last_chip) ∷
    (codes "CHIP", Chip) ∷
    (codes "NEWNAME", NewName) ∷
    (codes "PORT", PortNumber) ∷
    (codes "NAME", PortName) ∷
    (codes "DEV", Device) ∷
    (codes "MAC", Station) ∷
    (codes "GROUP", GroupAddress) ∷
    (codes "HEX", Hex) ∷
    (codes "FLAG", Flag) ∷
    (codes "VID", Number 1 4094) ∷
    (codes "COST", Number 1 most_cost) ∷
    (codes "PORTPRIORITY", Number 0 most_port_priority) ∷
    (codes "PRIORITY", Number 0 most_priority) ∷
    (codes "SECONDS", Number 1 most_seconds) ∷
    (codes "MS", Number 0 last_moment) ∷
    (codes "ID", Number 0 last_id) ∷
    (codes "POINT", Number 0 last_point) ∷
    (codes "LENGTH", Number 0 longest_section) ∷
    []

-- what an operand gives: a number, a name, an IP address or bytes
abbrev pub Value : Operand → Type 0
Value (Number low high) = ℕ
Value Chip = ℕ
Value NewPort = ℕ
Value NewName = Word
Value PortNumber = ℕ
Value PortName = ℕ
Value Device = ℕ
Value Station = ℕ
Value GroupAddress = Ip
Value Hex = List ℕ
Value Flag = ℕ

abbrev pub number_in : ℕ → ℕ → Option ℕ → Result ℕ LineWhy
number_in low high None = Err why.Number
number_in low high (Some n) = if nat_le low n && nat_le n high then Ok n else Err why.Number

unfoldable pub number : ℕ → ℕ → Word → Result ℕ LineWhy
number low high word = number_in low high (decimal_from word)

-- the value if it stands there, else the fault
abbrev pub found : {A : Type 0} → LineWhy → Option A → Result A LineWhy
found fault None = Err fault
found fault (Some x) = Ok x

abbrev pub unless : {A : Type 0} → LineWhy → (A → Bool) → Result A LineWhy → Result A LineWhy
unless fault test (Err e) = Err e
unless fault test (Ok x) = if test x then Err fault else Ok x

unfoldable pub new_port : List Entry → Word → Result ℕ LineWhy
new_port ports word = unless why.Port (λ n. has_number ports n) (number 1 last_port word)

unfoldable pub chip_domain : List Entry → Word → Result ℕ LineWhy
chip_domain ports word = unless why.Port (λ dom. not (is_chip ports dom)) (number first_chip_domain last_chip word)

unfoldable pub new_name : List Entry → Word → Result Word LineWhy
new_name ports word = if is_name word && not (is_some (port_named ports word)) then Ok word else Err why.Port

-- a number that isn't a declared port's is no port, however large
unfoldable pub port_number : List Entry → Word → Result ℕ LineWhy
port_number ports word = unless why.Port (λ n. not (nat_le n last_port && has_number ports n)) (found why.Number (decimal_from word))

unfoldable pub port_name : List Entry → Word → Result ℕ LineWhy
port_name ports word = found why.Port (port_named ports word)

unfoldable pub device : List Entry → Word → Result ℕ LineWhy
device ports word = if bytes_eq word host_name then Ok host else port_name ports word

abbrev pub at : Word → ℕ → ℕ
at word i = slice_index_or word i 0

abbrev pub has_colons : Word → Bool
has_colons w = at w 2 == 58 && (at w 5 == 58 && (at w 8 == 58 && (at w 11 == 58 && at w 14 == 58)))

abbrev pub twelve : Word → List ℕ
twelve w = at w 0 ∷ at w 1 ∷ at w 3 ∷ at w 4 ∷ at w 6 ∷ at w 7 ∷ at w 9 ∷ at w 10 ∷ at w 12 ∷ at w 13 ∷ at w 15 ∷ at w 16 ∷ []

abbrev pub station_of : Option (List ℕ) → Result ℕ LineWhy
station_of None = Err why.Address
station_of (Some bytes) = found why.Address (station bytes)

-- six pairs of digits joined by colons, of one station
unfoldable pub mac : Word → Result ℕ LineWhy
mac w = if length w == 17 && has_colons w then station_of (bytes_from_hex (twelve w)) else Err why.Address

unfoldable pub group : Word → Result Ip LineWhy
group w = found why.Address (address w)

abbrev pub some_bytes : List ℕ → Result (List ℕ) LineWhy
some_bytes [] = Err why.Hex
some_bytes (b ∷ bytes) = Ok (b ∷ bytes)

abbrev pub bytes_of : Option (List ℕ) → Result (List ℕ) LineWhy
bytes_of None = Err why.Hex
bytes_of (Some bytes) = some_bytes bytes

unfoldable pub hex : Word → Result (List ℕ) LineWhy
hex w = bytes_of (bytes_from_hex w)

unfoldable pub flag : Word → Result ℕ LineWhy
flag word = found why.Word (flag_named flags word)

abbrev pub read : List Entry → (o : Operand) → Word → Result (Value o) LineWhy
read ports (Number low high) word = number low high word
read ports Chip word = chip_domain ports word
read ports NewPort word = new_port ports word
read ports NewName word = new_name ports word
read ports PortNumber word = port_number ports word
read ports PortName word = port_name ports word
read ports Device word = device ports word
read ports Station word = mac word
read ports GroupAddress word = group word
read ports Hex word = hex word
read ports Flag word = flag word

-- Whether the word can stand there at all. Only a flag's name is a word of the form; any word can stand for another operand, if a
-- bad one.
abbrev pub can_stand : Operand → Word → Bool
can_stand (Number low high) word = true
can_stand Chip word = true
can_stand NewPort word = true
can_stand NewName word = true
can_stand PortNumber word = true
can_stand PortName word = true
can_stand Device word = true
can_stand Station word = true
can_stand GroupAddress word = true
can_stand Hex word = true
can_stand Flag word = is_some (flag_named flags word)

-- writing

-- how a value is written
abbrev pub spelled : List Entry → (o : Operand) → Value o → Word
spelled ports (Number low high) n = decimal n
spelled ports Chip dom = decimal dom
spelled ports NewPort port = decimal port
spelled ports NewName name = name
spelled ports PortNumber port = decimal port
spelled ports PortName port = name_of ports port
spelled ports Device port = device_text ports port
spelled ports Station mac = mac_text mac
spelled ports GroupAddress address = ip_text address
spelled ports Hex bytes = hex_of bytes
spelled ports Flag flag = name_of_flag flags flag

-- an address of one station
abbrev pub is_station : ℕ → Bool
is_station mac = nat_lt mac (2 ^ 48) && not (is_multicast mac || mac == 0)

-- an address of 32 bits, or of 128
abbrev pub is_ip : Ip → Bool
is_ip (V4 n) = nat_lt n (2 ^ 32)
is_ip (V6 n) = nat_lt n (2 ^ 128)

-- a declared port, or the host
abbrev pub is_device : List Entry → ℕ → Bool
is_device ports port = port == host || has_number ports port

-- the bit of a flag that has a name
abbrev pub is_flag : ℕ → Bool
is_flag flag = list_any (λ f. f.1 == flag) flags

abbrev pub is_byte : ℕ → Bool
is_byte b = nat_lt b 256

-- the values that words give
abbrev pub in_range : List Entry → (o : Operand) → Value o → Bool
in_range ports (Number low high) n = nat_le low n && nat_le n high
in_range ports Chip dom = is_chip ports dom
in_range ports NewPort port = (nat_le 1 port && nat_le port last_port) && not (has_number ports port)
in_range ports NewName name = is_name name && not (is_some (port_named ports name))
in_range ports PortNumber port = has_number ports port
in_range ports PortName port = has_number ports port
in_range ports Device port = is_device ports port
in_range ports Station mac = is_station mac
in_range ports GroupAddress address = is_ip address
in_range ports Hex bytes = is_word bytes && list_all is_byte bytes
in_range ports Flag flag = is_flag flag

-- whether a value that names a port names a declared one
abbrev pub is_known : List Entry → (o : Operand) → Value o → Bool
is_known ports (Number low high) n = true
is_known ports Chip dom = true
is_known ports NewPort port = true
is_known ports NewName name = true
is_known ports PortNumber port = has_number ports port
is_known ports PortName port = has_number ports port
is_known ports Device port = is_device ports port
is_known ports Station mac = true
is_known ports GroupAddress address = true
is_known ports Hex bytes = true
is_known ports Flag flag = true
