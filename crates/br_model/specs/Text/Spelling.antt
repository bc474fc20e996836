-- How the values of a line are spelled.
-- Source: this profile; addresses are spelled as iproute2 spells them, with colons.
use Rattle.std.specs.Prelude.{ℕ, ◌+◌, ◌/◌, ◌%◌, ◌^◌, ◌==◌, Bool, if◌then◌else◌, List, [], ◌∷◌, ◌++◌, take, codes}
use Rattle.std.specs.Fmt.{decimal}
use Rattle.br_model.specs.declared.change.Kind.{Kind}
use Rattle.br_model.specs.declared.change.Kind.TheVariants.{Local, Static, Learned, Extern}
use Rattle.br_model.specs.declared.group.Ip.{Ip}
use Rattle.br_model.specs.declared.group.Ip.TheVariants.{V4, V6}
use Rattle.br_model.specs.Data.Digits.{hex_of}
use Rattle.br_model.specs.Table.Domains.{host}
use Rattle.br_model.specs.Wire.Frames.{longest_frame}
use Rattle.br_model.specs.Text.Roster.{Entry, host_name}
use Rattle.br_model.specs.Text.Words.{Word}

-- the name of a declared port
abbrev pub name_of : List Entry → ℕ → Word
name_of [] port = []
name_of (e ∷ ports) port = if e.port == port then e.name else name_of ports port

-- the byte of an address that stands so many bits above its lowest
abbrev pub byte_at : ℕ → ℕ → ℕ
byte_at mac bits = mac / 2 ^ bits % 256

-- six pairs of digits, joined by colons
abbrev pub mac_text : ℕ → Word
mac_text mac =
    hex_of (byte_at mac 40 ∷ []) ++ (58 ∷ hex_of (byte_at mac 32 ∷ []) ++ (58 ∷ hex_of (byte_at mac 24 ∷ []) ++ (58 ∷
    hex_of (byte_at mac 16 ∷ []) ++ (58 ∷ hex_of (byte_at mac 8 ∷ []) ++ (58 ∷ hex_of (byte_at mac 0 ∷ []))))))

-- four decimal numbers, joined by dots
abbrev pub dotted : ℕ → Word
dotted n =
    decimal (byte_at n 24) ++ (46 ∷ decimal (byte_at n 16) ++ (46 ∷ decimal (byte_at n 8) ++ (46 ∷ decimal (byte_at n 0))))

-- the four digits of the two bytes that stand so many bits above the lowest
abbrev pub digits_at : ℕ → ℕ → Word
digits_at n bits = hex_of (byte_at n (bits + 8) ∷ byte_at n bits ∷ [])

-- eight groups of four digits, joined by colons
abbrev pub groups_of_four : ℕ → Word
groups_of_four n =
    digits_at n 112 ++ (58 ∷ digits_at n 96 ++ (58 ∷ digits_at n 80 ++ (58 ∷ digits_at n 64 ++ (58 ∷
    digits_at n 48 ++ (58 ∷ digits_at n 32 ++ (58 ∷ digits_at n 16 ++ (58 ∷ digits_at n 0)))))))

abbrev pub ip_text : Ip → Word
ip_text (V4 n) = dotted n
ip_text (V6 n) = groups_of_four n

abbrev pub kind_word : Kind → Word
kind_word Local = codes "local"
kind_word Static = codes "static"
kind_word Learned = codes "learned"
kind_word Extern = codes "extern"

-- the name of a declared port, or of the host
abbrev pub device_text : List Entry → ℕ → Word
device_text ports port = if port == host then host_name else name_of ports port

-- the word with a space before it, where it is to stand
abbrev pub further : Bool → Word → Word
further stands word = if stands then 32 ∷ word else []

-- The bytes by which a frame is written: of one that is too long, enough to tell; a byte of one that has none.
abbrev pub shown : List ℕ → List ℕ
shown [] = 0 ∷ []
shown (byte ∷ bytes) = take (longest_frame + 1) (byte ∷ bytes)
