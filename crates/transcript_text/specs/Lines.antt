-- Which lines can be read.
use Rattle.std.specs.Prelude.{ℕ, ◌^◌, nat_lt, nat_le, Bool, false, ◌&&◌, List, [], ◌∷◌}
use Rattle.std.specs.List.{list_all}
use Rattle.br_model.specs.declared.transcript.Line.{Line}
use Rattle.br_model.specs.declared.transcript.Line.TheVariants.{Chip, Unread, Soft, Held, Tx, Ctl, Overrun, Done, Refused, End}
use Rattle.br_model.specs.Table.Domains.{last_port}
use Rattle.br_model.specs.Text.Operands.{is_byte}

abbrev pub is_number : ℕ → Bool
is_number n = nat_lt n (2 ^ 32)

abbrev pub is_port : ℕ → Bool
is_port n = nat_le n last_port

-- at least one byte
abbrev pub is_frame : List ℕ → Bool
is_frame [] = false
is_frame (b ∷ bytes) = list_all is_byte (b ∷ bytes)

-- Numbers are below 2^32, ports at most the last, and a frame has bytes.
abbrev pub is_line : Line → Bool
is_line (Chip id changes applied class) = is_number id && (is_number changes && is_number applied)
is_line (Unread id why) = is_number id
is_line (Soft id point) = is_number id && is_number point
is_line (Held id floor) = is_number id && is_number floor
is_line (Tx id port bytes) = is_number id && (is_port port && is_frame bytes)
is_line (Ctl port bytes) = is_port port && is_frame bytes
is_line (Overrun id) = is_number id
is_line (Done step changes) = is_number step && is_number changes
is_line (Refused step why) = is_number step
is_line (End steps changes pending waiting) = is_number steps && (is_number changes && (is_number pending && is_number waiting))
