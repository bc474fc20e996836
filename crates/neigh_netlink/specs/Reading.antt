-- Which bytes are a message, and what it says: just those that are written for it.
-- Source: as of the bytes; that nothing else is accepted is this profile's.
use Rattle.std.specs.Prelude.{ℕ, ◌+◌, ◌-◌, ◌==◌, Bool, ◌&&◌, if◌then◌else◌, bit_and, bytes_eq, List, [], ◌∷◌, slice_index}
use Rattle.std.specs.Int.{w16, w32, from_le_bytes}
use Rattle.std.specs.declared.option.Option.{Option}
use Rattle.std.specs.declared.option.Option.TheVariants.{None, Some}
use Rattle.br_model.specs.declared.change.Kind.{Kind}
use Rattle.br_model.specs.declared.change.Kind.TheVariants.{Local, Static, Learned, Extern}
use Rattle.br_model.specs.Data.Numbers.{number}
use Rattle.neigh_netlink.specs.declared.neigh.Neigh.{Neigh}
use Rattle.neigh_netlink.specs.Messages.{has_ranges, is_message, ntf_ext_learned, ntf_offloaded, nud_noarp, nud_permanent, rtm_newneigh, written}

-- the number in the two bytes from place `at` on
abbrev pub two_at : List ℕ → ℕ → ℕ
two_at bytes at = from_le_bytes w16 (slice_index bytes at ∷ slice_index bytes (at + 1) ∷ [])

-- the number in the four bytes from place `at` on
abbrev pub four_at : List ℕ → ℕ → ℕ
four_at bytes at = from_le_bytes w32 (slice_index bytes at ∷ slice_index bytes (at + 1) ∷ slice_index bytes (at + 2) ∷ slice_index bytes (at + 3) ∷ [])

-- the address in the six bytes from place `at` on
abbrev pub address_at : List ℕ → ℕ → ℕ
address_at bytes at = number (
    slice_index bytes at ∷ slice_index bytes (at + 1) ∷ slice_index bytes (at + 2)
    ∷ slice_index bytes (at + 3) ∷ slice_index bytes (at + 4) ∷ slice_index bytes (at + 5) ∷ [])

-- whether the flags have this one
abbrev pub has_flag : ℕ → ℕ → Bool
has_flag flags flag = bit_and flags flag == flag

-- the kind of an entry by its state and its flags
abbrev pub kind_by : ℕ → ℕ → Kind
kind_by state flags =
    if state == nud_permanent then Local else
    if state == nud_noarp then Static else
    if has_flag flags ntf_ext_learned then Extern else
    Learned

-- what bytes say where they are a message: each part by its own place
abbrev pub said : List ℕ → Neigh
said bytes = record {
  new = two_at bytes 4 == rtm_newneigh;
  ticket = four_at bytes 8;
  port = four_at bytes 20 - 1;
  kind = kind_by (two_at bytes 24) (slice_index bytes 26);
  offload = has_flag (slice_index bytes 26) ntf_offloaded;
  mac = address_at bytes 32;
  vid = two_at bytes 44;
}

-- whether the bytes are just those of what they say
abbrev pub is_written : List ℕ → Neigh → Bool
is_written bytes m = has_ranges m && (is_message m && bytes_eq (written m) bytes)

-- what the bytes say, where they are a message
abbrev pub read : List ℕ → Option Neigh
read bytes = if is_written bytes (said bytes) then Some (said bytes) else None
