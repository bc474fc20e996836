-- Worked captures: for so many ports, what the bytes that the digits spell hold.
-- Source: this profile; a script of its own wrote the captures, and what they hold was worked out by hand.
use Rattle.std.specs.Prelude.{ℕ, List, [], ◌∷◌, codes, map}
use Rattle.std.specs.declared.result.Result.{Result}
use Rattle.std.specs.declared.result.Result.TheVariants.{Ok, Err}
use Rattle.br_model.specs.declared.capture.CapKind.{CapKind}
use Rattle.br_model.specs.declared.capture.CapKind.TheVariants.{Short, Magic, Interface, Link}
use Rattle.br_model.specs.declared.capture.Packet.{Packet}
use Rattle.br_model.specs.Wire.Captures.{Fault, packets}
use Rattle.br_model.specs.Worked.Readings.{bytes_of}

-- what each capture says, for the number of ports that stands with it
unfoldable pub captures : List (ℕ × List ℕ) → List (Result (List Packet) Fault)
captures rows = map (λ row. packets (bytes_of row.1) row.0) rows

abbrev pub said : List Packet → Result (List Packet) Fault
said packets = Ok packets

abbrev pub broken : ℕ → CapKind → Result (List Packet) Fault
broken at kind = Err (record { at = at; kind = kind })

abbrev pub packet : ℕ → List ℕ → Packet
packet interface digits = record { interface = interface; bytes = bytes_of digits }

abbrev pub worked : List (ℕ × List ℕ)
worked =
    -- the worked capture
    (3, codes "0a0d0d0a1c0000004d3c2b1a01000000ffffffffffffffff1c00000001000000140000000100000000000400140000000600000030000000000000000000000000000000100000001000000002000000000b02000000000a88b5010230000000") ∷
    -- the highest byte first
    (3, codes "0a0d0d0a0000001c1a2b3c4d00010000ffffffffffffffff0000001c00000001000000140001000000000000000000140000000600000030000000000000000000000000000000100000001002000000000b02000000000a88b5010200000030") ∷
    -- nothing
    (3, codes "") ∷
    -- interface 1
    (3, codes "0a0d0d0a1c0000004d3c2b1a01000000ffffffffffffffff1c00000001000000140000000100000000000400140000000600000030000000010000000000000000000000100000001000000002000000000b02000000000a88b5010230000000") ∷
    -- another magic
    (3, codes "0a0d0d0a1c0000004d3c2b1b01000000ffffffffffffffff1c00000001000000140000000100000000000400140000000600000030000000000000000000000000000000100000001000000002000000000b02000000000a88b5010230000000") ∷
    -- link type 2
    (3, codes "0a0d0d0a1c0000004d3c2b1a01000000ffffffffffffffff1c00000001000000140000000200000000000400140000000600000030000000000000000000000000000000100000001000000002000000000b02000000000a88b5010230000000") ∷
    -- 95 bytes
    (3, codes "0a0d0d0a1c0000004d3c2b1a01000000ffffffffffffffff1c00000001000000140000000100000000000400140000000600000030000000000000000000000000000000100000001000000002000000000b02000000000a88b50102300000") ∷
    -- no port
    (0, codes "0a0d0d0a1c0000004d3c2b1a01000000ffffffffffffffff1c00000001000000140000000100000000000400140000000600000030000000000000000000000000000000100000001000000002000000000b02000000000a88b5010230000000") ∷
    -- a second section of the other byte order
    (3, codes "0a0d0d0a1c0000004d3c2b1a01000000ffffffffffffffff1c00000001000000140000000100000000000400140000000600000030000000000000000000000000000000100000001000000002000000000b02000000000a88b50102300000000a0d0d0a0000001c1a2b3c4d00010000ffffffffffffffff0000001c00000001000000140001000000000000000000140000000100000014000100000000000000000014000000060000002400000001000000000000000000000003000005dc0200000000000024") ∷
    -- a second section without interfaces
    (3, codes "0a0d0d0a1c0000004d3c2b1a01000000ffffffffffffffff1c00000001000000140000000100000000000400140000000600000030000000000000000000000000000000100000001000000002000000000b02000000000a88b50102300000000a0d0d0a0000001c1a2b3c4d00010000ffffffffffffffff0000001c0000000600000030000000000000000000000000000000100000001002000000000b02000000000a88b5010200000030") ∷
    []

abbrev pub worked_said : List (Result (List Packet) Fault)
worked_said =
    said (packet 0 (codes "02000000000b02000000000a88b50102") ∷ []) ∷
    said (packet 0 (codes "02000000000b02000000000a88b50102") ∷ []) ∷
    said ([]) ∷
    broken 48 Interface ∷
    broken 0 Magic ∷
    broken 48 Link ∷
    broken 48 Short ∷
    broken 48 Interface ∷
    said (packet 0 (codes "02000000000b02000000000a88b50102") ∷ packet 1 (codes "020000") ∷ []) ∷
    broken 124 Interface ∷
    []
