-- Captures as they are written, in either byte order: a section header, Ethernet interfaces, and packets, without options.
-- Source: draft-ietf-opsawg-pcapng sections 3.1, 4.1, 4.2 and 4.3.
use Rattle.std.specs.Prelude.{ℕ, zero, suc, ◌+◌, ◌-◌, ◌%◌, ◌<◌, ◌≤◌, List, [], ◌∷◌, ◌++◌, length, replicate, ⊤}
use Rattle.std.specs.Int.{bytes_high_first, bytes_low_first}
use Rattle.br_model.specs.declared.capture.Order.{Order}
use Rattle.br_model.specs.declared.capture.Order.TheVariants.{HighFirst, LowFirst}
use Rattle.br_model.specs.declared.capture.Packet.{Packet}
use Rattle.br_model.specs.Wire.Captures.{enhanced_packet, ethernet, interface_description, magic, major_version, section_header}

-- a number in so many bytes
abbrev pub bytes_in : Order → ℕ → ℕ → List ℕ
bytes_in HighFirst n x = bytes_high_first n x
bytes_in LowFirst n x = bytes_low_first 0 n x

-- a block in front of what follows it
abbrev pub block : Order → ℕ → List ℕ → List ℕ → List ℕ
block order kind body rest = bytes_in order 4 kind ++ (bytes_in order 4 (length body + 12) ++ (body ++ (bytes_in order 4 (length body + 12) ++ rest)))

-- version 1.0, no section length
abbrev pub header_body : Order → List ℕ
header_body order = bytes_in order 4 magic ++ (bytes_in order 2 major_version ++ (bytes_in order 2 0 ++ replicate 8 255))

abbrev pub interface_body : Order → List ℕ
interface_body order = bytes_in order 2 ethernet ++ replicate 6 0

-- zeros up to a multiple of 4
abbrev pub padding : ℕ → List ℕ
padding n = replicate ((4 - n % 4) % 4) 0

-- at time 0, captured whole
abbrev pub packet_body : Order → Packet → List ℕ
packet_body order packet =
    bytes_in order 4 packet.interface ++ (replicate 8 0
    ++ (bytes_in order 4 (length packet.bytes) ++ (bytes_in order 4 (length packet.bytes) ++ (packet.bytes ++ padding (length packet.bytes)))))

abbrev pub interfaces : Order → ℕ → List ℕ → List ℕ
interfaces order zero rest = rest
interfaces order (suc n) rest = block order interface_description (interface_body order) (interfaces order n rest)

abbrev pub packet_blocks : Order → List Packet → List ℕ
packet_blocks order [] = []
packet_blocks order (packet ∷ packets) = block order enhanced_packet (packet_body order packet) (packet_blocks order packets)

-- of so many interfaces
unfoldable pub written : Order → ℕ → List Packet → List ℕ
written order n packets = block order section_header (header_body order) (interfaces order n (packet_blocks order packets))

-- the captured bytes of the longest block
abbrev pub most_captured : ℕ
most_captured = 1048544

-- whether packets came by these interfaces and fit into blocks
abbrev pub AreWritable : ℕ → List Packet → Type 0
AreWritable n [] = ⊤
AreWritable n (packet ∷ packets) = (packet.interface < n) × (length packet.bytes ≤ most_captured) × AreWritable n packets
