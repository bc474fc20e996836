-- The packets of a capture, for so many declared ports. Its bytes are cut into blocks, up to the first that isn't whole; then
-- the blocks are read one after another, up to the first that is broken.
-- Source: draft-ietf-opsawg-pcapng sections 3.1 (blocks), 4.1 (section headers), 4.2 (interface descriptions) and 4.3 (enhanced
-- packets). That interfaces are the declared ports, that other blocks are skipped, the longest block, and the order of the
-- tests are this profile's.
use Rattle.std.specs.Prelude.{ℕ, zero, suc, ◌+◌, ◌-◌, ◌%◌, ◌==◌, nat_le, nat_lt, Bool, not, ◌&&◌, if◌then◌else◌, List, [], ◌∷◌, ◌++◌, length, take, drop, reverse, slice_get}
use Rattle.std.specs.Ordering.{nat_cmp}
use Rattle.std.specs.Option.{unwrap_or, ok_or}
use Rattle.std.specs.declared.option.Option.{Option}
use Rattle.std.specs.declared.option.Option.TheVariants.{None, Some}
use Rattle.std.specs.declared.result.Result.{Result}
use Rattle.std.specs.declared.result.Result.TheVariants.{Ok, Err}
use Rattle.br_model.specs.declared.capture.CapKind.{CapKind}
use Rattle.br_model.specs.declared.capture.CapKind.TheVariants.{Short, First, Magic, Length, Version, Interface, Link, Captured}
use Rattle.br_model.specs.declared.capture.Order.{Order}
use Rattle.br_model.specs.declared.capture.Order.TheVariants.{HighFirst, LowFirst}
use Rattle.br_model.specs.declared.capture.Packet.{Packet}
use Rattle.br_model.specs.Wire.Frames.{number_at}
use Rattle.br_model.specs.Data.Maps.{get}
use Rattle.br_model.specs.Data.Numbers.{number}

-- the number that the n bytes at place i spell in this order
abbrev pub number_in : Order → List ℕ → ℕ → ℕ → ℕ
number_in HighFirst bytes i n = number_at bytes i n
number_in LowFirst bytes i n = number (reverse (take n (drop i bytes)))

-- A block: its type in 4 bytes, its total length in 4, its body, its total length again.

-- a block's type and body, and the byte order of its section
pub record Block : Type 0 where
  pub order : Order
  pub kind : ℕ
  pub body : List ℕ

-- the types of the blocks that are read; a section header's is the same in both byte orders
abbrev pub interface_description : ℕ
interface_description = 1

abbrev pub enhanced_packet : ℕ
enhanced_packet = 6

abbrev pub section_header : ℕ
section_header = 0x0A0D0D0A

-- the least total lengths of their blocks, options left out
abbrev pub least_lengths : List (ℕ × ℕ)
least_lengths = (interface_description, 20) ∷ (enhanced_packet, 32) ∷ (section_header, 28) ∷ []

-- a block of another type has 12 bytes at least
abbrev pub least_length : ℕ → ℕ
least_length kind = unwrap_or (get nat_cmp least_lengths kind) 12

abbrev pub longest_block : ℕ
longest_block = 1048576

-- whether a block of this type can be so long
abbrev pub is_length : ℕ → ℕ → Bool
is_length kind total = nat_le (least_length kind) total && (nat_le total longest_block && total % 4 == 0)

-- a section header's magic: it tells the byte order of its section, of the header's own lengths too
abbrev pub magic : ℕ
magic = 0x1A2B3C4D

abbrev pub order_by_magic : List ℕ → Result Order CapKind
order_by_magic bytes =
    if number_in HighFirst bytes 8 4 == magic then Ok HighFirst else
    if number_in LowFirst bytes 8 4 == magic then Ok LowFirst else
    Err Magic

-- The byte order of a block, behind a section of the order `before`. Only a section header can be first.
abbrev pub order_of : Option Order → List ℕ → Result Order CapKind
order_of before bytes = if number_at bytes 0 4 == section_header then order_by_magic bytes else ok_or before First

-- the block of this order and total length at the front of the bytes
abbrev pub whole : Order → ℕ → List ℕ → Result Block CapKind
whole order total bytes =
    if not (is_length (number_in order bytes 0 4) total) then Err Length else
    if nat_lt (length bytes) total then Err Short else
    if not (number_in order bytes (total - 4) 4 == total) then Err Length else
    Ok (record { order = order; kind = number_in order bytes 0 4; body = take (total - 12) (drop 8 bytes) })

abbrev pub whole_in : Result Order CapKind → List ℕ → Result Block CapKind
whole_in (Err kind) bytes = Err kind
whole_in (Ok order) bytes = whole order (number_in order bytes 4 4) bytes

-- the block at the front of the bytes
abbrev pub front : Option Order → List ℕ → Result Block CapKind
front before bytes = if nat_lt (length bytes) 12 then Err Short else whole_in (order_of before bytes) bytes

-- cutting

-- the place of a broken block, and what is wrong with it
pub record Fault : Type 0 where
  pub at : ℕ
  pub kind : CapKind

-- the blocks with their places, up to the end of the bytes or a block that isn't whole
pub record Cut : Type 0 where
  pub blocks : List (ℕ × Block)
  pub fault : Option Fault

-- the front at this place, and what is cut behind it
abbrev pub cut_front : ℕ → Result Block CapKind → (Block → Cut) → Cut
cut_front at (Err kind) behind = record { blocks = []; fault = Some (record { at = at; kind = kind }) }
cut_front at (Ok block) behind = let c = behind block in record { blocks = (at, block) ∷ c.blocks; fault = c.fault }

-- The blocks from this place on, where so many bytes of the block before are still ahead.
unfoldable pub cut : ℕ → ℕ → Option Order → List ℕ → Cut
cut ahead at before [] = record { blocks = []; fault = None }
cut (suc ahead) at before (byte ∷ bytes) = cut ahead (at + 1) before bytes
cut zero at before (byte ∷ bytes) = cut_front at (front before (byte ∷ bytes)) (λ block. cut (length block.body + 11) (at + 1) (Some block.order) bytes)

-- reading

abbrev pub major_version : ℕ
major_version = 1

abbrev pub ethernet : ℕ
ethernet = 1

-- the captured bytes of a packet, whose other fields have 20 bytes
abbrev pub packet_of : ℕ → ℕ → List ℕ → Result Packet CapKind
packet_of interface captured body =
    if nat_lt (length body) (20 + captured) then Err Captured else
    Ok (record { interface = interface; bytes = take captured (drop 20 body) })

-- the packet that came by an interface of this link type, where there is that interface
abbrev pub packet_by : Option ℕ → Block → Result Packet CapKind
packet_by None b = Err Interface
packet_by (Some link) b = if link == ethernet then packet_of (number_in b.order b.body 0 4) (number_in b.order b.body 12 4) b.body else Err Link

-- what a block says, or what is wrong with it: the link types of the section's interfaces so far, no more than there are
-- ports, and the packet that it has
abbrev pub Said : Type 0
Said = Result (List ℕ × Option Packet) CapKind

abbrev pub said_packet : List ℕ → Result Packet CapKind → Said
said_packet links (Err kind) = Err kind
said_packet links (Ok packet) = Ok (links, Some packet)

-- what a block says behind interfaces of these link types
abbrev pub says : ℕ → List ℕ → Block → Said
says ports links b =
    if b.kind == section_header then (if number_in b.order b.body 4 2 == major_version then Ok ([], None) else Err Version) else
    if b.kind == interface_description then Ok (take ports (links ++ number_in b.order b.body 0 2 ∷ []), None) else
    if b.kind == enhanced_packet then said_packet links (packet_by (slice_get links (number_in b.order b.body 0 4)) b) else
    Ok (links, None)

-- the packets up to the end, or up to a fault
pub record Capture : Type 0 where
  pub packets : List Packet
  pub fault : Option Fault

abbrev pub in_front : Option Packet → Capture → Capture
in_front None c = c
in_front (Some packet) c = record { packets = packet ∷ c.packets; fault = c.fault }

abbrev pub read_front : ℕ → Said → (List ℕ → Capture) → Capture
read_front at (Err kind) behind = record { packets = []; fault = Some (record { at = at; kind = kind }) }
read_front at (Ok said) behind = in_front said.1 (behind said.0)

unfoldable pub read : ℕ → List ℕ → List (ℕ × Block) → Option Fault → Capture
read ports links [] fault = record { packets = []; fault = fault }
read ports links (b ∷ blocks) fault = read_front b.0 (says ports links b.1) (λ links. read ports links blocks fault)

-- what is read of a cut
abbrev pub read_cut : ℕ → List ℕ → Cut → Capture
read_cut ports links c = read ports links c.blocks c.fault

abbrev pub capture : ℕ → List ℕ → Capture
capture ports bytes = read_cut ports [] (cut 0 0 None bytes)

-- a capture with a fault gives no packet
abbrev pub unless_broken : Capture → Option Fault → Result (List Packet) Fault
unless_broken c None = Ok c.packets
unless_broken c (Some fault) = Err fault

abbrev pub packets : List ℕ → ℕ → Result (List Packet) Fault
packets bytes ports = let c = capture ports bytes in unless_broken c c.fault
