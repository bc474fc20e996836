-- The packets of a section are steps that have lines.
use Rattle.std.proofs.Common.{◌≡◌, ℕ, zero, suc, ◌+◌, ◌-◌, ◌<◌, ◌==◌, nat_lt, Bool, true, not, List, [], ◌∷◌, map, length, take, drop, slice_get, slice_index_or, IfOk, IfSome, refl, arith}
use Rattle.std.specs.Cmp.{first_so, second_so}
use Rattle.std.specs.List.{list_all}
use Rattle.std.specs.declared.option.Option.{Option}
use Rattle.std.specs.declared.option.Option.TheVariants.{None, Some}
use Rattle.std.specs.declared.result.Result.{Result}
use Rattle.std.specs.declared.result.Result.TheVariants.{Ok, Err}
use Rattle.std.proofs.lemmas.Bool.{eq-eqb, and_from, or_left, or_right, ltb-true}
use Rattle.lemmas.proofs.Tests.{by_if}
use Rattle.br_model.specs.declared.capture.CapKind.{CapKind}
use Rattle.br_model.specs.declared.capture.CapKind.TheVariants.{Short, Length, Captured, Link}
use Rattle.br_model.specs.declared.capture.Order.{Order}
use Rattle.br_model.specs.declared.capture.Packet.{Packet}
use Rattle.br_model.specs.Text.Operands.{is_byte}
use Rattle.br_model.specs.Text.Roster.{Entry, has_number}
use Rattle.br_model.specs.Text.Scenario.{captured, entered}
use Rattle.br_model.specs.Text.ScenarioText.{has_line}
use Rattle.br_model.specs.Wire.Captures.{Block, Capture, Cut, Fault, Said, capture, cut, cut_front, enhanced_packet, ethernet, front, in_front, interface_description, is_length}
use Rattle.br_model.specs.Wire.Captures.{major_version, number_in, order_of, packet_by, packet_of, packets, read, read_front, said_packet, says, section_header, unless_broken, whole, whole_in}
use Rattle.pcapng_read.proofs.HavePorts.{has_port, have_ports}
use Rattle.scenario_text.proofs.StepsRead.{shown_bytes, take_bytes}

-- bytes

drop_bytes : (n : ℕ) (bytes : List ℕ) → list_all is_byte bytes ≡ true → list_all is_byte (drop n bytes) ≡ true
drop_bytes zero bytes h = h
drop_bytes (suc n) [] h = refl
drop_bytes (suc n) (b ∷ bytes) h = drop_bytes n bytes (second_so _ _ h)

-- a block's body

abbrev HasBody : Result Block CapKind → Type 0
HasBody (Err kind) = Unit {0}
HasBody (Ok b) = list_all is_byte b.body ≡ true

whole_body : (order : Order) (total : ℕ) (bytes : List ℕ) → list_all is_byte bytes ≡ true → HasBody (whole order total bytes)
whole_body order total bytes h =
    by_if HasBody (not (is_length (number_in order bytes 0 4) total)) (Err Length) _ tt
    (by_if HasBody (nat_lt (length bytes) total) (Err Short) _ tt
    (by_if HasBody (not (number_in order bytes (total - 4) 4 == total)) (Err Length) (Ok (record { order = order; kind = number_in order bytes 0 4; body = take (total - 12) (drop 8 bytes) })) tt
    (take_bytes (total - 12) (drop 8 bytes) (drop_bytes 8 bytes h))))

whole_in_body : (r : Result Order CapKind) (bytes : List ℕ) → list_all is_byte bytes ≡ true → HasBody (whole_in r bytes)
whole_in_body (Err kind) bytes h = tt
whole_in_body (Ok order) bytes h = whole_body order (number_in order bytes 4 4) bytes h

front_body : (before : Option Order) (bytes : List ℕ) → list_all is_byte bytes ≡ true → HasBody (front before bytes)
front_body before bytes h = by_if HasBody (nat_lt (length bytes) 12) (Err Short) (whole_in (order_of before bytes) bytes) tt (whole_in_body (order_of before bytes) bytes h)

-- the blocks of a cut

abbrev has_body : ℕ × Block → Bool
has_body b = list_all is_byte b.1.body

cut_bodies : (at : ℕ) (r : Result Block CapKind) (behind : Block → Cut) → HasBody r → ((b : Block) → list_all has_body (behind b).blocks ≡ true)
    → list_all has_body (cut_front at r behind).blocks ≡ true
cut_bodies at (Err kind) behind h later = refl
cut_bodies at (Ok b) behind h later = and_from _ _ h (later b)

bodies : (ahead at : ℕ) (before : Option Order) (bytes : List ℕ) → list_all is_byte bytes ≡ true → list_all has_body (cut ahead at before bytes).blocks ≡ true
unfolding cut
bodies ahead at before [] h = refl
bodies (suc ahead) at before (byte ∷ bytes) h = bodies ahead (at + 1) before bytes (second_so _ _ h)
bodies zero at before (byte ∷ bytes) h =
    cut_bodies at (front before (byte ∷ bytes)) (λ block. cut (length block.body + 11) (at + 1) (Some block.order) bytes) (front_body before (byte ∷ bytes) h)
    (λ block. bodies (length block.body + 11) (at + 1) (Some block.order) bytes (second_so _ _ h))

-- the bytes of a packet

abbrev HasBytes : Result Packet CapKind → Type 0
HasBytes (Err kind) = Unit {0}
HasBytes (Ok packet) = list_all is_byte packet.bytes ≡ true

cut_out : (interface size : ℕ) (body : List ℕ) → list_all is_byte body ≡ true → HasBytes (packet_of interface size body)
cut_out interface size body h =
    by_if HasBytes (nat_lt (length body) (20 + size)) (Err Captured) (Ok (record { interface = interface; bytes = take size (drop 20 body) })) tt
    (take_bytes size (drop 20 body) (drop_bytes 20 body h))

came_by : (o : Option ℕ) (b : Block) → list_all is_byte b.body ≡ true → HasBytes (packet_by o b)
came_by None b h = tt
came_by (Some link) b h =
    by_if HasBytes (link == ethernet) (packet_of (number_in b.order b.body 0 4) (number_in b.order b.body 12 4) b.body) (Err Link)
    (cut_out (number_in b.order b.body 0 4) (number_in b.order b.body 12 4) b.body h) tt

abbrev SaysBytes : Said → Type 0
SaysBytes (Err kind) = Unit {0}
SaysBytes (Ok said) = IfSome said.1 (λ packet. list_all is_byte packet.bytes ≡ true)

packet_said : (links : List ℕ) (r : Result Packet CapKind) → HasBytes r → SaysBytes (said_packet links r)
packet_said links (Err kind) h = tt
packet_said links (Ok packet) h = h

block_says : (ports : ℕ) (links : List ℕ) (b : Block) → list_all is_byte b.body ≡ true → SaysBytes (says ports links b)
block_says ports links b h =
    by_if SaysBytes (b.kind == section_header) _ _ (by_if SaysBytes (number_in b.order b.body 4 2 == major_version) _ _ tt tt)
    (by_if SaysBytes (b.kind == interface_description) _ _ tt
    (by_if SaysBytes (b.kind == enhanced_packet) _ _
    (packet_said links (packet_by (slice_get links (number_in b.order b.body 0 4)) b) (came_by (slice_get links (number_in b.order b.body 0 4)) b h)) tt))

abbrev has_bytes : Packet → Bool
has_bytes packet = list_all is_byte packet.bytes

packets_in_front : (o : Option Packet) (c : Capture) → IfSome o (λ packet. list_all is_byte packet.bytes ≡ true) → list_all has_bytes c.packets ≡ true
    → list_all has_bytes (in_front o c).packets ≡ true
packets_in_front None c h all = all
packets_in_front (Some packet) c h all = and_from _ _ h all

front_says : (at : ℕ) (said : Said) (behind : List ℕ → Capture) → SaysBytes said → ((links : List ℕ) → list_all has_bytes (behind links).packets ≡ true)
    → list_all has_bytes (read_front at said behind).packets ≡ true
front_says at (Err kind) behind h all = refl
front_says at (Ok said) behind h all = packets_in_front said.1 (behind said.0) h (all said.0)

have_bytes : (ports : ℕ) (links : List ℕ) (blocks : List (ℕ × Block)) (fault : Option Fault) → list_all has_body blocks ≡ true → list_all has_bytes (read ports links blocks fault).packets ≡ true
unfolding read
have_bytes ports links [] fault h = refl
have_bytes ports links (b ∷ blocks) fault h =
    front_says b.0 (says ports links b.1) (λ links. read ports links blocks fault) (block_says ports links b.1 (first_so _ _ h)) (λ links. have_bytes ports links blocks fault (second_so _ _ h))

-- their steps

number_at : (ports : List Entry) (i : ℕ) → i < length ports → has_number ports (slice_index_or (map (λ (e : Entry). e.port) ports) i 0) ≡ true
number_at [] i h = absurd (omega arith)
number_at (e ∷ ports) zero h = or_left (e.port == e.port) (has_number ports e.port) (eq-eqb e.port e.port refl)
number_at (e ∷ ports) (suc i) h =
    let n : ℕ = slice_index_or (map (λ (e : Entry). e.port) ports) i 0 in
    or_right (e.port == n) (has_number ports n) (number_at ports i (omega arith))

entered_line : (ports : List Entry) (packet : Packet) → has_port (length ports) packet ≡ true → has_bytes packet ≡ true → has_line ports (entered ports packet) ≡ true
entered_line ports packet here are =
    and_from _ _ (number_at ports packet.interface (ltb-true packet.interface (length ports) here)) (and_from _ true (shown_bytes packet.bytes are) refl)

entered_lines : (ports : List Entry) (ps : List Packet) → list_all (has_port (length ports)) ps ≡ true → list_all has_bytes ps ≡ true → list_all (has_line ports) (map (entered ports) ps) ≡ true
entered_lines ports [] here are = refl
entered_lines ports (p ∷ ps) here are = and_from _ _ (entered_line ports p (first_so _ _ here) (first_so _ _ are)) (entered_lines ports ps (second_so _ _ here) (second_so _ _ are))

pub section_lines : (ports : List Entry) (section : List ℕ) → list_all is_byte section ≡ true → IfOk (captured ports (packets section (length ports))) (λ steps. list_all (has_line ports) steps ≡ true)
section_lines ports section h = by (capture (length ports) section).fault
  where
    by : (f : Option Fault) → IfOk (captured ports (unless_broken (capture (length ports) section) f)) (λ steps. list_all (has_line ports) steps ≡ true)
    by (Some f) = tt
    by None =
        let c : Cut = cut 0 0 None section in
        entered_lines ports (capture (length ports) section).packets (have_ports (length ports) [] c.blocks c.fault (omega arith))
        (have_bytes (length ports) [] c.blocks c.fault (bodies 0 0 None section h))
