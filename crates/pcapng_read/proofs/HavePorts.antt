-- Each packet of a capture came by an interface that has a port.
use Rattle.std.proofs.Common.{◌≡◌, ℕ, zero, suc, ◌+◌, ◌<◌, ◌≤◌, ◌==◌, nat_lt, Bool, true, false, if◌then◌else◌, List, [], ◌∷◌, ◌++◌, length, take, drop, IfSome, slice_get, refl, arith}
use Rattle.std.specs.List.{list_all}
use Rattle.std.proofs.lemmas.List.{length-take}
use Rattle.std.specs.declared.option.Option.{Option}
use Rattle.std.specs.declared.option.Option.TheVariants.{None, Some}
use Rattle.std.specs.declared.result.Result.{Result}
use Rattle.std.specs.declared.result.Result.TheVariants.{Ok, Err}
use Rattle.std.proofs.lemmas.Bool.{lt-ltb}
use Rattle.lemmas.proofs.Tests.{by_if}
use Rattle.br_model.specs.declared.capture.CapKind.{CapKind}
use Rattle.br_model.specs.declared.capture.CapKind.TheVariants.{Captured}
use Rattle.br_model.specs.declared.capture.Packet.{Packet}
use Rattle.br_model.specs.Wire.Captures.{Block, Capture, Fault, Said, in_front, read_front, read, says, said_packet}
use Rattle.br_model.specs.Wire.Captures.{packet_by, packet_of, number_in, major_version, section_header, interface_description, enhanced_packet, ethernet}

-- what a block says keeps no more interfaces than there are ports, and its packet came by one of them
abbrev Fits : ℕ → Said → Type 0
Fits ports (Err kind) = Unit {0}
Fits ports (Ok said) = (length said.0 ≤ ports) × IfSome said.1 (λ packet. packet.interface < ports)

-- a packet that came by this interface
abbrev CameBy : ℕ → Result Packet CapKind → Type 0
CameBy interface (Err kind) = Unit {0}
CameBy interface (Ok packet) = packet.interface ≡ interface

cut_out : (interface captured : ℕ) (body : List ℕ) → CameBy interface (packet_of interface captured body)
cut_out interface captured body = by (nat_lt (length body) (20 + captured))
  where
    by : (b : Bool) → CameBy interface (if b then Err Captured else Ok (record { interface = interface; bytes = take captured (drop 20 body) }))
    by true = tt
    by false = refl

came_by : (o : Option ℕ) (b : Block) → CameBy (number_in b.order b.body 0 4) (packet_by o b)
came_by None b = tt
came_by (Some link) b = by_if (CameBy (number_in b.order b.body 0 4)) (link == ethernet) _ _ (cut_out (number_in b.order b.body 0 4) (number_in b.order b.body 12 4) b.body) tt

described : (links : List ℕ) (i link : ℕ) → slice_get links i ≡ Some link → i < length links
described [] i link is = absurd (cc)
described (l ∷ links) zero link is = omega arith
described (l ∷ links) (suc i) link is = omega (arith, described links i link is)

packet_fits : (ports : ℕ) (links : List ℕ) (i : ℕ) (o : Option ℕ) (b : Block) → length links ≤ ports → slice_get links i ≡ o → number_in b.order b.body 0 4 ≡ i
    → Fits ports (said_packet links (packet_by o b))
packet_fits ports links i None b few is by = tt
packet_fits ports links i (Some link) b few is by = fits (packet_by (Some link) b) (came_by (Some link) b)
  where
    fits : (r : Result Packet CapKind) → CameBy (number_in b.order b.body 0 4) r → Fits ports (said_packet links r)
    fits (Err kind) came = tt
    fits (Ok packet) came = (few, omega (arith, came, by, few, described links i link is))

says_fits : (ports : ℕ) (links : List ℕ) (b : Block) → length links ≤ ports → Fits ports (says ports links b)
says_fits ports links b few =
    by_if (Fits ports) (b.kind == section_header) _ _ (by_if (Fits ports) (number_in b.order b.body 4 2 == major_version) _ _ (omega arith, tt) tt)
    (by_if (Fits ports) (b.kind == interface_description) _ _ (omega (arith, length-take ports (links ++ number_in b.order b.body 0 2 ∷ [])), tt)
    (by_if (Fits ports) (b.kind == enhanced_packet) _ _ (packet_fits ports links (number_in b.order b.body 0 4) _ b few refl refl) (few, tt)))

abbrev pub has_port : ℕ → Packet → Bool
has_port ports packet = nat_lt packet.interface ports

all_in_front : (ports : ℕ) (o : Option Packet) (c : Capture) → IfSome o (λ packet. packet.interface < ports) → list_all (has_port ports) c.packets ≡ true
    → list_all (has_port ports) (in_front o c).packets ≡ true
all_in_front ports None c below all = all
all_in_front ports (Some packet) c below all = rw (lt-ltb packet.interface ports below, all) refl

front_fits : (ports at : ℕ) (said : Said) (behind : List ℕ → Capture) → Fits ports said → ((links : List ℕ) → length links ≤ ports → list_all (has_port ports) (behind links).packets ≡ true)
    → list_all (has_port ports) (read_front at said behind).packets ≡ true
front_fits ports at (Err kind) behind fits all = refl
front_fits ports at (Ok said) behind fits all = all_in_front ports said.1 (behind said.0) fits.1 (all said.0 fits.0)

pub have_ports : (ports : ℕ) (links : List ℕ) (blocks : List (ℕ × Block)) (fault : Option Fault) → length links ≤ ports → list_all (has_port ports) (read ports links blocks fault).packets ≡ true
unfolding read
have_ports ports links [] fault few = refl
have_ports ports links (b ∷ blocks) fault few =
    front_fits ports b.0 (says ports links b.1) (λ links. read ports links blocks fault) (says_fits ports links b.1 few) (λ links few. have_ports ports links blocks fault few)
