-- A capture that is written is read back.
use Rattle.std.proofs.Common.{◌≡◌, ℕ, zero, suc, ◌+◌, ◌-◌, ◌%◌, ◌^◌, ◌<◌, ◌≤◌, nat_lt, false, true, List, [], ◌∷◌, ◌++◌, length, take, drop, replicate, slice_get, refl, ap, ◌∙◌, arith, lit<}
use Rattle.std.proofs.lemmas.List.{take_all, length-drop, length-append, length-replicate, replicate_more}
use Rattle.std.specs.declared.option.Option.{Option}
use Rattle.std.specs.declared.option.Option.TheVariants.{None, Some}
use Rattle.std.specs.declared.result.Result.TheVariants.{Ok}
use Rattle.std.proofs.lemmas.Bool.{le-ltb}
use Rattle.lemmas.proofs.Numbers.{eqb-itself}
use Rattle.byteorder.specs.Endian.{big_number, little_number}
use Rattle.byteorder.specs.Numbers.{big_number-reads_back, little_number-reads_back}
use Rattle.br_model.specs.declared.capture.Order.{Order}
use Rattle.br_model.specs.declared.capture.Order.TheVariants.{HighFirst, LowFirst}
use Rattle.br_model.specs.declared.capture.Packet.{Packet}
use Rattle.br_model.specs.Wire.Captures.{Block, Capture, enhanced_packet, front, in_front, interface_description, is_length, number_in, order_of, packets, says, section_header, unless_broken}
use Rattle.pcapng_read.specs.WrittenCaptures.{AreWritable, block, bytes_in, header_body, interface_body, interfaces, packet_blocks, packet_body, padding, written}
use Rattle.pcapng_read.proofs.Cutting.{left, left_at_end, left_whole}

-- four bytes

four_high : (a b c d : ℕ) (rest : List ℕ) → number_in HighFirst (a ∷ b ∷ c ∷ d ∷ rest) 0 4 ≡ big_number 4 (a ∷ b ∷ c ∷ d ∷ rest)
four_high a b c d rest = omega arith

four_low : (a b c d : ℕ) (rest : List ℕ) → number_in LowFirst (a ∷ b ∷ c ∷ d ∷ rest) 0 4 ≡ little_number 4 (a ∷ b ∷ c ∷ d ∷ rest)
four_low a b c d rest = omega arith

-- the number that stands at the front
reads_back : (order : Order) (x : ℕ) (rest : List ℕ) → x < 2 ^ 32 → number_in order (bytes_in order 4 x ++ rest) 0 4 ≡ x
reads_back HighFirst x rest below = four_high _ _ _ _ rest ∙ big_number-reads_back 4 x rest below
reads_back LowFirst x rest below = four_low _ _ _ _ rest ∙ little_number-reads_back 4 x rest below

number_behind : (order : Order) (bytes : List ℕ) (i : ℕ) → number_in order bytes i 4 ≡ number_in order (drop i bytes) 0 4
number_behind HighFirst bytes i = refl
number_behind LowFirst bytes i = refl

drop_front : (xs : List ℕ) (n : ℕ) (ys : List ℕ) → drop (length xs + n) (xs ++ ys) ≡ drop n ys
drop_front [] n ys = ap (λ k. drop k ys) (omega arith)
drop_front (x ∷ xs) n ys = ap (λ k. drop k (x ∷ (xs ++ ys))) {y = suc (length xs + n)} (omega arith) ∙ drop_front xs n ys

take_front : (xs ys : List ℕ) → take (length xs) (xs ++ ys) ≡ xs
take_front [] ys = refl
take_front (x ∷ xs) ys = ap (λ l. x ∷ l) (take_front xs ys)

length_four : (order : Order) (x : ℕ) (rest : List ℕ) → length (bytes_in order 4 x ++ rest) ≡ length rest + 4
length_four HighFirst x rest = omega arith
length_four LowFirst x rest = omega arith

drop_four : (order : Order) (x n : ℕ) (rest : List ℕ) → drop (n + 4) (bytes_in order 4 x ++ rest) ≡ drop n rest
drop_four HighFirst x n rest = ap (λ k. drop k (bytes_in HighFirst 4 x ++ rest)) {y = suc (suc (suc (suc n)))} (omega arith)
drop_four LowFirst x n rest = ap (λ k. drop k (bytes_in LowFirst 4 x ++ rest)) {y = suc (suc (suc (suc n)))} (omega arith)

-- a block

length_block : (order : Order) (kind : ℕ) (body rest : List ℕ) → length (block order kind body rest) ≡ length rest + (length body + 12)
length_block order kind body rest =
    let end : List ℕ = bytes_in order 4 (length body + 12) ++ rest in
    let behind-kind : List ℕ = bytes_in order 4 (length body + 12) ++ (body ++ end) in
    omega (arith, length_four order kind behind-kind, length_four order (length body + 12) (body ++ end), length-append body end, length_four order (length body + 12) rest)

drop_to_body : (order : Order) (kind : ℕ) (body rest : List ℕ) → drop 8 (block order kind body rest) ≡ body ++ (bytes_in order 4 (length body + 12) ++ rest)
drop_to_body order kind body rest = drop_four order kind 4 _ ∙ drop_four order (length body + 12) 0 _

drop_body : (order : Order) (kind : ℕ) (body rest : List ℕ) → drop (length body + 12 - 4) (block order kind body rest) ≡ bytes_in order 4 (length body + 12) ++ rest
drop_body order kind body rest =
    ap (λ k. drop k (block order kind body rest)) {y = length body + 0 + 4 + 4} (omega arith)
    ∙ drop_four order kind (length body + 0 + 4) _
    ∙ drop_four order (length body + 12) (length body + 0) _
    ∙ drop_front body 0 _

drop_block : (order : Order) (kind : ℕ) (body rest : List ℕ) → drop (length body + 12) (block order kind body rest) ≡ rest
drop_block order kind body rest =
    ap (λ k. drop k (block order kind body rest)) {y = length body + 4 + 4 + 4} (omega arith)
    ∙ drop_four order kind (length body + 4 + 4) _
    ∙ drop_four order (length body + 12) (length body + 4) _
    ∙ drop_front body 4 _
    ∙ drop_four order (length body + 12) 0 rest

-- a whole block, by what its fields say
whole_is : (before : Option Order) (order : Order) (bytes : List ℕ) (kind size : ℕ) (body : List ℕ)
    → nat_lt (length bytes) 12 ≡ false → order_of before bytes ≡ Ok order → number_in order bytes 4 4 ≡ size → number_in order bytes 0 4 ≡ kind
    → is_length kind size ≡ true → nat_lt (length bytes) size ≡ false → number_in order bytes (size - 4) 4 ≡ size → take (size - 12) (drop 8 bytes) ≡ body
    → front before bytes ≡ Ok (record { order = order; kind = kind; body = body })
whole_is before order bytes kind size body long first sized kinded sizes fits repeated holds = rw (long, first, sized, kinded, sizes, fits, repeated, eqb-itself size, holds) refl

front_of : (before : Option Order) (order : Order) (kind : ℕ) (body rest : List ℕ)
    → order_of before (block order kind body rest) ≡ Ok order → kind < 2 ^ 32 → length body + 12 < 2 ^ 32 → is_length kind (length body + 12) ≡ true
    → front before (block order kind body rest) ≡ Ok (record { order = order; kind = kind; body = body })
front_of before order kind body rest first below small sizes =
    let bytes : List ℕ = block order kind body rest in
    let size : ℕ = length body + 12 in
    let long : size ≤ length bytes = omega (arith, length_block order kind body rest) in
    let end : List ℕ = bytes_in order 4 size ++ rest in
    whole_is before order bytes kind size body
    (le-ltb _ _ (omega (arith, long)))
    first
    (number_behind order bytes 4 ∙ ap (λ l. number_in order l 0 4) (drop_four order kind 0 (bytes_in order 4 size ++ (body ++ end))) ∙ reads_back order size (body ++ end) small)
    (reads_back order kind _ below)
    sizes
    (le-ltb _ _ long)
    (number_behind order bytes (size - 4) ∙ ap (λ l. number_in order l 0 4) (drop_body order kind body rest) ∙ reads_back order size rest small)
    (ap (λ l. take (size - 12) l) (drop_to_body order kind body rest) ∙ ap (λ n. take n (body ++ end)) (omega arith) ∙ take_front body end)

left_block : (ports at : ℕ) (links new : List ℕ) (before : Option Order) (order : Order) (kind : ℕ) (body rest : List ℕ) (packet : Option Packet)
    → order_of before (block order kind body rest) ≡ Ok order → kind < 2 ^ 32 → length body + 12 < 2 ^ 32 → is_length kind (length body + 12) ≡ true
    → says ports links (record { order = order; kind = kind; body = body }) ≡ Ok (new, packet)
    → left ports links at before (block order kind body rest) ≡ in_front packet (left ports new (at + (length body + 12)) (Some order) rest)
left_block ports at links new before order kind body rest packet first below small sizes said =
    let bytes : List ℕ = block order kind body rest in
    let b : Block = record { order = order; kind = kind; body = body } in
    let size : ℕ = length body + 12 in
    let long : size ≤ length bytes = omega (arith, length_block order kind body rest) in
    let after : take (length bytes - size) (drop size bytes) ≡ rest = take_all _ _ (omega (arith, length-drop size bytes)) ∙ drop_block order kind body rest in
    left_whole ports links at before bytes b new packet (omega (arith, long)) long (front_of before order kind body rest first below small sizes) said
    ∙ ap (λ l. in_front packet (left ports new (at + size) (Some order) l)) after

-- interfaces

abbrev one : ℕ
one = 1

abbrev links-of : ℕ → List ℕ
links-of n = replicate n one

goes_on : (order : Order) (body rest : List ℕ) → order_of (Some order) (block order interface_description body rest) ≡ Ok order
goes_on HighFirst body rest = refl
goes_on LowFirst body rest = refl

interface_sizes : (order : Order) → length (interface_body order) ≡ 8
interface_sizes HighFirst = refl
interface_sizes LowFirst = refl

says_interface : (order : Order) (ports : ℕ) (links : List ℕ)
    → says ports links (record { order = order; kind = interface_description; body = interface_body order }) ≡ Ok (take ports (links ++ 1 ∷ []), None)
says_interface HighFirst ports links = refl
says_interface LowFirst ports links = refl

one_more : (ports k : ℕ) → k + 1 ≤ ports → take ports (links-of k ++ 1 ∷ []) ≡ links-of (k + 1)
one_more ports k within = ap (λ l. take ports l) (replicate_more k one) ∙ take_all _ _ (omega (arith, length-replicate (k + 1) one, within))

left_interfaces : (order : Order) (ports k m : ℕ) (rest : List ℕ) (result : Capture) → k + m ≡ ports
    → ((at : ℕ) → left ports (links-of ports) at (Some order) rest ≡ result) → (at : ℕ) → left ports (links-of k) at (Some order) (interfaces order m rest) ≡ result
left_interfaces order ports k zero rest result all on at = ap (λ n. left ports (links-of n) at (Some order) rest) (omega (arith, all)) ∙ on at
left_interfaces order ports k (suc m) rest result all on at =
    let is = interface_sizes order in
    left_block ports at (links-of k) (links-of (k + 1)) (Some order) order interface_description (interface_body order) (interfaces order m rest) None
    (goes_on order _ _) (lit< tt) (omega (arith, is)) (ap (λ n. is_length interface_description (n + 12)) is)
    (says_interface order ports (links-of k) ∙ ap (λ l. Ok (l, None)) (one_more ports k (omega (arith, all))))
    ∙ left_interfaces order ports (k + 1) m rest result (omega (arith, all)) on _

-- packets

goes_on_to_packet : (order : Order) (body rest : List ℕ) → order_of (Some order) (block order enhanced_packet body rest) ≡ Ok order
goes_on_to_packet HighFirst body rest = refl
goes_on_to_packet LowFirst body rest = refl

packet_length : (order : Order) (p : Packet) → length (packet_body order p) ≡ length p.bytes + length (padding (length p.bytes)) + 20
packet_length order p =
    let n : ℕ = length p.bytes in
    let captured : List ℕ = p.bytes ++ padding n in
    let original : List ℕ = bytes_in order 4 n ++ captured in
    let time : List ℕ = replicate 8 0 ++ (bytes_in order 4 n ++ original) in
    omega (
      arith,
      length_four order p.interface time,
      length-append (replicate 8 0) (bytes_in order 4 n ++ original),
      length_four order n original,
      length_four order n captured,
      length-append p.bytes (padding n),
    )

padded_sizes : (n : ℕ) → n ≤ 1048544 → is_length enhanced_packet (n + (4 - n % 4) % 4 + 20 + 12) ≡ true
padded_sizes n below = grind (arith, below)

padding_length : (n : ℕ) → length (padding n) ≡ (4 - n % 4) % 4
padding_length n = length-replicate _ 0

has_link : (n i : ℕ) → i < n → slice_get (links-of n) i ≡ Some one
has_link zero i below = absurd (omega (arith, below))
has_link (suc n) zero below = refl
has_link (suc n) (suc i) below = has_link n i (omega (arith, below))

says_packet : (order : Order) (ports n : ℕ) (p : Packet) → p.interface < n → n < 2 ^ 32 → length p.bytes ≤ 1048544
    → says ports (links-of n) (record { order = order; kind = enhanced_packet; body = packet_body order p }) ≡ Ok (links-of n, Some p)
says_packet order ports n p here below fits =
    let body : List ℕ = packet_body order p in
    let len : ℕ = length p.bytes in
    let captured : List ℕ = p.bytes ++ padding len in
    let original : List ℕ = bytes_in order 4 len ++ captured in
    let by : number_in order body 0 4 ≡ p.interface = reads_back order p.interface _ (omega (arith, here, below)) in
    let count : number_in order body 12 4 ≡ len =
    number_behind order body 12 ∙ ap (λ l. number_in order l 0 4) (drop_four order p.interface 8 (replicate 8 0 ++ (bytes_in order 4 len ++ original)))
    ∙ reads_back order len original (omega (arith, fits)) in
    let start : drop 20 body ≡ captured =
    drop_four order p.interface 16 (replicate 8 0 ++ (bytes_in order 4 len ++ original)) ∙ drop_four order len 4 original ∙ drop_four order len 0 captured in
    let long : nat_lt (length body) (20 + len) ≡ false = le-ltb _ _ (omega (arith, packet_length order p)) in
    rw (by, has_link n p.interface here, count, long, start, take_front p.bytes (padding len))
    (ap (λ i. Ok (links-of n, Some (record { interface = i; bytes = p.bytes }))) by)

left_packets : (order : Order) (ports : ℕ) (ps : List Packet) (at : ℕ) → ports < 2 ^ 32 → AreWritable ports ps
    → left ports (links-of ports) at (Some order) (packet_blocks order ps) ≡ record { packets = ps; fault = None }
left_packets order ports [] at below fit = left_at_end ports _ at (Some order) [] refl
left_packets order ports (p ∷ ps) at below fit =
    let is : length (packet_body order p) ≡ length p.bytes + (4 - length p.bytes % 4) % 4 + 20 = packet_length order p ∙ ap (λ k. length p.bytes + k + 20) (padding_length (length p.bytes)) in
    left_block ports at (links-of ports) (links-of ports) (Some order) order enhanced_packet (packet_body order p) (packet_blocks order ps) (Some p)
    (goes_on_to_packet order _ _) (lit< tt) (omega (arith, is, fit.1)) (ap (λ n. is_length enhanced_packet (n + 12)) is ∙ padded_sizes _ fit.1)
    (says_packet order ports ports p fit.0 below fit.1)
    ∙ ap (λ c. in_front (Some p) c) (left_packets order ports ps _ below fit.2)

-- the whole capture

begins : (order : Order) (rest : List ℕ) → order_of None (block order section_header (header_body order) rest) ≡ Ok order
begins HighFirst rest = refl
begins LowFirst rest = refl

header_sizes : (order : Order) → length (header_body order) ≡ 16
header_sizes HighFirst = refl
header_sizes LowFirst = refl

says_header : (order : Order) (ports : ℕ) → says ports [] (record { order = order; kind = section_header; body = header_body order }) ≡ Ok ([], None)
says_header HighFirst ports = refl
says_header LowFirst ports = refl

pub read_back : (order : Order) (ports : ℕ) (ps : List Packet) → ports < 2 ^ 32 → AreWritable ports ps → packets (written order ports ps) ports ≡ Ok ps
unfolding written
read_back order ports ps below fit =
    let is = header_sizes order in
    let rest : List ℕ = interfaces order ports (packet_blocks order ps) in
    let whole : Capture = record { packets = ps; fault = None } in
    let told : left ports [] 0 None (block order section_header (header_body order) rest) ≡ whole =
    left_block ports 0 [] [] None order section_header (header_body order) rest None
    (begins order rest) (lit< tt) (omega (arith, is)) (ap (λ n. is_length section_header (n + 12)) is) (says_header order ports)
    ∙ left_interfaces order ports 0 ports (packet_blocks order ps) whole (omega arith) (λ at. left_packets order ports ps at below fit) _ in
    ap (λ c. unless_broken c c.fault) told
