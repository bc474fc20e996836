-- Lines of messages that are taken give the table of these messages.
use Rattle.std.proofs.Common.{◌≡◌, ℕ, zero, suc, ◌+◌, ◌/◌, ◌%◌, ◌^◌, ◌<◌, ◌≤◌, Bool, true, false, not, cond, List}
use Rattle.std.proofs.Common.{[], ◌∷◌, ◌++◌, length, Option, None, Some, Ok, Err, refl, ap, ◌∙◌, append_assoc, length-append, arith}
use Rattle.std.specs.Prelude.{codes, nat_lt, if◌then◌else◌}
use Rattle.std.specs.Cmp.{first_so, second_so}
use Rattle.std.specs.Int.{Width, w16, w32, byte_at, byte_len, bytes_high_first, bytes_low_first, to_le_bytes}
use Rattle.std.specs.List.{filter, flat_map, fold, list_all}
use Rattle.std.specs.Option.{is_some}
use Rattle.std.proofs.lemmas.Bool.{and_from, ltb-true, lt-ltb}
use Rattle.std.proofs.lemmas.List.Folds.{list_all-append}
use Rattle.br_model.specs.declared.change.Kind.{Kind}
use Rattle.br_model.specs.declared.change.Kind.TheVariants.{Local, Static, Learned, Extern}
use Rattle.br_model.specs.Data.Digits.{bytes_from_hex, hex_digit, hex_of}
use Rattle.br_model.specs.Text.Scenario.{longest_line}
use Rattle.br_model.specs.Text.Words.{Word, is_word}
use Rattle.br_model.specs.Theorems.WholeLines.{is_line, is_no_feed}
use Rattle.br_model.proofs.Text.Words.{equal}
use Rattle.br_model.proofs.Text.WrittenNumbers.{hex_read}
use Rattle.br_model.proofs.Text.Feedless.{hex_digit_feedless}
use Rattle.br_model.proofs.Data.Hex.{length-hex_of}
use Rattle.neigh_netlink.specs.declared.follow.LineFault.TheVariants as fault
use Rattle.neigh_netlink.specs.declared.follow.Said.TheVariants.{Ends, Tells}
use Rattle.neigh_netlink.specs.declared.neigh.Neigh.{Neigh}
use Rattle.neigh_netlink.specs.declared.table.TakeFault.{TakeFault}
use Rattle.neigh_netlink.specs.Follow.{Following, Going, Ended, Reading, bytes_say, follows, line_says, message_says, reads, takes, takes_message, words, words_say}
use Rattle.neigh_netlink.specs.FollowedMessages.{are_taken, is_whole, text_of}
use Rattle.neigh_netlink.specs.Lines.{is_no_space}
use Rattle.neigh_netlink.specs.Messages.{address_attribute, has_ranges, is_message, ndm_flags, ndm_state, ndmsg, nlmsg_type, nlmsghdr, vlan_attribute, written}
use Rattle.neigh_netlink.specs.Monitor.{message_line}
use Rattle.neigh_netlink.specs.Neighbours.{Neighbours, after_message, fault_of, table_of}
use Rattle.neigh_netlink.proofs.Lines.{follows-over, line-more}
use Rattle.neigh_netlink.proofs.FollowedLines.{line-read}
use Rattle.neigh_netlink.proofs.LineWords.{first-word, split-alone}
use Rattle.neigh_netlink.proofs.Readings.{read-written}

-- The bytes of a message.

abbrev is_small : ℕ → Bool
is_small b = nat_lt b 256

rest-small : (y : ℕ) → is_small (y % 256) ≡ true
rest-small y = let below : y % 256 < 256 = omega arith in lt-ltb (y % 256) 256 below

byte-small : (i n : ℕ) → is_small (byte_at i n) ≡ true
byte-small zero n = rest-small n
byte-small (suc i) n = rest-small (n / 256 ^ suc i)

low-small : (i k n : ℕ) → list_all is_small (bytes_low_first i k n) ≡ true
low-small i zero n = refl
low-small i (suc k) n = and_from _ _ (byte-small i n) (low-small (suc i) k n)

high-small : (k n : ℕ) → list_all is_small (bytes_high_first k n) ≡ true
high-small zero n = refl
high-small (suc k) n = and_from _ _ (byte-small k n) (high-small k n)

le-small : (w : Width) (n : ℕ) → list_all is_small (to_le_bytes w n) ≡ true
le-small w n = low-small 0 (byte_len w) n

joined : (xs ys : List ℕ) → list_all is_small xs ≡ true → list_all is_small ys ≡ true → list_all is_small (xs ++ ys) ≡ true
joined xs ys h k = list_all-append is_small xs ys ∙ and_from _ _ h k

flags-small : (kind : Kind) (offload : Bool) → list_all is_small (ndm_flags kind offload ∷ 0 ∷ []) ≡ true
flags-small Local true = refl
flags-small Local false = refl
flags-small Static true = refl
flags-small Static false = refl
flags-small Learned true = refl
flags-small Learned false = refl
flags-small Extern true = refl
flags-small Extern false = refl

-- a number in front of other bytes
ahead : (w : Width) (n : ℕ) (rest : List ℕ) → list_all is_small rest ≡ true → list_all is_small (to_le_bytes w n ++ rest) ≡ true
ahead w n rest h = joined (to_le_bytes w n) rest (le-small w n) h

header-small : (m : Neigh) → list_all is_small (nlmsghdr m) ≡ true
header-small m =
    let last : List ℕ = to_le_bytes w32 m.ticket ++ to_le_bytes w32 0 in
    let kind = nlmsg_type m.new in
    ahead w32 48 (to_le_bytes w16 kind ++ (to_le_bytes w16 0 ++ last))
    (ahead w16 kind (to_le_bytes w16 0 ++ last) (ahead w16 0 last (ahead w32 m.ticket (to_le_bytes w32 0) (le-small w32 0))))

entry-small : (m : Neigh) → list_all is_small (ndmsg m) ≡ true
entry-small m =
    let flags : List ℕ = ndm_flags m.kind m.offload ∷ 0 ∷ [] in
    let state = ndm_state m.kind in
    ahead w16 0 (to_le_bytes w32 (m.port + 1) ++ (to_le_bytes w16 state ++ flags))
    (ahead w32 (m.port + 1) (to_le_bytes w16 state ++ flags) (ahead w16 state flags (flags-small m.kind m.offload)))

address-small : (mac : ℕ) → list_all is_small (address_attribute mac) ≡ true
address-small mac =
    let last : List ℕ = bytes_high_first 6 mac ++ (0 ∷ 0 ∷ []) in
    ahead w16 10 (to_le_bytes w16 2 ++ last) (ahead w16 2 last (joined (bytes_high_first 6 mac) (0 ∷ 0 ∷ []) (high-small 6 mac) refl))

vlan-small : (vid : ℕ) → list_all is_small (vlan_attribute vid) ≡ true
vlan-small vid =
    let last : List ℕ = to_le_bytes w16 vid ++ (0 ∷ 0 ∷ []) in
    ahead w16 6 (to_le_bytes w16 5 ++ last) (ahead w16 5 last (ahead w16 vid (0 ∷ 0 ∷ []) refl))

written-small : (m : Neigh) → list_all is_small (written m) ≡ true
unfolding written
written-small m =
    let attributes : List ℕ = address_attribute m.mac ++ vlan_attribute m.vid in
    joined (nlmsghdr m) (ndmsg m ++ attributes) (header-small m)
    (joined (ndmsg m) attributes (entry-small m) (joined (address_attribute m.mac) (vlan_attribute m.vid) (address-small m.mac) (vlan-small m.vid)))

-- Their digits.

each-digit : (p : ℕ → Bool) → ((n : ℕ) → n < 16 → p (hex_digit n) ≡ true) → (bytes : List ℕ) → list_all is_small bytes ≡ true → list_all p (hex_of bytes) ≡ true
each-digit p digit [] h = refl
each-digit p digit (b ∷ bytes) h =
    let fits : b < 256 = ltb-true b 256 (first_so _ _ h) in
    and_from _ _ (digit (b / 16) (omega arith)) (and_from _ _ (digit (b % 16) (omega arith)) (each-digit p digit bytes (second_so _ _ h)))

no-space : (n : ℕ) → n < 16 → is_no_space (hex_digit n) ≡ true
no-space n h = grind arith

-- The line of a message.

module _ (m : Neigh) where
  abbrev digits : List ℕ
  digits = hex_of (written m)

  abbrev line : List ℕ
  line = codes "nl " ++ digits

  some-digits : is_word digits ≡ true
  unfolding written
  some-digits = refl

  pub few-bytes : length (written m) ≡ 48
  unfolding written
  few-bytes = refl

  plain : is_line line ≡ true
  plain = each-digit is_no_feed hex_digit_feedless (written m) (written-small m)

  short : length line ≤ longest_line
  short = omega (arith, length-hex_of (written m), few-bytes, length-append (codes "nl ") digits)

  digits-alone : words digits ≡ digits ∷ []
  digits-alone =
      ap (filter is_word) (split-alone digits (each-digit is_no_space no-space (written m) (written-small m)))
      ∙ ap (λ b. cond b (digits ∷ []) []) some-digits

  two-words : words line ≡ codes "nl" ∷ digits ∷ []
  two-words = first-word line 2 (λ e. absurd (omega (arith, e))) refl refl refl ∙ ap (λ (ws : List Word). codes "nl" ∷ ws) digits-alone

  line-tells : has_ranges m ≡ true → m.mac < 2 ^ 48 → is_message m ≡ true → line_says line ≡ Ok (Tells m)
  line-tells ranged mac message =
      ap words_say two-words
      ∙ ap (λ b. if b then bytes_say (bytes_from_hex digits) else Err fault.Word) (equal (codes "nl") (codes "nl") refl)
      ∙ ap bytes_say (hex_read (written m) (written-small m))
      ∙ ap message_says (read-written m ranged mac message)

-- Line after line.

abbrev going : ℕ → Neighbours → Following
going n t = record { lines = n; table = t; ending = Going }

abbrev at : ℕ → Neighbours → Reading
at n t = record { following = going n t; line = [] }

none-of : (o : Option TakeFault) → not (is_some o) ≡ true → o ≡ None
none-of None h = refl
none-of (Some why) h = absurd (cc)

one-read : (m : Neigh) (n : ℕ) (t : Neighbours) (more : List ℕ) → is_whole m ≡ true → fault_of t m ≡ None
    → fold reads (at n t) (message_line m ++ more) ≡ fold reads (at (n + 1) (after_message t m)) more
one-read m n t more whole taken =
    let rest = second_so (has_ranges m) _ whole in
    let mac = ltb-true m.mac (2 ^ 48) (first_so (nat_lt m.mac (2 ^ 48)) _ rest) in
    line-more (going n t) refl (line m) more (plain m) (short m)
    ∙ ap (λ (f : Following). fold reads (record { following = f; line = [] }) more)
    (ap (takes (going n t)) (line-tells m (first_so (has_ranges m) _ whole) mac (second_so (nat_lt m.mac (2 ^ 48)) _ rest)) ∙ ap (takes_message (going n t) m) taken)

all-read : (ms : List Neigh) (n : ℕ) (t : Neighbours) (more : List ℕ) → list_all is_whole ms ≡ true → are_taken t ms ≡ true
    → fold reads (at n t) (flat_map message_line ms ++ more) ≡ fold reads (at (n + length ms) (fold after_message t ms)) more
all-read [] n t more whole taken = let same : n ≡ n + 0 = omega arith in ap (λ k. fold reads (at k t) more) same
all-read (m ∷ ms) n t more whole taken =
    let one = none-of (fault_of t m) (first_so _ _ taken) in
    let same : (n + 1) + length ms ≡ n + suc (length ms) = omega arith in
    ap (fold reads (at n t)) (append_assoc (message_line m) (flat_map message_line ms) more)
    ∙ one-read m n t (flat_map message_line ms ++ more) (first_so _ _ whole) one
    ∙ all-read ms (n + 1) (after_message t m) more (second_so _ _ whole) (second_so _ _ taken)
    ∙ ap (λ k. fold reads (at k (fold after_message (after_message t m) ms)) more) same

end-says : line_says (codes "end") ≡ Ok Ends
end-says = ap (λ b. if b then Ok Ends else Err fault.Word) (equal (codes "end") (codes "end") refl)

end-read : (n : ℕ) (t : Neighbours) → (fold reads (at n t) (codes "end" ++ 10 ∷ [])).following ≡ record { lines = n + 1; table = t; ending = Ended }
end-read n t =
    ap (λ (r : Reading). r.following) (line-read n t (codes "end") refl (omega arith)) ∙ ap (takes (going n t)) end-says

pub messages-followed : (ms : List Neigh) → list_all is_whole ms ≡ true → are_taken [] ms ≡ true
    → follows (text_of ms) ≡ record { lines = length ms + 1; table = table_of ms; ending = Ended }
messages-followed ms whole taken =
    let same : 0 + length ms ≡ length ms = omega arith in
    follows-over (text_of ms) (record { lines = length ms + 1; table = table_of ms; ending = Ended })
    (ap (λ (r : Reading). r.following)
    (all-read ms 0 [] (codes "end" ++ 10 ∷ []) whole taken ∙ ap (λ k. fold reads (at k (table_of ms)) (codes "end" ++ 10 ∷ [])) same)
    ∙ end-read (length ms) (table_of ms))
    refl
