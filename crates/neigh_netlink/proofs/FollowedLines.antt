-- Bytes are read line by line.
use Rattle.std.proofs.Common.{◌≡◌, ℕ, ◌≤◌, ◌==◌, true, cond, List, [], ◌∷◌, ◌++◌, length, sym, ap, ◌∙◌, append_assoc, append-nil, length-append, arith}
use Rattle.std.specs.Cmp.{first_so, second_so}
use Rattle.std.specs.List.{fold}
use Rattle.std.proofs.lemmas.Bool.{le-ltb, not-true}
use Rattle.std.proofs.lemmas.List.Sums.{fold-append}
use Rattle.br_model.specs.Text.Scenario.{longest_line}
use Rattle.br_model.specs.Theorems.WholeLines.{is_line, is_no_feed}
use Rattle.neigh_netlink.specs.Follow.{Following, Going, Reading, bad, grows, line_says, reads, takes}
use Rattle.neigh_netlink.specs.declared.follow.LineFault.TheVariants.{Long}
use Rattle.neigh_netlink.specs.Neighbours.{Neighbours}

module _ (n : ℕ) (t : Neighbours) where
  abbrev going : Following
  going = record { lines = n; table = t; ending = Going }

  -- a byte more that is no line feed
  more : (front : List ℕ) (byte : ℕ) → is_no_feed byte ≡ true → length (front ++ byte ∷ []) ≤ longest_line
      → reads (record { following = going; line = front }) byte ≡ record { following = going; line = front ++ byte ∷ [] }
  more front byte plain short =
      ap (λ b. cond {A = Reading} b (record { following = takes going (line_says front); line = [] }) (record { following = grows going (front ++ byte ∷ []); line = front ++ byte ∷ [] }))
      (not-true (byte == 10) plain)
      ∙ ap (λ b. record { following = cond b (bad going Long) going; line = front ++ byte ∷ [] }) (le-ltb longest_line (length (front ++ byte ∷ [])) short)

  grown : (front line : List ℕ) → is_line line ≡ true → length (front ++ line) ≤ longest_line
      → fold reads (record { following = going; line = front }) line ≡ record { following = going; line = front ++ line }
  grown front [] plain short = ap (λ (l : List ℕ). record { following = going; line = l }) (sym (append-nil front))
  grown front (byte ∷ line) plain short =
      let few : length (front ++ byte ∷ []) ≤ longest_line = omega (arith, short, length-append front (byte ∷ []), length-append front (byte ∷ line)) in
      let all : length ((front ++ byte ∷ []) ++ line) ≤ longest_line = omega (arith, short, ap length (append_assoc front (byte ∷ []) line)) in
      ap (λ (r : Reading). fold reads r line) (more front byte (first_so _ _ plain) few)
      ∙ grown (front ++ byte ∷ []) line (second_so _ _ plain) all
      ∙ ap (λ (l : List ℕ). record { following = going; line = l }) (append_assoc front (byte ∷ []) line)

  pub rest-read : (line : List ℕ) → is_line line ≡ true → length line ≤ longest_line
      → fold reads (record { following = going; line = [] }) line ≡ record { following = going; line = line }
  rest-read line plain short = grown [] line plain short

  pub line-read : (line : List ℕ) → is_line line ≡ true → length line ≤ longest_line
      → fold reads (record { following = going; line = [] }) (line ++ 10 ∷ []) ≡ record { following = takes going (line_says line); line = [] }
  line-read line plain short =
      fold-append reads (record { following = going; line = [] }) line (10 ∷ []) ∙ ap (λ (r : Reading). reads r 10) (rest-read line plain short)
