-- Lines that are followed, one after another.
use Rattle.std.proofs.Common.{◌≡◌, ℕ, ◌<◌, ◌≤◌, ◌==◌, Bool, true, false, cond, List, [], ◌∷◌, ◌++◌, length, refl, sym, ap, ◌∙◌, append_assoc, length-append, arith, ⊎_elim}
use Rattle.std.specs.Prelude.{nat_lt}
use Rattle.std.specs.Cmp.{first_so, second_so}
use Rattle.std.specs.List.{fold}
use Rattle.std.proofs.lemmas.Bool.{cases_lt, le-ltb, lt-ltb, not-true}
use Rattle.std.proofs.lemmas.List.Sums.{fold-append}
use Rattle.br_model.specs.Text.Scenario.{longest_line}
use Rattle.br_model.specs.Theorems.WholeLines.{is_line, is_no_feed}
use Rattle.neigh_netlink.specs.Follow.{Ending, Following, Going, Ended, Bad, Reading, bad, closes, closes_at, follows, grows, line_says, opened, reads, reads_at, takes}
use Rattle.neigh_netlink.specs.declared.follow.LineFault.TheVariants.{Long}
use Rattle.neigh_netlink.proofs.FollowedLines.{line-read, rest-read}

-- What has ended stays.

abbrev pub has_ended : Ending → Bool
has_ended Going = false
has_ended Ended = true
has_ended (Bad n why) = true

stays : (d : Ending) (r : Reading) (byte : ℕ) → has_ended d ≡ true → reads_at d r byte ≡ r
stays Going r byte h = absurd (cc)
stays Ended r byte h = refl
stays (Bad n why) r byte h = refl

pub over-stays : (r : Reading) (bytes : List ℕ) → has_ended r.following.ending ≡ true → fold reads r bytes ≡ r
over-stays r [] h = refl
over-stays r (byte ∷ bytes) h = ap (λ (q : Reading). fold reads q bytes) (stays r.following.ending r byte h) ∙ over-stays r bytes h

closes-stays : (d : Ending) (f : Following) (line : List ℕ) → has_ended d ≡ true → closes_at d f line ≡ f
closes-stays Going f line h = absurd (cc)
closes-stays Ended f line h = refl
closes-stays (Bad n why) f line h = refl

pub follows-is : (bytes : List ℕ) → follows bytes ≡ closes (fold reads opened bytes)
unfolding follows
follows-is bytes = refl

pub follows-over : (bytes : List ℕ) (g : Following) → (fold reads opened bytes).following ≡ g → has_ended g.ending ≡ true → follows bytes ≡ g
follows-over bytes g is over =
    follows-is bytes
    ∙ closes-stays (fold reads opened bytes).following.ending (fold reads opened bytes).following (fold reads opened bytes).line (ap (λ (u : Following). has_ended u.ending) is ∙ over)
    ∙ is

-- Lines that go on.

module _ (f : Following) (going_on : f.ending ≡ Going) where
  abbrev at : List ℕ → Reading
  at line = record { following = f; line = line }

  its : f ≡ record { lines = f.lines; table = f.table; ending = Going }
  its i = record { lines = f.lines; table = f.table; ending = going_on i }

  -- a whole line, and more behind it
  pub line-more : (line more : List ℕ) → is_line line ≡ true → length line ≤ longest_line
      → fold reads (at []) ((line ++ 10 ∷ []) ++ more) ≡ fold reads (record { following = takes f (line_says line); line = [] }) more
  line-more line more plain short =
      fold-append reads (at []) (line ++ 10 ∷ []) more
      ∙ ap (λ (r : Reading). fold reads r more)
      (ap (λ (g : Following). fold reads (record { following = g; line = [] }) (line ++ 10 ∷ [])) its
      ∙ line-read f.lines f.table line plain short
      ∙ ap (λ (g : Following). record { following = takes g (line_says line); line = [] }) (sym its))

  -- a line without its line feed
  pub rest-goes : (line : List ℕ) → is_line line ≡ true → length line ≤ longest_line → fold reads (at []) line ≡ at line
  rest-goes line plain short =
      ap (λ (g : Following). fold reads (record { following = g; line = [] }) line) its
      ∙ rest-read f.lines f.table line plain short
      ∙ ap (λ (g : Following). record { following = g; line = line }) (sym its)

  -- a byte that is no line feed
  step : (front : List ℕ) (byte : ℕ) (over : Bool) → is_no_feed byte ≡ true → nat_lt longest_line (length (front ++ byte ∷ [])) ≡ over
      → reads (at front) byte ≡ record { following = cond over (bad f Long) f; line = front ++ byte ∷ [] }
  step front byte over plain is =
      ap (λ (d : Ending). reads_at d (at front) byte) going_on
      ∙ ap (λ b. cond {A = Reading} b (record { following = takes f (line_says front); line = [] }) (record { following = grows f (front ++ byte ∷ []); line = front ++ byte ∷ [] }))
      (not-true (byte == 10) plain)
      ∙ ap (λ b. record { following = cond b (bad f Long) f; line = front ++ byte ∷ [] }) is

  long-grown : (front line : List ℕ) → is_line line ≡ true → length front ≤ longest_line → longest_line < length (front ++ line)
      → (fold reads (at front) line).following ≡ bad f Long
  long-grown front [] plain short long = absurd (omega (arith, short, long, length-append front []))
  long-grown front (byte ∷ line) plain short long = ⊎_elim
      (λ (over : longest_line < length (front ++ byte ∷ [])).
      ap (λ (r : Reading). (fold reads r line).following) (step front byte true (first_so _ _ plain) (lt-ltb longest_line (length (front ++ byte ∷ [])) over))
      ∙ ap (λ (r : Reading). r.following) (over-stays (record { following = bad f Long; line = front ++ byte ∷ [] }) line refl))
      (λ (under : length (front ++ byte ∷ []) ≤ longest_line).
      ap (λ (r : Reading). (fold reads r line).following) (step front byte false (first_so _ _ plain) (le-ltb longest_line (length (front ++ byte ∷ [])) under))
      ∙ long-grown (front ++ byte ∷ []) line (second_so _ _ plain) under (omega (arith, long, ap length (append_assoc front (byte ∷ []) line))))
      (cases_lt longest_line (length (front ++ byte ∷ [])))

  -- a line that is too long, whatever is behind it
  pub long-line : (front rest : List ℕ) → is_line front ≡ true → longest_line < length front → (fold reads (at []) (front ++ rest)).following ≡ bad f Long
  long-line front rest plain long =
      let is = long-grown [] front plain (omega arith) long in
      ap (λ (r : Reading). r.following) (fold-append reads (at []) front rest)
      ∙ ap (λ (r : Reading). r.following) (over-stays (fold reads (at []) front) rest (ap (λ (g : Following). has_ended g.ending) is))
      ∙ is
