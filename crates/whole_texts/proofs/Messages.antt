-- Lines of messages, one after another.
use Rattle.std.proofs.Common.{◌≡◌, ℕ, ◌+◌, ◌<◌, ◌≤◌, Bool, true, false, cond, List, [], ◌∷◌, ◌++◌, length, refl, sym, ap, ◌∙◌, subst, append_assoc, append-nil, string_bytes}
use Rattle.std.specs.List.{fold}
use Rattle.br_model.specs.Text.Scenario.{is_end, longest_line}
use Rattle.br_model.specs.Theorems.WholeLines.{is_line}
use Rattle.neigh_netlink.specs.declared.follow.LineFault.TheVariants.{Long, Unended}
use Rattle.neigh_netlink.specs.Follow.{Ending, Following, Going, Ended, Reading, bad, closes, closes_at, followed, followed_at, follows, line_says, opened, reads, takes, words}
use Rattle.neigh_netlink.specs.Neighbours.{Neighbours}
use Rattle.neigh_netlink.specs.MessageLines.{ending_of}
use Rattle.neigh_netlink.specs.declared.follower.FollowEnd.{FollowEnd}
use Rattle.neigh_netlink.specs.declared.follower.FollowEnd.TheVariants as lasts
use Rattle.neigh_netlink.proofs.Lines.{follows-is, follows-over, has_ended, line-more, long-line, over-stays, rest-goes}
use Rattle.whole_texts.specs.declared.replaying.Told.{Told}
use Rattle.whole_texts.specs.Messages.{EndsSo, TellsTable, lines_end_well}

-- Of these bytes the last ones are left, before which the lines go on.
pub record GoesOn (bytes : List ℕ) (f : Following) (rest : List ℕ) : Type 0 where
  pub reads_so : fold reads opened bytes ≡ fold reads (record { following = f; line = [] }) rest
  pub going : f.ending ≡ Going

pub started : (bytes : List ℕ) (f : Following) → f ≡ opened.following → GoesOn bytes f bytes
started bytes f is =
    record { reads_so = ap (λ (g : Following). fold reads (record { following = g; line = [] }) bytes) (sym is); going = ap (λ (g : Following). g.ending) is }

known : (bytes : List ℕ) (g : Following) (t : Neighbours) (end : FollowEnd) → follows bytes ≡ g → g.ending ≡ ending_of end → g.table ≡ t → EndsSo bytes t end
known bytes g t end is ends table = record { ends = ap (λ (v : Following). v.ending) is ∙ ends; table = ap (λ (v : Following). v.table) is ∙ table }

-- a line that is too long
pub long_ends : (bytes line rest : List ℕ) (f : Following) (end : FollowEnd) → GoesOn bytes f (line ++ rest) → is_line line ≡ true → longest_line < length line → (bad f Long).ending ≡ ending_of end
    → EndsSo bytes f.table end
long_ends bytes line rest f end h plain long is =
    known bytes (bad f Long) f.table end (follows-over bytes (bad f Long) (ap (λ (r : Reading). r.following) h.reads_so ∙ long-line f h.going line rest plain long) refl) is refl

module _ (bytes line behind : List ℕ) (f g : Following) (h : GoesOn bytes f (line ++ 10 ∷ behind)) (plain : is_line line ≡ true) (short : length line ≤ longest_line) where
  after : takes f (line_says line) ≡ g → fold reads opened bytes ≡ fold reads (record { following = g; line = [] }) behind
  after is =
      h.reads_so
      ∙ ap (λ (b : List ℕ). fold reads (record { following = f; line = [] }) b) (sym (append_assoc line (10 ∷ []) behind))
      ∙ line-more f h.going line behind plain short
      ∙ ap (λ (v : Following). fold reads (record { following = v; line = [] }) behind) is

  pub line_taken : takes f (line_says line) ≡ g → g.ending ≡ Going → GoesOn bytes g behind
  line_taken is going = record { reads_so = after is; going = going }

  -- the last one
  pub line_ends : (end : FollowEnd) → takes f (line_says line) ≡ g → g.ending ≡ ending_of end → EndsSo bytes g.table end
  line_ends end is ends =
      let over : has_ended g.ending ≡ true = ap has_ended ends ∙ by end in
      known bytes g g.table end (follows-over bytes g (ap (λ (r : Reading). r.following) (after is ∙ over-stays (record { following = g; line = [] }) behind over)) over) ends refl
    where
      by : (end : FollowEnd) → has_ended (ending_of end) ≡ true
      by lasts.Ended = refl
      by (lasts.Bad n why) = refl

-- the rest, without its line feed
pub long_rest : (bytes rest : List ℕ) (f : Following) (end : FollowEnd) → GoesOn bytes f rest → is_line rest ≡ true → longest_line < length rest → (bad f Long).ending ≡ ending_of end
    → EndsSo bytes f.table end
long_rest bytes rest f end h plain long is = long_ends bytes rest [] f end (subst (λ (b : List ℕ). GoesOn bytes f b) (sym (append-nil rest)) h) plain long is

pub rest_ends : (bytes rest : List ℕ) (f : Following) (end : FollowEnd) → GoesOn bytes f rest → is_line rest ≡ true → length rest ≤ longest_line → (closes_at Going f rest).ending ≡ ending_of end
    → EndsSo bytes f.table end
rest_ends bytes rest f end h plain short is =
    known bytes (closes_at Going f rest) f.table end
    (follows-is bytes ∙ ap closes (h.reads_so ∙ rest-goes f h.going rest plain short) ∙ ap (λ (d : Ending). closes_at d f rest) h.going) is (by (is_end (words rest)))
  where
    by : (b : Bool) → (cond b (record f { lines = f.lines + 1; ending = Ended }) (bad f Unended)).table ≡ f.table
    by true = refl
    by false = refl

-- what is written

text_is : (bytes : List ℕ) (d : Ending) (t : Neighbours) → (follows bytes).ending ≡ d → (follows bytes).table ≡ t → followed_at d t ≡ followed bytes
unfolding followed
text_is bytes d t ends table = λ i. followed_at (sym ends i) (sym table i)

pub tells_table : (bytes : List ℕ) (t : Neighbours) (end : FollowEnd) (x : Told) → EndsSo bytes t end → string_bytes x.text ≡ followed_at (ending_of end) t → x.well ≡ lines_end_well (ending_of end)
    → TellsTable bytes x
tells_table bytes t end x e is well = record { text = is ∙ text_is bytes (ending_of end) t e.ends e.table; well = well ∙ ap lines_end_well (sym e.ends) }
