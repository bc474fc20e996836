-- Lines of messages are read, and the reading goes on, stops or ends.
use Rattle.std.proofs.Common.{◌≡◌, ℕ, ◌+◌, ◌<◌, ◌≤◌, Bool, true, false, true≢false, cond, List, [], ◌∷◌, ◌++◌, length, take, drop}
use Rattle.std.proofs.Common.{Option, None, Some, Result, Ok, Err, String, refl, sym, ◌∙◌, ap, subst, arith, append_assoc, append-nil, length-append}
use Rattle.std.specs.declared.alloc.Global.{Global}
use Rattle.std.specs.Io.KnownBytes.{Consumes}
use Rattle.std.specs.List.{fold}
use Rattle.std.proofs.KnownBytes.{Consumes-nil, Consumes-trans}
use Rattle.std.proofs.lemmas.List.{length-take-le, take-append-drop}
use Rattle.std.proofs.lemmas.List.Sums.{fold-append}
use Rattle.run_io.specs.Reading.{Reading, Reads, HasNoFeed, IsEnd, WantsLine, HoldsLongLine, HoldsAllOfLimit, max_line}
use Rattle.br_model.specs.Table.Limits.{most_bytes}
use Rattle.br_model.specs.Text.Scenario.{is_end, longest_line}
use Rattle.br_model.proofs.Program.AllLeft.{below_limit, not_too_long, same_at_end, same_with_more}
use Rattle.br_model.proofs.Program.Completing.{AreApart}
use Rattle.neigh_netlink.specs.declared.follow.LineFault.TheVariants.{Long, Unended}
use Rattle.neigh_netlink.specs.declared.follower.FollowEnd.{FollowEnd}
use Rattle.neigh_netlink.specs.declared.follower.FollowEnd.TheVariants as lasts
use Rattle.neigh_netlink.specs.Follow.{Ending, Following, Going, Ended, Bad, Reading as LinesRead, bad, closes, closes_at, followed, followed_at, follows, line_says, opened, reads, takes, words}
use Rattle.neigh_netlink.specs.MessageLines.{ended_by, ending_of, message_lines}
use Rattle.neigh_netlink.specs.Neighbours.{Neighbours}
use Rattle.neigh_netlink.proofs.Lines.{follows-is, follows-over, has_ended, line-more, long-line, over-stays, rest-goes}
use Rattle.run_status.specs.declared.stop.Stop.{Stop}
use Rattle.run_status.specs.declared.stop.Stop.TheVariants as stops
use Rattle.capture_runner.specs.Following.{Advanced, Answered, Below, Closed, Ends, Filled, Follows, HasRead, Lessens, Stopped, Yields}

ends_so : (end : FollowEnd) → has_ended (ending_of end) ≡ true
ends_so lasts.Ended = refl
ends_so (lasts.Bad n why) = refl

-- the table stays where the input ends
closes_table : (f : Following) (rest : List ℕ) → (closes_at Going f rest).table ≡ f.table
closes_table f rest = by (is_end (words rest))
  where
    by : (b : Bool) → (cond b (record f { lines = f.lines + 1; ending = Ended }) (bad f Unended)).table ≡ f.table
    by true = refl
    by false = refl

-- A line was read, or none.

module _ (left now now' : Option (List ℕ)) (limit : ℕ) (r r' : Reading) (f : Following) (p : Follows left limit r now f) where
  abbrev at : List ℕ → LinesRead
  at line = record { following = f; line = line }

  module _ (handed : List ℕ) (m : Reads r r' now now' handed) (within : r'.taken ≤ r'.limit) where
    abbrev input : List ℕ
    input = p.input ++ m.given

    given : Consumes left now' input
    given = Consumes-trans left now now' p.input m.given p.given m.consumed

    parts : input ≡ p.lines ++ (handed ++ r'.held)
    parts = ap (λ (b : List ℕ). b ++ m.given) p.parts ∙ append_assoc p.lines r.held m.given ∙ ap (λ (b : List ℕ). p.lines ++ b) m.moved

    counts : r'.taken ≡ length input
    counts = omega (arith, p.counts, m.counted, length-append p.input m.given)

    fits : r'.taken ≤ limit
    fits = omega (arith, within, m.limit, p.limited)

    limited : r'.limit ≡ limit
    limited = m.limit ∙ p.limited

    -- what is read of the input, and of more behind it
    beyond : (more : List ℕ) → fold reads opened (input ++ more) ≡ fold reads (at []) ((handed ++ r'.held) ++ more)
    beyond more =
        ap (λ (b : List ℕ). fold reads opened (b ++ more)) parts
        ∙ ap (fold reads opened) (append_assoc p.lines (handed ++ r'.held) more)
        ∙ fold-append reads opened p.lines ((handed ++ r'.held) ++ more)
        ∙ ap (λ (q : LinesRead). fold reads q ((handed ++ r'.held) ++ more)) p.follows

    here : fold reads opened input ≡ fold reads (at []) (handed ++ r'.held)
    here = ap (fold reads opened) (sym (append-nil input)) ∙ beyond [] ∙ ap (fold reads (at [])) (append-nil (handed ++ r'.held))

    -- the lines have ended in what was read
    over : (g : Following) (end : FollowEnd) → ((more : List ℕ) → (fold reads (at []) ((handed ++ r'.held) ++ more)).following ≡ g) → g.ending ≡ ending_of end → Closed left limit now' g.table end
    over g end h finished =
        let k : (more : List ℕ) → (fold reads opened (input ++ more)).following ≡ g = λ more. ap (λ (q : LinesRead). q.following) (beyond more) ∙ h more in
        let done : has_ended g.ending ≡ true = ap has_ended finished ∙ ends_so end in
        let all : (more : List ℕ) → follows (input ++ more) ≡ g = λ more. follows-over (input ++ more) g (k more) done in
        let e : follows input ≡ g = ap follows (sym (append-nil input)) ∙ all [] in record {
          input = input;
          read = given;
          ends = ap (λ (u : Following). u.ending) e ∙ finished;
          table = ap (λ (u : Following). u.table) e;
          whole = same_with_more follows left now' input given (λ more. all more ∙ sym e);
          within = not_too_long message_lines limit left now' input given (omega (arith, counts, fits))
              (λ more going. true≢false (sym done ∙ ap (λ (f : Following). has_ended f.ending) (sym (k more)) ∙ ap has_ended going));
        }

    -- or may go on
    halts : fold reads (at []) (handed ++ r'.held) ≡ at r'.held → (w : Stopped left now') × (w.input ≡ input)
    halts is = (record { input = input; read = given; going = ap (λ (q : LinesRead). q.following.ending) (here ∙ is) ∙ p.going }, refl)

  -- a whole line, whatever comes of it
  module _ (line : List ℕ) (m : Reads r r' now now' (line ++ 10 ∷ [])) (within : r'.taken ≤ r'.limit) (sound : r'.fault ≡ None) (feedless : HasNoFeed line) (short : length line ≤ max_line) where
    reads_line : (more : List ℕ) → fold reads (at []) (((line ++ 10 ∷ []) ++ r'.held) ++ more) ≡ fold reads (record { following = takes f (line_says line); line = [] }) (r'.held ++ more)
    reads_line more =
        ap (fold reads (at [])) (append_assoc (line ++ 10 ∷ []) r'.held more) ∙ line-more f p.going line (r'.held ++ more) feedless short

    pub taken : (g : Following) (o : Option FollowEnd) → takes f (line_says line) ≡ ended_by g o → g.ending ≡ Going → g.lines ≤ f.lines + 1 → Advanced left limit r' now' g (Ok o)
    taken g None is going number = record {
      lines = p.lines ++ (line ++ 10 ∷ []);
      input = input (line ++ 10 ∷ []) m within;
      given = given (line ++ 10 ∷ []) m within;
      parts = parts (line ++ 10 ∷ []) m within ∙ sym (append_assoc p.lines (line ++ 10 ∷ []) r'.held);
      follows =
          fold-append reads opened p.lines (line ++ 10 ∷ [])
          ∙ ap (λ (q : LinesRead). fold reads q (line ++ 10 ∷ [])) p.follows
          ∙ ap (fold reads (at [])) (sym (append-nil (line ++ 10 ∷ [])))
          ∙ line-more f p.going line [] feedless short
          ∙ ap (λ (u : Following). record { following = u; line = [] }) is;
      going = going;
      numbers = omega (arith, number, p.numbers, length-append p.lines (line ++ 10 ∷ []), length-append line (10 ∷ []));
      counts = counts (line ++ 10 ∷ []) m within;
      within = fits (line ++ 10 ∷ []) m within;
      limited = limited (line ++ 10 ∷ []) m within;
      sound = sound;
    }
    taken g (Some end) is going number =
        let u : Following = record g { ending = ending_of end } in
        over (line ++ 10 ∷ []) m within u end
        (λ more.
        ap (λ (q : LinesRead). q.following) (reads_line more)
        ∙ ap (λ (v : Following). (fold reads (record { following = v; line = [] }) (r'.held ++ more)).following) is
        ∙ ap (λ (q : LinesRead). q.following) (over-stays (record { following = u; line = [] }) (r'.held ++ more) (ends_so end)))
        refl

  -- a line that is too long
  pub long : (end : FollowEnd) → Reads r r' now now' [] → r'.taken ≤ r'.limit → HoldsLongLine r' → (bad f Long).ending ≡ ending_of end → Closed left limit now' f.table end
  long end m within h finished =
      let front : List ℕ = take (max_line + 1) r'.held in
      let rest : List ℕ = drop (max_line + 1) r'.held in
      let size : longest_line < length front = omega (arith, length-take-le (max_line + 1) r'.held (omega (arith, h.long))) in
      over [] m within (bad f Long) end
      (λ more.
      ap (λ (b : List ℕ). (fold reads (at []) (b ++ more)).following) (sym (take-append-drop (max_line + 1) r'.held))
      ∙ ap (λ (b : List ℕ). (fold reads (at []) b).following) (append_assoc front rest more)
      ∙ long-line f p.going front (rest ++ more) h.feedless size)
      finished

  -- the end of the input, in a line or before one
  pub closed : (rest : List ℕ) (end : FollowEnd) → Reads r r' now now' rest → r'.taken ≤ r'.limit → IsEnd r' now' → HasNoFeed rest → length rest ≤ max_line
      → (closes_at Going f rest).ending ≡ ending_of end → Closed left limit now' f.table end
  closed rest end m within z feedless short finished =
      let q = here rest m within ∙ ap (λ (b : List ℕ). fold reads (at []) (rest ++ b)) z.none_held ∙ ap (fold reads (at [])) (append-nil rest) ∙ rest-goes f p.going rest feedless short in
      let e : follows (input rest m within) ≡ closes_at Going f rest =
      follows-is (input rest m within) ∙ ap closes q ∙ ap (λ (d : Ending). closes_at d f rest) p.going in record {
        input = input rest m within;
        read = given rest m within;
        ends = ap (λ (u : Following). u.ending) e ∙ finished;
        table = ap (λ (u : Following). u.table) e ∙ closes_table f rest;
        whole = same_at_end follows left now' (input rest m within) (given rest m within) z.none_left;
        within = below_limit message_lines limit left now' (input rest m within) (given rest m within) z.none_left (omega (arith, counts rest m within, z.before_limit, limited rest m within));
      }

  -- the reading stops

  pub stopped : Reads r r' now now' [] → r'.taken ≤ r'.limit → WantsLine r' → Below left limit now'
  stopped m within h =
      let w = halts [] m within (rest-goes f p.going r'.held h.feedless h.short) in
      record { stops = w.0; below = omega (arith, ap length w.1, counts [] m within, h.before_limit, limited [] m within) }

  pub filled : Reads r r' now now' [] → r'.taken ≤ r'.limit → HoldsAllOfLimit r' → Filled left limit now'
  filled m within h =
      let w = halts [] m within (rest-goes f p.going r'.held h.feedless h.short) in
      record { stops = w.0; full = ap length w.1 ∙ omega (arith, counts [] m within, h.at_limit, limited [] m within) }

  pub lacking : Reads r r' now now' [] → r'.taken ≤ r'.limit → HasRead left now'
  lacking m within = (input [] m within, given [] m within)

-- a line takes bytes away
pub lessens : (before now : ℕ) → now < before → (o : Option FollowEnd) → Lessens before now o
lessens before now h None = h
lessens before now h (Some end) = tt

-- The reading at its start.

pub started : (left : Option (List ℕ)) (r : Reading) (f : Following) → r.held ≡ [] → r.taken ≡ 0 → r.limit ≡ most_bytes → r.fault ≡ None → f ≡ opened.following
    → Follows left most_bytes r left f
started left r f held none top sound is = record {
  lines = [];
  input = r.held;
  given = subst (λ (b : List ℕ). Consumes left left b) (sym held) (Consumes-nil left);
  parts = refl;
  follows = ap (λ (u : Following). record { following = u; line = [] }) (sym is);
  going = ap (λ (u : Following). u.ending) is;
  numbers = omega (arith, ap (λ (u : Following). u.lines) is);
  counts = omega (arith, none, ap length held);
  within = omega (arith, none);
  limited = top;
  sound = sound;
}

-- a line takes a byte at least
pub few_lines : (left now : Option (List ℕ)) (r : Reading) (f : Following) → Follows left most_bytes r now f → f.lines ≤ most_bytes
few_lines left now r f p = omega (arith, p.numbers, ap length p.parts, length-append p.lines r.held, p.counts, p.within)

-- how it stops
pub stops_by : (left now : Option (List ℕ)) (r : Reading) (f : Following) (t : Neighbours) (stop : Stop) (result : Result FollowEnd Stop) → result ≡ Err stop
    → Advanced left most_bytes r now f (Err stop) → Ends left now t result
stops_by left now r f t stops.ReadFault result is a = subst (Ends left now t) (sym is) a
stops_by left now r f t stops.TooLong result is a = subst (Ends left now t) (sym is) a
stops_by left now r f t stops.NoMemory result is a = subst (Ends left now t) (sym is) a

-- What is written.

text_is : (input : List ℕ) (d : Ending) (t : Neighbours) → (follows input).ending ≡ d → (follows input).table ≡ t → followed_at d t ≡ followed input
unfolding followed
text_is input d t ends table = λ i. followed_at (sym ends i) (sym table i)

pub answered : (left now : Option (List ℕ)) (t : Neighbours) (end : FollowEnd) (text : List ℕ) → Closed left most_bytes now t end → text ≡ followed_at (ending_of end) t → Answered left now text end
answered left now t end text c is = record {
  input = c.input;
  read = c.read;
  ends = c.ends;
  answers = is ∙ text_is c.input (ending_of end) t c.ends c.table;
  whole = c.whole;
  within = c.within;
}

pub yields_stop : (left now : Option (List ℕ)) (t : Neighbours) (stop : Stop) (result : Result (FollowEnd × String Global) Stop) → result ≡ Err stop → Ends left now t (Err stop)
    → Yields left now result
yields_stop left now t stops.ReadFault result is e = subst (Yields left now) (sym is) e
yields_stop left now t stops.TooLong result is e = subst (Yields left now) (sym is) e
yields_stop left now t stops.NoMemory result is e = subst (Yields left now) (sym is) e

-- there is no memory for the text
pub lacks_text : (left now : Option (List ℕ)) (t : Neighbours) (end : FollowEnd) (result : Result (FollowEnd × String Global) Stop) → Closed left most_bytes now t end
    → result ≡ Err stops.NoMemory → Yields left now result
lacks_text left now t end result c is = subst (Yields left now) (sym is) (c.input, c.read)

-- nor before the first line
pub lacks_table : (left : Option (List ℕ)) (result : Result (FollowEnd × String Global) Stop) → result ≡ Err stops.NoMemory → Yields left left result
lacks_table left result is = subst (Yields left left) (sym is) ([], Consumes-nil left)

-- Completeness: to end well is neither to have a bad line nor to go on.

abbrev is_ended : Ending → Bool
is_ended Going = false
is_ended Ended = true
is_ended (Bad n why) = false

pub messages_apart : AreApart message_lines
messages_apart = record { bad = λ n why e. true≢false (ap is_ended e); going = λ e. true≢false (ap is_ended e) }
