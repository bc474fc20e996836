-- Calls of a reader, one after another.
use Rattle.std.proofs.Common.{◌≡◌, ℕ, ◌+◌, ◌<◌, ◌≤◌, List, [], ◌++◌, take, drop, length, slice_range, arith, refl, sym, ap, ◌∙◌, Option, Some, append_assoc, length-append, length-drop, length-take-le}
use Rattle.std.proofs.Common.{take-add, subst, None, true, false, true≢false, eq-or-lt_of_le, inl, inr, le-ltb, ne_eqb, ◌≢◌, MatchOption, append-nil, ◌-◌}
use Rattle.std.specs.Io.KnownBytes.{Consumes, Keeps, IsAtEnd}
use Rattle.std.proofs.KnownBytes.{Consumes-nil, Consumes-kept, Consumes-trans, Keeps-refl}
use Rattle.std.proofs.lemmas.List.{nil_from_length}
use Rattle.run_io.specs.declared.lines.Span.{Span}
use Rattle.run_io.specs.Finding.{IsFirstFeed, WantsMore, EndsThere, LineStands, FindsLine}
use Rattle.run_io.specs.Reading.{Reading, Reads, HasNoFeed, IsEnd, HoldsLongLine, holds_next, max_line}
use Rattle.run_io.proofs.Feeds.{feedless_prefix, feedless_shorter}
use Rattle.run_io.proofs.Pieces.{range_grown}

pub reads_then : (a b c : Reading) (one two three : Option (List ℕ)) (handed : List ℕ) → Reads a b one two [] → Reads b c two three handed → Reads a c one three handed
reads_then a b c one two three handed h k = record {
  given = h.given ++ k.given;
  consumed = Consumes-trans one two three h.given k.given h.consumed k.consumed;
  moved = sym (append_assoc a.held h.given k.given) ∙ ap (λ xs. xs ++ k.given) h.moved ∙ k.moved;
  counted = omega (arith, h.counted, k.counted, length-append h.given k.given);
  limit = k.limit ∙ h.limit;
}

-- ---- nothing was read

pub reads_kept : (r : Reading) (before now : Option (List ℕ)) → Keeps before now → Reads r r before now []
reads_kept r before now kept = record {
  given = [];
  consumed = Consumes-kept before before now [] (Consumes-nil before) kept;
  moved = append-nil r.held;
  counted = omega arith;
  limit = refl;
}

pub reads_none : (r : Reading) (left : Option (List ℕ)) → Reads r r left left []
reads_none r left = reads_kept r left left (Keeps-refl left)

-- what is held stands at the front of the room now
pub same_at_front : (r : Reading) (xs : List ℕ) (used : ℕ) → r.held ≡ take used xs → record r { held = slice_range xs 0 used } ≡ r
same_at_front r xs used held =
    let whole : used - 0 ≡ used = omega arith in
    ap (λ (l : List ℕ). record r { held = l }) (ap (λ k. take k xs) whole ∙ sym held)

-- ---- more was read behind what is held

pub reads_more : (r : Reading) (xs : List ℕ) (used n : ℕ) (before now : Option (List ℕ)) → r.held ≡ take used xs → used + n ≤ length xs → Consumes before now (take n (drop used xs))
    → Reads r (record r { held = slice_range xs 0 (used + n); taken = r.taken + n }) before now []
reads_more r xs used n before now held within consumed =
    let behind : n ≤ length (drop used xs) = omega (arith, length-drop used xs) in record {
      given = take n (drop used xs);
      consumed = consumed;
      moved = ap (λ l. l ++ take n (drop used xs)) held ∙ range_grown xs used n;
      counted = omega (arith, length-take-le n (drop used xs) behind);
      limit = refl;
    }

-- behind the first bytes of a room, which stay as they are while it grows
pub takes_on : (first mid last : Option (List ℕ)) (old grown new : List ℕ) (used n : ℕ) → Consumes first mid (take used old) → take used grown ≡ take used old → take used new ≡ take used grown
    → Consumes mid last (take n (drop used new)) → Consumes first last (take (used + n) new)
takes_on first mid last old grown new used n before kept stays given =
    subst (Consumes first last) (sym (take-add used n new ∙ ap (λ xs. xs ++ take n (drop used new)) (stays ∙ kept)))
    (Consumes-trans first mid last (take used old) (take n (drop used new)) before given)

-- ---- a line that is too long

pub long_line : (r : Reading) (n : ℕ) → IsFirstFeed r.held (Some n) → max_line < n → HoldsLongLine r
long_line r n h long = record {
  long = omega (arith, h.0);
  feedless = feedless_shorter (max_line + 1) n r.held (omega arith) (omega (arith, h.0)) h.2;
}

pub long_rest : (r : Reading) → HasNoFeed r.held → max_line < length r.held → HoldsLongLine r
long_rest r h long = record { long = long; feedless = feedless_prefix (max_line + 1) r.held h }

-- ---- what is held at the end

pub end_of_rest : (old new : Reading) (now : Option (List ℕ)) (len : ℕ) → IsAtEnd now × (new ≡ old) → old.taken < old.limit → len ≡ length new.held → len ≡ 0 → IsEnd new now
end_of_rest old new now len ended below is none = record {
  none_held = nil_from_length new.held (sym is ∙ none);
  none_left = ended.0;
  before_limit = subst (λ (r : Reading). r.taken < r.limit) (sym ended.1) below;
}

pub ends_there : (old new : Reading) (now : Option (List ℕ)) (span : Span) → IsAtEnd now × (new ≡ old) → old.taken < old.limit → span.past ≡ length new.held → EndsThere new now span
ends_there old new now span ended below past = record { past = past; none_left = ended.0; before_limit = subst (λ (r : Reading). r.taken < r.limit) (sym ended.1) below }

-- all that is held is the last line
pub last_line : (old new : Reading) (now : Option (List ℕ)) (span : Span) → WantsMore old → IsAtEnd now × (new ≡ old) → old.taken < old.limit → span.len ≡ length new.held → span.past ≡ length new.held
    → span.whole ≡ false → 0 < span.len → FindsLine new now span
last_line old new now span before ended below len past whole some =
    let wants : WantsMore new = subst WantsMore (sym ended.1) before in record {
      stands = record {
        is_whole = refl;
        prefix = rw (past, len, whole) (sym (append-nil (take (length new.held) new.held)));
        within = omega (arith, past);
        before = omega (arith, past, len);
        feedless = feedless_prefix span.len new.held wants.feedless;
        short = omega (arith, len, wants.short);
      };
      last = λ _. (some, ends_there old new now span ended below past);
    }

-- ---- a reader that wants more hasn't the next answer

pub wants_not_held : (r : Reading) → r.fault ≡ None → WantsMore r → r.taken < r.limit → holds_next r ≡ false
wants_not_held r fault wants below =
    let other : r.taken ≢ r.limit = omega arith in
    rw (fault, wants.feedless, le-ltb max_line (length r.held) wants.short, ne_eqb r.taken r.limit other) refl

pub wants_unheld : (old mid : Reading) (P : Type 0) → (holds_next old ≡ true → (mid ≡ old) × P) → mid.fault ≡ None → WantsMore mid → mid.taken < mid.limit → holds_next old ≡ true → ⊥
wants_unheld old mid P same fault wants below holds =
    true≢false (sym (ap holds_next (same holds).0 ∙ holds) ∙ wants_not_held mid fault wants below)

pub wants_unread : {S : Type 0} (old mid : Reading) (first before now : S) → (holds_next old ≡ true → (mid ≡ old) × (before ≡ first)) → mid.fault ≡ None → WantsMore mid
    → mid.taken ≤ mid.limit → (mid.taken ≡ mid.limit → now ≡ before) → holds_next old ≡ true → now ≡ first
wants_unread old mid first before now same fault wants within full holds =
    elim (eq-or-lt_of_le within) [ inl at ↦ full at ∙ (same holds).1 | inr below ↦ absurd (wants_unheld old mid (before ≡ first) same fault wants below holds) ]

pub handed_view : (old view : Reading) (later : List ℕ) (past : ℕ) → view ≡ old → drop past view.held ≡ later → record view { held = later } ≡ record old { held = drop past old.held }
handed_view old view later past is e = ap (λ l. record view { held = l }) (sym e) ∙ ap (λ (r : Reading). record r { held = drop past r.held }) is

pub none_of : {T : Type 0} (o : Option T) (P : Type 0) (Q : T → Type 0) → MatchOption o P Q → ((x : T) → o ≡ Some x → ⊥) → P
none_of None P Q h is_none = h
none_of (Some x) P Q h is_none = absurd (is_none x refl)
