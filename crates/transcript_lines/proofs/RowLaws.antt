-- Bytes that come to the arena leave what stands in it.
use Rattle.std.proofs.Common.{arith, ◌≡◌, ℕ, Bool, true, false, if◌then◌else◌, zero, suc, ◌+◌, ◌-◌, ◌<◌, ◌≤◌, min, List, [], ◌∷◌, ◌++◌, map, length, get_or, take, drop, ◌||◌, refl, sym, ap, ap₂, ◌∙◌, subst}
use Rattle.std.specs.List.{filter, list_any}
use Rattle.std.proofs.Math.Seq.{take-length, drop-append_seam}
use Rattle.std.proofs.lemmas.List.{append-nil, drop_all, drop-drop, length-append, length-take-le, take-append-drop, take-append-le, drop-append-le, length-drop}
use Rattle.std.proofs.lemmas.Grind.{flat_map-append}
use Rattle.std.proofs.lemmas.List.Folds.{list_any-append}
use Rattle.lemmas.proofs.Tests.{or-false}
use Rattle.br_model.specs.declared.transcript.Line.{Line}
use Rattle.br_model.specs.declared.transcript.Line.TheVariants as lines
use Rattle.br_model.specs.Plane.LineTraits.{is_done}
use Rattle.transcript_lines.specs.declared.row.Row.{Row}
use Rattle.transcript_lines.specs.declared.row.Row.TheVariants.{One, Sent, Ctl}
use Rattle.transcript_lines.specs.declared.row.Span.{Span}
use Rattle.transcript_lines.specs.Rows.{at, sent_lines, expand_row, expand, moved, moved_row, room, row_is_done, IsInside, AreInside, IsBehind, AreBehind, AreSaved, Fit}

pub at-more : (arena more : List ℕ) (s : Span) → s.from + s.len ≤ length arena → at (arena ++ more) s ≡ at arena s
at-more arena more s inside =
    ap (take s.len) (drop-append-le s.from arena more (omega arith))
    ∙ take-append-le s.len (drop s.from arena) more (omega (arith, length-drop s.from arena))

-- what was put at the end of the arena
pub at-end : (arena more : List ℕ) (s : Span) → s.from ≡ length arena → s.len ≡ length more → at (arena ++ more) s ≡ more
at-end arena more s from len =
    ap₂ (λ n m. take n (drop m (arena ++ more))) len from
    ∙ ap (take (length more)) (drop-append_seam arena more)
    ∙ take-length more

expand_row-more : (arena more : List ℕ) (row : Row) → IsInside (length arena) row → expand_row (arena ++ more) row ≡ expand_row arena row
expand_row-more arena more (One line) inside = refl
expand_row-more arena more (Sent id ports untagged plain tagged) inside =
    ap₂ (sent_lines id ports untagged) (at-more arena more plain inside.0) (at-more arena more tagged inside.1)
expand_row-more arena more (Ctl port bytes) inside = ap (λ b. lines.Ctl port b ∷ []) (at-more arena more bytes inside)

pub expand-more : (arena more : List ℕ) (rows : List Row) → AreInside (length arena) rows → expand (arena ++ more) rows ≡ expand arena rows
expand-more arena more [] inside = refl
expand-more arena more (row ∷ rows) inside = ap₂ (λ a b. a ++ b) (expand_row-more arena more row inside.0) (expand-more arena more rows inside.1)

pub expand-append : (arena : List ℕ) (rows : List Row) (row : Row) → expand arena (rows ++ row ∷ []) ≡ expand arena rows ++ expand_row arena row
expand-append arena rows row = flat_map-append (expand_row arena) rows (row ∷ []) ∙ ap (λ l. expand arena rows ++ l) (append-nil (expand_row arena row))

pub expand-none : (arena : List ℕ) → expand arena [] ≡ []
expand-none arena = refl

pub inside-more : (n m : ℕ) (rows : List Row) → n ≤ m → AreInside n rows → AreInside m rows
inside-more n m [] more inside = inside
inside-more n m (One line ∷ rows) more inside = (tt, inside-more n m rows more inside.1)
inside-more n m (Sent id ports untagged plain tagged ∷ rows) more inside =
    ((omega (arith, inside.0.0, more), omega (arith, inside.0.1, more)), inside-more n m rows more inside.1)
inside-more n m (Ctl port bytes ∷ rows) more inside = (omega (arith, inside.0, more), inside-more n m rows more inside.1)

pub inside-append : (n : ℕ) (rows : List Row) (row : Row) → AreInside n rows → IsInside n row → AreInside n (rows ++ row ∷ [])
inside-append n [] row inside last = (last, tt)
inside-append n (r ∷ rows) row inside last = (inside.0, inside-append n rows row inside.1 last)

-- a row that comes to the rows, with what comes to the arena
pub pushed : (arena more after : List ℕ) (rows now : List Row) (row : Row) (before : List Line) → AreInside (length arena) rows → expand arena rows ≡ before
    → after ≡ arena ++ more → now ≡ rows ++ row ∷ [] → expand after now ≡ before ++ expand_row after row
pushed arena more after rows now row before inside is grown more_rows =
    ap (expand after) more_rows
    ∙ expand-append after rows row
    ∙ ap (λ l. l ++ expand_row after row) (ap (λ b. expand b rows) grown ∙ expand-more arena more rows inside ∙ is)

-- the same of a row whose bytes stand elsewhere
pub pushed_one : (arena : List ℕ) (rows now : List Row) (row : Row) (before : List Line) → expand arena rows ≡ before → now ≡ rows ++ row ∷ []
    → expand arena now ≡ before ++ expand_row arena row
pushed_one arena rows now row before is more_rows = ap (expand arena) more_rows ∙ expand-append arena rows row ∙ ap (λ l. l ++ expand_row arena row) is

pub kept : (n m : ℕ) (rows now : List Row) (row : Row) → AreInside n rows → n ≤ m → IsInside m row → now ≡ rows ++ row ∷ [] → AreInside m now
kept n m rows now row inside more last same = subst (AreInside m) (sym same) (inside-append m rows row (inside-more n m rows more inside) last)

-- two runs of bytes that come to the arena, one behind the other
pub at-first : (arena one two a b : List ℕ) (s : Span) → one ≡ arena ++ a → two ≡ one ++ b → s.from ≡ length arena → s.len ≡ length a → at two s ≡ a
at-first arena one two a b s first second from len =
    ap (λ x. at x s) second
    ∙ at-more one b s (omega (arith, from, len, ap length first ∙ length-append arena a))
    ∙ ap (λ x. at x s) first
    ∙ at-end arena a s from len

pub at-last : (one two b : List ℕ) (s : Span) → two ≡ one ++ b → s.from ≡ length one → s.len ≡ length b → at two s ≡ b
at-last one two b s second from len = ap (λ x. at x s) second ∙ at-end one b s from len

pub fits : (arena after more : List ℕ) (s : Span) → after ≡ arena ++ more → s.from ≡ length arena → s.len ≡ length more → s.from + s.len ≤ length after
fits arena after more s grown from len = omega (arith, from, len, ap length grown ∙ length-append arena more)

pub grows : (arena after more : List ℕ) → after ≡ arena ++ more → length arena ≤ length after
grows arena after more grown = omega (arith, ap length grown ∙ length-append arena more)

inside-take : (n k : ℕ) (rows : List Row) → AreInside n rows → AreInside n (take k rows)
inside-take n zero rows inside = tt
inside-take n (suc k) [] inside = tt
inside-take n (suc k) (row ∷ rows) inside = (inside.0, inside-take n k rows inside.1)

-- what is before the savepoint stays
pub saved_kept : (arena more after : List ℕ) (rows now : List Row) (row : Row) (saved : ℕ) (before : List Line) → AreInside (length arena) rows → saved ≤ length rows
    → expand arena (take saved rows) ≡ before → after ≡ arena ++ more → now ≡ rows ++ row ∷ [] → expand after (take saved now) ≡ before
saved_kept arena more after rows now row saved before inside low is grown more_rows =
    ap₂ (λ a r. expand a (take saved r)) grown more_rows
    ∙ ap (expand (arena ++ more)) (take-append-le saved rows (row ∷ []) low)
    ∙ expand-more arena more (take saved rows) (inside-take (length arena) saved rows inside)
    ∙ is

pub saved_kept_one : (arena : List ℕ) (rows now : List Row) (row : Row) (saved : ℕ) (before : List Line) → saved ≤ length rows
    → expand arena (take saved rows) ≡ before → now ≡ rows ++ row ∷ [] → expand arena (take saved now) ≡ before
saved_kept_one arena rows now row saved before low is more_rows =
    ap (λ r. expand arena (take saved r)) more_rows ∙ ap (expand arena) (take-append-le saved rows (row ∷ []) low) ∙ is

pub saved_low : (saved : ℕ) (rows now : List Row) (row : Row) → saved ≤ length rows → now ≡ rows ++ row ∷ [] → saved ≤ length now
saved_low saved rows now row low more_rows = omega (arith, low, ap length more_rows ∙ length-append rows (row ∷ []))

pub inside_cut : (n saved : ℕ) (rows now : List Row) → AreInside n rows → now ≡ take saved rows → AreInside n now
inside_cut n saved rows now inside is = subst (AreInside n) (sym is) (inside-take n saved rows inside)

-- Rows behind the savepoint.

behind-append : (least : ℕ) (rows : List Row) (row : Row) → AreBehind least rows → IsBehind least row → AreBehind least (rows ++ row ∷ [])
behind-append least [] row behind last = (last, tt)
behind-append least (r ∷ rows) row behind last = (behind.0, behind-append least rows row behind.1 last)

behind-pushed : (least saved : ℕ) (rows : List Row) (row : Row) → saved ≤ length rows → AreBehind least (drop saved rows) → IsBehind least row → AreBehind least (drop saved (rows ++ row ∷ []))
behind-pushed least saved rows row low behind last = subst (AreBehind least) (sym (drop-append-le saved rows (row ∷ []) low)) (behind-append least (drop saved rows) row behind last)

pub behind-at : (least : ℕ) (rows : List Row) (i : ℕ) (d : Row) → AreBehind least rows → i < length rows → IsBehind least (get_or rows i d)
behind-at least [] i d behind low = absurd (omega (arith, low))
behind-at least (row ∷ rows) zero d behind low = behind.0
behind-at least (row ∷ rows) (suc i) d behind low = behind-at least rows i d behind.1 (omega (arith, low))

-- a row that comes to rows with a savepoint, with what comes to the arena
pub saved_more : (arena more after : List ℕ) (rows now : List Row) (row : Row) (saved bytes : ℕ) → AreSaved arena rows saved bytes → after ≡ arena ++ more → now ≡ rows ++ row ∷ []
    → IsInside (length after) row → IsBehind bytes row → AreSaved after now saved bytes
saved_more arena more after rows now row saved bytes m grown more_rows inside behind = record {
  inside = kept (length arena) (length after) rows now row m.inside (grows arena after more grown) inside more_rows;
  behind = subst (λ (r : List Row). AreBehind bytes (drop saved r)) (sym more_rows) (behind-pushed bytes saved rows row m.rows_before m.behind behind);
  rows_before = saved_low saved rows now row m.rows_before more_rows;
  bytes_before = omega (arith, m.bytes_before, grows arena after more grown);
}

-- none is behind a savepoint at the end
pub saved_all : (arena : List ℕ) (rows : List Row) (saved bytes : ℕ) → AreInside (length arena) rows → saved ≡ length rows → bytes ≡ length arena → AreSaved arena rows saved bytes
saved_all arena rows saved bytes inside last end = record {
  inside = inside;
  behind = subst (AreBehind bytes) (sym (drop_all saved rows (omega (arith, last)))) tt;
  rows_before = omega (arith, last);
  bytes_before = omega (arith, end);
}

-- nor behind a cut
pub saved_cut : (arena : List ℕ) (rows now : List Row) (saved bytes : ℕ) → AreSaved arena rows saved bytes → now ≡ take saved rows → AreSaved arena now saved bytes
saved_cut arena rows now saved bytes m is =
    let few : length now ≡ saved = ap length is ∙ length-take-le saved rows m.rows_before in
    record {
      inside = inside_cut (length arena) saved rows now m.inside is;
      behind = subst (AreBehind bytes) (sym (drop_all saved now (omega (arith, few)))) tt;
      rows_before = omega (arith, few);
      bytes_before = m.bytes_before;
    }

-- A copy of the rows behind the savepoint.

at-moved : (front : ℕ) (arena : List ℕ) (s : Span) → front ≤ s.from → at (drop front arena) (moved front s) ≡ at arena s
at-moved front arena s low =
    let e : front + (s.from - front) ≡ s.from = omega (arith, low) in
    ap (take s.len) (drop-drop (s.from - front) front arena ∙ ap (λ m. drop m arena) e)

expand_row-moved : (front : ℕ) (arena : List ℕ) (row : Row) → IsBehind front row → expand_row (drop front arena) (moved_row front row) ≡ expand_row arena row
expand_row-moved front arena (One line) behind = refl
expand_row-moved front arena (Sent id ports untagged plain tagged) behind =
    ap₂ (sent_lines id ports untagged) (at-moved front arena plain behind.0) (at-moved front arena tagged behind.1)
expand_row-moved front arena (Ctl port bytes) behind = ap (λ b. lines.Ctl port b ∷ []) (at-moved front arena bytes behind)

expand-moved : (front : ℕ) (arena : List ℕ) (rows : List Row) → AreBehind front rows → expand (drop front arena) (map (moved_row front) rows) ≡ expand arena rows
expand-moved front arena [] behind = refl
expand-moved front arena (row ∷ rows) behind = ap₂ (λ a b. a ++ b) (expand_row-moved front arena row behind.0) (expand-moved front arena rows behind.1)

expand-split : (arena : List ℕ) (rows : List Row) (saved : ℕ) → expand arena rows ≡ expand arena (take saved rows) ++ expand arena (drop saved rows)
expand-split arena rows saved = ap (expand arena) (sym (take-append-drop saved rows)) ∙ flat_map-append (expand_row arena) (take saved rows) (drop saved rows)

-- the lines of the copy stand behind those before the savepoint
pub copied : (front saved : ℕ) (arena bytes : List ℕ) (rows now : List Row) → AreBehind front (drop saved rows) → bytes ≡ drop front arena → now ≡ map (moved_row front) (drop saved rows)
    → expand arena rows ≡ expand arena (take saved rows) ++ expand bytes now
copied front saved arena bytes rows now behind bytes_are are =
    expand-split arena rows saved
    ∙ ap (λ l. expand arena (take saved rows) ++ l) (sym (ap₂ expand bytes_are are ∙ expand-moved front arena (drop saved rows) behind))

inside_row-moved : (front most : ℕ) (row : Row) → IsInside most row → IsBehind front row → IsInside (most - front) (moved_row front row)
inside_row-moved front most (One line) inside behind = tt
inside_row-moved front most (Sent id ports untagged plain tagged) inside behind = (omega (arith, inside.0, behind.0), omega (arith, inside.1, behind.1))
inside_row-moved front most (Ctl port bytes) inside behind = omega (arith, inside, behind)

inside-moved : (front most : ℕ) (rows : List Row) → AreInside most rows → AreBehind front rows → AreInside (most - front) (map (moved_row front) rows)
inside-moved front most [] inside behind = tt
inside-moved front most (row ∷ rows) inside behind = (inside_row-moved front most row inside.0 behind.0, inside-moved front most rows inside.1 behind.1)

inside-drop : (n k : ℕ) (rows : List Row) → AreInside n rows → AreInside n (drop k rows)
inside-drop n zero rows inside = inside
inside-drop n (suc k) [] inside = tt
inside-drop n (suc k) (row ∷ rows) inside = inside-drop n k rows inside.1

-- and stand within their own arena
pub copied_inside : (front saved : ℕ) (arena bytes : List ℕ) (rows now : List Row) → AreSaved arena rows saved front → bytes ≡ drop front arena → now ≡ map (moved_row front) (drop saved rows)
    → AreInside (length bytes) now
copied_inside front saved arena bytes rows now m bytes_are are =
    subst (AreInside (length bytes)) (sym are)
    (subst (λ n. AreInside n (map (moved_row front) (drop saved rows))) (sym (ap length bytes_are ∙ length-drop front arena))
    (inside-moved front (length arena) (drop saved rows) (inside-drop (length arena) saved rows m.inside) m.behind))

-- Room.

-- so many more in it
pub fit_more : (len capacity saved copied more len2 capacity2 there : ℕ) → Fit len capacity saved copied → room len capacity saved copied ≡ there → more ≤ there → len2 ≡ len + more
    → capacity ≤ capacity2
    → Fit len2 capacity2 saved copied
fit_more len capacity saved copied more len2 capacity2 there fit is low len_is grows =
    let e : min (capacity - len) (saved + copied - len) ≡ there = is in
    record { all = omega (arith, fit.all, e, low, len_is, grows); copy = omega (arith, fit.copy, e, low, len_is) }

-- ---- where no line has the tagged form

none_by : {A B : Type 0} (q : A → Bool) (x : A) (xs : List A) (f g : A → B) (b : Bool) → q x ≡ b → ((m : A) → q m ≡ false → f m ≡ g m) → (filter q xs ≡ [] → map f xs ≡ map g xs)
    → filter q (x ∷ xs) ≡ []
    → map f (x ∷ xs) ≡ map g (x ∷ xs)
none_by q x xs f g true is same rest none = (let some : filter q (x ∷ xs) ≡ x ∷ filter q xs = ap (λ b. if b then x ∷ filter q xs else filter q xs) is in absurd (cc))
none_by q x xs f g false is same rest none = ap₂ (λ y ys. y ∷ ys) (same x is) (rest (sym (ap (λ b. if b then x ∷ filter q xs else filter q xs) is) ∙ none))

-- of a list of which none passes
pub none_left : {A B : Type 0} (q : A → Bool) (xs : List A) (f g : A → B) → ((m : A) → q m ≡ false → f m ≡ g m) → filter q xs ≡ [] → map f xs ≡ map g xs
none_left q [] f g same none = refl
none_left q (x ∷ xs) f g same none = none_by q x xs f g (q x) refl same (none_left q xs f g same) none

-- Answers.

module _ (id : ℕ) (untagged plain tagged : List ℕ) where
  none_done : (ports : List ℕ) → list_any is_done (sent_lines id ports untagged plain tagged) ≡ false
  none_done [] = refl
  none_done (port ∷ ports) = none_done ports

row_done : (arena : List ℕ) (row : Row) → row_is_done row ≡ list_any is_done (expand_row arena row)
row_done arena (One line) = sym (or-false (is_done line))
row_done arena (Sent id ports untagged plain tagged) = sym (none_done id untagged (at arena plain) (at arena tagged) ports)
row_done arena (Ctl port bytes) = refl

pub rows_done : (arena : List ℕ) (rows : List Row) → list_any row_is_done rows ≡ list_any is_done (expand arena rows)
rows_done arena [] = refl
rows_done arena (row ∷ rows) =
    ap (λ b. b || list_any row_is_done rows) (row_done arena row)
    ∙ ap (λ b. list_any is_done (expand_row arena row) || b) (rows_done arena rows)
    ∙ sym (list_any-append is_done (expand_row arena row) (expand arena rows))
