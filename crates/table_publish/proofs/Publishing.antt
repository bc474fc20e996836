-- What a publication does to what is published.
use Rattle.std.proofs.Common.{◌≡◌, ℕ, ◌+◌, ◌%◌, ◌<◌, ◌≤◌, true, cond, List, [], ◌∷◌, ◌++◌, length, take, get_or, fold, refl, ap, sym, ◌∙◌, subst, arith, append_assoc, length-append}
use Rattle.std.proofs.lemmas.List.{append-nil}
use Rattle.std.proofs.lemmas.List.Sums.{fold-append}
use Rattle.std.proofs.Math.Seq.{take-append_seam, get_or-append_seam}
use Rattle.br_model.specs.declared.change.Change.{Change}
use Rattle.br_model.specs.Table.Limits.{fits, AreWithin}
use Rattle.br_model.specs.Table.Table.{Table, apply, table, start}
use Rattle.table_publish.specs.Object.{Object, with_batch, published, changes_of, AllFull}
use Rattle.table_publish.specs.Content.{taken, after, IsTable}
use Rattle.table_publish.specs.declared.content.Published.{Published}
use Rattle.table_publish.specs.declared.content.Operation.{Operation}
use Rattle.table_publish.proofs.Objects.{changes_of-push, full_push}

pub length-full : (xs : List (List Change)) → AllFull xs → length xs ≤ length (changes_of xs)
length-full [] f = omega arith
length-full (x ∷ xs) f = omega (arith, length-full xs f.1, f.0, length-append x (changes_of xs))

pub small_mod : (n : ℕ) → n ≤ 1048577 → n % 18446744073709551616 ≡ n
small_mod n h = omega arith

-- the first change behind a front fits its table
fits_next : (before : List Change) (c : Change) (later : List Change) → AreWithin (before ++ c ∷ later) → fits (table before) c ≡ true
fits_next before c later w =
    let found : get_or (before ++ c ∷ later) (length before) c ≡ c = get_or-append_seam before c later c in
    let front : take (length before) (before ++ c ∷ later) ≡ before = take-append_seam before (c ∷ later) in
    let less : length before < length (before ++ c ∷ later) = omega (arith, length-append before (c ∷ later)) in
    subst (λ (l : List Change). fits (table l) c ≡ true) front
    (subst (λ (d : Change). fits (table (take (length before) (before ++ c ∷ later))) d ≡ true) found (w.fit (length before) c less))

table_push : (before : List Change) (c : Change) → apply (table before) c ≡ table (before ++ c ∷ [])
table_push before c = sym (fold-append apply start before (c ∷ []))

-- within the limits all changes fit, and none is left out
pub fold_taken : (before items : List Change) → AreWithin (before ++ items) → fold taken (table before) items ≡ table (before ++ items)
fold_taken before [] w = ap table (sym (append-nil before))
fold_taken before (c ∷ later) w =
    let seam : (before ++ c ∷ []) ++ later ≡ before ++ c ∷ later = append_assoc before (c ∷ []) later in
    let one : taken (table before) c ≡ table (before ++ c ∷ []) =
    ap (λ b. cond b (apply (table before) c) (table before)) (fits_next before c later w) ∙ table_push before c in
    ap (λ (t : Table). fold taken t later) one ∙ (fold_taken (before ++ c ∷ []) later (subst AreWithin (sym seam) w) ∙ ap table seam)

-- the tables of a history that is one batch longer
pub table_after : (p : Published) (o : Operation) (log : List (List Change)) → IsTable p → p.seen.log ≡ log → o.seen.log ≡ log ++ o.changes.list ∷ [] → o.batches ≡ length log + 1
    → 0 < length o.changes.list
    → AreWithin (changes_of log ++ o.changes.list) → IsTable (after p o)
table_after p o log t same is number some within =
    let items = o.changes.list in
    let more : changes_of o.seen.log ≡ changes_of log ++ items = ap changes_of is ∙ changes_of-push log items in
    let tables : p.tables ≡ table (changes_of log) = t.tables ∙ ap (λ (l : List (List Change)). table (changes_of l)) same in
    let len : p.len ≡ length (changes_of log) = t.len ∙ ap (λ (l : List (List Change)). length (changes_of l)) same in
    let full : AllFull log = subst AllFull same t.full in
    let len_more : length (changes_of o.seen.log) ≡ length (changes_of log) + length items = ap length more ∙ length-append (changes_of log) items in
    let few = within.few in
    let len_now : (p.len + length items) % 18446744073709551616 ≡ p.len + length items = small_mod (p.len + length items) (omega (arith, length-append (changes_of log) items)) in
    let batches_more : length o.seen.log ≡ length log + 1 = ap length is ∙ length-append log (items ∷ []) in
    record {
      tables = ap (λ (u : Table). fold taken u items) tables ∙ (fold_taken (changes_of log) items within ∙ ap table (sym more));
      len = omega (arith, len_now, len_more);
      batches = omega (arith, number, batches_more);
      full = subst AllFull (sym is) (full_push log items full some);
      within = subst AreWithin (sym more) within;
    }

-- what is pending makes a batch, where it isn't empty
pub published_some : (o : Object) (b : List Change) → 0 < length b → with_batch o b ≡ published o b
published_some o [] h = absurd (omega arith)
published_some o (x ∷ xs) h = refl

-- an operation with no changes changes nothing
pub after_nothing : (p : Published) (o : Operation) → IsTable p → o.seen ≡ p.seen → o.changes.list ≡ [] → o.batches ≡ p.batches → after p o ≡ p
after_nothing p o t seen none same =
    let tables : fold taken p.tables o.changes.list ≡ p.tables = ap (λ (l : List Change). fold taken p.tables l) none in
    let few = t.within.few in
    let zero : length o.changes.list ≡ 0 = ap length none in
    let len : (p.len + length o.changes.list) % 18446744073709551616 ≡ p.len = small_mod (p.len + length o.changes.list) (omega (arith, t.len))
    ∙ (let e : p.len + length o.changes.list ≡ p.len = omega arith in e) in
    λ i. record { tables = tables i; len = len i; batches = same i; seen = seen i }
