-- Beginnings of lists of batches, and of their objects.
use Rattle.std.proofs.Common.{◌≡◌, ℕ, ◌+◌, ◌<◌, ◌≤◌, List, [], ◌∷◌, ◌++◌, length, refl, ap, sym, ◌∙◌, subst, arith, append_assoc, length-append}
use Rattle.std.proofs.lemmas.List.{append-nil}
use mathlib.Core.List.{IsPrefix}
use Rattle.br_model.specs.declared.change.Change.{Change}
use Rattle.table_publish.specs.Object.{Object, Begins, changes_of, counts_from, object_of, AllFull, Ascends, AscendsFrom, IsPublished, with_batch}

pub prefix_self : {A : Type 0} (xs : List A) → IsPrefix xs xs
prefix_self xs = ([], append-nil xs)

pub prefix_trans : {A : Type 0} (xs ys zs : List A) → IsPrefix xs ys → IsPrefix ys zs → IsPrefix xs zs
prefix_trans xs ys zs p q = (p.0 ++ q.0, sym (append_assoc xs p.0 q.0) ∙ (ap (λ w. w ++ q.0) p.1 ∙ q.1))

-- of two beginnings of one list the shorter begins the longer
pub prefix_shorter : {A : Type 0} (xs ys zs : List A) → IsPrefix xs zs → IsPrefix ys zs → length xs ≤ length ys → IsPrefix xs ys
prefix_shorter [] ys zs p q le = (ys, refl)
prefix_shorter (x ∷ xs) [] zs p q le = absurd (omega arith)
prefix_shorter (x ∷ xs) (y ∷ ys) [] p q le = absurd (cc (p.1))
prefix_shorter (x ∷ xs) (y ∷ ys) (z ∷ zs) p q le =
    let heads : x ≡ y = cc (p.1, q.1) in
    let rest = prefix_shorter xs ys zs (p.0, cc (p.1)) (q.0, cc (q.1)) (omega arith) in
    (rest.0, cc (heads, rest.1))

-- a beginning as long as the whole is the whole
pub prefix_whole : {A : Type 0} (xs ys : List A) → IsPrefix xs ys → length ys ≤ length xs → xs ≡ ys
prefix_whole [] [] p le = refl
prefix_whole [] (y ∷ ys) p le = absurd (omega arith)
prefix_whole (x ∷ xs) [] p le = absurd (cc (p.1))
prefix_whole (x ∷ xs) (y ∷ ys) p le =
    let rest = prefix_whole xs ys (p.0, cc (p.1)) (omega arith) in cc (p.1, rest)

pub begins_self : (o : Object) → Begins o o
begins_self o = record { changes = prefix_self o.changes; counts = prefix_self o.counts }

pub begins_trans : (a b c : Object) → Begins a b → Begins b c → Begins a c
begins_trans a b c p q = record { changes = prefix_trans c.changes b.changes a.changes q.changes p.changes; counts = prefix_trans c.counts b.counts a.counts q.counts p.counts }

pub changes_of-append : (xs ys : List (List Change)) → changes_of (xs ++ ys) ≡ changes_of xs ++ changes_of ys
changes_of-append [] ys = refl
changes_of-append (x ∷ xs) ys = ap (λ l. x ++ l) (changes_of-append xs ys) ∙ sym (append_assoc x (changes_of xs) (changes_of ys))

pub changes_of-push : (xs : List (List Change)) (b : List Change) → changes_of (xs ++ b ∷ []) ≡ changes_of xs ++ b
changes_of-push xs b = changes_of-append xs (b ∷ []) ∙ ap (λ l. changes_of xs ++ l) (append-nil b)

-- what begins a history begins its counts: each count of the front comes first
counts_prefix : (n : ℕ) (xs ys : List (List Change)) → IsPrefix (counts_from n xs) (counts_from n (xs ++ ys))
counts_prefix n [] [] = ([], refl)
counts_prefix n [] (y ∷ ys) = (counts_from (n + length y) ys, refl)
counts_prefix n (x ∷ xs) ys = let r = counts_prefix (n + length x) xs ys in (r.0, ap (λ l. n ∷ l) r.1)

-- the object of a longer history begins with that of a beginning
pub begins_of : (xs ys : List (List Change)) → IsPrefix xs ys → Begins (object_of ys) (object_of xs)
begins_of xs ys p =
    let more : changes_of xs ++ changes_of p.0 ≡ changes_of ys = sym (changes_of-append xs p.0) ∙ ap changes_of p.1 in
    let counts : IsPrefix (counts_from 0 xs) (counts_from 0 ys) = subst (λ (l : List (List Change)). IsPrefix (counts_from 0 xs) (counts_from 0 l)) p.1 (counts_prefix 0 xs p.0) in
    record { changes = (changes_of p.0, more); counts = counts }

pub full_front : (xs ys : List (List Change)) → AllFull (xs ++ ys) → AllFull xs
full_front [] ys f = tt
full_front (x ∷ xs) ys f = (f.0, full_front xs ys f.1)

pub full_prefix : (xs ys : List (List Change)) → IsPrefix xs ys → AllFull ys → AllFull xs
full_prefix xs ys p f = full_front xs p.0 (subst AllFull (sym p.1) f)

pub full_push : (xs : List (List Change)) (b : List Change) → AllFull xs → 0 < length b → AllFull (xs ++ b ∷ [])
full_push [] b f h = (h, tt)
full_push (x ∷ xs) b f h = (f.0, full_push xs b f.1 h)

ascends_of : (n : ℕ) (xs : List (List Change)) → AllFull xs → AscendsFrom n (counts_from n xs) (n + length (changes_of xs))
ascends_of n [] f = (refl, omega arith)
ascends_of n (x ∷ xs) f =
    let r = ascends_of (n + length x) xs f.1 in
    let sum : (n + length x) + length (changes_of xs) ≡ n + length (x ++ changes_of xs) = omega (arith, length-append x (changes_of xs)) in
    let more : AscendsFrom (n + length x) (counts_from (n + length x) xs) (n + length (x ++ changes_of xs)) = subst (AscendsFrom (n + length x) (counts_from (n + length x) xs)) sum r in
    (refl, joined n (n + length x) xs (n + length (x ++ changes_of xs)) (omega (arith, f.0)) more)
  where
    joined : (n k : ℕ) (xs : List (List Change)) (m : ℕ) → n < k → AscendsFrom k (counts_from k xs) m → Ascends n (counts_from k xs) m
    joined n k [] m h a = (h, a.1)
    joined n k (x ∷ xs) m h a = (h, a.1)

-- a history of full batches gives a published object
pub published_of : (xs : List (List Change)) → AllFull xs → IsPublished (object_of xs)
published_of xs f =
    let r = ascends_of 0 xs f in
    subst (AscendsFrom 0 (counts_from 0 xs)) (zero_plus (length (changes_of xs))) r
  where
    zero_plus : (n : ℕ) → 0 + n ≡ n
    zero_plus n = omega arith

counts_push : (n : ℕ) (xs : List (List Change)) (b : List Change) → counts_from n (xs ++ b ∷ []) ≡ counts_from n xs ++ (n + length (changes_of xs) + length b) ∷ []
counts_push n [] b = ap (λ k. n ∷ k ∷ []) (let e : n + length b ≡ n + 0 + length b = omega arith in e)
counts_push n (x ∷ xs) b =
    ap (λ l. n ∷ l) (counts_push (n + length x) xs b)
    ∙ ap (λ k. n ∷ (counts_from (n + length x) xs ++ k ∷ []))
    (let e : n + length x + length (changes_of xs) + length b ≡ n + length (x ++ changes_of xs) + length b = omega (arith, length-append x (changes_of xs)) in e)

-- one batch more
pub object_of-push : (xs : List (List Change)) (b : List Change) → object_of (xs ++ b ∷ []) ≡ with_batch (object_of xs) b
object_of-push xs b =
    let changes : changes_of (xs ++ b ∷ []) ≡ changes_of xs ++ b = changes_of-push xs b in
    let counts : counts_from 0 (xs ++ b ∷ []) ≡ counts_from 0 xs ++ (length (changes_of xs) + length b) ∷ [] =
    counts_push 0 xs b ∙ ap (λ k. counts_from 0 xs ++ k ∷ []) (let e : 0 + length (changes_of xs) + length b ≡ length (changes_of xs) + length b = omega arith in e) in
    λ i. record { changes = changes i; counts = counts i }
