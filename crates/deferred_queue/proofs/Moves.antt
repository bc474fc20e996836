-- Each step keeps the rule of the queue.
use Rattle.std.proofs.Common.{◌≡◌, ◌≢◌, ℕ, zero, suc, ◌+◌, ◌≤◌, true, false, true≢false, List, [], ◌∷◌, ◌++◌}
use Rattle.std.proofs.Common.{length, drop, set, sym, refl, ap, ◌∙◌, subst, ⊎_elim, append_assoc, length-append, arith, add-zero}
use Rattle.std.proofs.Math.Seq.{drop-append_seam}
use Rattle.std.proofs.lemmas.List.{append-nil}
use mathlib.Core.Option.{some, some-ne-none, some-injective}
use lib.ListN.{get_elem?}
use Rattle.crossbeam_queue.specs.Fifo.{Pushes, Pops, Forks, Merges, Learns}
use Rattle.crossbeam_queue.proofs.Lists.{at_set, at_snoc}
use Rattle.deferred_queue.proofs.Views.{All, all_set, at_end}
use Rattle.br_model.specs.declared.change.Update.{Update}
use Rattle.deferred_queue.specs.declared.rule.Log.{Log}
use Rattle.deferred_queue.specs.Ends.{IsNext}
use Rattle.deferred_queue.specs.Rule.{log, posting, taking, spent, TicketsFrom, Begins, Fits, Carries}

-- ---- the beginning, and how passes are cut and joined
pub begins : Carries [] (log true true [] [] [] ∷ [])
begins = record { poster = 0; taker = 0; posted = []; taken = []; whole = refl; tickets = tt; each = one }
  where
    one : All (Fits 0 0 [] [] []) (log true true [] [] [] ∷ [])
    one zero v e = subst (Fits 0 0 [] [] [] 0) (some-injective _ _ e) (record { as_poster = λ _. (refl, refl); as_taker = λ _. (refl, refl, ([], refl)) })
    one (suc place) v e = absurd (some-ne-none v (sym e))

-- a pass that does both is cut in two
pub forks : (place : ℕ) (v : Log) → v.posts ≡ true → v.takes ≡ true → Forks Carries place v (posting v.posted) (taking v.taken (drop (length v.taken) v.posted))
forks place v a b items views h at =
    let l : Log = posting v.posted in
    let r : Log = taking v.taken (drop (length v.taken) v.posted) in
    let mine = h.each place v at in
    let post = mine.as_poster a in
    let take = mine.as_taker b in
    let vs : List Log = set views place l in
    let Old : ℕ → Log → Type 0 = λ j u. (u.posts ≡ true → (j ≡ h.poster) × (u.posted ≡ h.posted)) × (u.takes ≢ true) in
    let old : All Old vs = all_set Old views place l ((λ _. post), λ p. true≢false (sym p)) (λ j u other e. ((h.each j u e).as_poster, λ p. other (((h.each j u e).as_taker p).0 ∙ sym take.0))) in
    let rest : drop (length v.taken) v.posted ≡ items = (λ i. drop (length (take.1 i)) (post.1 i)) ∙ ap (drop (length h.taken)) h.whole ∙ drop-append_seam h.taken items in
    record {
      poster = h.poster;
      taker = length vs;
      posted = h.posted;
      taken = h.taken;
      whole = h.whole;
      tickets = h.tickets;
      each = λ j u e. ⊎_elim (λ x. record { as_poster = (old j u x).0; as_taker = λ p. absurd ((old j u x).1 p) })
          (λ (is : r ≡ u). record {
            as_poster = λ p. absurd (true≢false (sym (ap (λ (y : Log). y.posts) is ∙ p)));
            as_taker = λ p. (
              at_end vs r u j (λ x. (old j u x).1 p) e,
              ap (λ (y : Log). y.taken) (sym is) ∙ take.1,
              ([], sym rest ∙ sym (append-nil _) ∙ ap (λ (y : Log). y.ahead ++ []) is),
            );
          }) (at_snoc vs r u j e);
    }

-- the taking pass leaves all to a new one
pub leaves : (place : ℕ) (v : Log) → v.posts ≡ false → v.takes ≡ true → Forks Carries place v spent v
leaves place v a b items views h at =
    let mine = h.each place v at in
    let take = mine.as_taker b in
    let vs : List Log = set views place spent in
    let Old : ℕ → Log → Type 0 = λ j u. (u.posts ≡ true → (j ≡ h.poster) × (u.posted ≡ h.posted)) × (u.takes ≢ true) in
    let old : All Old vs = all_set Old views place spent ((λ p. absurd (true≢false (sym p))), λ p. true≢false (sym p))
    (λ j u other e. ((h.each j u e).as_poster, λ p. other (((h.each j u e).as_taker p).0 ∙ sym take.0))) in
    record {
      poster = h.poster;
      taker = length vs;
      posted = h.posted;
      taken = h.taken;
      whole = h.whole;
      tickets = h.tickets;
      each = λ j u e. ⊎_elim (λ x. record { as_poster = (old j u x).0; as_taker = λ p. absurd ((old j u x).1 p) })
          (λ (is : v ≡ u). record {
            as_poster = λ p. absurd (true≢false (sym p ∙ ap (λ (y : Log). y.posts) (sym is) ∙ a));
            as_taker = λ p. (at_end vs v u j (λ x. (old j u x).1 p) e, ap (λ (y : Log). y.taken) (sym is) ∙ take.1, subst (λ (y : Log). Begins y.ahead items) is take.2);
          }) (at_snoc vs v u j e);
    }

-- the posting pass takes in the taking one
pub merges : (place : ℕ) (v : Log) (other : ℕ) (w : Log) → v.posts ≡ true → w.takes ≡ true → Merges Carries place v other w (log true true v.posted w.taken w.ahead) spent
merges place v other w a b items views h at two at' =
    let both : Log = log true true v.posted w.taken w.ahead in
    let mine = h.each place v at in
    let vs : List Log = set views place both in
    let was : get_elem? views other ≡ some w = ⊎_elim (λ x. absurd (two x.0)) (λ x. x.1) (at_set views place other both w at') in
    let theirs = (h.each other w was).as_taker b in
    let Now : ℕ → Log → Type 0 = λ j y. j ≢ other → Fits h.poster place h.posted h.taken items j y in
    let now : All Now vs = all_set Now views place both (λ _. record { as_poster = λ _. mine.as_poster a; as_taker = λ _. (refl, theirs.1, theirs.2) })
    (λ j y _ e apart. record { as_poster = (h.each j y e).as_poster; as_taker = λ p. absurd (apart (((h.each j y e).as_taker p).0 ∙ sym theirs.0)) }) in
    record {
      poster = h.poster;
      taker = place;
      posted = h.posted;
      taken = h.taken;
      whole = h.whole;
      tickets = h.tickets;
      each = all_set (Fits h.poster place h.posted h.taken items) vs other spent (record { as_poster = λ p. absurd (true≢false (sym p)); as_taker = λ p. absurd (true≢false (sym p)) })
          (λ j y apart e. now j y e apart);
    }

-- what was taken, followed by what the queue holds, is what was posted
pub totals : (place : ℕ) (v : Log) → v.posts ≡ true → v.takes ≡ true → Learns Carries place v (λ items. v.posted ≡ v.taken ++ items)
totals place v a b items views h at = let mine = h.each place v at in (mine.as_poster a).1 ∙ h.whole ∙ ap (λ l. l ++ items) (sym (mine.as_taker b).1)

-- ---- posting
tickets_push : (n : ℕ) (us : List Update) (u : Update) → TicketsFrom n us → u.ticket ≡ n + length us → TicketsFrom n (us ++ u ∷ [])
tickets_push n [] u t e = (rw add-zero at e, tt)
tickets_push n (x ∷ us) u t e = let k : u.ticket ≡ (n + 1) + length us = omega arith in (t.0, tickets_push (n + 1) us u t.1 k)

pub posts : (n place : ℕ) (v : Log) (x : Update) → v.posts ≡ true → x.ticket ≡ length v.posted → Pushes Carries n place v x (λ w. w ≡ record v { posted = v.posted ++ x ∷ [] })
posts n place v x may ticket items views _ h at =
    let w : Log = record v { posted = v.posted ++ x ∷ [] } in
    let mine = h.each place v at in
    let post = mine.as_poster may in
    let posted = h.posted ++ x ∷ [] in
    let number : x.ticket ≡ 0 + length h.posted = omega (arith, ticket, ap length post.1) in
    let longer : (u : Log) → Begins u.ahead items → Begins u.ahead (items ++ x ∷ []) = λ u m. (m.0 ++ x ∷ [], ap (λ l. l ++ x ∷ []) m.1 ∙ append_assoc u.ahead m.0 (x ∷ [])) in
    let takes : (j : ℕ) (u : Log) → Fits h.poster h.taker h.posted h.taken items j u → u.takes ≡ true
    → (j ≡ h.taker) × (u.taken ≡ h.taken) × Begins u.ahead (items ++ x ∷ []) = λ j u f p. ((f.as_taker p).0, (f.as_taker p).1, longer u (f.as_taker p).2) in (
      w,
      record {
        poster = h.poster;
        taker = h.taker;
        posted = posted;
        taken = h.taken;
        whole = ap (λ l. l ++ x ∷ []) h.whole ∙ append_assoc h.taken items (x ∷ []);
        tickets = tickets_push 0 h.posted x h.tickets number;
        each = all_set (Fits h.poster h.taker posted h.taken (items ++ x ∷ [])) views place w (record { as_poster = λ _. (post.0, ap (λ l. l ++ x ∷ []) post.1); as_taker = takes place v mine })
            (λ j u other e. record { as_poster = λ p. absurd (other (((h.each j u e).as_poster p).0 ∙ sym post.0)); as_taker = takes j u (h.each j u e) });
      },
      refl,
    )

-- what the queue holds was posted
pub posts_learns : (place : ℕ) (v : Log) → v.posts ≡ true → Learns Carries place v (λ items. length items ≤ length v.posted)
posts_learns place v may items views h at = let same = ((h.each place v at).as_poster may).1 in omega (arith, ap length same, ap length h.whole, length-append h.taken items)

-- ---- taking
ticket_at : (n : ℕ) (us : List Update) (u : Update) (vs : List Update) → TicketsFrom n (us ++ u ∷ vs) → u.ticket ≡ n + length us
ticket_at n [] u vs t = omega (arith, t.0)
ticket_at n (x ∷ us) u vs t = omega (arith, ticket_at (n + 1) us u vs t.1)

-- the first that leaves is the first of what is known to lie ahead
is_next : (ahead more items : List Update) (x : Update) → x ∷ items ≡ ahead ++ more → IsNext ahead x × Begins (drop 1 ahead) items
is_next [] more items x e = (tt, (items, refl))
is_next (y ∷ ys) more items x e = (some-injective x y (ap (λ l. get_elem? l 0) e), (more, ap (drop 1) e))

pub takes : (place : ℕ) (v : Log) → v.takes ≡ true → Pops Carries place v (λ x w. (w ≡ record v { taken = v.taken ++ x ∷ []; ahead = drop 1 v.ahead }) × (x.ticket ≡ length v.taken) × IsNext v.ahead x)
takes place v may x items views h at =
    let w : Log = record v { taken = v.taken ++ x ∷ []; ahead = drop 1 v.ahead } in
    let mine = h.each place v at in
    let take = mine.as_taker may in
    let next = is_next v.ahead take.2.0 items x take.2.1 in
    let taken = h.taken ++ x ∷ [] in
    let number = ticket_at 0 h.taken x items (subst (TicketsFrom 0) h.whole h.tickets) in (
      w,
      record {
        poster = h.poster;
        taker = h.taker;
        posted = h.posted;
        taken = taken;
        whole = h.whole ∙ sym (append_assoc h.taken (x ∷ []) items);
        tickets = h.tickets;
        each = all_set (Fits h.poster h.taker h.posted taken items) views place w (record { as_poster = mine.as_poster; as_taker = λ _. (take.0, ap (λ l. l ++ x ∷ []) take.1, next.1) })
            (λ j u other e. record { as_poster = (h.each j u e).as_poster; as_taker = λ p. absurd (other (((h.each j u e).as_taker p).0 ∙ sym take.0)) });
      },
      (refl, omega (arith, number, ap length take.1), next.0),
    )

-- what is known to lie ahead is in the queue
pub takes_learns : (place : ℕ) (v : Log) → v.takes ≡ true → Learns Carries place v (λ items. length v.ahead ≤ length items)
takes_learns place v may items views h at = let m = ((h.each place v at).as_taker may).2 in omega (arith, ap length m.1, length-append v.ahead m.0)
