-- Each step keeps the rule of the number of posts.
use Rattle.std.proofs.Common.{◌≡◌, ◌≢◌, ℕ, zero, suc, ◌+◌, ◌≤◌, true, false, List, [], ◌∷◌, ◌++◌, length, set, get_or, eqb, sym, refl, ap, ◌∙◌, subst, ⊎_elim, append_assoc, arith}
use Rattle.std.proofs.lemmas.List.{append-nil}
use Rattle.std.proofs.lemmas.Bool.{false≢true}
use mathlib.Core.Option.{some, some-ne-none, some-injective}
use prog.Atomic.{either}
use lib.ListN.{get_elem?}
use Rattle.atomic_table.specs.Table.{State, Me, Act, keeps, Valid, carried_after, opening, stepped, Allows, Splits, Joins}
use Rattle.atomic_table.proofs.Lists.{at_set, at_snoc, set_again, exchanged}
use Rattle.deferred_queue.proofs.Views.{All, all_set, at_end}
use Rattle.deferred_queue.specs.declared.tally.Event.{Event}
use Rattle.deferred_queue.specs.declared.tally.Event.TheVariants.{Post, Look}
use Rattle.deferred_queue.specs.declared.tally.Past.{Past}
use Rattle.deferred_queue.specs.Tally.{posts_in, looks_in, past, counting, looking, spent, KnownBut, Looked, Knows, Kept, Counted, LookedFor, Met}

posts_in-append : (a b : List Event) → posts_in (a ++ b) ≡ posts_in a + posts_in b
posts_in-append [] b = omega arith
posts_in-append (Post ∷ a) b = omega (arith, posts_in-append a b)
posts_in-append (Look ∷ a) b = posts_in-append a b

looks_in-append : (a b : List Event) → looks_in (a ++ b) ≡ looks_in a + looks_in b
looks_in-append [] b = omega arith
looks_in-append (Post ∷ a) b = looks_in-append a b
looks_in-append (Look ∷ a) b = omega (arith, looks_in-append a b)

-- a look sees all posts that were known before
pub sees : (before after : List Event) → Looked before after → posts_in before ≤ posts_in after
sees before after l = omega (arith, ap posts_in l.2, posts_in-append before (l.0 ++ Look ∷ []))

-- where no later post happened, all posts are known
pub same_posts : (known all : List Event) → KnownBut posts_in known all → posts_in all ≡ posts_in known
same_posts known all k = omega (arith, ap posts_in k.1, posts_in-append known k.0, k.2)

-- all is known
whole : (number : List Event → ℕ) (all : List Event) → number [] ≡ 0 → KnownBut number all all
whole number all none = ([], sym (append-nil all), none)

module _ {S : Type 0} where
  pub begins : Kept {S = S} (opening (0 ∷ []) [] (past true true [] []))
  begins = record { counter = 0; looker = 0; events = []; number = refl; each = one }
    where
      one : All (Knows 0 0 []) (past true true [] [] ∷ [])
      one zero v e = subst (Knows 0 0 [] 0) (some-injective _ _ e) (record { as_counter = λ _. (refl, ([], refl, refl)); as_looker = λ _. (refl, ([], refl, refl)) })
      one (suc place) v e = absurd (some-ne-none v (sym e))

  -- a view that does both is cut in two
  pub cuts : (id : ℕ) (v : Past) → v.posts ≡ true → v.takes ≡ true → Splits (Kept {S = S}) id v (counting v.counted) (looking v.looked)
  cuts id v a b s h at =
      let l : Past = counting v.counted in
      let r : Past = looking v.looked in
      let count = (h.each id v at).as_counter a in
      let look = (h.each id v at).as_looker b in
      let vs : List Past = set s.views id l in
      let Old : ℕ → Past → Type 0 = λ j u. (u.posts ≡ true → (j ≡ h.counter) × KnownBut posts_in u.counted h.events) × (u.takes ≢ true) in
      let old : All Old vs = all_set Old s.views id l ((λ _. count), false≢true) (λ j u other e. ((h.each j u e).as_counter, λ p. other (((h.each j u e).as_looker p).0 ∙ sym look.0))) in
      record {
        counter = h.counter;
        looker = length vs;
        events = h.events;
        number = h.number;
        each = λ j u e. ⊎_elim (λ x. record { as_counter = (old j u x).0; as_looker = λ p. absurd ((old j u x).1 p) })
            (λ (is : r ≡ u). record {
              as_counter = λ p. absurd (false≢true (ap (λ (y : Past). y.posts) is ∙ p));
              as_looker = λ p. (at_end vs r u j (λ x. (old j u x).1 p) e, subst (λ (y : Past). KnownBut looks_in y.looked h.events) is look.1);
            }) (at_snoc vs r u j e);
      }

  -- one more is counted
  pub counts : (slots id : ℕ) (me : Me S Past) (new : ℕ) → me ≡ (counting me.0.counted, []) → new ≡ posts_in me.0.counted + 1
      → Allows (Kept {S = S}) slots id me 0 (λ _. new) (λ _ after. Counted me after)
  counts slots id me new is next s h _ at _ =
      let mine = h.each id me.0 at in
      let count = mine.as_counter (ap (λ (m : Me S Past). m.0.posts) is) in
      let all = h.events ++ Post ∷ [] in
      let w : Past = counting all in
      let before : posts_in h.events ≡ posts_in me.0.counted = same_posts me.0.counted h.events count.1 in
      let longest : posts_in all ≡ posts_in h.events + 1 = omega (arith, posts_in-append h.events (Post ∷ [])) in
      let more : posts_in all ≡ posts_in me.0.counted + 1 = omega (arith, longest, before) in (
        w,
        keeps,
        tt,
        record {
          counter = h.counter;
          looker = h.looker;
          events = all;
          number = ap (λ ns. set ns 0 new) h.number ∙ ap (λ n. n ∷ []) (next ∙ sym more);
          each = all_set (Knows h.counter h.looker all) s.views id w (record { as_counter = λ _. (count.0, whole posts_in all refl); as_looker = λ p. absurd (false≢true p) })
              (λ j u other e. record {
                as_counter = λ p. absurd (other (((h.each j u e).as_counter p).0 ∙ sym count.0));
                as_looker = λ p. let k = (h.each j u e).as_looker p in
                    (k.0, longer u.looked h.events k.1);
              });
        },
        (ap (λ (m : Me S Past). (w, m.1)) is, more),
      )
    where
      ends : (later : List Event) → looks_in (later ++ Post ∷ []) ≡ looks_in later + 0 → looks_in later ≡ 0 → looks_in (later ++ Post ∷ []) ≡ 0
      ends later e none = omega (arith, e, none)

      longer : (known all : List Event) → KnownBut looks_in known all → KnownBut looks_in known (all ++ Post ∷ [])
      longer known all k = (k.0 ++ Post ∷ [], ap (λ l. l ++ Post ∷ []) k.1 ∙ append_assoc known k.0 (Post ∷ []), ends k.0 (omega (arith, looks_in-append k.0 (Post ∷ []))) k.2)

  -- a look is added
  added : (id number : ℕ) (me : Me S Past) → me ≡ (looking me.0.looked, []) → (s : State S Past) (h : Kept s) → get_elem? s.views id ≡ some me.0 → number ≡ posts_in h.events
      → Kept {S = S} (stepped s 0 number id me.1 (looking (h.events ++ Look ∷ [])) keeps)
  added id number me is s h at so =
      let look = (h.each id me.0 at).as_looker (ap (λ (m : Me S Past). m.0.takes) is) in
      let all = h.events ++ Look ∷ [] in
      let rest : posts_in all ≡ posts_in h.events + 0 = omega (arith, posts_in-append h.events (Look ∷ [])) in
      let same : posts_in all ≡ posts_in h.events = omega (arith, rest) in
      record {
        counter = h.counter;
        looker = h.looker;
        events = all;
        number = ap (λ ns. set ns 0 number) h.number ∙ ap (λ n. n ∷ []) (so ∙ sym same);
        each = all_set (Knows h.counter h.looker all) s.views id (looking all) (record { as_counter = λ p. absurd (false≢true p); as_looker = λ _. (look.0, whole looks_in all refl) })
            (λ j u other e. record {
              as_counter = λ p. let k = (h.each j u e).as_counter p in
                  (k.0, longer u.counted h.events k.1);
              as_looker = λ p. absurd (other (((h.each j u e).as_looker p).0 ∙ sym look.0));
            });
      }
    where
      ends : (later : List Event) → posts_in (later ++ Look ∷ []) ≡ posts_in later + 0 → posts_in later ≡ 0 → posts_in (later ++ Look ∷ []) ≡ 0
      ends later e none = omega (arith, e, none)

      longer : (known all : List Event) → KnownBut posts_in known all → KnownBut posts_in known (all ++ Look ∷ [])
      longer known all k = (k.0 ++ Look ∷ [], ap (λ l. l ++ Look ∷ []) k.1 ∙ append_assoc known k.0 (Look ∷ []), ends k.0 (omega (arith, posts_in-append k.0 (Look ∷ []))) k.2)

  -- where nothing is looked for
  stays : (id number : ℕ) (me : Me S Past) (s : State S Past) (h : Kept s) → get_elem? s.views id ≡ some me.0 → number ≡ posts_in h.events → Kept {S = S} (stepped s 0 number id me.1 me.0 keeps)
  stays id number me s h at so = record {
    counter = h.counter;
    looker = h.looker;
    events = h.events;
    number = ap (λ ns. set ns 0 number) h.number ∙ ap (λ n. n ∷ []) so;
    each = subst (All (Knows h.counter h.looker h.events)) (sym (set_again s.views id me.0 at)) h.each;
  }

  -- a number is looked for
  pub looks : (slots id number : ℕ) (me : Me S Past) → me ≡ (looking me.0.looked, [])
      → Allows (Kept {S = S}) slots id me 0 (λ n. either (eqb n number) number n) (λ found after. LookedFor number me found after)
  looks slots id number me is s h _ at _ =
      let n = get_or s.words 0 0 in
      let found : n ≡ posts_in h.events = ap (λ ns. get_or ns 0 0) h.number in
      let look = (h.each id me.0 at).as_looker (ap (λ (m : Me S Past). m.0.takes) is) in
      let all = h.events ++ Look ∷ [] in
      let rest : posts_in all ≡ posts_in h.events + 0 = omega (arith, posts_in-append h.events (Look ∷ [])) in
      let posts : posts_in all ≡ n = omega (arith, rest, found) in
      exchanged n number number
      (λ k. (w : Past) × (a : Act S) × Valid s.homes me.1 a × Kept {S = S} (stepped s 0 k id me.1 w a) × LookedFor number me n (w, carried_after me.1 a))
      (λ e. (
        looking all,
        keeps,
        tt,
        added id number me is s h at (sym e ∙ found),
        (
          (λ _. (ap (λ (m : Me S Past). (looking all, m.1)) is, (look.1.0, look.1.2, ap (λ l. l ++ Look ∷ []) look.1.1 ∙ append_assoc me.0.looked look.1.0 (Look ∷ [])), posts ∙ e)),
          λ ne. absurd (ne e),
        ),
      ))
      (λ ne. (me.0, keeps, tt, stays id n me s h at found, ((λ e. absurd (ne e)), λ _. refl)))

  -- the view that looks leaves all to a new one
  pub leaves : (id : ℕ) (v : Past) → v.posts ≡ false → v.takes ≡ true → Splits (Kept {S = S}) id v spent v
  leaves id v a b s h at =
      let look = (h.each id v at).as_looker b in
      let vs : List Past = set s.views id spent in
      let Old : ℕ → Past → Type 0 = λ j u. (u.posts ≡ true → (j ≡ h.counter) × KnownBut posts_in u.counted h.events) × (u.takes ≢ true) in
      let old : All Old vs = all_set Old s.views id spent ((λ p. absurd (false≢true p)), false≢true)
      (λ j u other e. ((h.each j u e).as_counter, λ p. other (((h.each j u e).as_looker p).0 ∙ sym look.0))) in
      record {
        counter = h.counter;
        looker = length vs;
        events = h.events;
        number = h.number;
        each = λ j u e. ⊎_elim (λ x. record { as_counter = (old j u x).0; as_looker = λ p. absurd ((old j u x).1 p) })
            (λ (is : v ≡ u). record {
              as_counter = λ p. absurd (false≢true (sym a ∙ ap (λ (y : Past). y.posts) is ∙ p));
              as_looker = λ p. (at_end vs v u j (λ x. (old j u x).1 p) e, subst (λ (y : Past). KnownBut looks_in y.looked h.events) is look.1);
            }) (at_snoc vs v u j e);
      }

  -- the view that counts takes in the one that looks
  pub merges : (id : ℕ) (v : Past) (other : ℕ) (w : Past) → v.posts ≡ true → w.takes ≡ true → Joins (Kept {S = S}) id v other w (past true true v.counted w.looked) spent
  merges id v other w a b s h at two at' =
      let both : Past = past true true v.counted w.looked in
      let count = (h.each id v at).as_counter a in
      let vs : List Past = set s.views id both in
      let was : get_elem? s.views other ≡ some w = ⊎_elim (λ x. absurd (two x.0)) (λ x. x.1) (at_set s.views id other both w at') in
      let look = (h.each other w was).as_looker b in
      let Now : ℕ → Past → Type 0 = λ j y. j ≢ other → Knows h.counter id h.events j y in
      let now : All Now vs = all_set Now s.views id both (λ _. record { as_counter = λ _. count; as_looker = λ _. (refl, look.1) })
      (λ j y _ e apart. record { as_counter = (h.each j y e).as_counter; as_looker = λ p. absurd (apart (((h.each j y e).as_looker p).0 ∙ sym look.0)) }) in
      record {
        counter = h.counter;
        looker = id;
        events = h.events;
        number = h.number;
        each = all_set (Knows h.counter id h.events) vs other spent (record { as_counter = λ p. absurd (false≢true p); as_looker = λ p. absurd (false≢true p) }) (λ j y apart e. now j y e apart);
      }

  -- a view that does both learns all that happened
  pub meets : (slots id : ℕ) (me : Me S Past) → me.0.posts ≡ true → me.0.takes ≡ true → me.1 ≡ [] → Allows (Kept {S = S}) slots id me 0 (λ n. n) (λ _ after. Met me after)
  meets slots id me a b none s h _ at _ =
      let n = get_or s.words 0 0 in
      let mine = h.each id me.0 at in
      let count = mine.as_counter a in
      let look = mine.as_looker b in
      let w : Past = past true true h.events h.events in (
        w,
        keeps,
        tt,
        record {
          counter = h.counter;
          looker = h.looker;
          events = h.events;
          number = ap (λ ns. set ns 0 n) h.number ∙ ap (λ k. k ∷ []) (ap (λ ns. get_or ns 0 0) h.number);
          each = all_set (Knows h.counter h.looker h.events) s.views id w
              (record { as_counter = λ _. (count.0, whole posts_in h.events refl); as_looker = λ _. (look.0, whole looks_in h.events refl) }) (λ j u other e. h.each j u e);
        },
        (h.events, (λ i. (w, none i)), count.1, look.1),
      )
