-- An answer to what a session has taken.
use Rattle.std.proofs.Common.{◌≡◌, ℕ, ◌==◌, ◌||◌, Bool, true, false, List, [], ◌∷◌, length, Option, None, Some, Result, IfOk, Ok, Err, String, refl, sym, ◌∙◌, ap, subst, string_bytes}
use Rattle.std.proofs.lemmas.Bool.{eqb-true, false≢true}
use Rattle.std.specs.declared.alloc.Global.{Global}
use Rattle.br_model.specs.declared.listing.Listing.{Listing}
use Rattle.br_model.specs.Program.Listings.{listed}
use Rattle.br_model.specs.Table.Limits.{most_bytes}
use Rattle.br_model.specs.Text.Scenario.{scenario}
use Rattle.whole_texts.specs.declared.session.Session.{Session}
use Rattle.whole_texts.specs.Sessions.{IsAt}
use Rattle.whole_texts.specs.Tables.{shown}
use Rattle.whole_texts.specs.Texts.{ends_well}
use Rattle.switchbr_c.specs.Asking.{Asked, Asks, AsksTable, Shows}
use Rattle.switchbr_c.specs.Calls.{GaveNothing, Tells, is_of}
use Rattle.switchbr_c.specs.Sessions.{IsClosed, IsUntouched}

-- no line of it is bad

or_third : (a b c d : Bool) → (b ≡ true → ⊥) → (a || (b || (c || false))) ≡ true → (a || (d || (c || false))) ≡ true
or_third true b c d not h = refl
or_third false true c d not h = absurd (not refl)
or_third false false true true not h = refl
or_third false false true false not h = refl
or_third false false false d not h = absurd (false≢true h)

pub well_given : (status : ℕ) → (status ≡ 3 → true ≡ false) → is_of (0 ∷ 3 ∷ 16 ∷ []) status ≡ true → is_of (0 ∷ 6 ∷ 16 ∷ []) status ≡ true
well_given status well h = or_third (0 == status) (3 == status) (16 == status) (6 == status) (λ three. false≢true (sym (well (sym (eqb-true 3 status three))))) h

-- the answer holds of whatever was taken
text_is : {E : Type 0} (x : Session) (answer : List ℕ → List ℕ) (r : Result (String Global) E) → IfOk r (λ t. (bytes given : List ℕ) → IsAt bytes given x → string_bytes t ≡ answer bytes)
    → (bytes given : List ℕ) → IsAt bytes given x → IfOk r (λ t. string_bytes t ≡ answer bytes)
text_is x answer (Ok t) h bytes given at = h bytes given at
text_is x answer (Err e) h bytes given at = tt

module _ (h : Option Session) (answer : List ℕ → List ℕ) (old new : List ℕ) (len : ℕ) (after : Option Session) (status : ℕ) where
  pub not_asked : h ≡ None → IsClosed old new len after status → Asks h answer old new len after status
  not_asked is c = subst (λ (o : Option Session). Asks o answer old new len after status) (sym is) c

  -- d is what the box holds
  pub asked : {E : Type 0} (x d : Session) (r : Result (String Global) E) → h ≡ Some x → d ≡ x → after ≡ Some x
      → IfOk r (λ t. (bytes given : List ℕ) → IsAt bytes given d → string_bytes t ≡ answer bytes)
      → ((text : List ℕ) → IfOk r (λ t. string_bytes t ≡ text) → Tells true text 0 0 old new len status) → is_of (0 ∷ 6 ∷ 16 ∷ []) status ≡ true
      → Asks h answer old new len after status
  asked x d r is same put gives tells others =
      subst (λ (o : Option Session). Asks o answer old new len after status) (sym (is ∙ ap (λ (s : Session). Some s) (sym same))) (record {
        same = put ∙ ap (λ (s : Session). Some s) (sym same);
        tells = λ bytes given at. tells (answer bytes) (text_is d answer r gives bytes given at);
        others = others;
      })

-- it is the text
pub gave_answer : {E : Type 0} (r : Result (String Global) E) (t : String Global) (old new : List ℕ) (len status : ℕ) → r ≡ Ok t → Tells true (string_bytes t) 0 0 old new len status
    → (text : List ℕ) → IfOk r (λ u. string_bytes u ≡ text) → Tells true text 0 0 old new len status
gave_answer {E} r t old new len status is tells text h =
    subst (λ (b : List ℕ). Tells true b 0 0 old new len status) (subst (λ (q : Result (String Global) E). IfOk q (λ u. string_bytes u ≡ text)) is h) tells

-- by the number of a table

module _ (o : Option Listing) (h : Option Session) (old new : List ℕ) (len : ℕ) (after : Option Session) (status : ℕ) where
  pub no_table : o ≡ None → status ≡ 2 → IsUntouched h after old new len → AsksTable h o old new len after status
  no_table is two same = subst (λ (p : Option Listing). AsksTable h p old new len after status) (sym is) (two, same)

  pub table_asked : (listing : Listing) → o ≡ Some listing → Asks h (shown listing) old new len after status → AsksTable h o old new len after status
  table_asked listing is a = subst (λ (p : Option Listing). AsksTable h p old new len after status) (sym is) a

module _ (o : Option Listing) (bytes old new : List ℕ) (len status : ℕ) where
  pub shows_none : o ≡ None → status ≡ 2 → GaveNothing old new len → Shows o bytes old new len status
  shows_none is two none = subst (λ (p : Option Listing). Shows p bytes old new len status) (sym is) (two, none)

  pub shows : (listing : Listing) → o ≡ Some listing → Tells (ends_well (scenario bytes).ending) (listed listing bytes) (length bytes) most_bytes old new len status
      → Shows o bytes old new len status
  shows listing is tells = subst (λ (p : Option Listing). Shows p bytes old new len status) (sym is) tells
