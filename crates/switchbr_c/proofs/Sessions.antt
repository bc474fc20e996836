-- What a session has told is given, or kept.
use Rattle.std.proofs.Common.{◌≡◌, ◌==◌, ◌||◌, ℕ, Bool, true, false, List, [], ◌∷◌, ◌++◌, Option, None, Some, Result, Ok, Err, refl, sym, ◌∙◌, ap, subst, arith}
use Rattle.std.proofs.lemmas.Bool.{false≢true}
use Rattle.br_model.specs.Text.Scenario.{opened, reads}
use Rattle.whole_texts.specs.declared.session.Session.{Session}
use Rattle.whole_texts.specs.declared.session.SessionFault.{SessionFault}
use Rattle.whole_texts.specs.declared.session.SessionFault.TheVariants as faults
use Rattle.whole_texts.specs.Sessions.{Goes, IsAt, IsSectionWanted, IsSound, IsWanted, RefusesLine, RefusesSection, end_of, ended_of, told_so_far}
use Rattle.switchbr_c.specs.Calls.{Gave, Tells, is_of}
use Rattle.switchbr_c.specs.Sessions.{Ends, GaveNext, Gives, GivesKept, GivesText, HasTaken, IsClosed, IsUntouched, MaySettle, Opens, Passes, PassesLine, PassesSection, Refuses, Settles, fine_at, is_fine}

-- what is told of a session

abbrev IsToldOf : Session → List ℕ → Type 0
IsToldOf x text = (bytes given : List ℕ) → IsAt bytes given x → given ++ text ≡ told_so_far bytes

pub kept : (x : Session) (text old new : List ℕ) (len status : ℕ) (well : Bool) → IsToldOf x text → Tells well text 0 0 old new len status → is_of (0 ∷ 3 ∷ 16 ∷ []) status ≡ true → status ≡ 16
    → GivesKept x old new len (Some x) status
kept x text old new len status well told tells others is = record {
  gives = λ bytes given h. record {
    ok = λ e. absurd (omega (arith, e, is));
    bad_line = λ e. absurd (omega (arith, e, is));
    no_room = λ e.
        let room = tells.no_room e in record { text = text; next = told bytes given h; sized = room.0; more = room.1; room = room.2; has = h };
  };
  others = others;
}

module _ (x y : Session) (text old new : List ℕ) (len status : ℕ) (well : Bool) (end : Option Bool) (told : IsToldOf x text) (tells : Tells well text 0 0 old new len status)
    (is : well ≡ fine_at end) (ends : (bytes given : List ℕ) → IsAt bytes given x → end ≡ ended_of (reads (opened false) bytes).ending)
    (lets : (bytes given : List ℕ) → IsAt bytes given x → IsAt bytes (told_so_far bytes) y) where
  fine : (bytes given : List ℕ) → IsAt bytes given x → is_fine bytes ≡ well
  fine bytes given h = sym (is ∙ ap fine_at (ends bytes given h))

  gives_it : (bytes given : List ℕ) → IsAt bytes given x → Gave text old new len → GaveNext bytes given old new len (Some y)
  gives_it bytes given h gave = record {
    text = text;
    next = told bytes given h;
    gave = gave;
    has = subst (λ (g : List ℕ). IsAt bytes g y) (sym (told bytes given h)) (lets bytes given h);
  }

  pub gave : is_of (0 ∷ 3 ∷ 16 ∷ []) status ≡ true → (status ≡ 16 → ⊥) → GivesKept x old new len (Some y) status
  gave others fits = record {
    gives = λ bytes given h. record {
      ok = λ e. let t = tells.ok e in (fine bytes given h ∙ t.0, gives_it bytes given h t.1);
      bad_line = λ e. let t = tells.bad_line e in (fine bytes given h ∙ t.0, gives_it bytes given h t.1);
      no_room = λ e. absurd (fits e);
    };
    others = others;
  }

-- what it has answered

pub or_more : (a b c d e f g : Bool) → (a || (b || (c || false))) ≡ true → (a || (d || (b || (e || (f || (c || (g || false))))))) ≡ true
or_more true b c d e f g h = refl
or_more false b c true e f g h = refl
or_more false true c false e f g h = refl
or_more false false c false true f g h = refl
or_more false false c false false true g h = refl
or_more false false true false false false g h = refl
or_more false false false false false false g h = absurd (false≢true h)

may_settle_so : (x y : Session) (more : List ℕ) (wanted : Type 0) (refuses : SessionFault → Type 0) (r : Result (Unit {0}) SessionFault)
    → IsSound x → Goes x more wanted refuses y r → MaySettle y r
may_settle_so x y more wanted refuses (Ok done) sound h = h.1.sound
may_settle_so x y more wanted refuses (Err faults.Ended) sound h = subst IsSound (sym h.0) sound
may_settle_so x y more wanted refuses (Err faults.Misplaced) sound h = subst IsSound (sym h.0) sound
may_settle_so x y more wanted refuses (Err faults.TooLong) sound h = subst IsSound (sym h.0) sound
may_settle_so x y more wanted refuses (Err faults.NoMemory) sound h = tt

-- d is what the box holds
pub may_settle : (x d y : Session) (more : List ℕ) (wanted : Type 0) (refuses : SessionFault → Type 0) (r : Result (Unit {0}) SessionFault)
    → d ≡ x → IsSound x → Goes d more wanted refuses y r → MaySettle y r
may_settle x d y more wanted refuses r is sound h = may_settle_so d y more wanted refuses r (subst IsSound (sym is) sound) h

module _ (x y : Session) (more : List ℕ) (wanted : Type 0) (refuses : SessionFault → Type 0) (old new : List ℕ) (len : ℕ) (after : Option Session) (status : ℕ) where
  -- it is as before
  same : y ≡ x → IsUntouched (Some y) after old new len → IsUntouched (Some x) after old new len
  same is h = (h.0 ∙ ap (λ (s : Session). Some s) is, h.1)

  none_given : (n : ℕ) → status ≡ n → is_of (0 ∷ 3 ∷ 16 ∷ []) n ≡ false → (bytes given : List ℕ) → Gives bytes given old new len after status
  none_given n is off bytes given = record {
    ok = λ e. absurd (other 0 e refl);
    bad_line = λ e. absurd (other 3 e refl);
    no_room = λ e. absurd (other 16 e refl);
  }
    where
      other : (m : ℕ) → status ≡ m → is_of (0 ∷ 3 ∷ 16 ∷ []) m ≡ true → ⊥
      other m e on = absurd (false≢true (sym (ap (is_of (0 ∷ 3 ∷ 16 ∷ [])) (sym e ∙ is) ∙ off) ∙ on))

  not_in : (n : ℕ) → status ≡ n → is_of (0 ∷ 3 ∷ 16 ∷ []) n ≡ false → is_of (0 ∷ 3 ∷ 16 ∷ []) status ≡ true → ⊥
  not_in n e off on = absurd (false≢true (sym (ap (is_of (0 ∷ 3 ∷ 16 ∷ [])) e ∙ off) ∙ on))

  among : (s : ℕ) → is_of (0 ∷ 3 ∷ 16 ∷ []) s ≡ true → is_of (0 ∷ 2 ∷ 3 ∷ 6 ∷ 7 ∷ 16 ∷ 17 ∷ []) s ≡ true
  among s h = or_more (0 == s) (3 == s) (16 == s) (2 == s) (6 == s) (7 == s) (17 == s) h

  abbrev GoesOn : Type 0
  GoesOn = end_of x.awaits ≡ None

  -- it has ended, and goes on
  both : (well : Bool) → end_of x.awaits ≡ Some well → GoesOn → ⊥
  both well ended on = let none : None ≡ Some well = sym on ∙ ended in absurd (cc)

  -- whatever isn't refused by the end
  record NotEnded : Type 0 where
    pub takes : wanted → GoesOn
    pub misplaced : refuses faults.Misplaced → GoesOn
    pub too_long : refuses faults.TooLong → GoesOn
    pub no_memory : refuses faults.NoMemory → GoesOn

  passes : NotEnded → (r : Result (Unit {0}) SessionFault) → Goes x more wanted refuses y r → Settles y r old new len after status → Passes x more wanted refuses old new len after status
  passes on (Ok done) h s = record {
    gives = λ bytes given k. s.gives (bytes ++ more) given (h.1.at bytes given k);
    takes = λ _. h.0;
    usage = λ e. absurd (not_in 2 e refl s.others);
    no_memory = λ e. absurd (not_in 6 e refl s.others);
    too_long = λ e. absurd (not_in 7 e refl s.others);
    closed = λ e. absurd (not_in 17 e refl s.others);
    others = among status s.others;
    ended = λ well e. absurd (both well e (on.takes h.0));
  }
  passes on (Err faults.Ended) h s = record {
    gives = λ bytes given k. none_given 17 s.0.0 refl (bytes ++ more) given;
    takes = λ e. absurd (not_in 17 s.0.0 refl e);
    usage = λ e. absurd (omega (arith, e, s.0.0));
    no_memory = λ e. absurd (omega (arith, e, s.0.0));
    too_long = λ e. absurd (omega (arith, e, s.0.0));
    closed = λ e. (h.1, same h.0 (s.0.1, s.1));
    others = ap (is_of (0 ∷ 2 ∷ 3 ∷ 6 ∷ 7 ∷ 16 ∷ 17 ∷ [])) s.0.0;
    ended = λ well e. s.0.0;
  }
  passes on (Err faults.Misplaced) h s = record {
    gives = λ bytes given k. none_given 2 s.0.0 refl (bytes ++ more) given;
    takes = λ e. absurd (not_in 2 s.0.0 refl e);
    usage = λ e. (h.1, same h.0 (s.0.1, s.1));
    no_memory = λ e. absurd (omega (arith, e, s.0.0));
    too_long = λ e. absurd (omega (arith, e, s.0.0));
    closed = λ e. absurd (omega (arith, e, s.0.0));
    others = ap (is_of (0 ∷ 2 ∷ 3 ∷ 6 ∷ 7 ∷ 16 ∷ 17 ∷ [])) s.0.0;
    ended = λ well e. absurd (both well e (on.misplaced h.1));
  }
  passes on (Err faults.TooLong) h s = record {
    gives = λ bytes given k. none_given 7 s.0.0 refl (bytes ++ more) given;
    takes = λ e. absurd (not_in 7 s.0.0 refl e);
    usage = λ e. absurd (omega (arith, e, s.0.0));
    no_memory = λ e. absurd (omega (arith, e, s.0.0));
    too_long = λ e. (h.1, same h.0 (s.0.1, s.1));
    closed = λ e. absurd (omega (arith, e, s.0.0));
    others = ap (is_of (0 ∷ 2 ∷ 3 ∷ 6 ∷ 7 ∷ 16 ∷ 17 ∷ [])) s.0.0;
    ended = λ well e. absurd (both well e (on.too_long h.1));
  }
  passes on (Err faults.NoMemory) h s = record {
    gives = λ bytes given k. none_given 6 s.0.0 refl (bytes ++ more) given;
    takes = λ e. absurd (not_in 6 s.0.0 refl e);
    usage = λ e. absurd (omega (arith, e, s.0.0));
    no_memory = λ e. (s.0.1, s.1);
    too_long = λ e. absurd (omega (arith, e, s.0.0));
    closed = λ e. absurd (omega (arith, e, s.0.0));
    others = ap (is_of (0 ∷ 2 ∷ 3 ∷ 6 ∷ 7 ∷ 16 ∷ 17 ∷ [])) s.0.0;
    ended = λ well e. absurd (both well e (on.no_memory h.1));
  }

-- the session of a handle

pub refuses_by : (x : Session) (f g : SessionFault) (after : Option Session) (status : ℕ) → f ≡ g → Refuses x g after status → Refuses x f after status
refuses_by x f g after status is h = subst (λ (e : SessionFault). Refuses x e after status) (sym is) h

module _ (r : Result (Unit {0}) SessionFault) (old new : List ℕ) (len : ℕ) (after : Option Session) (status : ℕ) where
  pub settles : (x : Session) (s : Result (Unit {0}) SessionFault) → r ≡ s → Settles x s old new len after status → Settles x r old new len after status
  settles x s is h = subst (λ (q : Result (Unit {0}) SessionFault). Settles x q old new len after status) (sym is) h

  pub settles_given : (x d y : Session) (done : Unit {0}) → r ≡ Ok done → d ≡ x → after ≡ Some y → GivesKept d old new len (Some y) status → Settles x r old new len after status
  settles_given x d y done is same put h =
      settles x (Ok done) is
      (subst (λ (s : Session). GivesKept s old new len after status) same (subst (λ (o : Option Session). GivesKept d old new len o status) (sym put) h))

module _ (h : Option Session) (old new : List ℕ) (len : ℕ) (after : Option Session) (status : ℕ) where
  pub no_line : (line : List ℕ) → h ≡ None → IsClosed old new len after status → PassesLine h line old new len after status
  no_line line is c = subst (λ (o : Option Session). PassesLine o line old new len after status) (sym is) c

  pub no_section : (section : List ℕ) → h ≡ None → IsClosed old new len after status → PassesSection h section old new len after status
  no_section section is c = subst (λ (o : Option Session). PassesSection o section old new len after status) (sym is) c

  pub no_text : h ≡ None → IsClosed old new len after status → GivesText h old new len after status
  no_text is c = subst (λ (o : Option Session). GivesText o old new len after status) (sym is) c

  module _ (x d : Session) (is : h ≡ Some x) (same : d ≡ x) where
    has : h ≡ Some d
    has = is ∙ ap (λ (s : Session). Some s) (sym same)

    pub passes_line : (y : Session) (line : List ℕ) (r : Result (Unit {0}) SessionFault)
        → Goes d (line ++ 10 ∷ []) (IsWanted d line) (RefusesLine d line) y r → Settles y r old new len after status → PassesLine h line old new len after status
    passes_line y line r goes s =
        subst (λ (o : Option Session). PassesLine o line old new len after status) (sym has)
        (passes d y (line ++ 10 ∷ []) (IsWanted d line) (RefusesLine d line) old new len after status (record { takes = λ h. ap end_of h.awaits; misplaced = λ h. h.0; too_long = λ h. h.0; no_memory = λ h. h }) r goes s)

    pub passes_section : (y : Session) (section : List ℕ) (r : Result (Unit {0}) SessionFault)
        → Goes d section (IsSectionWanted d section) (RefusesSection d section) y r → Settles y r old new len after status → PassesSection h section old new len after status
    passes_section y section r goes s =
        subst (λ (o : Option Session). PassesSection o section old new len after status) (sym has)
        (passes d y section (IsSectionWanted d section) (RefusesSection d section) old new len after status (record { takes = λ h. ap end_of h.awaits; misplaced = λ h. h.0; too_long = λ h. h.0; no_memory = λ h. h }) r goes s)

    pub gives_text : (y : Session) → after ≡ Some y → GivesKept d old new len (Some y) status → GivesText h old new len after status
    gives_text y put g =
        subst (λ (o : Option Session). GivesText o old new len after status) (sym has)
        (subst (λ (o : Option Session). GivesKept d old new len o status) (sym put) g)

module _ (after : Option Session) where
  pub opens : (x y : Session) → after ≡ Some y → y ≡ x → IsAt [] [] x → Opens after 0
  opens x y put is h = record {
    ok = λ _. subst (HasTaken [] []) (sym (put ∙ ap (λ (s : Session). Some s) is)) h;
    no_memory = λ e. absurd (omega (arith, e));
    others = refl;
  }

  pub ends : (h : Option Session) (x : Session) → h ≡ Some x → after ≡ None → Ends h after 0
  ends h x is none = subst (λ (o : Option Session). Ends o after 0) (sym is) (refl, none)

  pub ends_none : (h : Option Session) → h ≡ None → after ≡ None → Ends h after 17
  ends_none h is none = subst (λ (o : Option Session). Ends o after 17) (sym is) (refl, none)
