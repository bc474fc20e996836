-- A line is tried.
use Rattle.std.proofs.Common.{◌≡◌, ◌==◌, ℕ, true, false, List, [], ◌∷◌, Option, None, Some, Result, Ok, Err, refl, sym, ◌∙◌, ap, subst, arith, string_bytes}
use Rattle.std.proofs.lemmas.Bool.{false≢true}
use Rattle.br_model.specs.Program.Runs.{bad_alone}
use Rattle.whole_texts.specs.declared.replaying.Told.{Told}
use Rattle.whole_texts.specs.declared.session.Session.{Session}
use Rattle.whole_texts.specs.declared.session.SessionFault.{SessionFault}
use Rattle.whole_texts.specs.declared.session.SessionFault.TheVariants as faults
use Rattle.whole_texts.specs.Sessions.{RefusesLine}
use Rattle.whole_texts.specs.Trials.{TellsEnd as SaysEnd, Tries, ending_with, is_fine}
use Rattle.switchbr_c.specs.Calls.{GaveNothing, Tells, is_of}
use Rattle.switchbr_c.specs.Sessions.{IsClosed}
use Rattle.switchbr_c.specs.Trials.{TellsEnd, Tried, TriesLine, status_of}
use Rattle.switchbr_c.proofs.Giving.{tells_so}
use Rattle.switchbr_c.proofs.Sessions.{or_more}

module _ (x : Session) (line old new : List ℕ) (len : ℕ) (after : Option Session) (status : ℕ) (put : after ≡ Some x) where
  off : (n : ℕ) → status ≡ n → is_of (0 ∷ 3 ∷ 16 ∷ []) n ≡ false → is_of (0 ∷ 3 ∷ 16 ∷ []) status ≡ true → ⊥
  off n e out on = absurd (false≢true (sym (ap (is_of (0 ∷ 3 ∷ 16 ∷ [])) e ∙ out) ∙ on))

  among : (s : ℕ) → is_of (0 ∷ 3 ∷ 16 ∷ []) s ≡ true → is_of (0 ∷ 2 ∷ 3 ∷ 6 ∷ 7 ∷ 16 ∷ 17 ∷ []) s ≡ true
  among s h = or_more (0 == s) (3 == s) (16 == s) (2 == s) (6 == s) (7 == s) (17 == s) h

  -- the text is given
  told_end : (told : Told) → Tells told.well (string_bytes told.text) 0 0 old new len status → (bytes : List ℕ) → SaysEnd (ending_with bytes line) told
      → TellsEnd (ending_with bytes line) old new len status
  told_end told tells bytes t =
      let q = tells_so told.well (is_fine (ending_with bytes line)) (string_bytes told.text) (bad_alone (ending_with bytes line)) 0 0 old new len status t.well t.text tells in
      record { ok = q.ok; bad_line = q.bad_line; no_room = q.no_room }

  pub tried_told : (told : Told) → Tries x line (Ok told) → Tells told.well (string_bytes told.text) 0 0 old new len status → is_of (0 ∷ 3 ∷ 16 ∷ []) status ≡ true
      → Tried x line old new len after status
  tried_told told h tells others = record {
    same = put;
    tells = λ bytes given k. told_end told tells bytes (h.1 bytes given k);
    wants = λ _. h.0;
    usage = λ e. absurd (off 2 e refl others);
    no_memory = λ e. absurd (off 6 e refl others);
    too_long = λ e. absurd (off 7 e refl others);
    closed = λ e. absurd (off 17 e refl others);
    others = among status others;
  }

  -- nothing is given
  none_told : (n : ℕ) → status ≡ n → is_of (0 ∷ 3 ∷ 16 ∷ []) n ≡ false → (bytes given : List ℕ) → TellsEnd (ending_with bytes line) old new len status
  none_told n is out bytes given = record {
    ok = λ e. absurd (off n is out (ap (is_of (0 ∷ 3 ∷ 16 ∷ [])) e));
    bad_line = λ e. absurd (off n is out (ap (is_of (0 ∷ 3 ∷ 16 ∷ [])) e));
    no_room = λ e. absurd (off n is out (ap (is_of (0 ∷ 3 ∷ 16 ∷ [])) e));
  }

  pub tried_not : (fault : SessionFault) → RefusesLine x line fault → GaveNothing old new len → status ≡ status_of fault → Tried x line old new len after status
  tried_not faults.Ended h none is = record {
    same = put;
    tells = λ bytes given k. none_told 17 is refl bytes given;
    wants = λ e. absurd (off 17 is refl e);
    usage = λ e. absurd (omega (arith, e, is));
    no_memory = λ e. absurd (omega (arith, e, is));
    too_long = λ e. absurd (omega (arith, e, is));
    closed = λ e. (h, none);
    others = ap (is_of (0 ∷ 2 ∷ 3 ∷ 6 ∷ 7 ∷ 16 ∷ 17 ∷ [])) is;
  }
  tried_not faults.Misplaced h none is = record {
    same = put;
    tells = λ bytes given k. none_told 2 is refl bytes given;
    wants = λ e. absurd (off 2 is refl e);
    usage = λ e. (h, none);
    no_memory = λ e. absurd (omega (arith, e, is));
    too_long = λ e. absurd (omega (arith, e, is));
    closed = λ e. absurd (omega (arith, e, is));
    others = ap (is_of (0 ∷ 2 ∷ 3 ∷ 6 ∷ 7 ∷ 16 ∷ 17 ∷ [])) is;
  }
  tried_not faults.TooLong h none is = record {
    same = put;
    tells = λ bytes given k. none_told 7 is refl bytes given;
    wants = λ e. absurd (off 7 is refl e);
    usage = λ e. absurd (omega (arith, e, is));
    no_memory = λ e. absurd (omega (arith, e, is));
    too_long = λ e. (h, none);
    closed = λ e. absurd (omega (arith, e, is));
    others = ap (is_of (0 ∷ 2 ∷ 3 ∷ 6 ∷ 7 ∷ 16 ∷ 17 ∷ [])) is;
  }
  tried_not faults.NoMemory h none is = record {
    same = put;
    tells = λ bytes given k. none_told 6 is refl bytes given;
    wants = λ e. absurd (off 6 is refl e);
    usage = λ e. absurd (omega (arith, e, is));
    no_memory = λ e. none;
    too_long = λ e. absurd (omega (arith, e, is));
    closed = λ e. absurd (omega (arith, e, is));
    others = ap (is_of (0 ∷ 2 ∷ 3 ∷ 6 ∷ 7 ∷ 16 ∷ 17 ∷ [])) is;
  }

-- by a handle

module _ (h : Option Session) (line old new : List ℕ) (len : ℕ) (after : Option Session) (status : ℕ) where
  pub no_trial : h ≡ None → IsClosed old new len after status → TriesLine h line old new len after status
  no_trial is c = subst (λ (o : Option Session). TriesLine o line old new len after status) (sym is) c

  -- d is what the box holds
  module _ (x d : Session) (is : h ≡ Some x) (same : d ≡ x) where
    has : h ≡ Some d
    has = is ∙ ap (λ (s : Session). Some s) (sym same)

    put_back : after ≡ Some x → after ≡ Some d
    put_back put = put ∙ ap (λ (s : Session). Some s) (sym same)

    whole : Tried d line old new len after status → TriesLine h line old new len after status
    whole t = subst (λ (o : Option Session). TriesLine o line old new len after status) (sym has) t

    pub tries_told : (r : Result Told SessionFault) (told : Told) → Tries d line r → r ≡ Ok told → after ≡ Some x → Tells told.well (string_bytes told.text) 0 0 old new len status
        → is_of (0 ∷ 3 ∷ 16 ∷ []) status ≡ true → TriesLine h line old new len after status
    tries_told r told tries gives put tells others =
        whole (tried_told d line old new len after status (put_back put) told (subst (Tries d line) gives tries) tells others)

    pub tries_not : (r : Result Told SessionFault) (fault : SessionFault) → Tries d line r → r ≡ Err fault → after ≡ Some x → GaveNothing old new len → status ≡ status_of fault
        → TriesLine h line old new len after status
    tries_not r fault tries gives put none is =
        whole (tried_not d line old new len after status (put_back put) fault (subst (Tries d line) gives tries) none is)
