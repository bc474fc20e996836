-- The machine values of a handle.
use Rattle.std.proofs.Common.{◌≡◌, ℕ, Bool, true, false, List, [], ◌∷◌, ◌++◌, refl, subst, lit<}
use mathlib.Core.Bool.{◌&&◌}
use lib.Dec.{T}
use seplogic.Ra.Ura.{Ura}
use mir.Syntax.{ty_ptr, ty_bool}
use mir.Raw.{raw as bare}
use mir.Val.{Val, vptr, vbool, vstruct, of_list, has_ty, WT}
use base.Logic.{never, fst∗}
use types.Logic.{Logic, sem}
use types.Kit.{Item, Goal, Seq, Step, step, ‵, ◌$◌, drop, fsplit, fjoin, fpick, fpack, feq_i, feq_l}
use denote.RattleType.{RattleType, Valss}
use denote.Builtin.{RawPtr, bool}
use denote.Memory.{lone}
use denote.RawPtr.{Ptr, block_ptr, null_ptr, ptr_val, in_a_block}
use denote.Steps.{nothing}
use denote.Struct.Struct.{within}
use denote.Struct.Owning.{shape}
use Rattle.std.specs.declared.alloc.Global.{Global}
use Rattle.std.specs.declared.option.Option.{Option}
use Rattle.std.specs.declared.option.Option.TheVariants.{None, Some}
use Rattle.std.specs.contracts.impls.GlobalAllocator.TheImpl.{ghosts}
use Rattle.std.specs.Box.Ownership.{box_owns}
use Rattle.whole_texts.specs.declared.session.Session.{Session}
use Rattle.whole_texts.specs.contracts.session.Session.{the_row as R}
use Rattle.switchbr_c.specs.contracts.handle.Handle as handle
use Rattle.whole_texts.specs.Sessions.{IsSound}
use Rattle.switchbr_c.specs.Handles.{holds}
use Rattle.switchbr_c.proofs.Looses.{both, both_tt}

pub ptr_good : (p : Ptr) → T (has_ty ty_ptr (ptr_val p)) × WT (ptr_val p)
ptr_good null_ptr = (tt, record { fits = lit< tt })
ptr_good (block_ptr b o) = (tt, tt)

pub handle_good : (p : Ptr) (y : Bool) → T (has_ty ty_ptr (ptr_val p) && (has_ty ty_bool (vbool y) && true)) × WT (both (ptr_val p) (vbool y))
handle_good p y = (both_tt (has_ty ty_ptr (ptr_val p)) (has_ty ty_bool (vbool y)) (ptr_good p).0 tt, ((ptr_good p).1, (tt, tt)))

abbrev pub Handle : RattleType
Handle = handle.the_row

module _ {M : Type 1} {𝓤 : Ura M} {𝓛 : Logic 𝓤} {K : Type 0} {Γ : List (Item 𝓤)} {G : Goal 𝓤 𝓛.H} where
  pub handle_in : K → (p : Ptr) (y : Bool) (x : Option Session)
      → Step K 𝓛 (‵ (Handle.own_val (record { at = p; is_open = y; value = x }) (both (ptr_val p) (vbool y) ∷ [])) ∷ Γ) G (‵ (holds p y x) ∷ Γ) G
  handle_in t p y x = step (λ s. let v : Val = both (ptr_val p) (vbool y) in
      nothing t $ feq_i t (List Val) (vbool y ∷ []) (vbool y ∷ []) refl $ fjoin t $ feq_i t (List Val) (ptr_val p ∷ []) (ptr_val p ∷ []) refl $ fjoin t $
      feq_i t (List Val) (v ∷ []) (v ∷ []) refl $ fjoin t $
      fpack t (Valss (RawPtr ∷ bool ∷ [])) (within (shape handle.the_type) (p, (y, tt)) (v ∷ [])) (ptr_val p ∷ [], (vbool y ∷ [], tt)) $ fjoin t $ s)

  pub handle_out : K → (d : Handle.Denot) (vs : List Val) → (vs ≡ both (ptr_val d.at) (vbool d.is_open) ∷ [] → Seq K 𝓛 (‵ (holds d.at d.is_open d.value) ∷ Γ) G)
      → Seq K 𝓛 (‵ (Handle.own_val d vs) ∷ Γ) G
  handle_out t d vs k =
      fsplit t $ fpick t (λ vss. fsplit t $ feq_l t (λ ev. fsplit t $ feq_l t (λ ep. fsplit t $ feq_l t (λ eb. drop t $ k
      (subst (λ (ws : List Val). vs ≡ vstruct (of_list (ptr_val d.at ∷ (ws ++ []))) ∷ []) eb (subst (λ (ps : List Val). vs ≡ vstruct (of_list (ps ++ (vss.1.0 ++ []))) ∷ []) ep ev))))))

  held : K → (p : Ptr) (y : Bool) (x : Option Session) → (y ≡ false → x ≡ None → Seq K 𝓛 Γ G)
      → ((a : Global) (b o : ℕ) (e : Session) → p ≡ block_ptr b o → y ≡ true → x ≡ Some e → IsSound e → Seq K 𝓛 (‵ (box_owns (ghosts.dealloc_token a) R (block_ptr b o) e) ∷ Γ) G)
      → Seq K 𝓛 (‵ (holds p y x) ∷ Γ) G
  held t p true (Some e) none one =
      fsplit t $ fpick t (λ sound. drop t $ fpick t (λ a.
      in_a_block t p (λ q. box_owns (ghosts.dealloc_token a) R q e) (fst∗ 𝓤 (never 𝓤) (sem 𝓛 (ghosts.dealloc_token a (bare (lone R.mir)) null_ptr))) (λ b o is. one a b o e is refl refl sound)))
  held t p true None none one = fpick t (λ z. absurd z)
  held t p false None none one = drop t $ none refl refl
  held t p false (Some e) none one = fpick t (λ z. absurd z)

  -- nothing is kept, or a box
  pub either_held : K → (d : Handle.Denot) (vs : List Val) → (vs ≡ both (ptr_val d.at) (vbool false) ∷ [] → d.value ≡ None → Seq K 𝓛 Γ G)
      → ((a : Global) (b o : ℕ) (e : Session) → vs ≡ both (vptr b o) (vbool true) ∷ [] → d.value ≡ Some e → IsSound e → Seq K 𝓛 (‵ (box_owns (ghosts.dealloc_token a) R (block_ptr b o) e) ∷ Γ) G)
      → Seq K 𝓛 (‵ (Handle.own_val d vs) ∷ Γ) G
  either_held t d vs none one =
      handle_out t d vs (λ ws. held t d.at d.is_open d.value
      (λ off is. none (subst (λ (y : Bool). vs ≡ both (ptr_val d.at) (vbool y) ∷ []) off ws) is)
      (λ a b o e at on is sound. one a b o e (subst (λ (p : Ptr). vs ≡ both (ptr_val p) (vbool true) ∷ []) at (subst (λ (y : Bool). vs ≡ both (ptr_val d.at) (vbool y) ∷ []) on ws)) is sound))
