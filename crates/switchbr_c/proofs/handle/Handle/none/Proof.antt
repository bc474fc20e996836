-- `none` owns nothing.
use Rattle.std.proofs.Common.{◌≡◌, [], ◌∷◌, false, refl}
use mir.Val.{Val, vbool}
use base.Logic.{SProp, emp}
use types.Kit.{raw, ◌$◌, ◌∵◌, !, qed, by, drop, use0}
use types.Run.{lit, of_opd, false_lit, no_more, and_then, returns, enter}
use types.ByLocal.{alloc_all, pass_all, free_all, look_at, get, sets}
use types.Part.{agg}
use contract.Monad.{fact, fact_i}
use contract.Running.{tables}
use denote.RawPtr.{null_ptr, ptr_val}
use denote.Steps.{nothing}
use denote.Triple.Walked.{Stays, walk_of}
use Rattle.std.specs.declared.option.Option.TheVariants.{None}
use Rattle.std.proofs.raw_atomic.Walks.{proved_at, leaves}
use Rattle.switchbr_c.proofs.Looses.{both}
use Rattle.switchbr_c.proofs.Handles.{handle_good, handle_in, ptr_good}
use Rattle.switchbr_c.specs.contracts.handle.Handle.none as f
use Rattle.switchbr_c.proofs.handle.Handle.none.Statement.{statement}
use Rattle.switchbr_c.proofs.handle.Handle.none.Code as code

abbrev stayed : Stays f.ended.signature.params f.ended.kept
stayed = tt

pub none_spec : {M : Type 1} → statement M
none_spec 𝓤 𝓛 𝓜 𝓡 wired =
    let H = 𝓛.H in let 𝓣 = tables 𝓤 H 𝓜 𝓡 𝓡.env in let c = f.clauses 𝓛 𝓜.mem 𝓡.returns in let fn = code.function in
    proved_at 𝓛 f.ended stayed c 𝓜 𝓡 tt f.Key.name fn (code.unfolded 𝓤 H 𝓜 𝓡 wired) (λ z are.
    let Post : Val → SProp 𝓤 = (walk_of 𝓛 f.ended stayed c).post z in
    qed 𝓛 (raw ((walk_of 𝓛 f.ended stayed c).pre z) ∷ []) ∵ drop ! $
    enter ! 𝓣.C 𝓣.Λ fn [] Post $ alloc_all ! (λ l. pass_all ! refl tt $
    sets ! (of_opd ! (lit ! tt)) refl (ptr_good null_ptr) $
    sets ! (agg ! (and_then ! (get ! refl) (and_then ! (false_lit !) (no_more !)))) refl (handle_good null_ptr false) $
    returns ! (look_at ! 0 refl) $ free_all ! refl $ use0 𝓛 (raw (fact 𝓤 (None ≡ None))) (fact_i 𝓤 (None ≡ None) (emp 𝓤) refl) $
    nothing ! $ handle_in ! null_ptr false None $ nothing ! $ nothing ! $
    by ! (leaves 𝓛 f.ended stayed c z (both (ptr_val null_ptr) (vbool false)) (record { at = null_ptr; is_open = false; value = None }) tt tt)))
