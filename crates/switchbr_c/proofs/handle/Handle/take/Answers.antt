use Rattle.std.proofs.Common.{Option, Some, ap, sym, subst, ◌∙◌}
use Rattle.whole_texts.specs.declared.session.Session.{Session}
use Rattle.whole_texts.specs.Sessions.{IsSound}
use Rattle.switchbr_c.specs.declared.handle.Handle.{Handle}
use Rattle.switchbr_c.proofs.handle.Handle.take.Goals as goal

abbrev value_of : Handle → Option Session
value_of h = h.value

pub returns-in-Some-clause-none : goal.returns-in-Some-clause-none
returns-in-Some-clause-none c = ap value_of c.replace.ensures.after ∙ c.none.ensures

pub returns-in-Some-clause-taken : goal.returns-in-Some-clause-taken
returns-in-Some-clause-taken c = (
  sym (ap value_of c.replace.ensures.value) ∙ c.in-Some.ensures.0 ∙ ap (λ (x : Session). Some x) (sym c.into_box.ensures),
  subst IsSound (sym c.into_box.ensures) c.in-Some.ensures.1,
)

pub returns-in-None-clause-none : goal.returns-in-None-clause-none
returns-in-None-clause-none c = ap value_of c.replace.ensures.after ∙ c.none.ensures

pub returns-in-None-clause-taken : goal.returns-in-None-clause-taken
returns-in-None-clause-taken c = sym (ap value_of c.replace.ensures.value) ∙ c.in-None.ensures
