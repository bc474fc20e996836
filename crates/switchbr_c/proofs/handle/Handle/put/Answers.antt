use Rattle.std.proofs.Common.{Option, Some, ap, sym, subst, ◌∙◌}
use Rattle.whole_texts.specs.declared.session.Session.{Session}
use Rattle.whole_texts.specs.Sessions.{IsSound}
use Rattle.switchbr_c.specs.declared.handle.Handle.{Handle}
use Rattle.switchbr_c.proofs.handle.Handle.put.Goals as goal

abbrev value_of : Handle → Option Session
value_of h = h.value

pub of-requires-2 : goal.of-requires-2
of-requires-2 c = subst IsSound (sym c.of.ensures) c.requires

pub returns : goal.returns
returns c = ap value_of c.replace.ensures.after ∙ c.of-2.ensures ∙ ap (λ (x : Session). Some x) c.of.ensures
