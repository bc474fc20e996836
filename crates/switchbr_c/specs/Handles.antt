-- What a handle owns.
use Rattle.std.specs.Prelude.{Bool, true, false}
use Rattle.std.specs.declared.option.Option.{Option}
use Rattle.std.specs.declared.option.Option.TheVariants.{None, Some}
use base.Fml.{Fml, ftrue, fsep, fex}
use denote.RawPtr.{Ptr}
use Rattle.std.specs.declared.alloc.Global.{Global}
use Rattle.std.specs.Box.Ownership.{box_owns}
use Rattle.std.specs.contracts.impls.GlobalAllocator.TheImpl.{ghosts}
use Rattle.whole_texts.specs.declared.session.Session.{Session}
use Rattle.whole_texts.specs.contracts.session.Session.{the_row}
use Rattle.whole_texts.specs.Sessions.{IsSound}

-- nothing, or a box with a session
abbrev pub holds : Ptr → Bool → Option Session → Fml
holds at true (Some x) = fsep (fex (IsSound x) (λ _. ftrue)) (fex Global (λ alloc. box_owns (ghosts.dealloc_token alloc) the_row at x))
holds at true None = fex ⊥ (λ _. ftrue)
holds at false None = ftrue
holds at false (Some x) = fex ⊥ (λ _. ftrue)
