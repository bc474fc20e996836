-- What an address behind a port comes to.
use Rattle.std.specs.Prelude.{ℕ, ◌≡◌, Bool, ◌&&◌, ◌||◌, if◌then◌else◌}
use Rattle.std.specs.declared.option.Option.{Option}
use Rattle.br_model.specs.declared.change.Change.TheVariants.{AddrPut}
use Rattle.br_model.specs.declared.change.Kind.TheVariants.{Learned, Extern}
use Rattle.br_model.specs.declared.frame.Head.{Head}
use Rattle.br_model.specs.Control.Control.{Control, renewed}
use Rattle.br_model.specs.Control.Course.{from}
use Rattle.br_model.specs.Control.Learning.{Address, is_learned_at, is_news, is_renewed, may_teach}
use Rattle.br_model.specs.Control.Reaction.{learns, learns_of}
use Rattle.br_model.specs.Table.Domains.{Domains}
use Rattle.br_model.specs.Table.Setup.{Setup}
use Rattle.br_model.specs.Table.Limits.{fits}
use Rattle.br_model.specs.Table.Table.{Table}
use Rattle.bridge_state.specs.declared.learning.Lesson.{Lesson}
use Rattle.bridge_state.specs.declared.learning.Lesson.TheVariants.{Known, Renewed, News}

-- the bridge of these domains and this address
abbrev pub of_bridge : Domains → ℕ → Setup
of_bridge domains own = record { domains = domains; own = own }

-- The frame teaches this address, where it teaches one: with these domains, whatever the control state is.
abbrev pub IsTaught : Domains → Table → ℕ → Head → Option Address → Type 0
IsTaught domains t port head key =
    (own : ℕ) (c : Control) → learns_of (of_bridge domains own) port head (from t c) ≡ learns port key (from t c)

abbrev pub lesson_of : Table → Address → ℕ → Lesson
lesson_of t key port =
    if is_renewed t key port then Renewed else
    if is_news t key port && fits t (AddrPut key.0 key.1 port Learned) then News else
    Known

-- the control state, where the entry is renewed that the lesson is of
abbrev pub renewed_by : Lesson → Address → Control → Control
renewed_by Known key c = c
renewed_by Renewed key c = renewed c key
renewed_by News key c = c

-- whether the report of a chip that the address is behind the port changes its entry
abbrev pub is_taken : Table → Address → ℕ → Bool
is_taken t key port =
    (may_teach t port key.0 && (is_news t key port || is_learned_at t key port)) && fits t (AddrPut key.0 key.1 port Extern)
