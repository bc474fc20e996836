-- Which addresses are forgotten: learned ones when they get old, a chip's when the chip sees them no more.
-- Source: IEEE 802.1D-1998 section 7.9.2 (ageing), the kernel's br_fdb_cleanup, and its switchdev.rst and
-- br_fdb_external_learn_del (a chip ages its own entries).
use Rattle.std.specs.Prelude.{ℕ, ◌+◌, nat_le, Bool, false, ◌&&◌, List, map}
use Rattle.std.specs.List.{filter}
use Rattle.std.specs.Option.{option_map_or, unwrap_or}
use Rattle.br_model.specs.declared.change.Change.{Change}
use Rattle.br_model.specs.declared.change.Change.TheVariants.{AddrDel}
use Rattle.br_model.specs.Control.Control.{Control}
use Rattle.br_model.specs.Control.Learning.{Address, Triple, address_of, is_extern_at, is_learned}
use Rattle.br_model.specs.Data.Maps.{pair_cmp, get}
use Rattle.br_model.specs.Table.Table.{Table}
use Rattle.br_model.specs.Tree.Timers.{hold}

-- How long a learned entry stays that no frame renews, in milliseconds: the ageing time; while a topology change is on, the
-- forward delay in use (IEEE 802.1D-1998 section 8.3.5).
abbrev pub stay : Control → ℕ
stay c = unwrap_or (hold c.tree) c.ageing

-- whether the time of the entry is over at the moment, where entries stay so long
abbrev pub is_old : ℕ → ℕ → List (Address × ℕ) → Address → Bool
is_old now stay updated key = option_map_or (λ moment. nat_le (moment + stay) now) (get pair_cmp updated key) false

-- the entries that expire at the last moment, ascending
abbrev pub expired : Table → Control → List Address
expired t c = map (λ e. e.0) (filter (λ e. is_learned e.1.1 && is_old c.now (stay c) c.updated e.0) t.addr)

abbrev pub forgets : List Address → List Change
forgets keys = map (λ k. AddrDel k.0 k.1) keys

-- those of the stations that the bridge still has from a chip, at that port. A station that is named twice is there twice; a chip
-- names none twice.
abbrev pub forgotten : Table → List Triple → List Address
forgotten t triples = map address_of (filter (λ x. is_extern_at t (address_of x) x.2) triples)
