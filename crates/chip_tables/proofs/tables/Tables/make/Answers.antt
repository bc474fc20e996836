use Rattle.std.proofs.Common.{ap}
use Rattle.std.proofs.lemmas.Result.{IfOk-from_err}
use Rattle.open_addressing.specs.Finite.{Table}
use Rattle.open_addressing.specs.Pairs.{by_pair}
use Rattle.chip_tables.specs.declared.rows.AddressRow.{AddressRow}
use Rattle.chip_tables.specs.declared.rows.FanRow.{FanRow}
use Rattle.chip_tables.specs.GroupCells.{by_group}
use Rattle.chip_tables.specs.Writing.{IsBlank}
use Rattle.chip_tables.proofs.tables.Tables.make.Goals as goal

pub returns-in_err-make-5 : goal.returns-in_err-make-5
returns-in_err-make-5 c = IfOk-from_err c.from_residual-in_err-make-5.result IsBlank c.from_residual-in_err-make-5.ensures.0

pub returns-in_err-make-6 : goal.returns-in_err-make-6
returns-in_err-make-6 c = IfOk-from_err c.from_residual-in_err-make-6.result IsBlank c.from_residual-in_err-make-6.ensures.0

pub returns : goal.returns
returns c = record {
  vlans = c.in_ok-make.ensures;
  unicast = c.in_ok-make-2.ensures;
  mcast = c.in_ok-make-3.ensures;
  bcast = c.in_ok-make-4.ensures;
  routers = c.in_ok-make-5.ensures;
  ports = c.in_ok-make-6.ensures;
  traps = c.in_ok-make-7.ensures;
  control = c.in_ok-make-8.ensures;
  addresses = ap (λ (t : Table AddressRow). by_pair t.entries) c.in_ok-make-9.ensures;
  groups = ap (λ (t : Table FanRow). by_group t.entries) c.in_ok-make-10.ensures;
}
