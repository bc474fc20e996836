-- What a table decides of a frame.
use Rattle.std.specs.Prelude.{◌≡◌, ℕ}
use Rattle.br_model.specs.declared.frame.Head.{Head}
use Rattle.br_model.specs.declared.frame.McastMsg.{McastMsg}
use Rattle.br_model.specs.Forward.Admission.{admit}
use Rattle.br_model.specs.Forward.Class.{class}
use Rattle.br_model.specs.Forward.Leave.{ports_out}
use Rattle.br_model.specs.Forward.Untagged.{untagged_among}
use Rattle.br_model.specs.Table.Domains.{Domains}
use Rattle.br_model.specs.Table.Table.{Table}
use Rattle.forward_rules.specs.declared.soft_tables.Verdict.{Verdict}

-- the verdict is what this table decides of a frame at the port
pub record Decides (domains : Domains) (t : Table) (port : ℕ) (head : Head) (msg : McastMsg) (verdict : Verdict) : Type 0 where
  pub class : verdict.class ≡ class domains t port head msg
  pub vid : verdict.vid ≡ admit t port head
  pub ports : verdict.ports ≡ ports_out t port head msg
  pub untagged : verdict.untagged ≡ untagged_among t verdict.vid verdict.ports
