-- The ports of a chip's share.
use Rattle.std.proofs.Common.{◌≡◌, ℕ, true, false, List, [], ◌∷◌, map, None, Some, refl, sym, ap, ap₂, ◌∙◌}
use Rattle.std.specs.Prelude.{Bool, not, if◌then◌else◌}
use Rattle.std.specs.List.{filter}
use Rattle.std.specs.declared.option.Option.{Option}
use Rattle.br_model.specs.declared.frame.Class.{Class}
use Rattle.br_model.specs.declared.frame.Class.TheVariants.{Drop, Trap, Copy, Forward}
use Rattle.br_model.specs.declared.frame.Head.{Head}
use Rattle.br_model.specs.declared.frame.McastMsg.{McastMsg}
use Rattle.br_model.specs.Forward.Admission.{admit}
use Rattle.br_model.specs.Forward.Class.{class}
use Rattle.br_model.specs.Forward.Leave.{dressed_in, leave, ports_in, ports_out}
use Rattle.br_model.specs.Forward.Shares.{chip_out, chip_out_by}
use Rattle.br_model.specs.Forward.Targets.{to_tree}
use Rattle.br_model.specs.Table.Domains.{Domains, foreign}
use Rattle.br_model.specs.Table.Table.{Table}
use Rattle.br_model.specs.Wire.Messages.{message}
use Rattle.forward_rules.specs.declared.soft_tables.Verdict.{Verdict}
use Rattle.forward_rules.specs.Decided.{Decides}
use Rattle.plane_parts.specs.Sent.{share_of}

-- of ports with their bytes, those whose ports pass
pub firsts_passed : (p : ℕ → Bool) (out : List (ℕ × List ℕ)) → map (λ x. x.0) (filter (λ x. p x.0) out) ≡ filter p (map (λ x. x.0) out)
firsts_passed p [] = refl
firsts_passed p (x ∷ out) =
    (elim (p x.0) as (λ b. map (λ (y : ℕ × List ℕ). y.0) (if b then x ∷ filter (λ y. p y.0) out else filter (λ y. p y.0) out)
    ≡ (if b then x.0 ∷ filter p (map (λ y. y.0) out) else filter p (map (λ y. y.0) out))) [
      | true ↦ ap (λ ps. x.0 ∷ ps) (firsts_passed p out)
      | false ↦ firsts_passed p out
    ])

-- the ports of a frame that is dressed for some ports
pub firsts_dressed : (t : Table) (vid : ℕ) (ports : List ℕ) (bytes : List ℕ) (head : Head) → map (λ x. x.0) (dressed_in t (Some vid) ports bytes head) ≡ ports
firsts_dressed t vid [] bytes head = refl
firsts_dressed t vid (q ∷ ports) bytes head = ap (λ ps. q ∷ ps) (firsts_dressed t vid ports bytes head)

-- where no VLAN is, nothing leaves
pub firsts_in : (t : Table) (port : ℕ) (vid : Option ℕ) (bytes : List ℕ) (head : Head) (msg : McastMsg) (tree : Bool)
    → map (λ x. x.0) (dressed_in t vid (if tree then [] else ports_in t port vid head msg) bytes head) ≡ (if tree then [] else ports_in t port vid head msg)
firsts_in t port None bytes head msg true = refl
firsts_in t port None bytes head msg false = refl
firsts_in t port (Some vid) bytes head msg tree = firsts_dressed t vid (if tree then [] else ports_in t port (Some vid) head msg) bytes head

pub firsts_leave : (t : Table) (port : ℕ) (bytes : List ℕ) (head : Head) → map (λ x. x.0) (leave t port bytes head) ≡ ports_out t port head (message bytes head)
unfolding leave ports_out
firsts_leave t port bytes head = firsts_in t port (admit t port head) bytes head (message bytes head) (to_tree t port head)

pub firsts_by : (c : Class) (domains : Domains) (port : ℕ) (out : List (ℕ × List ℕ)) → map (λ x. x.0) (chip_out_by c domains port out) ≡ share_of domains port c (map (λ x. x.0) out)
firsts_by Drop domains port out = refl
firsts_by Trap domains port out = refl
firsts_by Copy domains port out = firsts_passed (λ q. not (foreign domains port q)) out
firsts_by Forward domains port out = firsts_passed (λ q. not (foreign domains port q)) out

-- what is decided, as the chip's deed
pub deed_ports : (domains : Domains) (t : Table) (port : ℕ) (bytes : List ℕ) (head : Head) (v : Verdict) → Decides domains t port head (message bytes head) v
    → share_of domains port v.class v.ports ≡ map (λ x. x.0) (chip_out domains t port bytes head)
deed_ports domains t port bytes head v d =
    ap₂ (λ c ps. share_of domains port c ps) d.class d.ports
    ∙ ap (share_of domains port (class domains t port head (message bytes head))) (sym (firsts_leave t port bytes head))
    ∙ sym (firsts_by (class domains t port head (message bytes head)) domains port (leave t port bytes head))
