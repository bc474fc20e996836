-- What is made of a source.
use Rattle.std.proofs.Common.{◌≡◌, ℕ, Bool, true, false, not, ◌&&◌, cond, None, Some, refl, sym, ap, ap₂, ◌∙◌}
use Rattle.br_model.specs.Forward.Admission.{has_valid_source, vlan_of}
use Rattle.br_model.specs.Plane.Chip.{hit_in, hit_of, report, report_of}
use Rattle.br_model.specs.Control.Learning.{is_news, is_reserved, may_teach, teach_in}
use Rattle.br_model.specs.Table.Table.{Table}
use Rattle.br_model.specs.declared.frame.Head.{Head}

pub report-is : (t : Table) (port vid address : ℕ) (reserved so : Bool) → so ≡ (not reserved && (may_teach t port vid && is_news t (vid, address) port))
    → cond so (Some (vid, address)) None ≡ cond (not reserved) (report_of t port (teach_in t port (Some vid) address)) None
report-is t port vid address reserved so is = ap (λ b. cond b (Some (vid, address)) None) is ∙ by reserved (may_teach t port vid)
  where
    by : (r m : Bool) → cond (not r && (m && is_news t (vid, address) port)) (Some (vid, address)) None ≡ cond (not r) (report_of t port (cond m (Some (vid, address)) None)) None
    by true m = refl
    by false true = refl
    by false false = refl

pub report-of-frame : (t : Table) (port vid : ℕ) (head : Head) → has_valid_source head ≡ true → Some vid ≡ vlan_of t port head
    → cond (not (is_reserved t head)) (report_of t port (teach_in t port (Some vid) head.src)) None ≡ report t port head
report-of-frame t port vid head valid is =
    by (is_reserved t head)
    ∙ ap₂ (λ b o. report_of t port (cond (not (is_reserved t head) && b) (teach_in t port o head.src) None)) (sym valid) is
  where
    by : (r : Bool) → cond (not r) (report_of t port (teach_in t port (Some vid) head.src)) None ≡ report_of t port (cond (not r && true) (teach_in t port (Some vid) head.src) None)
    by true = refl
    by false = refl

pub hit-of-frame : (t : Table) (port vid : ℕ) (head : Head) → has_valid_source head ≡ true → Some vid ≡ vlan_of t port head → hit_in t port (Some vid) head.src ≡ hit_of t port head
hit-of-frame t port vid head valid is = ap₂ (λ b o. cond b (hit_in t port o head.src) None) (sym valid) is
