-- What a pass comes to, by what its stages say.
use Rattle.std.proofs.Common.{◌≡◌, ℕ, true, false, ◌&&◌, ◌||◌, cond, Option, None, Some, List, [], refl, sym, ap, ap₂, ◌∙◌}
use Rattle.port_sets.specs.Numbers.{IsSetBelow, has_number}
use Rattle.port_sets.proofs.Numbers.{filter-set, same_below}
use Rattle.br_model.specs.Forward.Admission.{admit}
use Rattle.br_model.specs.Forward.Class.{class, class_by, crosses, is_snooped, is_trapped_in, reaches_host}
use Rattle.br_model.specs.Table.Domains.{Domains, port_places}
use Rattle.br_model.specs.Forward.Eligible.{untagged}
use Rattle.br_model.specs.Forward.Leave.{egress_ports, ports_in, ports_out}
use Rattle.br_model.specs.Forward.Untagged.{untagged_among}
use Rattle.br_model.specs.Table.Table.{Table}
use Rattle.br_model.specs.Forward.Targets.{to_tree}
use Rattle.br_model.specs.declared.frame.Class.{Class}
use Rattle.br_model.specs.declared.frame.Class.TheVariants.{Drop, Trap}
use Rattle.br_model.specs.declared.frame.Head.{Head}
use Rattle.br_model.specs.declared.frame.McastMsg.{McastMsg}
use Rattle.chip_tables.specs.Rows.{Rows, vlan_at}
use Rattle.chip_tables.specs.Stands.{IsVid, Stands, ports_where}
use Rattle.chip_pipeline.specs.declared.answer.Sent.{Sent}
use Rattle.chip_pipeline.specs.declared.egress.Out.{Out}
use Rattle.chip_pipeline.specs.Outs.{IsOut}
use Rattle.chip_pipeline.specs.Passed.{IsSent, chip_ports_by}
use Rattle.chip_pipeline.specs.Ways.{leaves_chip}
use Rattle.chip_pipeline.proofs.Reading.{untagged-is}

-- ---- classes

tree-class : (d : Domains) (t : Table) (p : ℕ) (head : Head) (msg : McastMsg) → to_tree t p head ≡ true → Trap ≡ class d t p head msg
tree-class d t p head msg tree = sym (ap (λ b. cond (b || is_trapped_in d t p (admit t p head) head msg) Trap (class_by d p (ports_out t p head msg))) tree)

snooped-class : (d : Domains) (t : Table) (p vid : ℕ) (head : Head) (msg : McastMsg) → to_tree t p head ≡ false → Some vid ≡ admit t p head → (t.snoop && is_snooped msg) ≡ true
    → Trap ≡ class d t p head msg
snooped-class d t p vid head msg other admitted caught =
    sym
    (ap₂ (λ b o. cond (b || is_trapped_in d t p o head msg) Trap (class_by d p (ports_out t p head msg))) other (sym admitted)
    ∙ ap (λ b. cond (b || (reaches_host t p vid head || crosses d t p vid head)) Trap (class_by d p (ports_out t p head msg))) caught)

none-out : (t : Table) (p : ℕ) (head : Head) (msg : McastMsg) → to_tree t p head ≡ false → None ≡ admit t p head → [] ≡ ports_out t p head msg
unfolding ports_out
none-out t p head msg other none = sym (ap₂ (λ b o. cond b [] (ports_in t p o head msg)) other (sym none))

none-class : (d : Domains) (t : Table) (p : ℕ) (head : Head) (msg : McastMsg) → to_tree t p head ≡ false → None ≡ admit t p head → Drop ≡ class d t p head msg
none-class d t p head msg other none =
    ap (λ (qs : List ℕ). class_by d p qs) (none-out t p head msg other none)
    ∙ sym (ap₂ (λ b o. cond (b || is_trapped_in d t p o head msg) Trap (class_by d p (ports_out t p head msg))) other (sym none))

-- ---- what is sent

no-ports : (t : Table) (vid : Option ℕ) → [] ≡ untagged_among t vid []
no-ports t None = refl
no-ports t (Some vid) = refl

nowhere : (d : Domains) (t : Table) (p : ℕ) (head : Head) (msg : McastMsg) (cls : Class) (vid : Option ℕ) (sent : Sent) → sent ≡ record { class = cls; vid = vid; ports = []; untagged = [] }
    → cls ≡ class d t p head msg → vid ≡ admit t p head → ((out : List ℕ) → [] ≡ chip_ports_by cls d p out) → IsSent d t p head msg sent
nowhere d t p head msg cls vid sent is cls_is vid_is none = record {
  class = ap (λ (s : Sent). s.class) is ∙ cls_is;
  vid = ap (λ (s : Sent). s.vid) is ∙ vid_is;
  ports = ap (λ (s : Sent). s.ports) is ∙ none (ports_out t p head msg) ∙ ap (λ c. chip_ports_by c d p (ports_out t p head msg)) cls_is;
  untagged = ap (λ (s : Sent). s.untagged) is ∙ no-ports t vid ∙ sym (ap (λ (s : Sent). untagged_among t s.vid s.ports) is);
}

pub tree-sent : (d : Domains) (t : Table) (p : ℕ) (head : Head) (msg : McastMsg) (vid : Option ℕ) (sent : Sent) → sent ≡ record { class = Trap; vid = vid; ports = []; untagged = [] }
    → to_tree t p head ≡ true → vid ≡ admit t p head
    → IsSent d t p head msg sent
tree-sent d t p head msg vid sent is tree admitted = nowhere d t p head msg Trap vid sent is (tree-class d t p head msg tree) admitted (λ out. refl)

pub snooped-sent : (d : Domains) (t : Table) (p vid : ℕ) (head : Head) (msg : McastMsg) (sent : Sent) → sent ≡ record { class = Trap; vid = Some vid; ports = []; untagged = [] }
    → to_tree t p head ≡ false → Some vid ≡ admit t p head
    → (t.snoop && is_snooped msg) ≡ true → IsSent d t p head msg sent
snooped-sent d t p vid head msg sent is other admitted caught = nowhere d t p head msg Trap (Some vid) sent is (snooped-class d t p vid head msg other admitted caught) admitted (λ out. refl)

pub none-sent : (d : Domains) (t : Table) (p : ℕ) (head : Head) (msg : McastMsg) (sent : Sent) → sent ≡ record { class = Drop; vid = None; ports = []; untagged = [] } → to_tree t p head ≡ false
    → None ≡ admit t p head
    → IsSent d t p head msg sent
none-sent d t p head msg sent is other none = nowhere d t p head msg Drop None sent is (none-class d t p head msg other none) none (λ out. refl)

-- ---- what goes out

out-is : (t : Table) (p vid : ℕ) (head : Head) (msg : McastMsg) → to_tree t p head ≡ false → Some vid ≡ admit t p head → egress_ports t p vid head msg ≡ ports_out t p head msg
unfolding ports_out
out-is t p vid head msg other admitted = sym (ap₂ (λ b o. cond b [] (ports_in t p o head msg)) other (sym admitted))

class-is : (d : Domains) (t : Table) (p vid : ℕ) (head : Head) (msg : McastMsg) (out : Out) → to_tree t p head ≡ false → Some vid ≡ admit t p head → (t.snoop && is_snooped msg) ≡ false
    → IsOut d t p vid head msg out
    → out.class ≡ class d t p head msg
class-is d t p vid head msg out other admitted free is =
    is.class
    ∙ ap (λ (qs : List ℕ). cond (leaves_chip d t p vid head) Trap (class_by d p qs)) (out-is t p vid head msg other admitted)
    ∙ sym
    (ap₂ (λ b o. cond (b || is_trapped_in d t p o head msg) Trap (class_by d p (ports_out t p head msg))) other (sym admitted)
    ∙ ap (λ b. cond (b || leaves_chip d t p vid head) Trap (class_by d p (ports_out t p head msg))) free)

pub out-sent : (d : Domains) (dom : ℕ) (rows : Rows) (t : Table) (p vid : ℕ) (head : Head) (msg : McastMsg) (out : Out) (plain both : List ℕ) → Stands d dom rows t → IsVid vid
    → to_tree t p head ≡ false → Some vid ≡ admit t p head
    → (t.snoop && is_snooped msg) ≡ false → IsOut d t p vid head msg out → IsSetBelow port_places out.ports → plain ≡ (vlan_at rows vid).untagged
    → both ≡ ports_where (λ q. has_number out.ports q && has_number plain q) → IsSent d t p head msg (record { class = out.class; vid = Some vid; ports = out.ports; untagged = both })
out-sent d dom rows t p vid head msg out plain both stands range other admitted free is ascending plain_is both_is =
    let cls = class-is d t p vid head msg out other admitted free is in
    record {
      class = cls;
      vid = admitted;
      ports = is.ports ∙ ap₂ (λ c (qs : List ℕ). chip_ports_by c d p qs) cls (out-is t p vid head msg other admitted);
      untagged =
          both_is
          ∙ same_below _ _ port_places (λ q low. ap (λ b. has_number out.ports q && b) (ap (λ (ns : List ℕ). has_number ns q) plain_is ∙ untagged-is d dom t rows stands vid q range low))
          ∙ sym (filter-set port_places out.ports (λ q. untagged t q vid) ascending);
    }
