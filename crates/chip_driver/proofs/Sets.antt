-- Sets of ports, told by tests.
use Rattle.std.proofs.Common.{◌≡◌, ◌≢◌, ⊎_elim, ℕ, ◌<◌, Bool, true, false, cond, List, sym, ap, ◌∙◌}
use Rattle.std.specs.Prelude.{◌==◌}
use Rattle.std.proofs.lemmas.Bool.{ne_eqb}
use Rattle.std.proofs.lemmas.Bool.Decides.{eqb_tells}
use Rattle.br_model.specs.Table.Domains.{port_places}
use Rattle.port_sets.specs.Numbers.{has_number}
use Rattle.port_sets.proofs.Numbers.{same_below}
use Rattle.vlan_groups.proofs.UsedSets.{has-numbers}
use Rattle.chip_tables.specs.Stands.{ports_where}
use Rattle.chip_driver.specs.Shadows.{Has}

-- a set of the ports that pass has just these
pub has-where : (set : List ℕ) (test : ℕ → Bool) → set ≡ ports_where test → Has set test
has-where set test is = has-numbers port_places set test is

pub same_ports : (p q : ℕ → Bool) → ((m : ℕ) → m < port_places → p m ≡ q m) → ports_where p ≡ ports_where q
same_ports p q h = same_below p q port_places h

-- a set of which one port is switched
pub has_switched : (set old : List ℕ) (p : ℕ) (on : Bool) (test test' : ℕ → Bool) → set ≡ ports_where (λ q. cond (q == p) on (has_number old q)) → Has old test → on ≡ test' p
    → ((q : ℕ) → q ≢ p → test' q ≡ test q) → Has set test'
has_switched set old p on test test' is has at_p other q low =
    has-where set _ is q low
    ∙ ⊎_elim
    (λ (same : ((q == p) ≡ true) × (q ≡ p)). ap (λ b. cond b on (has_number old q)) same.0 ∙ at_p ∙ ap test' (sym same.1))
    (λ (apart : ((q == p) ≡ false) × (q ≢ p)). ap (λ b. cond b on (has_number old q)) apart.0 ∙ has q low ∙ sym (other q apart.1))
    (eqb_tells q p)

pub switched_other : (set old : List ℕ) (p : ℕ) (on : Bool) → set ≡ ports_where (λ q. cond (q == p) on (has_number old q)) → (q : ℕ) → q < port_places → q ≢ p → has_number old q ≡ has_number set q
switched_other set old p on is q low other = sym (has-where set _ is q low ∙ ap (λ b. cond b on (has_number old q)) (ne_eqb q p other))
