-- Queriers as two flags.
use Rattle.std.proofs.Common.{◌≡◌, Bool, true, false, refl}
use Rattle.std.specs.Ordering.{nat_cmp}
use Rattle.br_model.specs.Data.Maps.{has}
use Rattle.br_model.specs.Table.Table.{ip_version, switched}
use Rattle.mdb_snoop.specs.Database.{versions}

pub sets-six : (on four six : Bool) → versions four on ≡ switched on (versions four six) (ip_version true)
sets-six true true true = refl
sets-six true true false = refl
sets-six true false true = refl
sets-six true false false = refl
sets-six false true true = refl
sets-six false true false = refl
sets-six false false true = refl
sets-six false false false = refl

pub sets-four : (on four six : Bool) → versions on six ≡ switched on (versions four six) (ip_version false)
sets-four true true true = refl
sets-four true true false = refl
sets-four true false true = refl
sets-four true false false = refl
sets-four false true true = refl
sets-four false true false = refl
sets-four false false true = refl
sets-four false false false = refl

pub has-six : (four six : Bool) → six ≡ has nat_cmp (versions four six) (ip_version true)
has-six true true = refl
has-six true false = refl
has-six false true = refl
has-six false false = refl

pub has-four : (four six : Bool) → four ≡ has nat_cmp (versions four six) (ip_version false)
has-four true true = refl
has-four true false = refl
has-four false true = refl
has-four false false = refl
