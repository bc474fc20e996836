-- One port of a set in a row, read and written.
use Rattle.std.proofs.Common.{◌≡◌, ℕ, zero, suc, ◌+◌, ◌*◌, ◌/◌, ◌%◌, ◌<◌, Bool, cond, get_or, sym, ap, ◌∙◌, arith}
use Rattle.std.specs.Prelude.{◌==◌}
use Rattle.std.specs.Int.{bit_at}
use Rattle.std.proofs.lemmas.Bool.{ne_eqb}
use Rattle.br_model.specs.Table.Domains.{port_places}
use Rattle.port_sets.specs.Numbers.{has_number}
use Rattle.port_sets.proofs.Numbers.{same_below}
use Rattle.port_sets.proofs.Words.{has-members}
use Rattle.chip_regs.specs.Rows.{field, with_field, bit_of}
use Rattle.chip_regs.proofs.Bits.{bit-written, field-bit}
use Rattle.chip_tables.specs.Rows.{words_from, ports_from, fan_of, port_of, is_on}
use Rattle.chip_tables.specs.Flags.{row_has_flag}
use Rattle.chip_tables.specs.Stands.{ports_where}
use Rattle.chip_tables.specs.Writing.{switched_fan}

word-at : (row j : ℕ) → j < 4 → get_or (words_from row 0) j 0 ≡ field row (64 * j) 64
word-at row zero low = ap (λ k. field row k 64) (let e : 0 ≡ 64 * 0 = omega arith in e)
word-at row (suc zero) low = ap (λ k. field row k 64) (let e : 0 + 64 ≡ 64 * 1 = omega arith in e)
word-at row (suc (suc zero)) low = ap (λ k. field row k 64) (let e : 0 + 128 ≡ 64 * 2 = omega arith in e)
word-at row (suc (suc (suc zero))) low = ap (λ k. field row k 64) (let e : 0 + 192 ≡ 64 * 3 = omega arith in e)
word-at row (suc (suc (suc (suc j)))) low = absurd (omega arith)

-- a port of the first set is a bit
pub port-on : (row q : ℕ) → q < port_places → has_number (ports_from row 0) q ≡ is_on row q
port-on row q low =
    has-members 4 (words_from row 0) q low
    ∙ ap (λ n. bit_at n (q % 64) == 1) (word-at row (q / 64) (omega arith))
    ∙ ap (λ n. n == 1) (field-bit row (64 * (q / 64)) 64 (q % 64) (omega arith))
    ∙ ap (is_on row) (let e : 64 * (q / 64) + q % 64 ≡ q = omega arith in e)

-- the row of a flood of which the bit of a port is written
pub fan-switched : (row port : ℕ) (on : Bool) → port < port_places → fan_of (with_field row port 1 (bit_of on)) ≡ switched_fan (fan_of row) port on
fan-switched row port on low = λ t. record { ports = ports t; isolated = behind 256 (omega arith) t; plain = behind 257 (omega arith) t }
  where
    ports : ports_from (with_field row port 1 (bit_of on)) 0 ≡ ports_where (λ q. cond (q == port) on (has_number (ports_from row 0) q))
    ports = same_below _ _ port_places (λ q within.
        sym (has-members 4 (words_from (with_field row port 1 (bit_of on)) 0) q within)
        ∙ port-on (with_field row port 1 (bit_of on)) q within
        ∙ bit-written row port q on
        ∙ ap (λ b. cond (q == port) on b) (sym (port-on row q within)))

    behind : (at : ℕ) → port < at → is_on (with_field row port 1 (bit_of on)) at ≡ is_on row at
    behind at after = bit-written row port at on ∙ ap (λ b. cond b on (is_on row at)) (ne_eqb at port (omega arith))

-- a flag of a port
pub flag-on : (row flag : ℕ) → flag < 6 → is_on row (4 + flag) ≡ row_has_flag (port_of row) flag
flag-on row flag low = sym (ap (λ n. n == 1) (field-bit row 4 6 flag low))
