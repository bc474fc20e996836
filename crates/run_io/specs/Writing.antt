-- Text that waits to be written.
use Rattle.std.specs.Prelude.{ℕ}

-- from how many bytes on it is to be written
abbrev pub full_length : ℕ
full_length = 65536
