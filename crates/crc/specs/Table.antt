-- A table of sixteen numbers: entry n is n after four shifts.
-- Assumes nothing.
use Rattle.std.specs.Prelude.{◌≡◌, List, ℕ, ◌<◌, get_or}
use Rattle.crc.specs.Crc.{times}

pub record Shifted (table : List ℕ) : Type 0 where
  pub entry : (n : ℕ) → n < 16 → get_or table n 0 ≡ times 4 n
