-- Not to be believed: what a byte more makes of a receiver's array and its count, told apart.
-- Assumes nothing.
use Rattle.std.specs.Prelude.{List, ◌≡◌, ℕ}
use Rattle.receiver.specs.declared.Receiver.{Receiver}
use Rattle.receiver.specs.Receiver.{with_byte}

pub record Takes (before : List ℕ) (count byte after-count : ℕ) (after : List ℕ) : Type 0 where
  pub takes : ◌≡◌ {A = Receiver} (record { bytes = after; count = after-count }) (with_byte (record { bytes = before; count = count }) byte)
