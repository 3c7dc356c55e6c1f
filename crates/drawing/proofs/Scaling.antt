-- A share is no more than all parts, and is the same where what is shared is held to the longest whole; a scale from its parts.
-- Assumes nothing.
use Prim.Native.Nat.{ℕ, ◌*◌, ◌/◌, ◌≤◌}
use native.Mathlib.Nat.{mul-le-mul_right, div-le_of_le-mul}

pub share_most : {all held : ℕ} (parts : ℕ) → held ≤ all → held * parts / all ≤ parts
share_most {all} parts h = div-le_of_le-mul all (mul-le-mul_right parts h)
