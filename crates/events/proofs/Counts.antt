-- No more than 62 events are kept, and no more than those are new, whatever a list holds: 0x11 and 0x12 carry at most 4 + 4·62 bytes (W-209
-- of document 02). By the ends that the definition holds both to. Assumes nothing.
use Prim.Native.Nat.{◌≤◌}
use native.Mathlib.Omega.{arith}
use Rattle.events.specs.declared.Events.{Events}
use Rattle.events.specs.Events.{kept_count, new_count}

pub kept_most : (e : Events) → kept_count e ≤ 62
kept_most e = omega arith

pub new_most : (e : Events) → new_count e ≤ 62
new_most e = omega arith
