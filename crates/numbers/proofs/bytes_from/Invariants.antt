-- Each byte so far is that of its place. Assumes nothing.
use Rattle.std.proofs.Common.{◌≡◌, ℕ, ◌+◌, ◌<◌, length, get_or}
use Rattle.numbers.proofs.bytes_from.Given as goal

abbrev pub invariant-loop-place : goal.invariant-loop-place
invariant-loop-place g l =
    (length l.byte-items ≡ g.row.N) × ((k : ℕ) → k < l.place → get_or l.byte-items k 0 ≡ get_or l.bytes (l.at + k) l.past)
