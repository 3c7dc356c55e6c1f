-- The loop fills the words one after the other. Assumes nothing.
use Rattle.std.proofs.Common.{◌≡◌, ℕ, ◌<◌, min}
use Rattle.laws.proofs.Rows.{Filling}
use Rattle.numbers.proofs.words.Given as goal

abbrev pub invariant-loop-i : goal.invariant-loop-i
invariant-loop-i g l =
    (f : ℕ → ℕ) → ((i v : ℕ) → i < 127 → goal.F-post g l.word i v → v ≡ f i) → Filling 127 f (min 127 l.count) l.i l.words
