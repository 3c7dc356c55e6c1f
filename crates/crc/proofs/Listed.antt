-- A table that computes to the list of what four shifts make of 0 to 15 has its rule at each entry, by recursion on the entry.
-- Assumes nothing.
use mathlib.Core.Path.{◌≡◌, ◌∙◌, ap, sym}
use mathlib.Core.List.{List, [], ◌∷◌}
use Prim.Native.Nat.{ℕ, zero, suc, ◌+◌, ◌<◌}
use native.Mathlib.Nat.{add-zero, zero-add, add-suc, suc-add, le_of_suc-le-suc, not-suc-le-zero}
use lib.ListN.{get_or}
use Rattle.crc.specs.Crc.{times}
use Rattle.crc.specs.Table.{Shifted}

-- n values of f, from i on
abbrev pub listed : (ℕ → ℕ) → ℕ → ℕ → List ℕ
listed f i zero = []
listed f i (suc n) = f i ∷ listed f (suc i) n

at : (f : ℕ → ℕ) (i n k : ℕ) → k < n → get_or (listed f i n) k 0 ≡ f (i + k)
at f i zero k h = absurd (not-suc-le-zero h)
at f i (suc n) zero h = ap f (sym (add-zero i))
at f i (suc n) (suc k) h = at f (suc i) n k (le_of_suc-le-suc h) ∙ ap f (suc-add i k ∙ sym (add-suc i k))

pub by_list : {table : List ℕ} → table ≡ listed (times 4) 0 16 → Shifted table
by_list e = record { entry = λ n h. rw e (at (times 4) 0 16 n h ∙ ap (times 4) (zero-add n)) }
