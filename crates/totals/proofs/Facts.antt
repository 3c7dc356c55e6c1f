-- No record, one and two; each total at the largest number of 64 bits and one past it; a record cut by one byte and by 31; 82 before 81.
-- Computed.
-- Assumes nothing.
use mathlib.Core.Path.{◌≡◌, refl}
use mathlib.Core.List.{List, [], ◌∷◌, ◌++◌}
use Prim.Native.Nat.{ℕ}
use lib.ListN.{take}
use Rattle.refusals.specs.declared.Refusal.TheVariants.{CutBill, PastTotal}
use Rattle.refusals.specs.Refusals.{Outcome, Done, Refused, first}
use Rattle.desk.specs.Desk.{record_bytes, record_of}
use Rattle.totals.specs.declared.Totals.{Totals}
use Rattle.totals.specs.declared.Billed.{Billed}
use Rattle.totals.specs.Totals.{no_totals, taken_of, pieces, in_order, billed_of}

-- the bytes of a hire's record
hired : ℕ → ℕ → ℕ → ℕ → List ℕ
hired seconds positive negative distance =
    record_bytes (record { pack = 4021; seconds = seconds; positive = positive; negative = negative; distance = distance; latchings = 6 })

totals : ℕ → ℕ → ℕ → ℕ → ℕ → Totals
totals count seconds positive negative distance =
    record { count = count; seconds = seconds; positive = positive; negative = negative; distance = distance }

-- what bytes come to, and the totals up to there
comes : Outcome → Totals → Billed
comes outcome t = record { outcome = outcome; totals = t }

-- an empty input has five zeros
few :
    (billed_of no_totals [] ≡ comes Done (totals 0 0 0 0 0))
    × (billed_of no_totals (hired 3600 70000 260 1234) ≡ comes Done (totals 1 3600 70000 260 1234))
    × (billed_of no_totals (hired 3600 70000 260 1234 ++ hired 1 20 300 4000) ≡ comes Done (totals 2 3601 70020 560 5234))
unfolding hired totals comes record_bytes record_of taken_of pieces in_order billed_of first
few = (refl, refl, refl)

-- one record leads each total to 2^64 - 1
nearly : Totals
nearly = totals 18446744073709551614 18446744073709551614 18446744073709551614 18446744073709551614 18446744073709551614

all_largest : billed_of nearly (hired 1 1 1 1)
    ≡ comes Done (totals 18446744073709551615 18446744073709551615 18446744073709551615 18446744073709551615 18446744073709551615)
unfolding nearly hired totals comes record_bytes record_of taken_of pieces in_order billed_of first
all_largest = refl

-- and one past it, each in its turn: the totals are those before
one_past :
    (billed_of nearly (hired 2 1 1 1) ≡ comes (Refused PastTotal) nearly)
    × (billed_of nearly (hired 1 2 1 1) ≡ comes (Refused PastTotal) nearly)
    × (billed_of nearly (hired 1 1 2 1) ≡ comes (Refused PastTotal) nearly)
    × (billed_of nearly (hired 1 1 1 2) ≡ comes (Refused PastTotal) nearly)
    × (billed_of (totals 18446744073709551615 0 0 0 0) (hired 1 1 1 1)
    ≡ comes (Refused PastTotal) (totals 18446744073709551615 0 0 0 0))
unfolding nearly hired totals comes record_bytes record_of taken_of pieces in_order billed_of first
one_past = (refl, refl, refl, refl, refl)

-- nothing after it is taken, though the third would fit
stopped : billed_of (totals 0 18446744073709551614 0 0 0) (hired 1 0 0 0 ++ hired 1 0 0 0 ++ hired 0 5 5 5)
    ≡ comes (Refused PastTotal) (totals 1 18446744073709551615 0 0 0)
unfolding hired totals comes record_bytes record_of taken_of pieces in_order billed_of first
stopped = refl

-- a record cut by one byte, and by 31; and with a total past 64 bits before it
cut :
    (billed_of no_totals (take 31 (hired 1 2 3 4)) ≡ comes (Refused CutBill) (totals 0 0 0 0 0))
    × (billed_of no_totals (hired 1 2 3 4 ++ (9 ∷ [])) ≡ comes (Refused CutBill) (totals 1 1 2 3 4))
    × (billed_of nearly (hired 2 0 0 0 ++ (9 ∷ [])) ≡ comes (Refused PastTotal) nearly)
unfolding nearly hired totals comes record_bytes record_of taken_of pieces in_order billed_of first
cut = (refl, refl, refl)
