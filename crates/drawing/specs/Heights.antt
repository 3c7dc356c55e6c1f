-- Where a value stands on the scale of a panel, in thousandths of its height from the top. All numbers are unsigned, and a difference that
-- would be negative is 0. Assumes nothing.
use Rattle.std.specs.Prelude.{ℕ, ◌+◌, ◌-◌, ◌*◌, ◌^◌, ◌/◌, min, max}
use Rattle.columns.specs.declared.Band.{Band}
use Rattle.drawing.specs.declared.heights.Scale.{Scale}

-- a whole of 0 is read as 1, and a longer one than 2^50 as 2^50
abbrev pub most_whole : ℕ
most_whole = 2 ^ 50

abbrev pub whole_of : ℕ → ℕ
whole_of whole = max 1 (min whole most_whole)

-- part · parts / whole, all floor, and never more than all parts
unfoldable pub share_of : ℕ → ℕ → ℕ → ℕ
share_of part whole parts = min part (whole_of whole) * parts / whole_of whole

-- lo = least of lower limit and readings, hi = greatest of upper limit and readings
abbrev pub low_of : Band → Band → ℕ
low_of limits readings = min limits.lowest readings.lowest

abbrev pub high_of : Band → Band → ℕ
high_of limits readings = max limits.highest readings.highest

-- pad = (hi - lo) · 14 / (h - 28) + 1; a height below 29 is read as 29. Where hi is below lo, hi - lo is 0
abbrev pub pad_of : Band → Band → ℕ → ℕ
pad_of limits readings height = (high_of limits readings - low_of limits readings) * 14 / (max 29 height - 28) + 1

-- hi += pad, and lo -= pad: so the span from lo to hi grows by both
unfoldable pub scale_of : Band → Band → ℕ → Scale
scale_of limits readings height =
    record {
      high = high_of limits readings + pad_of limits readings height;
      span = high_of limits readings - low_of limits readings + 2 * pad_of limits readings height;
    }

-- speed: lo 0, hi the greater of the least that is shown and the highest, no pad
unfoldable pub open_scale_of : ℕ → ℕ → Scale
open_scale_of highest least = record { high = max least highest; span = max least highest }

-- y(v) = (hi - v) · 1000 / (hi - lo), floor
abbrev pub place_of : Scale → ℕ → ℕ
place_of scale value = share_of (scale.high - value) scale.span 1000
