-- The raw line, from the history: the bytes taken since a frame was fetched or the pack handed over, oldest first; what has come of a frame
-- stands in them from the first 0xAA on. Assumes nothing.
use Rattle.std.specs.Prelude.{List, [], ◌∷◌, reverse, ℕ}
use Rattle.laws.specs.History.{since, each}
use Rattle.receiver.specs.Heard.{begun}
use Rattle.board.specs.Deeds.{Deed, row, drops}

-- those of this moment, the newest first
abbrev pub hearing : List Deed → List ℕ
hearing [] = []
hearing (d ∷ h) = reverse (row d).hears

unfoldable pub heard_at : List Deed → List ℕ
heard_at h = reverse (each hearing (since drops h))

abbrev pub held_at : List Deed → List ℕ
held_at h = begun (heard_at h)
