-- The receiver from the bytes that it took since nothing was held, oldest first, with no state stepped.
-- Assumes nothing.
use Rattle.std.specs.Prelude.{cond, List, [], ◌∷◌, ◌++◌, ℕ, suc, eqb}
use Rattle.receiver.specs.declared.Receiver.{Receiver}
use Rattle.receiver.specs.Receiver.{no_bytes, holding, complete}

-- bytes before 0xAA are skipped: what has come of a frame is what stands from the first 0xAA on
abbrev pub begun : List ℕ → List ℕ
begun [] = []
begun (b ∷ bs) = cond (eqb b 0xAA) (b ∷ bs) (begun bs)

-- how many of the bytes are taken after those: up to the end of the first complete frame
abbrev pub takes : List ℕ → List ℕ → ℕ
takes heard [] = 0
takes heard (b ∷ bs) = cond (complete (begun heard)) 0 (suc (takes (heard ++ (b ∷ [])) bs))

-- the receiver that has heard these bytes
abbrev pub after_hearing : List ℕ → Receiver
after_hearing heard = holding (begun heard) no_bytes
