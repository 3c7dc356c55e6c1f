-- W-201: a receiver that takes bytes up to the end of the first complete frame, says how many it took, and holds that frame. What stands in
-- the array after the held bytes is told too.
-- Assumes nothing.
use Rattle.std.specs.Prelude.{Bool, cond, not, ◌&&◌, List, [], ◌∷◌, ◌++◌, ℕ, suc, eqb, leb, length, take, drop, replicate, Ok, Err}
use Rattle.refusals.specs.declared.Refusal.{Refusal}
use Rattle.refusals.specs.declared.Refusal.TheVariants.{FrameHeld}
use Rattle.refusals.specs.Refusals.{Outcome, Done, Refused, first}
use Rattle.requests.specs.Requests.{length_of}
use Rattle.receiver.specs.declared.Receiver.{Receiver}
use Rattle.receiver.specs.declared.Offered.{Offered}

-- nothing has come
abbrev pub no_bytes : Receiver
no_bytes = record { bytes = replicate 264 0; count = 0 }

-- the bytes that have come of a frame
abbrev pub held_of : Receiver → List ℕ
held_of r = take r.count r.bytes

-- the same receiver, after other bytes
abbrev pub holding : List ℕ → Receiver → Receiver
holding held r = record { bytes = held ++ drop (length held) r.bytes; count = length held }

-- as many bytes as the length that follows from the first of them: a complete frame
abbrev pub complete : List ℕ → Bool
complete held = leb (length_of held) (length held)

unfoldable pub is_held : Receiver → Bool
is_held r = complete (held_of r)

-- bytes before 0xAA are skipped: nothing has come of a frame, and this byte does not begin one
abbrev pub skips : List ℕ → ℕ → Bool
skips held b = eqb (length held) 0 && not (eqb b 0xAA)

unfoldable pub with_byte : Receiver → ℕ → Receiver
with_byte r b = cond (skips (held_of r) b) r (holding (held_of r ++ (b ∷ [])) r)

-- bytes are taken until a frame is complete: what has then come, and how many were taken
abbrev pub filled : Receiver → List ℕ → Receiver
filled r [] = r
filled r (b ∷ bs) = cond (is_held r) r (filled (with_byte r b) bs)

abbrev pub taken : Receiver → List ℕ → ℕ
taken r [] = 0
taken r (b ∷ bs) = cond (is_held r) 0 (suc (taken (with_byte r b) bs))

-- an offer (of no bytes too) while a frame is held
abbrev pub offer_rows : Receiver → List (Refusal × Bool)
offer_rows r = (FrameHeld, is_held r) ∷ []

-- refused, nothing taken
abbrev pub offered_by : Outcome → Receiver → List ℕ → Offered
offered_by (Ok done) r bytes = record { outcome = Done; taken = taken r bytes; receiver = filled r bytes }
offered_by (Err refusal) r bytes = record { outcome = Refused refusal; taken = 0; receiver = r }

unfoldable pub offered_of : Receiver → List ℕ → Offered
offered_of r bytes = offered_by (first (offer_rows r)) r bytes
