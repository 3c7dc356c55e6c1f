-- What is served after a recording is covered by the theorem of the serial line: a recording whose opening is accepted leaves a usable
-- board to which nothing was offered yet, and from such a board no byte is lost and exactly the replies are said, whatever the reads.
-- Assumes nothing.
use mathlib.Core.Path.{◌≡◌}
use mathlib.Core.List.{List}
use Prim.Native.Nat.{ℕ}
use Rattle.refusals.specs.Refusals.{Done}
use Rattle.facts.proofs.SerialLine.{Serves, serves}
use Rattle.recording.specs.Recording.{open_of, played_of}
use Rattle.recording.proofs.Kept.{ready}

pub serves_after : (s : List ℕ) (n : ℕ) (reads : List (List ℕ)) → (open_of s).outcome ≡ Done → Serves (played_of s n).board reads
serves_after s n reads e = let r = ready s n e in serves (played_of s n).board reads r.usable r.receiver
