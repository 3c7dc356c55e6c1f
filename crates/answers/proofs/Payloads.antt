-- W-209 of document 02: with 127 registers, 62 events, 16 cells, 100 settings and the list reads of W-202, no payload exceeds 254. Why: a
-- request counts no more than its command may (`requests`, Sound), at most 62 events are kept, and a board has at most 16 cells.
-- Assumes nothing.
use Rattle.std.specs.Prelude.{Ok}
use mathlib.Core.Path.{◌≡◌}
use mathlib.Core.Bool.{true}
use mathlib.Core.List.{List}
use Prim.Native.Nat.{ℕ, ◌+◌, ◌*◌, ◌≤◌}
use native.Mathlib.Omega.{arith}
use borrow.Author.Tests.{leb-true}
use Rattle.events.proofs.Counts.{kept_most, new_most}
use Rattle.requests.specs.declared.Query.{Query}
use Rattle.requests.specs.declared.Query.TheVariants.{Registers, Listed, Bare, NewEvents, AllEvents, Temperatures, Cells, SettingsOf}
use Rattle.requests.specs.declared.Request.TheVariants as request
use Rattle.requests.specs.Requests.{request_of}
use Rattle.requests.proofs.Sound.{counted, sound}
use Rattle.pack.specs.declared.Pack.{Pack}
use Rattle.hire.specs.declared.Hire.{Hire}
use Rattle.answers.specs.Answers.{payload_of}

-- what each command's reply can carry at most: 127 registers, 63 addresses with theirs, two bare registers, the lifetime and 62 events,
-- three temperatures, 16 cells, 100 settings
unfoldable pub most_of : Query → ℕ
most_of (Registers command at n) = 2 * 127
most_of (Listed n) = 4 * 63
most_of (Bare command at n) = 2 * 2
most_of NewEvents = 4 + 4 * 62
most_of AllEvents = 4 + 4 * 62
most_of Temperatures = 6
most_of Cells = 2 * 16
most_of (SettingsOf kind n) = 2 * 100

pub within_most : (p : Pack) (h : Hire) (q : Query) → counted q ≡ true → payload_of p h q ≤ most_of q
unfolding counted payload_of most_of
within_most p h (Registers command at n) few = let most = leb-true n 127 few in omega arith
within_most p h (Listed n) few = let most = leb-true n 63 few in omega arith
within_most p h (Bare command at n) few = let most = leb-true n 2 few in omega arith
within_most p h NewEvents few = omega (arith, new_most h.events)
within_most p h AllEvents few = omega (arith, kept_most h.events)
within_most p h Temperatures few = omega arith
within_most p h Cells few = omega arith
within_most p h (SettingsOf kind n) few = let most = leb-true n 100 few in omega arith

most_254 : (q : Query) → most_of q ≤ 254
unfolding most_of
most_254 (Registers command at n) = omega arith
most_254 (Listed n) = omega arith
most_254 (Bare command at n) = omega arith
most_254 NewEvents = omega arith
most_254 AllEvents = omega arith
most_254 Temperatures = omega arith
most_254 Cells = omega arith
most_254 (SettingsOf kind n) = omega arith

-- no payload exceeds 254, of whatever bytes the request is made, and whatever pack and hire hold
pub payload_most : (p : Pack) (h : Hire) (s : List ℕ) (q : Query) → request_of s ≡ Ok (request.Read q) → payload_of p h q ≤ 254
payload_most p h s q asks = omega (arith, within_most p h q (rw asks at (sound s).few), most_254 q)
