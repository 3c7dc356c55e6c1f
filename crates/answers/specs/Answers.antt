-- Frames: what is answered to a request of bytes s, from a pack and a hire (what it asks: crate `requests`).
-- Assumes nothing.
use Rattle.std.specs.Prelude.{Bool, true, cond, List, [], ◌∷◌, ◌++◌, ◌≡◌, ℕ, ◌+◌, ◌*◌, min, eqb, get_or, Option, None, Some, Result, Ok}
use Rattle.std.specs.Prelude.{Err}
use Rattle.numbers.specs.Numbers.{le16, be16, le32, be16_at}
use Rattle.refusals.specs.Refusals.{Outcome, Done, Refused, giving, left_by}
use Rattle.refusals.specs.declared.Refusal.{Refusal}
use Rattle.events.specs.Events.{kept_count, new_count, kept_of, new_of, event_longs}
use Rattle.settings.specs.declared.Settings.{Settings}
use Rattle.settings.specs.Settings as settings
use Rattle.signed.specs.Signed as signed
use Rattle.writes.specs.declared.Form.{Form}
use Rattle.writes.specs.declared.Form.TheVariants as form
use Rattle.writes.specs.declared.Pair.{Pair}
use Rattle.writes.specs.Writes.{pairs_of, drafted_of, written_to}
use Rattle.requests.specs.declared.Query.{Query}
use Rattle.requests.specs.declared.Query.TheVariants.{Registers, Listed, Bare, NewEvents, AllEvents, Temperatures, Cells, SettingsOf}
use Rattle.requests.specs.declared.Request.TheVariants as request
use Rattle.requests.specs.Requests.{address_at, request_of, has_length, Asked}
use Rattle.replies.specs.Replies.{word16, words, sealed, nack_of, ack_of, Filled}
use Rattle.pack.specs.declared.Pack.{Pack}
use Rattle.hire.specs.declared.Hire.{Hire}
use Rattle.answers.specs.declared.Taken.{Taken}
use Rattle.answers.specs.Registers.{value_at}

-- ---- the reply to a query, before its CRC

-- a board has at most 16 cells
abbrev pub cells_of : Pack → ℕ
cells_of p = min 16 p.cells

-- of a list, an address and its register
abbrev pub with_register : (ℕ → ℕ) → ℕ → List ℕ
with_register value at = le16 at ++ le16 (value at)

module _ (p : Pack) (h : Hire) where
  -- where registers show those values. Except in 0x03 and 0x10, multi-byte data goes low byte first. To 0x09, for each address in order the
  -- address and its register. 0x11 and 0x12: lifetime seconds, then per event 3 time bytes and the event number, oldest first
  unfoldable pub body_by : (ℕ → ℕ) → List ℕ → Query → List ℕ
  body_by value s (Registers command at n) = 0xAA ∷ command ∷ 2 * n ∷ words (word16 (eqb command 0x03)) value at n
  body_by value s (Listed n) = 0xAA ∷ 0x09 ∷ 4 * n ∷ words (with_register value) (address_at s) 0 n
  body_by value s (Bare command at n) = 0xAA ∷ command ∷ words le16 value at n
  body_by value s NewEvents =
      0xAA ∷ 0x11 ∷ (4 + 4 * new_count h.events) ∷ words le32 (event_longs p.clock.seconds (new_of h.events)) 0
      (1 + new_count h.events)
  body_by value s AllEvents =
      0xAA ∷ 0x12 ∷ (4 + 4 * kept_count h.events) ∷ words le32 (event_longs p.clock.seconds (kept_of h.events)) 0
      (1 + kept_count h.events)
  body_by value s Temperatures =
      0xAA ∷ 0x1B ∷ 6
      ∷ le16 (signed.bits_of h.sensed.readings.internal)
      ++ le16 (signed.bits_of h.sensed.readings.external1)
      ++ le16 (signed.bits_of h.sensed.readings.external2)
  body_by value s Cells = 0xAA ∷ 0x1C ∷ 2 * cells_of p ∷ words le16 value 0 (cells_of p)
  body_by value s (SettingsOf kind n) = 0xAA ∷ 0x1D ∷ 2 * n ∷ words le16 (settings.register_of (settings.of_kind p.settings kind)) 300 n

  abbrev pub body_of : List ℕ → Query → List ℕ
  body_of s q = body_by (value_at p h) s q

  -- the bytes of data in it
  unfoldable pub payload_of : Query → ℕ
  payload_of (Registers command at n) = 2 * n
  payload_of (Listed n) = 4 * n
  payload_of (Bare command at n) = 2 * n
  payload_of NewEvents = 4 + 4 * new_count h.events
  payload_of AllEvents = 4 + 4 * kept_count h.events
  payload_of Temperatures = 6
  payload_of Cells = 2 * cells_of p
  payload_of (SettingsOf kind n) = 2 * n

-- ---- the whole reply before its zeros

-- to a write that is taken: 0x10's address and RL, or an ACK
unfoldable pub taken_reply : Form → List ℕ → ℕ → List ℕ
taken_reply form.Modbus s n = 0xAA ∷ 0x10 ∷ be16 (be16_at s 2) ++ be16 n
taken_reply form.Block s n = ack_of 0x0B
taken_reply form.List s n = ack_of 0x0D

module _ (p : Pack) (h : Hire) where
  -- to a request that is accepted
  unfoldable pub accepted_reply : List ℕ → Asked → List ℕ
  accepted_reply s (Err refusal) = []
  accepted_reply s (Ok request.ClearEvents) = sealed (ack_of 0x02)
  accepted_reply s (Ok request.ClearStatistics) = sealed (ack_of 0x02)
  accepted_reply s (Ok (request.Write f n)) = sealed (taken_reply f s n)
  accepted_reply s (Ok (request.Read q)) = sealed (body_of p h s q)

  -- how many bytes it has: an ACK 5, that to 0x10 8; else AA, CMD, PL where there is one, data and CRC
  unfoldable pub reply_bytes : Asked → ℕ
  reply_bytes (Err refusal) = 0
  reply_bytes (Ok request.ClearEvents) = 5
  reply_bytes (Ok request.ClearStatistics) = 5
  reply_bytes (Ok (request.Write form.Modbus n)) = 8
  reply_bytes (Ok (request.Write form.Block n)) = 5
  reply_bytes (Ok (request.Write form.List n)) = 5
  reply_bytes (Ok (request.Read q)) = cond (has_length q) 5 4 + payload_of p h q

-- to a request that is refused: none, or a NACK of its command with the error
abbrev pub left_reply : Option ℕ → List ℕ → List ℕ
left_reply None s = []
left_reply (Some error) s = sealed (nack_of (get_or s 1 0) error)

abbrev pub refused_reply : Refusal → List ℕ → List ℕ
refused_reply refusal s = left_reply (left_by refusal) s

-- to any, by what it comes to
unfoldable pub reply_by : Outcome → List ℕ → List ℕ → List ℕ
reply_by (Ok done) s accepted = accepted
reply_by (Err refusal) s accepted = refused_reply refusal s

-- ---- what a request comes to

-- its own refusal; a setting against its rule, where the pack's settings stand. A query is always accepted
abbrev pub asked_rows : Pack → List ℕ → Asked → List (Refusal × Bool)
asked_rows p s (Err refusal) = (refusal, true) ∷ []
asked_rows p s (Ok request.ClearEvents) = []
asked_rows p s (Ok request.ClearStatistics) = []
asked_rows p s (Ok (request.Write f n)) = settings.write_rows (drafted_of (settings.draft_of p.settings) (pairs_of f s n)).values
asked_rows p s (Ok (request.Read q)) = []

-- ---- the same by parts, as the functions have them

abbrev pub write_outcome : Settings → List Pair → Outcome
write_outcome st ps = settings.outcome_of (drafted_of (settings.draft_of st) ps)

-- what a request comes to, the settings that then stand, and its reply
unfoldable pub asked_outcome : Pack → List ℕ → Asked → Outcome
asked_outcome p s (Err refusal) = Refused refusal
asked_outcome p s (Ok request.ClearEvents) = Done
asked_outcome p s (Ok request.ClearStatistics) = Done
asked_outcome p s (Ok (request.Write f n)) = write_outcome p.settings (pairs_of f s n)
asked_outcome p s (Ok (request.Read q)) = Done

unfoldable pub asked_settings : Pack → List ℕ → Asked → Settings
asked_settings p s (Err refusal) = p.settings
asked_settings p s (Ok request.ClearEvents) = p.settings
asked_settings p s (Ok request.ClearStatistics) = p.settings
asked_settings p s (Ok (request.Write f n)) = settings.standing_of p.settings (written_to p.settings (pairs_of f s n))
asked_settings p s (Ok (request.Read q)) = p.settings

abbrev pub asked_reply : Pack → Hire → List ℕ → Asked → List ℕ
asked_reply p h s q = reply_by (asked_outcome p s q) s (accepted_reply p h s q)

-- what is taken of it, where it is accepted
abbrev pub taking : Pack → List ℕ → Asked → Result Taken Refusal
taking p s (Err refusal) = Err refusal
taking p s (Ok asked) = giving (asked_outcome p s (Ok asked)) (record { asked = asked; settings = asked_settings p s (Ok asked) })

-- of the bytes s: what they ask and the settings that then stand, or the refusal; and the reply into a buffer of any length
pub record Answers (p : Pack) (h : Hire) (s before : List ℕ) (r : Result Taken Refusal) (after : List ℕ) : Type 0 where
  pub taken_is : r ≡ taking p s (request_of s)
  pub reply_is : Filled before (asked_reply p h s (request_of s)) after
