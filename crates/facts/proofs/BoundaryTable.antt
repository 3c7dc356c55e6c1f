-- The boundary table of document 01, P1 to P13: one statement covers this list. Assumes nothing.
use Rattle.std.specs.Prelude.{Some}
use mathlib.Core.Path.{◌≡◌, refl}
use mathlib.Core.Bool.{true, false}
use mathlib.Core.List.{List, [], ◌∷◌}
use Prim.Native.Nat.{ℕ}
use lib.IntN.{ℤ, pos, negsuc}
use lib.Ieee.{div, of_int, to_bits, is_nan}
use lib.ListN.{replicate}
use Rattle.crc.specs.Crc.{crc_of}
use Rattle.events.specs.Events.{event_at}
use Rattle.live.specs.Live.{speed_of, speed_bits_of}
use Rattle.refusals.specs.declared.Refusal.TheVariants.{Damaged, OutOfOrder}
use Rattle.refusals.specs.Refusals.{Done, Refused}
use Rattle.settings.specs.Settings.{factory, draft_of, put_of, outcome_of}
use Rattle.signed.specs.Signed.{whole_degrees}
use Rattle.board.specs.declared.Board.{Board}
use Rattle.board.specs.Start.{start_board}
use Rattle.board.specs.Calls.{frame, board_after}
use Rattle.board.specs.Behaviour.{board, after_in}
use Rattle.board.proofs.Opened.{opened}
use Rattle.facts.proofs.Calls.{reading_of, level, shown_by}
use Rattle.facts.proofs.Ticks.{fresh, after, latched, kept, still, drawn, cells, flow, ridden, since, since_again}
use Rattle.facts.proofs.Frames.{Gets}

-- a board of 4 cells with 2000 pulses per km after n ticks: level cells, no current, those pulses and external temperatures
abbrev ticked : ℕ → ℕ → ℤ → ℤ → Board
ticked n pulses external1 external2 =
    after_in board (start_board 4 2000)
    (replicate n (level (reading_of (pos 0) (pos 200) external1 external2 pulses false)))

-- 315 written to 3000, to 3001
abbrev to_3000 : List ℕ
to_3000 = 0xAA ∷ 0x10 ∷ 0x01 ∷ 0x3B ∷ 0x00 ∷ 0x01 ∷ 0x02 ∷ 0x0B ∷ 0xB8 ∷ 0x3E ∷ 0x6E ∷ []

abbrev to_3001 : List ℕ
to_3001 = 0xAA ∷ 0x10 ∷ 0x01 ∷ 0x3B ∷ 0x00 ∷ 0x01 ∷ 0x02 ∷ 0x0B ∷ 0xB9 ∷ 0xFF ∷ 0xAE ∷ []

pub record Table : Type 0 where
  -- CRC of no bytes is 0xFFFF; of 00 it is 0x40BF
  pub P1 : (crc_of [] ≡ 0xFFFF) × (crc_of (0x00 ∷ []) ≡ 0x40BF)
  -- idle request AA 18 7F 1A; whole reply AA 18 97 00 CF CB
  pub P2 : Gets (start_board 4 2000) (0xAA ∷ 0x18 ∷ 0x7F ∷ 0x1A ∷ []) Done (0xAA ∷ 0x18 ∷ 0x97 ∷ 0x00 ∷ 0xCF ∷ 0xCB ∷ []) 253
  -- ACK of 0x02: AA 01 02 D1 B1; of option 01, and of 02
  pub P3 :
      Gets (start_board 4 2000) (0xAA ∷ 0x02 ∷ 0x01 ∷ 0x91 ∷ 0x40 ∷ []) Done (0xAA ∷ 0x01 ∷ 0x02 ∷ 0xD1 ∷ 0xB1 ∷ []) 254
      × Gets (start_board 4 2000) (0xAA ∷ 0x02 ∷ 0x02 ∷ 0xD1 ∷ 0x41 ∷ []) Done (0xAA ∷ 0x01 ∷ 0x02 ∷ 0xD1 ∷ 0xB1 ∷ []) 254
  -- CRC NACK of 0x18: AA 00 18 01 EA 3C
  pub P4 : Gets (start_board 4 2000) (0xAA ∷ 0x18 ∷ 0x7F ∷ 0x1B ∷ []) (Refused Damaged) (0xAA ∷ 0x00 ∷ 0x18 ∷ 0x01 ∷ 0xEA ∷ 0x3C ∷ []) 253
  -- no events, lifetime 5: AA 12 04 05 00 00 00 E3 74
  pub P5 :
      Gets (ticked 50 0 (pos 200) (pos 200)) (0xAA ∷ 0x12 ∷ 0xFF ∷ 0x1D ∷ []) Done
      (0xAA ∷ 0x12 ∷ 0x04 ∷ 0x05 ∷ 0x00 ∷ 0x00 ∷ 0x00 ∷ 0xE3 ∷ 0x74 ∷ []) 250
  -- r315 4200: 41,999 does not latch, 42,000 does; latched, 41,500 stays, 41,499 recovers
  pub P6 :
      (shown_by fresh 315 ≡ Some 4200)
      × ((latched (after fresh (cells 40000 41999 ∷ []))).ov ≡ false)
      × ((latched (after fresh (cells 40000 42000 ∷ []))).ov ≡ true)
      × ((latched (after fresh (cells 40000 42000 ∷ cells 40000 41500 ∷ []))).ov ≡ true)
      × ((latched (after fresh (cells 40000 42000 ∷ cells 40000 41499 ∷ []))).ov ≡ false)
  -- r317 60: -59,999 no, -60,000 yes
  pub P7 :
      (shown_by fresh 317 ≡ Some 60)
      × ((latched (after fresh (flow (negsuc 59998) ∷ []))).doc ≡ false)
      × ((latched (after fresh (flow (negsuc 59999) ∷ []))).doc ≡ true)
  -- r332 5, last held at tick t: recovers at t+50
  pub P8 :
      (shown_by fresh 332 ≡ Some 5)
      × ((latched (since 49)).doc ≡ true)
      × (kept (since 49) ≡ event_at 0 0x05 ∷ [])
      × ((latched (since 50)).doc ≡ false)
      × (kept (since 50) ≡ event_at 0 0x05 ∷ event_at 5 0x77 ∷ [])
      × ((latched (since_again 49)).doc ≡ true)
      × (kept (since_again 49) ≡ event_at 0 0x05 ∷ [])
      × ((latched (since_again 50)).doc ≡ false)
      × (kept (since_again 50) ≡ event_at 0 0x05 ∷ event_at 7 0x77 ∷ [])
  -- -5 tenths is -1 °C, 5 is 0; register 113 has the minimum in its low byte and the maximum in its high byte
  pub P9 :
      (whole_degrees (negsuc 4) ≡ negsuc 0)
      × (whole_degrees (pos 5) ≡ pos 0)
      × (shown_by (ticked 1 0 (negsuc 4) (pos 5)) 113 ≡ Some 0x00FF)
      × (shown_by (ticked 1 0 (negsuc 4) (negsuc 4)) 113 ≡ Some 0xFFFF)
  -- 2000 per km, 10 pulses in the window: 18 km/h, bits 0x41900000
  pub P10 :
      (speed_bits_of (speed_of (replicate 10 1) 2000) ≡ 0x41900000)
      × (shown_by (ticked 10 1 (pos 200) (pos 200)) 54 ≡ Some 0x0000)
      × (shown_by (ticked 10 1 (pos 200) (pos 200)) 55 ≡ Some 0x4190)
  -- 2000 per km: 39 pulses give 1, 40 give 2
  pub P11 :
      (shown_by (after fresh (ridden 39 ∷ [])) 100 ≡ Some 1)
      × (shown_by (after fresh (ridden 40 ∷ [])) 100 ≡ Some 2)
      × (shown_by (after fresh (replicate 39 (ridden 1))) 100 ≡ Some 1)
      × (shown_by (after fresh (replicate 40 (ridden 1))) 100 ≡ Some 2)
  -- factory settings, write 315: 3000 refused, 3001 taken; as frames
  pub P12 :
      (outcome_of (put_of (draft_of factory) 315 3000) ≡ Refused OutOfOrder)
      × (outcome_of (put_of (draft_of factory) 315 3001) ≡ Done)
      × Gets (start_board 4 2000) to_3000 (Refused OutOfOrder) (0xAA ∷ 0x00 ∷ 0x10 ∷ 0x00 ∷ 0x2C ∷ 0x3C ∷ []) 253
      × (shown_by (board_after (start_board 4 2000) (frame to_3000 259)) 315 ≡ Some 4200)
      × Gets (start_board 4 2000) to_3001 Done (0xAA ∷ 0x10 ∷ 0x01 ∷ 0x3B ∷ 0x00 ∷ 0x01 ∷ 0x68 ∷ 0x23 ∷ []) 251
      × (shown_by (board_after (start_board 4 2000) (frame to_3001 259)) 315 ≡ Some 3001)
  -- factory, lowest 40,000: 40,150 no, 40,151 balances
  pub P13 :
      (shown_by (after fresh (cells 40000 40150 ∷ [])) 51 ≡ Some 0)
      × (shown_by (after fresh (cells 40000 40151 ∷ [])) 51 ≡ Some 2)

pub table : Table
unfolding opened fresh after latched kept still drawn cells flow ridden since since_again to_bits div of_int is_nan
table =
    record {
      P1 = (refl, refl);
      P2 = (refl, refl);
      P3 = ((refl, refl), (refl, refl));
      P4 = (refl, refl);
      P5 = (refl, refl);
      P6 = (refl, refl, refl, refl, refl);
      P7 = (refl, refl, refl);
      P8 = (refl, refl, refl, refl, refl, refl, refl, refl, refl);
      P9 = (refl, refl, refl, refl);
      P10 = (refl, refl, refl);
      P11 = (refl, refl, refl, refl);
      P12 = (refl, refl, (refl, refl), refl, (refl, refl), refl);
      P13 = (refl, refl);
    }
