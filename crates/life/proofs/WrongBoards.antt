-- The switch fact shuts out wrong boards: one that forgets its latches at a handover, one that turns a switch on at a recall, one whose clear
-- of events ends a latch, one that keeps a switch off although its condition recovered, and one that recovers OT by what is connected now,
-- without W-204's memory.
-- Assumes nothing.
use mathlib.Core.Path.{◌≡◌, refl, sym, ap}
use mathlib.Core.Bool.{Bool, true, false, ◌&&◌, ◌||◌, not, cond, false≢true}
use mathlib.Core.List.{List, [], ◌∷◌}
use Prim.Native.Nat.{ℕ}
use lib.IntN.{ℤ, pos, negsuc}
use lib.ListN.{replicate}
use Rattle.laws.specs.History.{some, any}
use Rattle.classes.specs.Store.{kept_store}
use Rattle.settings.specs.Settings.{factory}
use Rattle.guard.specs.declared.Condition.TheVariants.{UV, OV, OT, DOC, COC, ROC, LT}
use Rattle.guard.specs.declared.Guard.{Guard}
use Rattle.guard.specs.Guard.{no_guard, none_remembered}
use Rattle.guard.specs.Table.{names_discharge, discharge_off}
use Rattle.readings.specs.declared.Readings.{Readings}
use Rattle.pack.specs.Pack as pack
use Rattle.hire.specs.Hire as hire
use Rattle.board.specs.declared.Board.{Board}
use Rattle.board.specs.State.{with_pack, with_hire}
use Rattle.board.specs.Start.{start_board}
use Rattle.board.specs.Calls.{Call, Seen, tick, frame, handover, recall, shape, step, seen}
use Rattle.board.specs.Behaviour.{Behaviour, board}
use Rattle.board.specs.Deeds.{Deed, took, row, hands, forgets}
use Rattle.board.specs.Demands.{deeds}
use Rattle.board.proofs.Opened.{accounted}
use Rattle.life.specs.Recorded.{recovery, recorded_ever}
use Rattle.life.specs.Switches.{NoneSuch, SwitchFact}

-- ---- the calls that they are put to

-- at 20 °C but for external 2; no charger, no ignition (334 is 0 from the start)
abbrev reading : ℤ → ℤ → Readings
reading current external2 =
    record {
      current = current;
      internal = pos 200;
      external1 = pos 200;
      external2 = external2;
      pulses = 0;
      charger = false;
      ignition = false;
    }

abbrev level : List ℕ
level = replicate 4 37000

abbrev still : Readings
still = reading (pos 0) (pos 200)

-- DOC holds; UV holds; external 2 is hot
abbrev drawn : Call
drawn = tick level (reading (negsuc 59999) (pos 200))

abbrev low : Call
low = tick (29000 ∷ replicate 3 37000) still

abbrev heated : Call
heated = tick level (reading (pos 0) (pos 600))

-- 0x02 option 01; a recall of the factory settings, the first edition of a store
abbrev clear : Call
clear = frame (0xAA ∷ 0x02 ∷ 0x01 ∷ 0x91 ∷ 0x40 ∷ []) 259

abbrev recalling : Call
recalling = recall (kept_store (replicate 512 0) factory) 1

-- ---- ours, but at calls that do such a deed the board and what it shows are otherwise

abbrev does : (Deed → Bool) → Call → Bool
does such c = any such ((shape c).deeds (start_board 4 2000))

abbrev otherwise : (Deed → Bool) → (Board → Board) → Behaviour
otherwise such changed =
    record {
      State = Board;
      start = start_board;
      started = board.started;
      step =
          λ b c.
          let b' = cond (does such c) (changed (step b c).0) (step b c).0 in
          let a = (step b c).1 in
          (b', seen b' a.outcome a.buffer a.carried);
    }

abbrev with_guard : Board → Guard → Board
with_guard b g = with_pack b (pack.with_guard b.pack g)

-- ---- a handover forgets what is latched

abbrev pub forgetting : Behaviour
forgetting = otherwise hands (λ b. with_guard b no_guard)

-- DOC waits still, and the next rider's first tick turns discharge on
pub forgetting_fails : ¬ SwitchFact forgetting
unfolding accounted recorded_ever recovery names_discharge
forgetting_fails h =
    let z : true ≡ false = h.discharge_is_off 4 2000 (drawn ∷ handover 0 32 ∷ []) level still refl (DOC, refl, refl) in
    absurd (false≢true (sym z))

-- ---- a clear of events ends what is latched

abbrev pub clearing : Behaviour
clearing = otherwise (λ d. forgets d && not (hands d)) (λ b. with_guard b no_guard)

pub clearing_fails : ¬ SwitchFact clearing
unfolding accounted recorded_ever recovery names_discharge
clearing_fails h =
    let z : true ≡ false = h.discharge_is_off 4 2000 (drawn ∷ clear ∷ []) level still refl (DOC, refl, refl) in absurd (false≢true (sym z))

-- ---- a recall turns discharge on

abbrev pub waking : Behaviour
waking = otherwise (λ d. some (row d).writes) (λ b. with_hire b (hire.with_discharge b.hire true))

pub waking_fails : ¬ SwitchFact waking
unfolding accounted recorded_ever recovery
waking_fails h =
    let z : true ≡ false = ap (λ p. p.1) (h.nothing_else 4 2000 (drawn ∷ []) recalling refl) in absurd (false≢true (sym z))

-- ---- a switch stays off although its condition recovered

abbrev keeps_off : Board × Bool → Call → (Board × Bool) × Seen
keeps_off (b, was) c =
    let b' = (step b c).0 in
    let a = (step b c).1 in
    let ever = was || discharge_off b'.pack.guard.latched in
    ((b', ever), seen (with_hire b' (hire.with_discharge b'.hire (b'.hire.discharge && not ever))) a.outcome a.buffer a.carried)

abbrev pub keeping_off : Behaviour
keeping_off =
    record { State = Board × Bool; start = λ cells per_km. (start_board cells per_km, false); started = board.started; step = keeps_off }

-- UV latches and recovers, and 334 is 0
recovered : NoneSuch names_discharge (took level still ∷ deeds 4 2000 (low ∷ []))
unfolding accounted recorded_ever recovery names_discharge
recovered UV e = refl
recovered OV e = refl
recovered OT e = refl
recovered DOC e = refl
recovered COC e = refl
recovered ROC e = refl
recovered LT e = refl

pub keeping_off_fails : ¬ SwitchFact keeping_off
unfolding accounted
keeping_off_fails h = let z : false ≡ true = h.discharge_on 4 2000 (low ∷ []) level still refl recovered in absurd (false≢true z)

-- ---- OT recovers by the sensors that are connected now

abbrev pub unremembering : Behaviour
unremembering =
    otherwise (λ d. true) (λ b. with_guard b (record {
      latched = b.pack.guard.latched;
      waits = b.pack.guard.waits;
      remembered = none_remembered;
    }))

-- external 2 was hot, and is unplugged
pub unremembering_fails : ¬ SwitchFact unremembering
unfolding accounted recorded_ever recovery names_discharge
unremembering_fails h =
    let z : true ≡ false = h.discharge_is_off 4 2000 (heated ∷ []) level (reading (pos 0) (negsuc 32767)) refl (OT, refl, refl) in
    absurd (false≢true (sym z))
