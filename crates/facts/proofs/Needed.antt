-- Each hypothesis of demand 3 is needed: with 299 quiet ticks, with those of one board alone, without equal settings, counts of ticks,
-- clocks (to the tenth), latched conditions, waits or memories the demand is false of our board; two histories and the calls that tell them
-- apart, computed. And the second alternative is met with a condition latched.
-- Assumes nothing.
use mathlib.Core.Path.{◌≡◌, refl, sym, ap}
use mathlib.Core.Bool.{true, false, false≢true}
use mathlib.Core.List.{List, [], ◌∷◌, ◌++◌}
use Prim.Native.Nat.{ℕ}
use native.Mathlib.Omega.{arith}
use lib.IntN.{pos, negsuc}
use lib.ListN.{replicate}
use Rattle.guard.specs.Quiet.{quiet}
use Rattle.board.specs.Calls.{Seen}
use Rattle.board.specs.Behaviour.{board}
use Rattle.board.specs.Account.{settings_at, count_at, clock_at, latched_at, waits_at, remembered_at}
use Rattle.board.specs.Demands.{deeds, Quieted, BothQuiet, SameKept, Alike}
use Rattle.board.proofs.Opened.{accounted}
use Rattle.facts.proofs.Calls.{flow, still, drawn, warmed, unplugged, longest_wait, to_800, read_316, events, lifetime}
use Rattle.facts.proofs.Calls.{answer_at, byte_at}

-- ---- 300

-- 299 quiet ticks after DOC held with a wait of 300 ticks: it recovers at the next, and the event shows
pub needs_300 : ¬ Alike board (BothQuiet 299)
unfolding accounted quiet
needs_300 alike =
    let e = (alike 4 2000 (longest_wait ∷ drawn ∷ replicate 299 still) (longest_wait ∷ still ∷ replicate 299 still) (still ∷ events ∷ [])
    0 0 (record { settings = refl; ticks = refl; first = (omega arith, refl); second = (omega arith, refl) })).1 in
    let z : ◌≡◌ {A = ℕ} 8 4 = ap (byte_at 1 2) e in
    omega arith

-- ---- both boards' ticks

-- 300 still ticks are quiet
quieted : Quieted 300 (deeds 4 2000 (replicate 300 still))
unfolding accounted quiet
quieted = (omega arith, refl)

-- DOC held at the last tick of one: it is latched after the handover
pub needs_both : ¬ Alike board (λ h k. (settings_at h ≡ settings_at k) × (count_at h ≡ count_at k) × Quieted 300 k)
unfolding accounted
needs_both alike =
    let e = (alike 4 2000 (replicate 299 still ++ (drawn ∷ [])) (replicate 300 still) (still ∷ []) 0 0 (refl, refl, quieted)).1 in
    let z : false ≡ true = ap (λ (answers : List Seen). (answer_at 0 answers).discharge) e in
    absurd (false≢true z)

-- ---- equally many ticks

-- a second more shows in the lifetime
pub needs_ticks : ¬ Alike board (λ h k. (settings_at h ≡ settings_at k) × Quieted 300 h × Quieted 300 k)
unfolding accounted quiet
needs_ticks alike =
    let e = (alike 4 2000 (replicate 300 still) (replicate 310 still) (lifetime ∷ []) 0 0 (refl, quieted, (omega arith, refl))).1 in
    let z : ◌≡◌ {A = ℕ} 30 31 = ap (byte_at 0 2) e in
    omega arith

-- ---- equal settings

-- 316 written to 800, and not, reads so: without them the first alternative is false
pub needs_settings_quiet : ¬ Alike board (λ h k. (count_at h ≡ count_at k) × Quieted 300 h × Quieted 300 k)
unfolding accounted quiet
needs_settings_quiet alike =
    let e = (alike 4 2000 (to_800 ∷ replicate 300 still) (replicate 300 still) (read_316 ∷ []) 0 0 (refl, (omega arith, refl), quieted)).1 in
    let z : ◌≡◌ {A = ℕ} 0x03 0x0B = ap (byte_at 0 3) e in
    omega arith

-- and the second
pub needs_settings : ¬ Alike board
    (λ h k. (clock_at h ≡ clock_at k) × (latched_at h ≡ latched_at k) × (waits_at h ≡ waits_at k) × (remembered_at h ≡ remembered_at k))
unfolding accounted
needs_settings alike =
    let e = (alike 4 2000 (to_800 ∷ []) [] (read_316 ∷ []) 0 0 (refl, refl, refl, refl)).1 in
    let z : ◌≡◌ {A = ℕ} 0x03 0x0B = ap (byte_at 0 3) e in
    omega arith

-- ---- equal clocks

-- the seconds alone are not enough: with one tick more, nine ticks make a second
pub needs_tenths : ¬ Alike board
    (λ h k. (settings_at h ≡ settings_at k) × ((clock_at h).seconds ≡ (clock_at k).seconds) × (latched_at h ≡ latched_at k)
    × (waits_at h ≡ waits_at k) × (remembered_at h ≡ remembered_at k))
unfolding accounted
needs_tenths alike =
    let e = (alike 4 2000 (still ∷ []) [] (replicate 9 still ++ (lifetime ∷ [])) 0 0 (refl, refl, refl, refl, refl)).1 in
    let z : ◌≡◌ {A = ℕ} 1 0 = ap (byte_at 9 2) e in
    omega arith

-- so the clock is needed whole
pub needs_clock : ¬ Alike board
    (λ h k. (settings_at h ≡ settings_at k) × (latched_at h ≡ latched_at k) × (waits_at h ≡ waits_at k) × (remembered_at h ≡ remembered_at k))
needs_clock alike =
    needs_tenths
    (λ cells per_km xs ys zs number number' same. alike cells per_km xs ys zs number number' (same.0, same.2, same.3, same.4))

-- ---- equal latched conditions

-- LT held, which has no wait: it recovers at the next tick, and the event shows
pub needs_latched : ¬ Alike board
    (λ h k. (settings_at h ≡ settings_at k) × (clock_at h ≡ clock_at k) × (waits_at h ≡ waits_at k) × (remembered_at h ≡ remembered_at k))
unfolding accounted
needs_latched alike =
    let e = (alike 4 2000 (warmed (pos 200) (pos 0) (pos 200) ∷ []) (still ∷ []) (still ∷ events ∷ []) 0 0 (refl, refl, refl, refl)).1 in
    let z : ◌≡◌ {A = ℕ} 8 4 = ap (byte_at 1 2) e in
    omega arith

-- ---- equal waits

-- DOC held one tick later, and recovers one tick later
pub needs_waits : ¬ Alike board
    (λ h k. (settings_at h ≡ settings_at k) × (clock_at h ≡ clock_at k) × (latched_at h ≡ latched_at k) × (remembered_at h ≡ remembered_at k))
unfolding accounted
needs_waits alike =
    let e = (alike 4 2000 (drawn ∷ still ∷ []) (still ∷ drawn ∷ []) (replicate 49 still) 0 0 (refl, refl, refl, refl)).1 in
    let z : true ≡ false = ap (λ (answers : List Seen). (answer_at 48 answers).discharge) e in
    absurd (false≢true (sym z))

-- ---- equal memories

-- OT latched by the internal sensor, with both externals connected and with neither: without them only the second recovers
pub needs_memory : ¬ Alike board
    (λ h k. (settings_at h ≡ settings_at k) × (clock_at h ≡ clock_at k) × (latched_at h ≡ latched_at k) × (waits_at h ≡ waits_at k))
unfolding accounted
needs_memory alike =
    let e = (alike 4 2000 (warmed (pos 600) (pos 200) (pos 200) ∷ []) (warmed (pos 600) unplugged unplugged ∷ [])
    (warmed (pos 200) unplugged unplugged ∷ []) 0 0 (refl, refl, refl, refl)).1 in
    let z : false ≡ true = ap (λ (answers : List Seen). (answer_at 0 answers).discharge) e in
    absurd (false≢true z)

-- ---- a condition latched at the handover is no hindrance

pub with_a_latch :
    SameKept (deeds 4 2000 (flow (negsuc 59999) 100 false ∷ [])) (deeds 4 2000 (drawn ∷ []))
    × ((latched_at (deeds 4 2000 (drawn ∷ []))).doc ≡ true)
unfolding accounted
with_a_latch = (record { settings = refl; clock = refl; latched = refl; waits = refl; remembered = refl }, refl)
