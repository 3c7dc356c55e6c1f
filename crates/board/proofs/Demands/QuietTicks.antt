-- After 300 quiet ticks in a row nothing is latched (30 s is the longest wait); this is to be shown. No wait is left either, and no
-- sensor remembered: so crate `guard` has it where each wait is at most 300 ticks, and by the settings' ranges each is.
-- Assumes nothing.
use mathlib.Core.Path.{◌≡◌, refl, ap}
use mathlib.Core.Bool.{true, false, and-eq-true_iff}
use mathlib.Core.List.{List, [], ◌∷◌}
use Prim.Native.Nat.{ℕ, zero, suc, ◌*◌, ◌≤◌}
use native.Mathlib.Omega.{arith}
use lib.IntN.{pos}
use lib.ListN.{take, replicate}
use Rattle.cells.specs.Cells.{extremes_of}
use Rattle.guard.specs.Guard.{no_guard}
use Rattle.guard.specs.Quiet.{quiet, all_quiet}
use Rattle.guard.proofs.QuietTicks as guard
use Rattle.guard.proofs.QuietTicks.{Bounded}
use Rattle.readings.specs.declared.Readings.{Readings}
use Rattle.settings.specs.declared.Settings.{Settings}
use Rattle.settings.specs.Settings.{factory, in_range, register_of}
use Rattle.settings.proofs.Drafts.{between}
use Rattle.board.specs.Calls.{Call, tick}
use Rattle.board.specs.Account.{Deed, took, wrote, cleared, forgot, sent, handed, heard, fetched, loaded, moments_at, count_at}
use Rattle.board.specs.Account.{settings_at, latched_at, waits_at, remembered_at, deeds_of}
use Rattle.board.specs.Demands.{Quieted, deeds}
use Rattle.board.proofs.Account.Deeds.{May, after_calls}
use Rattle.board.proofs.Account.Settings.{Fits, ranges, kept}
use Rattle.board.proofs.Account.Tick.{guard_at}
use Rattle.board.proofs.Opened.{accounted}

-- ---- every wait is at most 300 ticks

longest_wait : (s : Settings) → in_range s ≡ true → 10 * s.r332 ≤ 300
unfolding register_of
longest_wait s h = let most = (between s h 332 (omega arith) (omega arith) refl).1 in omega arith

-- the moments of a history, each with settings that fit
module _ (cells per_km : ℕ) where
  abbrev Held : List Deed → Type 0
  Held k = Fits (settings_at k) × Bounded (moments_at k)

  kept_so : (d : Deed) (k : List Deed) → May cells per_km k d → Held k → Held (d ∷ k)
  unfolding Bounded
  kept_so d k m (fits, p) = (kept cells per_km d k m fits, go d)
    where
      go : (d : Deed) → Bounded (moments_at (d ∷ k))
      go (took given r) = (longest_wait _ fits.0, p)
      go (wrote ps) = p
      go cleared = p
      go forgot = p
      go sent = p
      go handed = p
      go (heard bytes) = p
      go fetched = p
      go (loaded es) = p

  bounded : (cs : List Call) → Bounded (moments_at (deeds_of cells per_km cs))
  unfolding Bounded deeds_of
  bounded cs = (after_calls cells per_km Held kept_so (ranges cells per_km [], tt) cs).1

pub stilled : (cells per_km : ℕ) (cs : List Call) → Quieted 300 (deeds cells per_km cs) → guard_at (deeds cells per_km cs) ≡ no_guard
unfolding latched_at waits_at remembered_at
stilled cells per_km cs q = guard.stilled (moments_at (deeds cells per_km cs)) (bounded cells per_km _) q.1

-- ---- there are such histories: level cells at 20 °C and no current, n times

abbrev level : Readings
level =
    record { current = pos 0; internal = pos 200; external1 = pos 200; external2 = pos 200; pulses = 0; charger = false; ignition = false }

abbrev calm : ℕ → List Deed
calm n = deeds_of 4 2000 (replicate n (tick (replicate 4 37000) level))

unwritten : (n : ℕ) → settings_at (calm n) ≡ factory
unfolding accounted
unwritten zero = refl
unwritten (suc n) = unwritten n

all_quiet_lem : (n : ℕ) → (count_at (calm n) ≡ n) × (all_quiet (take n (moments_at (calm n))) ≡ true)
unfolding accounted quiet
all_quiet_lem zero = (refl, refl)
all_quiet_lem (suc n) =
    let e : quiet (settings_at (calm n)) level (extremes_of (replicate 4 37000)) ≡ true =
    ap (λ s. quiet s level (extremes_of (replicate 4 37000))) (unwritten n) in (
      ap suc (all_quiet_lem n).0,
      (and-eq-true_iff (quiet (settings_at (calm n)) level (extremes_of (replicate 4 37000)))
          (all_quiet (take n (moments_at (calm n))))).1 (e, (all_quiet_lem n).1),
    )

pub quieted : Quieted 300 (calm 300)
quieted = (let e = (all_quiet_lem 300).0 in omega arith, (all_quiet_lem 300).1)
