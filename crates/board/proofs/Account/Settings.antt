-- What an accepted write makes of the settings, register by register; so after every history of calls each setting is in its range
-- and the three limits are in order. Assumes nothing.
use mathlib.Core.Path.{◌≡◌, refl, sym, ap, ◌∙◌, subst⁻¹}
use mathlib.Core.Bool.{Bool, true, false, cond}
use mathlib.Core.List.{List, [], ◌∷◌, ◌++◌, map}
use Prim.Native.Nat.{ℕ, ◌≤◌, ◌<◌}
use lib.Signed.{mag}
use native.Mathlib.Omega.{arith}
use Rattle.laws.specs.History.{never, since, each, head_or, newest}
use Rattle.settings.specs.declared.Settings.{Settings}
use Rattle.settings.specs.Settings as settings
use Rattle.settings.proofs.Drafts.{Held, bits_held, done_fits, between}
use Rattle.signed.specs.Signed.{bits_of, from_bits}
use Rattle.writes.specs.declared.Pair.{Pair}
use Rattle.writes.specs.Writes.{names, last_of, drafted_of}
use Rattle.writes.proofs.LastPut.{drafted_settings}
use Rattle.board.specs.Calls.{Call}
use Rattle.board.specs.Account.{Deed, took, wrote, cleared, forgot, sent, handed, heard, fetched, loaded, row, writing, last_written}
use Rattle.board.specs.Account.{settings_at, deeds_of}
use Rattle.board.proofs.Account.Deeds.{May, after_calls}

-- what pairs give a register, after older ones
pub after_older : {R : Type 0} (factory : R) (register : ℕ) (value : ℕ → R) (ps older : List Pair)
    → last_of factory register value (ps ++ older) ≡ last_of (last_of factory register value older) register value ps
after_older factory register value [] older = refl
after_older factory register value (p ∷ ps) older = go (names register p) (after_older factory register value ps older)
  where
    go : (t : Bool) → last_of factory register value (ps ++ older) ≡ last_of (last_of factory register value older) register value ps
        → head_or factory (map (λ p. value p.value) (cond t (p ∷ []) (newest (names register) (ps ++ older))))
        ≡ head_or (last_of factory register value older) (map (λ p. value p.value) (cond t (p ∷ []) (newest (names register) ps)))
    go true e = refl
    go false e = e

-- every one that was written fits its bits, 320 too
held : (h : List Deed) → Held (settings_at h)
unfolding settings_at
held h = go (newest (names 320) (each writing (since never h)))
  where
    go : (ps : List Pair) → mag (head_or (settings.factory).r320 (map (λ p. from_bits p.value) ps)) < 32768
    go [] = omega arith
    go (p ∷ ps) = bits_held p.value

-- the settings after an accepted write are those of its draft
pub written : (ps : List Pair) (h : List Deed)
    → settings_at (wrote ps ∷ h) ≡ settings.settings_in (drafted_of (settings.draft_of (settings_at h)) ps)
unfolding settings_at
written ps h = all ∙ sym (drafted_settings (settings_at h) ps (held h))
  where
    one : {R : Type 0} (factory : R) (register : ℕ) (value : ℕ → R)
        → last_written factory register value (wrote ps ∷ h) ≡ last_of (last_written factory register value h) register value ps
    one factory register value = after_older factory register value ps (each writing (since never h))

    all : settings_at (wrote ps ∷ h) ≡ record {
      r301 = last_of (settings_at h).r301 301 (λ v. v) ps;
      r303 = last_of (settings_at h).r303 303 (λ v. v) ps;
      r308 = last_of (settings_at h).r308 308 (λ v. v) ps;
      r315 = last_of (settings_at h).r315 315 (λ v. v) ps;
      r316 = last_of (settings_at h).r316 316 (λ v. v) ps;
      r317 = last_of (settings_at h).r317 317 (λ v. v) ps;
      r318 = last_of (settings_at h).r318 318 (λ v. v) ps;
      r319 = last_of (settings_at h).r319 319 (λ v. v) ps;
      r320 = last_of (settings_at h).r320 320 from_bits ps;
      r332 = last_of (settings_at h).r332 332 (λ v. v) ps;
      r334 = last_of (settings_at h).r334 334 (λ v. v) ps;
      r335 = last_of (settings_at h).r335 335 (λ v. v) ps;
    }
    all = λ i. record {
      r301 = one (settings.factory).r301 301 (λ v. v) i;
      r303 = one (settings.factory).r303 303 (λ v. v) i;
      r308 = one (settings.factory).r308 308 (λ v. v) i;
      r315 = one (settings.factory).r315 315 (λ v. v) i;
      r316 = one (settings.factory).r316 316 (λ v. v) i;
      r317 = one (settings.factory).r317 317 (λ v. v) i;
      r318 = one (settings.factory).r318 318 (λ v. v) i;
      r319 = one (settings.factory).r319 319 (λ v. v) i;
      r320 = one (settings.factory).r320 320 from_bits i;
      r332 = one (settings.factory).r332 332 (λ v. v) i;
      r334 = one (settings.factory).r334 334 (λ v. v) i;
      r335 = one (settings.factory).r335 335 (λ v. v) i;
    }

-- a deed that is no write leaves them as they were
pub unwritten : (d : Deed) (h : List Deed) → (row d).writes ≡ [] → settings_at (d ∷ h) ≡ settings_at h
unfolding settings_at
unwritten (took cells r) h e = refl
unwritten (wrote ps) h e = ap (λ (qs : List Pair). settings_at (wrote qs ∷ h)) e
unwritten cleared h e = refl
unwritten forgot h e = refl
unwritten sent h e = refl
unwritten handed h e = refl
unwritten (heard bytes) h e = refl
unwritten fetched h e = refl
unwritten (loaded es) h e = refl

-- each in its range, and 316 ≤ 301 < 315
abbrev pub Fits : Settings → Type 0
Fits s = (settings.in_range s ≡ true) × (settings.ordered s ≡ true)

-- so every deed leaves them fitting, and all calls do
pub kept : (cells per_km : ℕ) (d : Deed) (h : List Deed) → May cells per_km h d → Fits (settings_at h) → Fits (settings_at (d ∷ h))
unfolding settings_at
kept cells per_km (took given r) h m fits = fits
kept cells per_km (wrote ps) h m fits = subst⁻¹ Fits (written ps h) (done_fits (drafted_of (settings.draft_of (settings_at h)) ps) m)
kept cells per_km cleared h m fits = fits
kept cells per_km forgot h m fits = fits
kept cells per_km sent h m fits = fits
kept cells per_km handed h m fits = fits
kept cells per_km (heard bytes) h m fits = fits
kept cells per_km fetched h m fits = fits
kept cells per_km (loaded es) h m fits = fits

pub ranges : (cells per_km : ℕ) (cs : List Call) → Fits (settings_at (deeds_of cells per_km cs))
unfolding settings_at settings.in_range settings.is_out settings.fits settings.registers settings.values_of settings.register_of
    settings.settings_of settings.ordered bits_of from_bits
ranges cells per_km cs = after_calls cells per_km (λ k. Fits (settings_at k)) (kept cells per_km) (refl, refl) cs

-- so a wait is never 0
pub wait_some : (s : Settings) → Fits s → 1 ≤ s.r332
unfolding settings.register_of
wait_some s fits = (between s fits.0 332 (omega arith) (omega arith) refl).0
