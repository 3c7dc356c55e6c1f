-- What a draft holds after pairs: at each register of 300 to 399 the value of the last pair that names it, else what stood; so its
-- settings, and so its verdict, by these final values alone.
-- Assumes nothing.
use mathlib.Core.Path.{◌≡◌, refl, sym, ap, ◌∙◌}
use mathlib.Core.Bool.{Bool, true, false, cond}
use mathlib.Core.List.{List, [], ◌∷◌, map}
use Prim.Native.Nat.{ℕ, ◌+◌, ◌-◌, ◌≤◌}
use native.Mathlib.Omega.{arith}
use lib.Seq.{ext_get_or}
use Rattle.laws.specs.History.{head_or, newest}
use Rattle.settings.specs.declared.Settings.{Settings}
use Rattle.settings.specs.declared.Draft.{Draft}
use Rattle.settings.specs.Settings as settings
use Rattle.settings.proofs.Drafts.{Hundred, Held, put_hundred, begun_hundred, put_at, begun_at, read_back}
use Rattle.signed.specs.Signed.{bits_of, from_bits}
use Rattle.writes.specs.declared.Pair.{Pair}
use Rattle.writes.specs.Writes.{names, last_of, drafted_of, written_to}

pub drafted_hundred : (d : Draft) (ps : List Pair) → Hundred d → Hundred (drafted_of d ps)
unfolding drafted_of
drafted_hundred d [] h = h
drafted_hundred d (p ∷ ps) h = put_hundred (drafted_of d ps) p.at p.value (drafted_hundred d ps h)

module _ (register : ℕ) (least : 300 ≤ register) (most : register ≤ 399) where
  pub last_put : (d : Draft) (ps : List Pair) → Hundred d
      → settings.value_in (drafted_of d ps).values register ≡ last_of (settings.value_in d.values register) register (λ v. v) ps
  unfolding drafted_of
  last_put d [] h = refl
  last_put d (p ∷ ps) h =
      put_at (drafted_of d ps) p.at p.value (drafted_hundred d ps h) register least most ∙ go (names register p) (last_put d ps h)
    where
      stood : ℕ
      stood = settings.value_in d.values register

      go : (t : Bool) → settings.value_in (drafted_of d ps).values register ≡ last_of stood register (λ v. v) ps
          → cond t p.value (settings.value_in (drafted_of d ps).values register)
          ≡ head_or stood (map (λ p. p.value) (cond t (p ∷ []) (newest (names register) ps)))
      go true e = refl
      go false e = e

  -- of a draft begun on settings
  pub last_given_lem : (s : Settings) (ps : List Pair)
      → settings.value_in (drafted_of (settings.draft_of s) ps).values register ≡ last_of (settings.register_of s register) register (λ v. v) ps
  last_given_lem s ps =
      last_put (settings.draft_of s) ps (begun_hundred s)
      ∙ ap (λ (stood : ℕ). last_of stood register (λ v. v) ps) (begun_at s register least most)

-- the settings of the draft, each by its last pair
pub drafted_settings : (s : Settings) (ps : List Pair) → Held s → settings.settings_in (drafted_of (settings.draft_of s) ps) ≡ record {
  r301 = last_of s.r301 301 (λ v. v) ps;
  r303 = last_of s.r303 303 (λ v. v) ps;
  r308 = last_of s.r308 308 (λ v. v) ps;
  r315 = last_of s.r315 315 (λ v. v) ps;
  r316 = last_of s.r316 316 (λ v. v) ps;
  r317 = last_of s.r317 317 (λ v. v) ps;
  r318 = last_of s.r318 318 (λ v. v) ps;
  r319 = last_of s.r319 319 (λ v. v) ps;
  r320 = last_of s.r320 320 from_bits ps;
  r332 = last_of s.r332 332 (λ v. v) ps;
  r334 = last_of s.r334 334 (λ v. v) ps;
  r335 = last_of s.r335 335 (λ v. v) ps;
}
unfolding settings.settings_of settings.register_of
drafted_settings s ps held =
    λ i. record {
      r301 = last_given_lem 301 (omega arith) (omega arith) s ps i;
      r303 = last_given_lem 303 (omega arith) (omega arith) s ps i;
      r308 = last_given_lem 308 (omega arith) (omega arith) s ps i;
      r315 = last_given_lem 315 (omega arith) (omega arith) s ps i;
      r316 = last_given_lem 316 (omega arith) (omega arith) s ps i;
      r317 = last_given_lem 317 (omega arith) (omega arith) s ps i;
      r318 = last_given_lem 318 (omega arith) (omega arith) s ps i;
      r319 = last_given_lem 319 (omega arith) (omega arith) s ps i;
      r320 = (ap from_bits (last_given_lem 320 (omega arith) (omega arith) s ps) ∙ signed (newest (names 320) ps)) i;
      r332 = last_given_lem 332 (omega arith) (omega arith) s ps i;
      r334 = last_given_lem 334 (omega arith) (omega arith) s ps i;
      r335 = last_given_lem 335 (omega arith) (omega arith) s ps i;
    }
  where
    signed : (qs : List Pair)
        → from_bits (head_or (bits_of s.r320) (map (λ p. p.value) qs)) ≡ head_or s.r320 (map (λ p. from_bits p.value) qs)
    signed [] = read_back s.r320 held
    signed (p ∷ ps) = refl

-- ---- only the final values are judged

-- writes that leave each register of 300 to 399 on the same value are judged alike and leave the same settings, whatever else they gave it
pub final_values : (s : Settings) (ps qs : List Pair)
    → ((at : ℕ) → 300 ≤ at → at ≤ 399
    → last_of (settings.register_of s at) at (λ v. v) ps ≡ last_of (settings.register_of s at) at (λ v. v) qs)
    → written_to s ps ≡ written_to s qs
final_values s ps qs same =
    ap settings.written_of (λ i. record { values = values i })
  where
    draft : List Pair → Draft
    draft ps = drafted_of (settings.draft_of s) ps

    hundred : (ps : List Pair) → Hundred (draft ps)
    hundred ps = drafted_hundred (settings.draft_of s) ps (begun_hundred s)

    value : (at : ℕ) → 300 ≤ at → at ≤ 399 → settings.value_in (draft ps).values at ≡ settings.value_in (draft qs).values at
    value at l m = last_given_lem at l m s ps ∙ same at l m ∙ sym (last_given_lem at l m s qs)

    values : (draft ps).values ≡ (draft qs).values
    values =
        ext_get_or 0 (draft ps).values (draft qs).values (hundred ps ∙ sym (hundred qs))
        (λ i l. let place : 300 + i - 300 ≡ i = omega arith in
        rw place at (value (300 + i) (omega arith) (omega (arith, hundred ps))))
