-- What a draft holds, register by register: it begins as what stands, each register put takes its place, and where it is done each of the
-- hundred is in its range and the three limits are in order. Assumes nothing.
use mathlib.Core.Path.{◌≡◌, refl, sym, ap, ◌∙◌, subst⁻¹}
use mathlib.Core.Bool.{Bool, true, false, ◌&&◌, ◌||◌, not, cond, false≢true, and-eq-true_iff}
use mathlib.Core.Logic.{◌↔◌}
use mathlib.Core.List.{List}
use Prim.Native.Nat.{ℕ, zero, suc, ◌+◌, ◌-◌, ◌<◌, ◌≤◌}
use native.Mathlib.Omega.{arith}
use borrow.Author.Tests.{eqb-true, eqb-false, ne_eqb, leb-true, le-leb, ltb-true, ltb-false, not-true, not-false}
use lib.Dec.{eqb, leb, ltb}
use lib.IntN.{ℤ, pos, negsuc}
use lib.ListN.{length, set, length-set}
use lib.Seq.{get_or-set_same, get_or-set_other}
use lib.Signed.{mag}
use mir.Syntax.{w16}
use mir.Val.{sel}
use Rattle.laws.specs.History.{any}
use Rattle.refusals.specs.Refusals.{Outcome, Done, is_done, giving, first}
use Rattle.std.specs.Prelude.{Ok, Err}
use Rattle.refusals.proofs.Rows.{off}
use Rattle.signed.specs.Signed.{bits_of, from_bits}
use Rattle.signed.proofs.Read.{read}
use Rattle.settings.specs.declared.Settings.{Settings}
use Rattle.settings.specs.declared.Draft.{Draft}
use Rattle.settings.specs.Settings.{minimum, maximum, register_of, up_from, registers, values_of, value_in, settings_of, fits, is_out}
use Rattle.settings.specs.Settings.{in_range, ordered, judged_of, draft_of, put_of, Put, outcome_of, settings_in, standing_of, written_of}
use Rattle.settings.proofs.Hundred.{values_at}

-- ---- a register that is put

-- the registers of the list
unfoldable pub listed : ℕ → Bool
listed at =
    eqb at 301 || eqb at 303 || eqb at 308 || eqb at 315 || eqb at 316 || eqb at 317 || eqb at 318 || eqb at 319 || eqb at 320 || eqb at 332
    || eqb at 334 || eqb at 335

-- the settings with the value in the register of that number, where it is one of the list
unfoldable pub with_of : Settings → ℕ → ℕ → Settings
with_of s at value =
    record {
      r301 = cond (eqb at 301) value s.r301;
      r303 = cond (eqb at 303) value s.r303;
      r308 = cond (eqb at 308) value s.r308;
      r315 = cond (eqb at 315) value s.r315;
      r316 = cond (eqb at 316) value s.r316;
      r317 = cond (eqb at 317) value s.r317;
      r318 = cond (eqb at 318) value s.r318;
      r319 = cond (eqb at 319) value s.r319;
      r320 = cond (eqb at 320) (from_bits value) s.r320;
      r332 = cond (eqb at 332) value s.r332;
      r334 = cond (eqb at 334) value s.r334;
      r335 = cond (eqb at 335) value s.r335;
    }

-- a draft holds a hundred values
abbrev pub Hundred : Draft → Type 0
Hundred d = length d.values ≡ 100

pub begun_hundred : (s : Settings) → Hundred (draft_of s)
unfolding values_of registers
begun_hundred s = refl

pub put_hundred : (d : Draft) (at value : ℕ) → Hundred d → Hundred (put_of d at value)
unfolding put_of
put_hundred d at value h = go (leb 300 at && leb at 399)
  where
    go : (t : Bool) → length (cond t (set d.values (at - 300) value) d.values) ≡ 100
    go true = length-set d.values (at - 300) value ∙ h
    go false = h

-- each of them is the last that was put there
module _ (d : Draft) (at value : ℕ) (hundred : Hundred d) where
  pub put_at : (register : ℕ) → 300 ≤ register → register ≤ 399
      → value_in (put_of d at value).values register ≡ cond (eqb at register) value (value_in d.values register)
  unfolding put_of
  put_at register least most = go (eqb at register) refl
    where
      other : (t : Bool) → leb 300 at ≡ t → (at ≡ register → ⊥)
          → value_in (cond (t && leb at 399) (set d.values (at - 300) value) d.values) register ≡ value_in d.values register
      other true e away = inside (leb at 399)
        where
          inside : (u : Bool) → value_in (cond u (set d.values (at - 300) value) d.values) register ≡ value_in d.values register
          inside true =
              get_or-set_other d.values (at - 300) (register - 300) value 0 (λ same. let l = leb-true 300 at e in away (omega arith))
          inside false = refl
      other false e away = refl

      go : (t : Bool) → eqb at register ≡ t
          → value_in (cond (leb 300 at && leb at 399) (set d.values (at - 300) value) d.values) register
          ≡ cond t value (value_in d.values register)
      go true e =
          subst⁻¹ (λ (k : ℕ). value_in (cond (leb 300 k && leb k 399) (set d.values (k - 300) value) d.values) register ≡ value)
          (eqb-true at register e)
          (rw (le-leb 300 register least, le-leb register 399 most) (get_or-set_same d.values (register - 300) value 0 (omega arith)))
      go false e = other (leb 300 at) refl (eqb-false at register e)

  -- so the settings of a draft are those with the register put
  pub put_settings : settings_in (put_of d at value) ≡ with_of (settings_in d) at value
  unfolding settings_of with_of
  put_settings =
      λ i. record {
        r301 = put_at 301 (omega arith) (omega arith) i;
        r303 = put_at 303 (omega arith) (omega arith) i;
        r308 = put_at 308 (omega arith) (omega arith) i;
        r315 = put_at 315 (omega arith) (omega arith) i;
        r316 = put_at 316 (omega arith) (omega arith) i;
        r317 = put_at 317 (omega arith) (omega arith) i;
        r318 = put_at 318 (omega arith) (omega arith) i;
        r319 = put_at 319 (omega arith) (omega arith) i;
        r320 = (ap from_bits (put_at 320 (omega arith) (omega arith)) ∙ among (eqb at 320)) i;
        r332 = put_at 332 (omega arith) (omega arith) i;
        r334 = put_at 334 (omega arith) (omega arith) i;
        r335 = put_at 335 (omega arith) (omega arith) i;
      }
    where
      among : (t : Bool) → from_bits (cond t value (value_in d.values 320)) ≡ cond t (from_bits value) (from_bits (value_in d.values 320))
      among true = refl
      among false = refl

-- a draft of values that are put one by one
abbrev pub drafting : List ℕ → Draft
drafting values = record { values = values }

pub put_among : {d : Draft} {values after : List ℕ} {at value : ℕ} → Put values at value after → drafting values ≡ d
    → drafting after ≡ put_of d at value
unfolding put_of
put_among {at = at} {value = value} p e = ap drafting p.put ∙ ap (λ (draft : Draft). put_of draft at value) e

-- ---- a draft begun

-- 320 is a number of sixteen bits
abbrev pub Held : Settings → Type 0
Held s = mag s.r320 < 32768

-- as every number read from bits is
pub bits_held : (bits : ℕ) → mag (from_bits bits) < 32768
unfolding from_bits
bits_held bits = go (ltb bits 32768) refl
  where
    go : (t : Bool) → ltb bits 32768 ≡ t → mag (sel t (pos bits) (negsuc (65536 - suc bits))) < 32768
    go true e = ltb-true bits 32768 e
    go false e = let l = ltb-false bits 32768 e in omega arith

pub read_back : (z : ℤ) → mag z < 32768 → from_bits (bits_of z) ≡ z
unfolding from_bits bits_of
read_back z h = read w16 z h

pub begun_at : (s : Settings) (register : ℕ) → 300 ≤ register → register ≤ 399 → value_in (values_of s) register ≡ register_of s register
begun_at s register least most =
    let place : 300 + (register - 300) ≡ register = omega arith in
    values_at s (register - 300) (omega arith) ∙ ap (register_of s) place

pub begun_settings : (s : Settings) → Held s → settings_in (draft_of s) ≡ s
unfolding settings_of values_of registers register_of
begun_settings s held = λ i. record {
  r301 = s.r301;
  r303 = s.r303;
  r308 = s.r308;
  r315 = s.r315;
  r316 = s.r316;
  r317 = s.r317;
  r318 = s.r318;
  r319 = s.r319;
  r320 = read_back s.r320 held i;
  r332 = s.r332;
  r334 = s.r334;
  r335 = s.r335;
}

-- whatever is put, 320 is held
pub draft_held : (d : Draft) → Held (settings_in d)
unfolding settings_of
draft_held d = bits_held (value_in d.values 320)

-- ---- registers that are not of the list

-- what holds of each register of the list, and of each other, holds of all
pub by_register : (P : ℕ → Type 0) → P 301 → P 303 → P 308 → P 315 → P 316 → P 317 → P 318 → P 319 → P 320 → P 332 → P 334 → P 335
    → ((at : ℕ) → listed at ≡ false → P at) → (at : ℕ) → P at
unfolding listed
by_register P p₁ p₂ p₃ p₄ p₅ p₆ p₇ p₈ p₉ p₁₀ p₁₁ p₁₂ other at =
    step 301 p₁ (λ n₁.
    step 303 p₂ (λ n₂.
    step 308 p₃ (λ n₃.
    step 315 p₄ (λ n₄.
    step 316 p₅ (λ n₅.
    step 317 p₆ (λ n₆.
    step 318 p₇ (λ n₇.
    step 319 p₈ (λ n₈.
    step 320 p₉ (λ n₉.
    step 332 p₁₀ (λ n₁₀.
    step 334 p₁₁ (λ n₁₁.
    step 335 p₁₂ (λ n₁₂.
    other at (rw (n₁, n₂, n₃, n₄, n₅, n₆, n₇, n₈, n₉, n₁₀, n₁₁, n₁₂) refl)))))))))))))
  where
    step : (register : ℕ) → P register → (eqb at register ≡ false → P at) → P at
    step register here there = go (eqb at register) refl
      where
        go : (t : Bool) → eqb at register ≡ t → P at
        go true e = subst⁻¹ P (eqb-true at register e) here
        go false e = there e

module _ (at : ℕ) (unlisted : listed at ≡ false) where
  away : (register : ℕ) → listed register ≡ true → eqb at register ≡ false
  away register l = ne_eqb at register (λ same. false≢true (sym unlisted ∙ ap listed same ∙ l))

  pub unlisted_reads : (s : Settings) → register_of s at ≡ 0
  unfolding register_of listed
  unlisted_reads s =
      rw (away 301 refl, away 303 refl, away 308 refl, away 315 refl, away 316 refl, away 317 refl)
      (rw (away 318 refl, away 319 refl, away 320 refl, away 332 refl, away 334 refl, away 335 refl))

  -- an unlisted register has range 0 to 0
  pub unlisted_range : (value : ℕ) → fits at value ≡ leb value 0
  unfolding fits listed
  unlisted_range value = rw (unlisted_reads minimum, unlisted_reads maximum, away 320 refl, le-leb 0 value (omega arith))

-- ---- a draft that is done

-- none of the registers passes exactly if each does not
module _ (passes : ℕ → Bool) where
  none_of : (at n : ℕ) → any passes (up_from at n) ≡ false → (k : ℕ) → at ≤ k → k < at + n → passes k ≡ false
  none_of at zero e k l m = absurd (omega arith)
  none_of at (suc n) e k l m = go (passes at) refl e (eqb at k) refl (λ e. none_of (suc at) n e k)
    where
      go : (t : Bool) → passes at ≡ t → cond t true (any passes (up_from (suc at) n)) ≡ false → (u : Bool) → eqb at k ≡ u
          → (any passes (up_from (suc at) n) ≡ false → suc at ≤ k → k < suc at + n → passes k ≡ false) → passes k ≡ false
      go true p e u same later = absurd (false≢true (sym e))
      go false p e true same later = ap passes (sym (eqb-true at k same)) ∙ p
      go false p e false same later = let other = eqb-false at k same in later e (omega (arith, other)) (omega arith)

  all_not : (at n : ℕ) → ((k : ℕ) → at ≤ k → k < at + n → passes k ≡ false) → any passes (up_from at n) ≡ false
  all_not at zero h = refl
  all_not at (suc n) h = rw (h at (omega arith) (omega arith)) (all_not (suc at) n (λ k l m. h k (omega arith) (omega arith)))

-- every register of 300 to 399 has a value in its range
abbrev pub AllFit : (ℕ → ℕ) → Type 0
AllFit value = (register : ℕ) → 300 ≤ register → register ≤ 399 → fits register (value register) ≡ true

pub none_out : (values : List ℕ) → (any (is_out values) registers ≡ false) ↔ AllFit (value_in values)
unfolding registers is_out
none_out values = (
  λ e register l m. not-false _ (none_of (is_out values) 300 100 e register l (omega arith)),
  λ h. all_not (is_out values) 300 100 (λ k l m. ap not (h k l (omega arith))),
)

neither_applies : (d : Draft) → any (is_out d.values) registers ≡ false → ordered (settings_in d) ≡ true → outcome_of d ≡ Done
unfolding judged_of first
neither_applies d e o = rw (e, o)

-- a draft is done exactly if they all fit and the three limits are in order
pub done_is : (d : Draft) → (outcome_of d ≡ Done) ↔ (AllFit (value_in d.values) × (ordered (settings_in d) ≡ true))
unfolding judged_of
done_is d = (
  λ e. let ranges = off _ _ _ e in ((none_out d.values).0 ranges.0, not-false _ (off _ _ _ ranges.1).0),
  λ h. neither_applies d ((none_out d.values).1 h.0) h.1,
)

-- ranges of settings, register by register
pub in_range_is : (s : Settings) → (in_range s ≡ true) ↔ AllFit (register_of s)
unfolding in_range
in_range_is s = (
  λ e register l m. ap (fits register) (sym (begun_at s register l m)) ∙ (none_out (values_of s)).0 (not-true _ e) register l m,
  λ h. ap not ((none_out (values_of s)).1 (λ register l m. ap (fits register) (begun_at s register l m) ∙ h register l m)),
)

-- so, where a draft is done, its settings are in range and in order
pub done_fits : (d : Draft) → outcome_of d ≡ Done → (in_range (settings_in d) ≡ true) × (ordered (settings_in d) ≡ true)
unfolding register_of settings_of fits
done_fits d e =
    let done = (done_is d).0 e in
    ((in_range_is (settings_in d)).1 (λ register l m. kept register (done.0 register l m)), done.1)
  where
    Kept : ℕ → Type 0
    Kept register = fits register (value_in d.values register) ≡ true → fits register (register_of (settings_in d) register) ≡ true

    kept : (register : ℕ) → Kept register
    kept =
        by_register Kept (λ e. e) (λ e. e) (λ e. e) (λ e. e) (λ e. e) (λ e. e) (λ e. e) (λ e. e)
        (λ e. rw (read_back (settings_in d).r320 (draft_held d)) e) (λ e. e) (λ e. e) (λ e. e)
        (λ at u e. rw (unlisted_reads at u (settings_in d)) (unlisted_range at u 0))

-- and an unlisted register ends on 0
pub done_unlisted : (d : Draft) → outcome_of d ≡ Done → (at : ℕ) → 300 ≤ at → at ≤ 399 → listed at ≡ false → value_in d.values at ≡ 0
done_unlisted d e at l m u =
    let most = leb-true (value_in d.values at) 0 (sym (unlisted_range at u _) ∙ ((done_is d).0 e).0 at l m) in omega arith

-- taken whole or not at all
pub done_stands : (s : Settings) (d : Draft) → outcome_of d ≡ Done → standing_of s (written_of d) ≡ settings_in d
unfolding standing_of
done_stands s d e = ap (λ (o : Outcome). standing_of s (giving o (settings_in d))) e

pub refused_stands : (s : Settings) (d : Draft) → is_done (outcome_of d) ≡ false → standing_of s (written_of d) ≡ s
unfolding standing_of
refused_stands s d e = go (outcome_of d) e
  where
    go : (o : Outcome) → is_done o ≡ false → standing_of s (giving o (settings_in d)) ≡ s
    go (Ok done) e = absurd (false≢true (sym e))
    go (Err refusal) e = refl

pub given_stands : (s : Settings) (o : Outcome) (written : Settings) → giving o (standing_of s (giving o written)) ≡ giving o written
unfolding standing_of
given_stands s (Ok done) written = refl
given_stands s (Err refusal) written = refl

-- a setting in range is between the least and the greatest; 320 aside, which is signed
pub between : (s : Settings) → in_range s ≡ true → (register : ℕ) → 300 ≤ register → register ≤ 399 → eqb register 320 ≡ false
    → (register_of minimum register ≤ register_of s register) × (register_of s register ≤ register_of maximum register)
unfolding fits
between s h register l m unsigned =
    let both = (and-eq-true_iff _ _).0 (rw unsigned at ((in_range_is s).0 h register l m)) in
    (leb-true _ _ both.0, leb-true _ _ both.1)
