-- What is kept is so after any ticks: one step keeps it so, whatever comes or goes. Assumes nothing.
use mathlib.Core.Bool.{Bool, true, false, ◌&&◌, not, cond}
use mathlib.Core.List.{List, [], ◌∷◌}
use mathlib.Core.Path.{◌≡◌, refl, ap, ◌∙◌}
use Prim.Native.Nat.{ℕ, suc, ◌+◌, ◌-◌, ◌<◌, ◌≤◌, min}
use native.Mathlib.Omega.{arith}
use lib.Dec.{eqb}
use lib.ListN.{length}
use Rattle.spells.specs.declared.Spells.{Spells}
use Rattle.spells.specs.Spells.{with_tick}
use Rattle.spells.specs.Laws.{after, held, comings, last_coming, first_coming, ticks_held, Kept}

-- after n ticks: whether it held at the latest, how often it came, when first and last, and at how many ticks it held
record Is (s : Spells) (holding : Bool) (n count first last ticks : ℕ) : Type 0 where
  holds : s.holds ≡ holding
  count_so : s.count ≡ count
  first_so : s.first ≡ first
  last_so : s.last ≡ last
  within : last ≤ n
  few : count ≤ n
  most : ticks ≤ n
  -- of the spells that are over, and of that which is not
  ticks_so : s.ticks + cond holding (suc n - last) 0 ≡ ticks

none : Is (after []) false 0 0 0 0 0
none =
    record {
      holds = refl;
      count_so = refl;
      first_so = refl;
      last_so = refl;
      within = omega arith;
      few = omega arith;
      most = omega arith;
      ticks_so = refl;
    }

module _ {s : Spells} {holding : Bool} {n count first last ticks : ℕ} (i : Is s holding n count first last ticks) where
  next_count : (h : Bool)
      → (with_tick s h (suc n)).count ≡ cond (h && not holding) (min 18446744073709551615 (s.count + 1)) s.count
  unfolding with_tick
  next_count h = ap (λ (x : Bool). cond (h && not x) (min 18446744073709551615 (s.count + 1)) s.count) i.holds

  next_first : (h : Bool) → (with_tick s h (suc n)).first ≡ cond ((h && not holding) && eqb count 0) (suc n) first
  unfolding with_tick
  next_first h =
      ap (λ (x : Bool). cond ((h && not x) && eqb s.count 0) (suc n) s.first) i.holds
      ∙ ap (λ (x : ℕ). cond ((h && not holding) && eqb x 0) (suc n) s.first) i.count_so
      ∙ ap (cond ((h && not holding) && eqb count 0) (suc n)) i.first_so

  next_last : (h : Bool) → (with_tick s h (suc n)).last ≡ cond (h && not holding) (suc n) last
  unfolding with_tick
  next_last h =
      ap (λ (x : Bool). cond (h && not x) (suc n) s.last) i.holds ∙ ap (cond (h && not holding) (suc n)) i.last_so

  next_ticks : (h : Bool)
      → (with_tick s h (suc n)).ticks
      ≡ cond (holding && not h) (min 18446744073709551615 (s.ticks + (suc n - last))) s.ticks
  unfolding with_tick
  next_ticks h =
      ap (λ (x : Bool). cond (x && not h) (min 18446744073709551615 (s.ticks + (suc n - s.last))) s.ticks) i.holds
      ∙ ap (λ (x : ℕ). cond (holding && not h) (min 18446744073709551615 (s.ticks + (suc n - x))) s.ticks) i.last_so

  next_holds : (h : Bool) → (with_tick s h (suc n)).holds ≡ h
  unfolding with_tick
  next_holds h = refl

-- a tick more, by what held before and what holds now
step : {s : Spells} {n count first last ticks : ℕ} (holding h : Bool) → Is s holding n count first last ticks → n < 18446744073709551615
    → Is (with_tick s h (suc n)) h (suc n) (cond (h && not holding) (count + 1) count)
    (cond ((h && not holding) && eqb count 0) (suc n) first)
    (cond (h && not holding) (suc n) last)
    (cond h (ticks + 1) ticks)
step {s} {n} {count} {first} {last} {ticks} false false i b =
    let t = next_ticks i false in
    let u = i.ticks_so in
    let w = i.within in
    let f = i.few in
    let m = i.most in
    record {
      holds = next_holds i false;
      count_so = next_count i false ∙ i.count_so;
      first_so = next_first i false;
      last_so = next_last i false;
      within = omega arith;
      few = omega arith;
      most = omega arith;
      ticks_so = omega arith;
    }
step {s} {n} {count} {first} {last} {ticks} true false i b =
    let t = next_ticks i false in
    let u = i.ticks_so in
    let w = i.within in
    let f = i.few in
    let m = i.most in
    record {
      holds = next_holds i false;
      count_so = next_count i false ∙ i.count_so;
      first_so = next_first i false;
      last_so = next_last i false;
      within = omega arith;
      few = omega arith;
      most = omega arith;
      ticks_so = omega arith;
    }
step {s} {n} {count} {first} {last} {ticks} false true i b =
    let k = next_count i true in
    let t = next_ticks i true in
    let u = i.ticks_so in
    let c = i.count_so in
    let f = i.few in
    let m = i.most in
    record {
      holds = next_holds i true;
      count_so = omega arith;
      first_so = next_first i true;
      last_so = next_last i true;
      within = omega arith;
      few = omega arith;
      most = omega arith;
      ticks_so = omega arith;
    }
step {s} {n} {count} {first} {last} {ticks} true true i b =
    let t = next_ticks i true in
    let u = i.ticks_so in
    let w = i.within in
    let f = i.few in
    let m = i.most in
    record {
      holds = next_holds i true;
      count_so = next_count i true ∙ i.count_so;
      first_so = next_first i true;
      last_so = next_last i true;
      within = omega arith;
      few = omega arith;
      most = omega arith;
      ticks_so = omega arith;
    }

so_far : (hs : List Bool) → length hs < 18446744073709551615
    → Is (after hs) (held hs) (length hs) (comings hs) (first_coming hs) (last_coming hs) (ticks_held hs)
so_far [] b = none
so_far (h ∷ hs) b = let l : length hs < 18446744073709551615 = omega arith in step (held hs) h (so_far hs l) l

pub kept : (hs : List Bool) → length hs < 18446744073709551615 → Kept hs
kept hs b =
    let i = step (held hs) false (so_far hs b) b in
    let t = i.ticks_so in
    record { count = i.count_so; ticks = omega arith; first = i.first_so; last = i.last_so }

-- where nothing comes or goes, nothing changes
alike : (count ticks first last : ℕ) (holds : Bool) (tick : ℕ)
    → with_tick (record { count = count; ticks = ticks; first = first; last = last; holds = holds }) holds tick
    ≡ record { count = count; ticks = ticks; first = first; last = last; holds = holds }
unfolding with_tick
alike count ticks first last true tick = refl
alike count ticks first last false tick = refl

pub unchanged : (s : Spells) (tick : ℕ) → with_tick s s.holds tick ≡ s
unchanged s tick = alike s.count s.ticks s.first s.last s.holds tick
