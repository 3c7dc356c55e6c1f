-- Records in an area: put one by one, read by their place, counted up to the first unused one, and copied into the last places. The
-- capacity is 62; no proof here uses which number it is. Assumes nothing.
use mathlib.Core.Path.{◌≡◌, refl, sym, ap, ap₂, ◌∙◌}
use mathlib.Core.Bool.{Bool, true, false, not, cond}
use mathlib.Core.List.{List, [], ◌∷◌, ◌++◌, append_assoc, append-nil}
use Prim.Native.Nat.{ℕ, zero, suc, ◌+◌, ◌*◌, ◌-◌, ◌≤◌, ◌<◌}
use native.Mathlib.Nat.{not-suc-le-zero, add-zero, zero-add}
use native.Mathlib.Numerals.{add-one}
use native.Mathlib.Omega.{arith}
use borrow.Author.Tests.{not-true, not-false}
use lib.ListN.{length, take, drop, get_or, set, replicate, length-append, length-drop, length-replicate, replicate-append-replicate}
use lib.ListN.{drop_of_length-le, get_or-replicate, get_or-append}
use lib.Seq.{sets, sets-eq, length-sets, take-suc, take_all, take_at, drop-append-add, drop-drop, drop-cons, get_or-append-add}
use lib.Seq.{length-take-le, set_at, append_snoc}
use Rattle.laws.specs.History.{each, any}
use Rattle.laws.proofs.Lists.{each_more}
use Rattle.numbers.specs.Numbers.{low_first_or, le32, Wrote}
use Rattle.numbers.proofs.Writing.{in_parts}
use Rattle.refusals.specs.declared.Refusal.TheVariants.{WrongArea, UsedAfterUnused, NeverRecorded}
use Rattle.refusals.specs.Refusals.{Done, first}
use Rattle.events.specs.declared.Event.{Event}
use Rattle.events.specs.declared.Events.{Events}
use Rattle.events.specs.Events.{capacity, no_event, latest, kept_count, kept_of, placed}
use Rattle.events.specs.Area.{area_length, neither_area, record_of, no_record, used, saved_of, area_of, save_rows, Saves}
use Rattle.events.specs.Area.{records_at, records_in, used_of, parted, never_recorded, record_rows}
use Rattle.events.specs.Area.{load_rows, list_of, events_in}

-- ---- the records that are saved

pub length_kept : (e : Events) → length e.list ≡ capacity → length (kept_of e) ≡ kept_count e
unfolding latest
length_kept e l = simp length-drop (omega arith)

-- a kept event, and behind them an unused record
pub saved_kept : (e : Events) (i : ℕ) → length e.list ≡ capacity → i < kept_count e → placed (saved_of e) i ≡ placed (kept_of e) i
saved_kept e i l h = let k = length_kept e l in get_or-append (kept_of e) _ no_event i (omega arith)

pub saved_unused : (e : Events) (i : ℕ) → length e.list ≡ capacity → kept_count e ≤ i → i < capacity → placed (saved_of e) i ≡ no_record
saved_unused e i l h h₁ =
    let k = length_kept e l in
    let m : i ≡ length (kept_of e) + (i - length (kept_of e)) = omega arith in
    ap (placed (saved_of e)) m
    ∙ get_or-append-add (kept_of e) _ (i - length (kept_of e)) no_event
    ∙ get_or-replicate (capacity - length (kept_of e)) (i - length (kept_of e)) no_record no_event (omega arith)

pub length_saved : (e : Events) → length e.list ≡ capacity → length (saved_of e) ≡ capacity
length_saved e l = let k = length_kept e l in simp (length-append, length-replicate) (omega arith)

-- ---- records put one by one

pub length_each : (rs : List Event) → length (each record_of rs) ≡ 4 * length rs
length_each [] = refl
length_each (r ∷ rs) = let e = length_each rs in omega arith

-- the first i records stand at the front, and the rest of the area is as it was
pub record Put (rs : List Event) (l₀ : List ℕ) (i : ℕ) (l : List ℕ) : Type 0 where
  pub same : length l ≡ length l₀
  pub put : l ≡ each record_of (take i rs) ++ drop (4 * i) l₀

pub none_put : {rs : List Event} {l : List ℕ} → Put rs l 0 l
none_put = record { same = refl; put = refl }

-- a record is the four bytes of its number
pub record_bytes : (r : Event) → record_of r ≡ le32 r.bytes
record_bytes r = in_parts 2 0 2 r.bytes refl (omega arith)

pub one_put : {rs : List Event} {l₀ l l₁ : List ℕ} {i : ℕ} {r : Event} → Put rs l₀ i l → i < length rs → length l₀ ≡ 4 * length rs
    → r ≡ placed rs i → Wrote l (4 * i) (le32 r.bytes) l₁ → Put rs l₀ (i + 1) l₁
one_put {rs} {l₀} {l} {l₁} {i} {r} p h k q put =
    let w : l₁ ≡ sets l (4 * i) (record_of r) = put.wrote ∙ ap (sets l (4 * i)) (sym (record_bytes r)) in
    let front = each record_of (take i rs) in
    let t : length (take i rs) ≡ i = length-take-le i rs (omega arith) in
    let f : length front ≡ 4 * i = length_each (take i rs) ∙ ap (λ (n : ℕ). 4 * n) t in
    let m : length (front ++ drop (4 * i) l₀) ≡ length l₀ = simp (length-append, length-drop) (omega arith) in
    let x = record_of r in
    record {
      same = ap length w ∙ length-sets l (4 * i) x ∙ p.same;
      put =
          w
          ∙ ap (λ (y : List ℕ). sets y (4 * i) x) p.put
          ∙ sets-eq x (front ++ drop (4 * i) l₀) (4 * i) (omega arith)
          ∙ ap₂ (λ (a b : List ℕ). a ++ x ++ b) (take_at front (drop (4 * i) l₀) (4 * i) f)
          (ap (λ (n : ℕ). drop (n + 4) (front ++ drop (4 * i) l₀)) (sym f) ∙ drop-append-add front (drop (4 * i) l₀) 4
          ∙ drop-drop 4 (4 * i) l₀)
          ∙ ap₂ (λ (a : List ℕ) (n : ℕ). a ++ drop n l₀)
          (ap (λ (r : Event). front ++ record_of r) q
          ∙ sym (ap (λ (n : ℕ). each record_of (take n rs)) (add-one i) ∙ ap (each record_of) (take-suc rs i no_event h)
          ∙ each_more record_of (take i rs) (placed rs i)))
          (let n : 4 * i + 4 ≡ 4 * (i + 1) = omega arith in n);
    }

pub all_put : {e : Events} {l₀ l : List ℕ} {i : ℕ} → Put (saved_of e) l₀ i l → length (saved_of e) ≡ capacity → length l₀ ≡ area_length
    → i ≡ capacity → Saves e l₀ Done l
unfolding area_of first
all_put {e} {l₀} {l} {i} p m k h =
    record {
      outcome_is = ap (λ (n : ℕ). first (save_rows n)) (sym k);
      area =
          p.put
          ∙ ap₂ (λ (a : List Event) (b : List ℕ). each record_of a ++ b) (take_all i (saved_of e) (omega arith))
          (drop_of_length-le l₀ {i = 4 * i} (omega arith))
          ∙ append-nil (area_of e);
    }

-- ---- records read by their place

module _ (area : List ℕ) where
  abbrev record_at : ℕ → Event
  record_at at = record { bytes = low_first_or 0xFF 4 area at }

  length_at : (at n : ℕ) → length (records_at area at n) ≡ n
  length_at at zero = refl
  length_at at (suc n) = ap suc (length_at (at + 4) n)

  at_place : (at n i : ℕ) → i < n → placed (records_at area at n) i ≡ record_at (at + 4 * i)
  at_place at zero i h = absurd (not-suc-le-zero h)
  at_place at (suc n) zero h = ap record_at (let e : at ≡ at + 4 * 0 = omega arith in e)
  at_place at (suc n) (suc i) h =
      at_place (at + 4) n i (omega arith) ∙ ap record_at (let e : at + 4 + 4 * i ≡ at + 4 * suc i = omega arith in e)

  pub length_in : length (records_in area) ≡ capacity
  unfolding records_in
  length_in = length_at 0 capacity

  pub read : {i n : ℕ} → i < capacity → n ≡ low_first_or 0xFF 4 area (4 * i)
      → ◌≡◌ {A = Event} (record { bytes = n }) (placed (records_in area) i)
  unfolding records_in
  read {i} {n} h e =
      (λ j. record { bytes = e j }) ∙ sym (at_place 0 capacity i h ∙ ap record_at (let z : 0 + 4 * i ≡ 4 * i = omega arith in z))

-- ---- up to the first unused one

-- the first i are used
pub record Used (rs : List Event) (i : ℕ) : Type 0 where
  pub so_far : length (used_of rs) ≡ i + length (used_of (drop i rs))

pub none_used : {rs : List Event} → Used rs 0
none_used {rs} = record { so_far = sym (zero-add (length (used_of rs))) }

-- where `t` says of the record r at the place whether it is used
pub one_used : {rs : List Event} {i : ℕ} {r : Event} {t : Bool} → Used rs i → i < length rs → r ≡ placed rs i → t ≡ used r → not t ≡ false
    → Used rs (i + 1)
unfolding used_of
one_used {rs} {i} {r} {t} u h q k e =
    let m = u.so_far ∙ ap (λ (l : List Event). i + length (used_of l)) (drop-cons rs i no_event h) in
    let n = ap (λ (t : Bool). i + length (cond t (placed rs i ∷ used_of (drop (suc i) rs)) [])) (ap used (sym q) ∙ sym k ∙ not-false t e) in
    record { so_far = m ∙ n ∙ ap (λ (k : ℕ). i + suc (length (used_of (drop k rs)))) (sym (add-one i)) ∙ omega arith }

-- an unused one ends them, and so does the end
pub ended_used : {rs : List Event} {i : ℕ} {r : Event} {t : Bool} → Used rs i → i < length rs → r ≡ placed rs i → t ≡ used r → not t ≡ true
    → i ≡ length (used_of rs)
unfolding used_of
ended_used {rs} {i} {r} {t} u h q k e =
    let m = u.so_far ∙ ap (λ (l : List Event). i + length (used_of l)) (drop-cons rs i no_event h) in
    let n = ap (λ (t : Bool). i + length (cond t (placed rs i ∷ used_of (drop (suc i) rs)) [])) (ap used (sym q) ∙ sym k ∙ not-true t e) in
    sym (m ∙ n ∙ add-zero i)

pub all_used : {rs : List Event} {i : ℕ} → Used rs i → i ≡ length rs → i ≡ length (used_of rs)
unfolding used_of
all_used {rs} {i} u h = sym (u.so_far ∙ ap (λ (l : List Event). i + length (used_of l)) (drop_of_length-le rs {i = i} (omega arith))
    ∙ add-zero i)

-- they are the first, and a used one after them is after an unused one
pub used_first : (rs : List Event) → take (length (used_of rs)) rs ≡ used_of rs
unfolding used_of
used_first [] = refl
used_first (r ∷ rs) = go (used r) (used_first rs)
  where
    go : (t : Bool) → take (length (used_of rs)) rs ≡ used_of rs
        → take (length (cond t (r ∷ used_of rs) [])) (r ∷ rs) ≡ cond t (r ∷ used_of rs) []
    go true e = ap (λ (l : List Event). r ∷ l) e
    go false e = refl

pub parted_after : (rs : List Event) → parted rs ≡ any used (drop (length (used_of rs)) rs)
unfolding used_of parted
parted_after [] = refl
parted_after (r ∷ rs) = go (used r) refl (parted_after rs)
  where
    go : (t : Bool) → used r ≡ t → parted rs ≡ any used (drop (length (used_of rs)) rs)
        → cond t (parted rs) (any used rs) ≡ any used (drop (length (cond t (r ∷ used_of rs) [])) (r ∷ rs))
    go true e i = i
    go false e i = ap (λ (u : Bool). cond u true (any used rs)) (sym e)

-- ---- copied into the last places

module _ {A : Type 0} (z : A) where
  -- i of them are copied behind `before` places
  pub record Last (before count : ℕ) (xs : List A) (i : ℕ) (l : List A) : Type 0 where
    pub copied : l ≡ replicate before z ++ take i xs ++ replicate (count - i) z

  pub none_last : {n before count : ℕ} {xs : List A} → n ≡ before + count → Last before count xs 0 (replicate n z)
  none_last {n} {before} {count} e =
      let m : n ≡ before + (count - 0) = omega arith in
      record {
        copied =
            ap (λ (k : ℕ). replicate k z) m
            ∙ sym (replicate-append-replicate before (count - 0) z)
            ∙ ap (λ (l : List A). l ++ replicate (count - 0) z) (sym (append-nil (replicate before z)));
      }

  pub one_last : {before count i to : ℕ} {v : A} {xs l : List A} → Last before count xs i l → i < count → count ≤ length xs
      → to ≡ before + i → v ≡ get_or xs i z → Last before count xs (i + 1) (set l to v)
  one_last {before} {count} {i} {to} {v} {xs} {l} c h k e q =
      let front = replicate before z ++ take i xs in
      let rest = replicate (count - (i + 1)) z in
      let m : count - i ≡ suc (count - (i + 1)) = omega arith in
      let t : length (take i xs) ≡ i = length-take-le i xs (omega arith) in
      let n : length front ≡ to = simp (length-append, length-replicate) (omega arith) in
      record {
        copied =
            ap (λ (y : List A). set y to v) (c.copied ∙ ap (λ (k : ℕ). front ++ replicate k z) m)
            ∙ set_at front z rest v to n
            ∙ ap (λ (x : A). front ++ x ∷ rest) q
            ∙ sym (append_snoc front (get_or xs i z) rest)
            ∙ ap (λ (y : List A). y ++ rest) (append_assoc (replicate before z) (take i xs) (get_or xs i z ∷ []))
            ∙ ap (λ (y : List A). replicate before z ++ y ++ rest) (sym (ap (λ (k : ℕ). take k xs) (add-one i)
            ∙ take-suc xs i z (omega arith)));
      }

  pub all_last : {before count i : ℕ} {xs l : List A} → Last before count xs i l → i ≡ count → l ≡ replicate before z ++ take count xs
  all_last {before} {count} {i} {xs} c h =
      let m : count - i ≡ 0 = omega arith in
      c.copied ∙ ap₂ (λ (j k : ℕ). replicate before z ++ take j xs ++ replicate k z) h m ∙ append-nil (replicate before z ++ take count xs)

-- ---- what a load gives

module _ (area : List ℕ) where
  -- where the length is that of an area the records decide
  pub by_records : neither_area (length area) ≡ false → first (load_rows area) ≡ first (record_rows (records_in area))
  unfolding load_rows first
  by_records k = ap (λ (t : Bool). first ((WrongArea, t) ∷ record_rows (records_in area))) k

  pub decided : {count : ℕ} {t u : Bool} → count ≡ length (events_in area) → t ≡ any used (drop count (records_in area))
      → u ≡ any never_recorded (records_in area) → record_rows (records_in area) ≡ (UsedAfterUnused, t) ∷ (NeverRecorded, u) ∷ []
  decided p q r =
      ap₂ (λ (t u : Bool). (UsedAfterUnused, t) ∷ (NeverRecorded, u) ∷ [])
      (parted_after (records_in area) ∙ ap (λ (n : ℕ). any used (drop n (records_in area))) (sym p) ∙ sym q) (sym r)

  pub listed : {count i : ℕ} {l : List Event} → Last no_event (capacity - count) count (records_in area) i l → i ≡ count
      → count ≡ length (events_in area)
      → ◌≡◌ {A = Events} (record { list = l; kept = count; unsent = 0 }) (list_of (events_in area))
  listed {count} {i} {l} c h k =
      let first : take count (records_in area) ≡ events_in area = ap (λ (n : ℕ). take n (records_in area)) k ∙ used_first (records_in area) in
      let all : l ≡ replicate (capacity - length (events_in area)) no_event ++ events_in area =
      all_last no_event c h ∙ ap₂ (λ (n : ℕ) (es : List Event). replicate (capacity - n) no_event ++ es) k first in
      λ j. record { list = all j; kept = k j; unsent = 0 }
