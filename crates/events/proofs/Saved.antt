-- A save followed by a load gives the same list with everything marked as sent, if the kept events have numbers that the board records; and
-- a load followed by a save gives the area back. An old area loads as the area it makes with unused records after it, and what was saved
-- into it is loaded. Of the capacity, 62, they use that it is at least 48. Assumes nothing.
use Rattle.std.specs.Prelude.{Ok}
use mathlib.Core.Path.{◌≡◌, refl, sym, ap, ap₂, ◌∙◌, subst⁻¹}
use mathlib.Core.Bool.{Bool, true, false, ◌&&◌, not, cond, false≢true}
use mathlib.Core.List.{List, [], ◌∷◌, ◌++◌, append_assoc, append-nil}
use Prim.Native.Nat.{ℕ, zero, suc, ◌+◌, ◌*◌, ◌-◌, ◌≤◌, ◌<◌, min}
use native.Mathlib.Omega.{arith}
use native.Mathlib.Nat.{zero-add, sub-zero, suc-sub-suc}
use borrow.Author.Tests.{eqb-true}
use lib.Dec.{eqb}
use lib.ListN.{length, take, drop, get_or, replicate, length-append, length-replicate, replicate-append-replicate, length-take}
use lib.ListN.{take-append-drop, drop_of_length-le}
use lib.Seq.{drop_at, drop-drop}
use Rattle.laws.specs.History.{each, any}
use Rattle.laws.proofs.Lists.{each_append}
use Rattle.laws.proofs.Looking.{none_first, none_after}
use Rattle.numbers.specs.Numbers.{low_first_or}
use Rattle.numbers.proofs.ReadBack.{stands, writes_back}
use Rattle.refusals.specs.declared.Refusal.TheVariants.{WrongArea, UsedAfterUnused, NeverRecorded}
use Rattle.refusals.specs.Refusals.{Outcome, Done, is_done, first, giving}
use Rattle.refusals.proofs.Rows.{off}
use Rattle.events.specs.declared.Event.{Event}
use Rattle.events.specs.declared.Events.{Events}
use Rattle.events.specs.Events.{capacity, number_of, no_event, latest, kept_of, new_of}
use Rattle.events.specs.Area.{area_length, old_length, neither_area, record_of, no_record, used, saved_of, area_of, records_at, records_in}
use Rattle.events.specs.Area.{kept_after}
use Rattle.events.specs.Area.{used_of, parted, is_recorded, never_recorded, record_rows, load_rows, list_of, events_in, load_of}
use Rattle.events.proofs.Records.{length_kept, length_saved, length_each, length_in, record_bytes, used_first, by_records}

same_event : {a b : ℕ} → a ≡ b → ◌≡◌ {A = Event} (record { bytes = a }) (record { bytes = b })
same_event e = λ i. record { bytes = e i }

-- ---- records and their area

-- records read from a place behind other bytes
read_behind : (p : List ℕ) (rs : List Event) → records_at (p ++ each record_of rs) (length p) (length rs) ≡ rs
read_behind p [] = refl
read_behind p (r ∷ rs) =
    let rest = each record_of rs in
    let here = ap (λ (l : List ℕ). low_first_or 0xFF 4 (p ++ (l ++ rest)) (length p)) (record_bytes r)
    ∙ stands 0xFF 3 r.bytes p rest (length p) refl in
    let there : records_at (p ++ (record_of r ++ rest)) (length p + 4) (length rs) ≡ rs =
    ap₂ (λ (l : List ℕ) (n : ℕ). records_at l n (length rs)) (sym (append_assoc p (record_of r) rest)) (sym (length-append p (record_of r)))
    ∙ read_behind (p ++ record_of r) rs in
    ap₂ {C = List Event} ◌∷◌ (same_event here) there

pub records_back : (rs : List Event) → length rs ≡ capacity → records_in (each record_of rs) ≡ rs
unfolding records_in
records_back rs h = ap (records_at (each record_of rs) 0) (sym h) ∙ read_behind [] rs

-- ---- bytes past the end of an area

past_end : (n i : ℕ) → ◌≡◌ {A = ℕ} (get_or (replicate n 0xFF) i 0xFF) 0xFF
past_end zero i = refl
past_end (suc n) zero = refl
past_end (suc n) (suc i) = past_end n i

same_byte : (area : List ℕ) (n i : ℕ) → get_or (area ++ replicate n 0xFF) i 0xFF ≡ get_or area i 0xFF
same_byte [] n i = past_end n i
same_byte (x ∷ area) n zero = refl
same_byte (x ∷ area) n (suc i) = same_byte area n i

same_records : (area : List ℕ) (n at k : ℕ) → records_at (area ++ replicate n 0xFF) at k ≡ records_at area at k
same_records area n at zero = refl
same_records area n at (suc k) =
    let byte = same_byte area n in
    let number : low_first_or 0xFF 4 (area ++ replicate n 0xFF) at ≡ low_first_or 0xFF 4 area at =
    λ i. byte at i + 256 * byte (at + 1) i + 65536 * byte (at + 2) i + 16777216 * byte (at + 3) i in
    ap₂ {C = List Event} ◌∷◌ (same_event number) (same_records area n (at + 4) k)

-- bytes 0xFF after an area change no record of it
pub unused_after : (area : List ℕ) (n : ℕ) → records_in (area ++ replicate n 0xFF) ≡ records_in area
unfolding records_in
unused_after area n = same_records area n 0 capacity

each_unused : (m : ℕ) → each record_of (replicate m no_record) ≡ replicate (4 * m) 0xFF
each_unused zero = refl
each_unused (suc m) =
    let n : suc (suc (suc (suc (4 * m)))) ≡ 4 * suc m = omega arith in
    ap (λ (l : List ℕ). record_of no_record ++ l) (each_unused m) ∙ ap (λ (k : ℕ). replicate {A = ℕ} k 0xFF) n

-- fewer records than places are read as themselves and unused ones
pub few_back : (rs : List Event) (n : ℕ) → length rs + n ≡ capacity → records_in (each record_of rs) ≡ rs ++ replicate n no_record
few_back rs n h =
    sym (unused_after (each record_of rs) (4 * n))
    ∙ ap (λ (l : List ℕ). records_in (each record_of rs ++ l)) (sym (each_unused n))
    ∙ ap records_in (sym (each_append record_of rs (replicate n no_record)))
    ∙ records_back (rs ++ replicate n no_record) (simp (length-append, length-replicate) h)

-- ---- an area and its records

-- an area of bytes
abbrev pub Bytes : List ℕ → Type 0
Bytes area = (i : ℕ) → get_or area i 0xFF < 256

each_back : (area : List ℕ) → Bytes area → (at n : ℕ) → length area ≡ at + 4 * n → each record_of (records_at area at n) ≡ drop at area
each_back area b at zero h = sym (drop_of_length-le area {i = at} (omega arith))
each_back area b at (suc n) h =
    let n₀ = low_first_or 0xFF 4 area at in
    let here : record_of (record { bytes = n₀ }) ≡ take 4 (drop at area) =
    record_bytes (record { bytes = n₀ }) ∙ writes_back 0xFF 3 area at b (omega arith) in
    ap₂ {C = List ℕ} (λ (x y : List ℕ). x ++ y) here (each_back area b (at + 4) n (omega arith) ∙ sym (drop-drop 4 at area))
    ∙ take-append-drop 4 (drop at area)

pub area_back : (area : List ℕ) → Bytes area → length area ≡ area_length → each record_of (records_in area) ≡ area
unfolding records_in
area_back area b h = each_back area b 0 capacity (h ∙ sym (zero-add area_length))

-- ---- used records, and unused ones behind them

-- an event with a number that the board never records, used or not
abbrev pub unrecorded : Event → Bool
unrecorded e = not (is_recorded (number_of e))

-- a number that the board records is none of an unused record
is_used : (e : Event) → unrecorded e ≡ false → used e ≡ true
unfolding is_recorded
is_used e h = go (eqb e.bytes no_record.bytes) refl
  where
    go : (t : Bool) → eqb e.bytes no_record.bytes ≡ t → not t ≡ true
    go true q = absurd (false≢true (sym h ∙ ap (λ (n : ℕ). unrecorded (record { bytes = n })) (eqb-true e.bytes no_record.bytes q)))
    go false q = refl

none_used : (m : ℕ) → any used (replicate m no_record) ≡ false
none_used zero = refl
none_used (suc m) = none_used m

-- what a load makes of records
abbrev Reads : List Event → List Event → Type 0
Reads rs ks = (used_of rs ≡ ks) × (parted rs ≡ false) × (any never_recorded rs ≡ false)

unused_read : (m : ℕ) → Reads (replicate m no_record) []
unfolding used_of parted
unused_read zero = (refl, refl, refl)
unused_read (suc m) = (refl, none_used m, (unused_read m).2)

kept_read : (m : ℕ) (ks : List Event) → any unrecorded ks ≡ false → Reads (ks ++ replicate m no_record) ks
unfolding used_of parted
kept_read m [] h = unused_read m
kept_read m (k ∷ ks) h =
    let known = none_first (unrecorded k) (any unrecorded ks) h in
    let (read, whole, ours) = kept_read m ks (none_after (unrecorded k) (any unrecorded ks) h) in
    let rs = ks ++ replicate m no_record in
    let kept = is_used k known in (
      ap₂ (λ (t : Bool) (es : List Event). cond t (k ∷ es) []) kept read,
      ap₂ (λ (t u : Bool). cond t u (any used rs)) kept whole,
      ap₂ (λ (t u : Bool). cond (t && u) true (any never_recorded rs)) kept known ∙ ours,
    )

-- a record that is not used is all 0xFF
unused : (r : Event) → used r ≡ false → r ≡ no_record
unused r h = go (eqb r.bytes no_record.bytes) refl h
  where
    go : (t : Bool) → eqb r.bytes no_record.bytes ≡ t → not t ≡ false → r ≡ no_record
    go true q h = same_event (eqb-true r.bytes no_record.bytes q)
    go false q h = absurd (false≢true (sym h))

-- with no used record after an unused one, the others are unused
all_unused : (rs : List Event) → any used rs ≡ false → rs ≡ replicate (length rs) no_record
all_unused [] h = refl
all_unused (r ∷ rs) h =
    ap₂ {C = List Event} ◌∷◌ (unused r (none_first (used r) (any used rs) h)) (all_unused rs (none_after (used r) (any used rs) h))

unused_rest : (rs : List Event) → parted rs ≡ false → used_of rs ++ replicate (length rs - length (used_of rs)) no_record ≡ rs
unfolding used_of parted
unused_rest [] h = refl
unused_rest (r ∷ rs) h = go (used r) refl h (unused_rest rs)
  where
    go : (t : Bool) → used r ≡ t → cond t (parted rs) (any used rs) ≡ false
        → (parted rs ≡ false → used_of rs ++ replicate (length rs - length (used_of rs)) no_record ≡ rs)
        → cond t (r ∷ used_of rs) [] ++ replicate (suc (length rs) - length (cond t (r ∷ used_of rs) [])) no_record ≡ r ∷ rs
    go true e h i = ap (λ (n : ℕ). r ∷ used_of rs ++ replicate n no_record) (suc-sub-suc (length rs) (length (used_of rs)))
        ∙ ap (λ (l : List Event). r ∷ l) (i h)
    go false e h i = ap (λ (n : ℕ). replicate n no_record) (sub-zero (suc (length rs)))
        ∙ sym (ap₂ {C = List Event} ◌∷◌ (unused r e) (all_unused rs h))

-- ---- a list in the last places

module _ (es : List Event) (few : length es ≤ capacity) where
  pub listed_kept : kept_of (list_of es) ≡ es
  unfolding latest
  listed_kept =
      drop_at (replicate (capacity - length es) no_event) es (capacity - min capacity (length es))
      (length-replicate (capacity - length es) no_event ∙ omega arith)

  pub listed_new : new_of (list_of es) ≡ []
  unfolding latest
  listed_new =
      drop_of_length-le (list_of es).list {i = capacity - min (min capacity (length es)) 0}
      (simp (length-append, length-replicate) (omega arith))

-- ---- records of known numbers and unused ones behind them, as many as an area has, load as that list

module _ (ks : List Event) (m : ℕ) (few : length ks + m ≤ capacity) (recorded : any unrecorded ks ≡ false) where
  abbrev bytes : List ℕ
  bytes = each record_of (ks ++ replicate m no_record)

  records : records_in bytes ≡ ks ++ replicate (m + (capacity - (length ks + m))) no_record
  records =
      let n = capacity - (length ks + m) in
      few_back (ks ++ replicate m no_record) n (simp (length-append, length-replicate) (omega arith))
      ∙ append_assoc ks (replicate m no_record) (replicate n no_record)
      ∙ ap (λ (rs : List Event). ks ++ rs) (replicate-append-replicate m n no_record)

  read : Reads (records_in bytes) ks
  read = subst⁻¹ (λ (rs : List Event). Reads rs ks) records (kept_read (m + (capacity - (length ks + m))) ks recorded)

  done : neither_area (length bytes) ≡ false → first (load_rows bytes) ≡ Done
  unfolding first
  done h = by_records bytes h ∙ ap₂ (λ (t u : Bool). first ((UsedAfterUnused, t) ∷ (NeverRecorded, u) ∷ [])) read.1 read.2

  -- the same list, and nothing is new, whatever list it replaces
  pub loads : neither_area (length bytes) ≡ false → load_of bytes ≡ Ok (list_of ks)
  unfolding load_of
  loads h = rw (done h, read.0)

-- ---- a save followed by a load

module _ (e : Events) (long : length e.list ≡ capacity) (recorded : any unrecorded (kept_of e) ≡ false) where
  pub length_area : length (area_of e) ≡ area_length
  unfolding area_of
  length_area = length_each (saved_of e) ∙ ap (λ (n : ℕ). 4 * n) (length_saved e long)

  -- the same list, and nothing is new, whatever list it replaces
  pub save_load : load_of (area_of e) ≡ Ok (list_of (kept_of e))
  unfolding area_of
  save_load =
      let n = length_kept e long in loads (kept_of e) (capacity - length (kept_of e)) (omega arith) recorded (ap neither_area length_area)

  pub same_kept : kept_of (list_of (kept_of e)) ≡ kept_of e
  same_kept = listed_kept (kept_of e) (let n = length_kept e long in omega arith)

  pub none_new : new_of (list_of (kept_of e)) ≡ []
  none_new = listed_new (kept_of e) (let n = length_kept e long in omega arith)

-- ---- an old area

-- it loads as the 248 bytes it makes with 14 unused records after it
pub old_loads : (old : List ℕ) → length old ≡ old_length → load_of old ≡ load_of (old ++ replicate (area_length - old_length) 0xFF)
unfolding load_of
old_loads old h =
    let whole = old ++ replicate (area_length - old_length) 0xFF in
    let same = sym (unused_after old (area_length - old_length)) in
    let long : length whole ≡ area_length = simp (length-append, length-replicate) (omega arith) in
    let outcome : first (load_rows old) ≡ first (load_rows whole) =
    by_records old (ap neither_area h)
    ∙ ap (λ (rs : List Event). first (record_rows rs)) same
    ∙ sym (by_records whole (ap neither_area long)) in
    λ i. giving (outcome i) (list_of (used_of (same i)))

-- what the board of 48 saved of at most 48 events loads as these
pub old_save_load : (es : List Event) → length es ≤ 48 → any unrecorded es ≡ false
    → load_of (each record_of (es ++ replicate (48 - length es) no_record)) ≡ Ok (list_of es)
old_save_load es few recorded =
    let m = 48 - length es in
    let many : length (es ++ replicate m no_record) ≡ 48 = simp (length-append, length-replicate) (omega arith) in
    let long = length_each (es ++ replicate m no_record) ∙ ap (λ (n : ℕ). 4 * n) many in
    loads es m (omega arith) recorded (ap neither_area long)

-- ---- a load followed by a save

-- the area with unused records after it; one of all its bytes has none
abbrev pub whole_of : List ℕ → List ℕ
whole_of area = area ++ replicate (area_length - length area) 0xFF

pub whole_same : (area : List ℕ) → length area ≡ area_length → whole_of area ≡ area
whole_same area h = ap (λ (n : ℕ). area ++ replicate (area_length - n) 0xFF) h ∙ append-nil area

-- there are no more of them than records
pub few_events : (area : List ℕ) → length (events_in area) ≤ capacity
few_events area =
    let m = ap length (used_first (records_in area)) in
    let n = length-take (length (events_in area)) (records_in area) in
    let k = length_in area in
    omega arith

-- an area of neither length is none that is loaded
short : (n : ℕ) → neither_area n ≡ false → n ≤ area_length
short n h = go (eqb n area_length) refl (eqb n old_length) refl h
  where
    go : (s : Bool) → eqb n area_length ≡ s → (t : Bool) → eqb n old_length ≡ t → (not s && not t) ≡ false → n ≤ area_length
    go true p t q e = let k = eqb-true n area_length p in omega arith
    go false p true q e = let k = eqb-true n old_length q in omega arith
    go false p false q e = absurd (false≢true (sym e))

module _ (area : List ℕ) (done : first (load_rows area) ≡ Done) where
  accepted : (length area ≤ area_length) × (parted (records_in area) ≡ false)
  unfolding load_rows
  accepted =
      let rs = records_in area in
      let (length-known, others) = off WrongArea (neither_area (length area)) (record_rows rs) done in
      (short (length area) length-known, (off UsedAfterUnused (parted rs) ((NeverRecorded, any never_recorded rs) ∷ []) others).0)

  long_whole : length (whole_of area) ≡ area_length
  long_whole = let n = accepted.0 in simp (length-append, length-replicate) (omega arith)

  pub load_save : Bytes area → (f : Events) → area_of (kept_after f (load_of area)) ≡ whole_of area
  unfolding area_of load_of
  load_save b f =
      let es = events_in area in
      ap (λ (o : Outcome). area_of (kept_after f (giving o (list_of es)))) done
      ∙ ap (λ (ks : List Event). each record_of (ks ++ replicate (capacity - length ks) no_record)) (listed_kept es (few_events area))
      ∙ ap (λ (n : ℕ). each record_of (es ++ replicate (n - length es) no_record)) (sym (length_in area))
      ∙ ap (each record_of) (unused_rest (records_in area) accepted.1)
      ∙ ap (each record_of) (sym (unused_after area (area_length - length area)))
      ∙ area_back (whole_of area) (λ i. subst⁻¹ (λ (n : ℕ). n < 256) (same_byte area (area_length - length area) i) (b i)) long_whole
