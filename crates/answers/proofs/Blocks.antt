-- Registers in a row and registers of a list are those that are shown: a block lies in one range, and each range has its row.
-- Assumes nothing.
use Rattle.std.specs.Prelude.{Ok}
use mathlib.Core.Path.{◌≡◌, refl, sym, ap, ◌∙◌}
use mathlib.Core.Bool.{Bool, true, false, ◌&&◌, ◌||◌, cond, false≢true}
use mathlib.Core.List.{List}
use Prim.Native.Nat.{ℕ, ◌+◌, ◌-◌, ◌/◌, ◌<◌, ◌≤◌, min}
use native.Mathlib.Nat.{zero-add}
use native.Mathlib.Omega.{arith}
use borrow.Author.Tests.{le-leb, lt-leb, leb-true, leb-false, ltb-true, ltb-false}
use lib.Dec.{leb, ltb}
use lib.ListN.{get_or}
use Rattle.laws.specs.Row.{row}
use Rattle.laws.proofs.Rows.{row_at, row_alike}
use Rattle.numbers.specs.Numbers.{Wrote}
use Rattle.settings.specs.Settings as settings
use Rattle.statistics.specs.Statistics as statistics
use Rattle.requests.specs.declared.Query.{Query}
use Rattle.requests.specs.declared.Query.TheVariants.{Registers, Bare, Cells}
use Rattle.requests.specs.declared.Request.TheVariants as request
use Rattle.requests.specs.Requests.{in_one_range, address_at, request_of, word_count}
use Rattle.requests.proofs.Sound.{in_range, reads_in_range, sound}
use Rattle.replies.specs.Replies.{words}
use Rattle.replies.proofs.Writing.{words_alike}
use Rattle.pack.specs.declared.Pack.{Pack}
use Rattle.hire.specs.declared.Hire.{Hire}
use Rattle.hire.specs.Registers.{reading_register}
use Rattle.answers.specs.Registers.{in_readings, in_statistics, in_settings, shown_at, value_at}
use Rattle.answers.specs.Making.{looked_up, listed_by, count_of, word_of}

-- ---- where a block lies, by where it begins

bounds : (a b c d e : Bool) (at n : ℕ) → leb (at + n) 56 ≡ a → leb 100 at ≡ b → leb (at + n) 118 ≡ c → leb 300 at ≡ d → leb (at + n) 400 ≡ e
    → (a || b && c || d && e) ≡ true
    → (at < 100 → at + n ≤ 56) × ((100 ≤ at → at < 300 → at + n ≤ 118) × (300 ≤ at → at + n ≤ 400))
bounds true b c d e at n p q r s t h =
    let m = leb-true (at + n) 56 p in (λ x. m, (λ x y. omega arith, λ x. omega arith))
bounds false true true d e at n p q r s t h =
    let m = leb-true (at + n) 118 r in
    let k = leb-true 100 at q in
    (λ x. absurd (omega arith), (λ x y. m, λ x. omega arith))
bounds false true false true true at n p q r s t h =
    let m = leb-true (at + n) 400 t in
    let k = leb-true 300 at s in
    (λ x. absurd (omega arith), (λ x y. absurd (omega arith), λ x. m))
bounds false true false true false at n p q r s t h = absurd (false≢true h)
bounds false true false false e at n p q r s t h = absurd (false≢true h)
bounds false false c true true at n p q r s t h =
    let m = leb-true (at + n) 400 t in
    let k = leb-true 300 at s in
    (λ x. absurd (omega arith), (λ x y. absurd (omega arith), λ x. m))
bounds false false c true false at n p q r s t h = absurd (false≢true h)
bounds false false c false e at n p q r s t h = absurd (false≢true h)

pub lies : (at n : ℕ) → in_one_range at n ≡ true
    → (at < 100 → at + n ≤ 56) × ((100 ≤ at → at < 300 → at + n ≤ 118) × (300 ≤ at → at + n ≤ 400))
lies at n h = bounds (leb (at + n) 56) (leb 100 at) (leb (at + n) 118) (leb 300 at) (leb (at + n) 400) at n refl refl refl refl refl h

-- ---- a register of each range

module _ (p : Pack) (h : Hire) where
  of_readings : (at : ℕ) → at ≤ 55 → value_at p h at ≡ reading_register h p.clock.seconds p.per_km at
  unfolding value_at shown_at
  of_readings at m = rw (le-leb at 55 m)

  of_statistics : (at : ℕ) → 100 ≤ at → at ≤ 117 → value_at p h at ≡ statistics.register_of h.statistics p.per_km at
  unfolding value_at shown_at
  of_statistics at l m = rw (lt-leb at 55 (omega arith), le-leb 100 at l, le-leb at 117 m)

  of_settings : (at : ℕ) → 300 ≤ at → at ≤ 399 → value_at p h at ≡ settings.register_of p.settings at
  unfolding value_at shown_at
  of_settings at l m = rw (lt-leb at 55 (omega arith), le-leb 100 at (omega arith), lt-leb at 117 (omega arith), le-leb 300 at l, le-leb at 399 m)

  -- between the ranges, and past them, there is none
  of_none : (at : ℕ) → 55 < at → at < 100 → at < 300 → value_at p h at ≡ 0
  unfolding value_at shown_at
  of_none at l m n = rw (lt-leb at 55 l, lt-leb 100 at m, lt-leb 300 at n)

  of_nothing : (at : ℕ) → 117 < at → at < 300 → value_at p h at ≡ 0
  unfolding value_at shown_at
  of_nothing at l m = rw (lt-leb at 55 (omega arith), le-leb 100 at (omega arith), lt-leb at 117 l, lt-leb 300 at m)

  of_past : (at : ℕ) → 399 < at → value_at p h at ≡ 0
  unfolding value_at shown_at
  of_past at l =
      rw (lt-leb at 55 (omega arith), le-leb 100 at (omega arith), lt-leb at 117 (omega arith), le-leb 300 at (omega arith), lt-leb at 399 l)

  -- a block is a row of its range
  pub block_of_readings : (at n : ℕ) → in_one_range at n ≡ true → at < 100
      → row 127 (λ i. reading_register h p.clock.seconds p.per_km (at + i)) (min 127 n) ≡ row 127 (λ i. value_at p h (at + i)) (min 127 n)
  block_of_readings at n g l =
      let m = (lies at n g).0 l in
      row_alike 127 _ _ (min 127 n) (λ i k. sym (of_readings (at + i) (omega arith)))

  pub block_of_statistics : (at n : ℕ) → in_one_range at n ≡ true → 100 ≤ at → at < 300
      → row 127 (λ i. statistics.register_of h.statistics p.per_km (100 + (at - 100) + i)) (min 127 n)
      ≡ row 127 (λ i. value_at p h (at + i)) (min 127 n)
  block_of_statistics at n g l u =
      let m = (lies at n g).1.0 l u in
      let e : 100 + (at - 100) ≡ at = omega arith in
      rw e (row_alike 127 _ _ (min 127 n) (λ i k. sym (of_statistics (at + i) (omega arith) (omega arith))))

  pub block_of_settings : (at n : ℕ) → in_one_range at n ≡ true → 300 ≤ at
      → row 127 (λ i. settings.register_of p.settings (300 + (at - 300) + i)) (min 127 n) ≡ row 127 (λ i. value_at p h (at + i)) (min 127 n)
  block_of_settings at n g l =
      let m = (lies at n g).1.1 l in
      let e : 300 + (at - 300) ≡ at = omega arith in
      rw e (row_alike 127 _ _ (min 127 n) (λ i k. sym (of_settings (at + i) (omega arith) (omega arith))))

  -- ---- a register of a list, looked up in the rows of the three ranges

  abbrev readings_row : List ℕ
  readings_row = row 127 (λ i. reading_register h p.clock.seconds p.per_km (0 + i)) (min 127 56)

  abbrev statistics_row : List ℕ
  statistics_row = row 127 (λ i. statistics.register_of h.statistics p.per_km (100 + 0 + i)) (min 127 18)

  abbrev settings_row : List ℕ
  settings_row = row 127 (λ i. settings.register_of p.settings (300 + 0 + i)) (min 127 100)

  pub looked_up_lem : (at : ℕ) → looked_up readings_row statistics_row settings_row at ≡ value_at p h at
  unfolding looked_up
  looked_up_lem at = go (ltb at 56) (ltb at 100) (ltb at 118) (ltb at 300) (ltb at 400) refl refl refl refl refl
    where
      go : (a b c d e : Bool) → ltb at 56 ≡ a → ltb at 100 ≡ b → ltb at 118 ≡ c → ltb at 300 ≡ d → ltb at 400 ≡ e
          → cond a (get_or readings_row at 0)
          (cond b 0 (cond c (get_or statistics_row (at - 100) 0) (cond d 0 (cond e (get_or settings_row (at - 300) 0) 0))))
          ≡ value_at p h at
      go true b c d e k₁ k₂ k₃ k₄ k₅ =
          let m = ltb-true at 56 k₁ in
          row_at 127 _ 56 at (omega arith) (omega arith)
          ∙ ap (reading_register h p.clock.seconds p.per_km) (zero-add at) ∙ sym (of_readings at (omega arith))
      go false true c d e k₁ k₂ k₃ k₄ k₅ =
          let m = ltb-false at 56 k₁ in
          let n = ltb-true at 100 k₂ in
          sym (of_none at (omega arith) (omega arith) (omega arith))
      go false false true d e k₁ k₂ k₃ k₄ k₅ =
          let m = ltb-false at 100 k₂ in
          let n = ltb-true at 118 k₃ in
          let k : 100 + 0 + (at - 100) ≡ at = omega arith in
          row_at 127 _ 18 (at - 100) (omega arith) (omega arith)
          ∙ ap (statistics.register_of h.statistics p.per_km) k ∙ sym (of_statistics at (omega arith) (omega arith))
      go false false false true e k₁ k₂ k₃ k₄ k₅ =
          let m = ltb-false at 118 k₃ in
          let n = ltb-true at 300 k₄ in
          sym (of_nothing at (omega arith) (omega arith))
      go false false false false true k₁ k₂ k₃ k₄ k₅ =
          let m = ltb-false at 300 k₄ in
          let n = ltb-true at 400 k₅ in
          let k : 300 + 0 + (at - 300) ≡ at = omega arith in
          row_at 127 _ 100 (at - 300) (omega arith) (omega arith)
          ∙ ap (settings.register_of p.settings) k ∙ sym (of_settings at (omega arith) (omega arith))
      go false false false false false k₁ k₂ k₃ k₄ k₅ = let m = ltb-false at 400 k₅ in sym (of_past at (omega arith))

pub listed_alike : (value value' : ℕ → ℕ) → ((at : ℕ) → value at ≡ value' at) → (s : List ℕ) (i : ℕ) → listed_by value s i ≡ listed_by value' s i
unfolding listed_by
listed_alike value value' e s i = rw (e (address_at s (i / 2)))

pub of_lists : (p : Pack) (h : Hire) (s : List ℕ) (n : ℕ) {readings statistics settings : List ℕ} → readings ≡ readings_row p h → statistics ≡ statistics_row p h
    → settings ≡ settings_row p h → row 127 (listed_by (looked_up readings statistics settings) s) n ≡ row 127 (listed_by (value_at p h) s) n
of_lists p h s n e f g = rw (e, f, g) (row_alike 127 _ _ n (λ i l. listed_alike _ _ (looked_up_lem p h) s i))

-- a register that is shown is a block of one
same_test : (a b : ℕ) → leb (a + 1) (b + 1) ≡ leb a b
same_test a b = go (leb a b) refl
  where
    go : (t : Bool) → leb a b ≡ t → leb (a + 1) (b + 1) ≡ t
    go true e = let m = leb-true a b e in le-leb (a + 1) (b + 1) (omega arith)
    go false e = let m = leb-false a b e in lt-leb (a + 1) (b + 1) (omega arith)

pub one_is_block : (at : ℕ) → (in_readings at || (in_statistics at || in_settings at)) ≡ true → in_one_range at 1 ≡ true
one_is_block at e = rw (same_test at 55, same_test at 117, same_test at 399) (go (in_readings at) (in_statistics at) (in_settings at) e)
  where
    go : (a b c : Bool) → (a || (b || c)) ≡ true → (a || b || c) ≡ true
    go true b c e = refl
    go false true c e = refl
    go false false c e = e

pub first_of : (f : ℕ → ℕ) {l : List ℕ} → l ≡ row 127 f (min 127 1) → get_or l 0 0 ≡ f 0
first_of f e = ap (λ (l : List ℕ). get_or l 0 0) e ∙ row_at 127 f 1 0 (omega arith) (omega arith)

-- ---- the rows of a query

module _ (p : Pack) (h : Hire) (s : List ℕ) where
  -- the registers of a block, of a bare reply, and the cells lie in one range
  pub registers_lie : (command at n : ℕ) {count : ℕ} → request_of s ≡ Ok (request.Read (Registers command at n)) → count ≡ count_of p h (Registers command at n)
      → in_one_range at count ≡ true
  unfolding in_range reads_in_range word_count
  registers_lie command at n asks e = rw e (rw asks at (sound s).lies_in_range)

  pub bare_lie : (command at n : ℕ) {count : ℕ} → request_of s ≡ Ok (request.Read (Bare command at n)) → count ≡ count_of p h (Bare command at n)
      → in_one_range at count ≡ true
  unfolding in_range reads_in_range word_count
  bare_lie command at n asks e = rw e (rw asks at (sound s).lies_in_range)

  pub cells_lie : {count : ℕ} → count ≡ count_of p h Cells → in_one_range 0 count ≡ true
  unfolding word_count
  cells_lie {count} e = let m : 0 + count ≤ 56 = omega arith in rw (le-leb (0 + count) 56 m)

  -- a row of what the words of a query are
  pub as_words : (q : Query) (f : ℕ → ℕ) (n : ℕ) {l : List ℕ} → l ≡ row 127 f (min 127 n) → n ≤ 127 → ((i : ℕ) → f i ≡ word_of p h s q i)
      → l ≡ row 127 (word_of p h s q) n
  as_words q f n e m same =
      let k : min 127 n ≡ n = omega arith in
      e ∙ ap (row 127 f) k ∙ row_alike 127 f (word_of p h s q) n (λ i l. same i)

-- ---- a row's words, as they are put

pub of_row : (bytes : ℕ → List ℕ) (f : ℕ → ℕ) (n : ℕ) {ws : List ℕ} {before after : List ℕ} {from : ℕ} → ws ≡ row 127 f n → n ≤ 127
    → Wrote before from (words bytes (λ i. get_or ws i 0) 0 n) after → Wrote before from (words bytes f 0 n) after
of_row bytes f n {ws} {before} {after} {from} e m w =
    rw (← words_alike bytes bytes (λ i. get_or ws i 0) f 0 0 n
    (λ i l. ap bytes (ap (λ (l : List ℕ). get_or l (0 + i) 0) e ∙ row_at 127 f n (0 + i) (omega arith) m))) w
