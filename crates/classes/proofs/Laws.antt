-- The laws of specs/Laws.antt. What a call leaves has the records that its definition says, and of these the laws of editions speak.
-- Assumes nothing.
use mathlib.Core.Path.{◌≡◌, refl, sym, ap, ap₂, ◌∙◌, subst⁻¹}
use mathlib.Core.Bool.{Bool, true, false, ◌&&◌, ◌||◌, not, cond, false≢true}
use mathlib.Core.List.{List, [], map, Permᴰ}
use Prim.Native.Nat.{ℕ}
use native.Mathlib.Omega.{arith}
use borrow.Author.Tests.{ne_eqb, leb-false, not-false}
use lib.Dec.{eqb}
use lib.ListN.{length, get_or, drop, set, length-set}
use Rattle.laws.specs.History.{any, largest}
use Rattle.refusals.specs.declared.Refusal.{Refusal}
use Rattle.refusals.specs.Refusals.{Outcome, Done, is_done, giving, come_to, first}
use Rattle.std.specs.Prelude.{Result, is_ok, Ok, Err}
use Rattle.std.specs.Result.{result_unwrap_or}
use Rattle.refusals.proofs.Rows.{done_is, refused_not, off, off_both, done_part, come_to_giving, is_ok_giving}
use Rattle.settings.specs.declared.Settings.{Settings}
use Rattle.settings.specs.declared.Draft.{Draft}
use Rattle.settings.specs.Settings as settings
use Rattle.writes.specs.Writes.{drafted_of, written_to}
use Rattle.editions.specs.Editions.{edition_of, spoilt, places, nonzero, is_in, record_for, repeated, place_for, next_edition}
use Rattle.editions.specs.Editions.{last_edition, used_up, tidied_by}
use Rattle.editions.proofs.Walks.{place_within}
use Rattle.editions.proofs.Order.{in_order, rises}
use Rattle.editions.proofs.Tidied.{same_any, same_length, tidied_same, same_found, same_record, same_repeated, in_order_lem, stays}
use Rattle.editions.proofs.Replaced.{any_set, map_set, not_in, at_most, repeated_set, in_set, in_other, for_put, for_other, replaced}
use Rattle.classes.specs.Store.{record_of, record_length, records_in, store_of, editions_in, ill_formed, store_rows, keep_rows, kept_of}
use Rattle.classes.specs.Store.{kept_store, Keeps, recalled_pairs, class_for, pairs_for, not_found, breaks_rules, edition_rows, recall_rows}
use Rattle.classes.specs.Store.{recall_of, tidied_store, Tidies}
use Rattle.classes.specs.Laws.{WellFormed, FoundAlike, replaced_in, AfterKeep, AfterTidy, Laws}
use Rattle.classes.proofs.Pieces.{length_records, length_editions, edition_in, unsized, is_sized, records_sized, records_of}
use Rattle.classes.proofs.Pieces.{length_store}
use Rattle.classes.proofs.Rows.{sized, well_formed, judged_well}
use Rattle.classes.proofs.Recalled.{one_request, edition_back, written_back}

-- ---- recalls from a store that is well formed

-- from whether the edition is not found, and the write of its record
abbrev recall_by : Bool → Draft → Result Settings Refusal
recall_by t d = giving (first (edition_rows t (not (is_ok (settings.written_of d))))) (settings.settings_in d)

abbrev draft_for : Settings → List ℕ → ℕ → Draft
draft_for standing store e = drafted_of (settings.draft_of standing) (pairs_for store e)

module _ (standing : Settings) where
  recall_by_lem : (store : List ℕ) (e : ℕ) → WellFormed store
      → recall_of standing store e ≡ recall_by (not_found store e) (draft_for standing store e)
  unfolding recall_of
  recall_by_lem store e h =
      ap (λ (o : Outcome). giving o (settings.settings_in (draft_for standing store e)))
      (sym (done_part (store_rows store) (edition_rows (not_found store e) (breaks_rules standing (pairs_for store e))) (sym h)))

  recalled_alike : (store other : List ℕ) (e : ℕ) → WellFormed store → WellFormed other → FoundAlike e store other
      → recall_of standing store e ≡ recall_of standing other e
  recalled_alike store other e a b f =
      recall_by_lem store e a
      ∙ ap₂ (λ (t : Bool) (r : List ℕ). recall_by (eqb e 0 || not t) (drafted_of (settings.draft_of standing) (recalled_pairs r))) f.0 f.1
      ∙ sym (recall_by_lem other e b)

  -- where it is done it is the write
  is_write : (t : Bool) (o : Outcome) (s : Settings) → first (edition_rows t (not (is_ok (giving o s)))) ≡ Done
      → giving (first (edition_rows t (not (is_ok (giving o s))))) s ≡ giving o s
  unfolding first
  is_write true o s e = absurd (refused_not _ e)
  is_write false (Ok done) s e = refl
  is_write false (Err refusal) s e = absurd (refused_not _ e)

  last_rows : (store : List ℕ) (e : ℕ) → come_to (recall_of standing store e) ≡ Done → first (recall_rows standing store e) ≡ Done
  unfolding recall_of
  last_rows store e h = sym (come_to_giving _ (settings.settings_in (draft_for standing store e))) ∙ h

  recalling : (store : List ℕ) (e : ℕ) → come_to (recall_of standing store e) ≡ Done
      → recall_of standing store e ≡ written_to standing (pairs_for store e)
  recalling store e h =
      let draft = draft_for standing store e in
      let rows = edition_rows (not_found store e) (breaks_rules standing (pairs_for store e)) in
      let both = off_both (store_rows store) rows (last_rows store e h) in
      recall_by_lem store e both.0 ∙ is_write (not_found store e) (settings.outcome_of draft) (settings.settings_in draft) both.1

  -- so a recall whose rows come to nothing is a write that is taken
  pub taken : (store : List ℕ) (e : ℕ) → first (recall_rows standing store e) ≡ Done → settings.outcome_of (draft_for standing store e) ≡ Done
  taken store e h =
      let draft = draft_for standing store e in
      let rows = edition_rows (not_found store e) (breaks_rules standing (pairs_for store e)) in
      done_is _ (sym (is_ok_giving (settings.outcome_of draft) (settings.settings_in draft))
      ∙ not-false _ (off _ _ _ (off _ _ _ (off_both (store_rows store) rows h).1).1).0)

-- a refused one leaves what stands
left_standing : (standing s : Settings) (o : Outcome) → is_done (come_to (giving o s)) ≡ false
    → settings.standing_of standing (giving o s) ≡ standing
unfolding settings.standing_of
left_standing standing s (Ok done) e = absurd (false≢true (sym e))
left_standing standing s (Err refusal) e = refl

-- the write of a record that is taken, after the rows of its edition
as_written : (o : Outcome) (x s : Settings) → giving o x ≡ Ok s → giving (first (edition_rows false (not (is_ok (giving o x))))) x ≡ Ok s
unfolding first
as_written (Ok done) x s e = e
as_written (Err refusal) x s e = absurd (false≢true (ap is_ok e))

-- ---- records in a store

-- a store is what it is made of, where these are sixteen of 32 bytes each
module _ {after : List ℕ} (rs : List (List ℕ)) (made : after ≡ store_of rs) (many : length rs ≡ places) (long : any unsized rs ≡ false) where
  made_records : records_in after ≡ rs
  made_records = ap records_in made ∙ records_of rs many long

  made_well : ill_formed rs ≡ false → WellFormed after
  made_well h = judged_well after (ap length made ∙ length_store rs many long) (ap ill_formed made_records ∙ h)

neither₀ : (a b : Bool) → (a || b) ≡ false → a ≡ false
neither₀ true b k = k
neither₀ false b k = refl

neither₁ : (a b : Bool) → (a || b) ≡ false → b ≡ false
neither₁ true b k = absurd (false≢true (sym k))
neither₁ false b k = k

-- ---- after a save

length_made : (e : ℕ) (s : Settings) → length (record_of e s) ≡ record_length
unfolding record_of
length_made e s = refl

-- its padding is zero
padded : (e : ℕ) (s : Settings) → spoilt (record_of e s) ≡ (eqb (edition_of (record_of e s)) 0 && any nonzero (drop 4 (record_of e s)))
unfolding spoilt record_of
padded e s = refl

unspoilt : (e : ℕ) (s : Settings) → (e ≡ 0 → ⊥) → spoilt (record_of e s) ≡ false
unspoilt e s h =
    padded e s
    ∙ ap (λ (t : Bool). t && any nonzero (drop 4 (record_of e s)))
    (ne_eqb (edition_of (record_of e s)) 0 (λ q. h (sym (edition_back e s) ∙ q)))

module _ {s : Settings} {before after : List ℕ} {edition : ℕ} (k : Keeps s before (Ok edition) after) where
  abbrev es : List ℕ
  es = editions_in before

  abbrev new : ℕ
  new = next_edition es

  abbrev made : List ℕ
  made = record_of new s

  done : first (keep_rows before) ≡ Done
  done = sym (come_to_giving (first (keep_rows before)) new) ∙ sym (ap come_to k.gives)

  edition_is : edition ≡ new
  edition_is = ap (λ (r : Result ℕ Refusal). result_unwrap_or r 0) (k.gives ∙ ap (λ (o : Outcome). giving o new) done)

  before_well : WellFormed before
  before_well = (off_both (store_rows before) _ done).0

  left : used_up es ≡ false
  left = (off _ _ _ (off_both (store_rows before) _ done).1).0

  kept_well : ill_formed (kept_of (records_in before) s) ≡ false
  unfolding kept_of
  kept_well =
      let well = well_formed before before_well in
      ap₂ ◌||◌
      (ap repeated (map_set edition_of (records_in before) (place_for es) made ∙ ap (set es (place_for es)) (edition_back new s))
      ∙ repeated_set es (place_for es) new (not_in new es (omega arith)) (neither₀ (repeated es) (any spoilt (records_in before)) well))
      (any_set spoilt (records_in before) (place_for es) made (neither₁ (repeated es) (any spoilt (records_in before)) well)
      (unspoilt new s (λ q. omega arith)))

  kept_long : any unsized (kept_of (records_in before) s) ≡ false
  unfolding kept_of
  kept_long =
      any_set unsized (records_in before) (place_for es) made (records_sized before (sized before before_well))
      (is_sized made (length_made new s))

  kept_many : length (kept_of (records_in before) s) ≡ places
  unfolding kept_of
  kept_many = length-set (records_in before) (place_for es) made ∙ length_records before

  kept_bytes : after ≡ store_of (kept_of (records_in before) s)
  kept_bytes = k.store ∙ ap (λ (o : Outcome). cond (is_done o) (kept_store before s) before) done

  after_well : WellFormed after
  after_well = made_well (kept_of (records_in before) s) kept_bytes kept_many kept_long kept_well

  after_records : records_in after ≡ set (records_in before) (place_for es) made
  unfolding kept_of
  after_records = made_records (kept_of (records_in before) s) kept_bytes kept_many kept_long

  after_editions : editions_in after ≡ set es (place_for es) new
  after_editions =
      ap (map edition_of) after_records
      ∙ map_set edition_of (records_in before) (place_for es) made
      ∙ ap (set es (place_for es)) (edition_back new s)

  is_new : is_in new es ≡ false
  is_new = not_in new es (omega arith)

  -- it is found, with its record
  found_new : is_in new (editions_in after) ≡ true
  found_new =
      let m = length_editions before in
      ap (is_in new) after_editions ∙ in_set es (place_for es) new (place_within es (omega arith))

  class_new : class_for after new ≡ made
  class_new =
      let l = length_records before in
      let m = length_editions before in
      let p = place_within es (omega arith) in
      ap (λ (rs : List (List ℕ)). record_for [] edition_of rs new) after_records
      ∙ for_put [] edition_of (records_in before) (place_for es) new made (omega arith) (sym (edition_back new s)) is_new

  found_others : (e : ℕ) → (e ≡ new → ⊥) → (e ≡ replaced_in before → ⊥) → FoundAlike e after before
  found_others e h g =
      let m = length_editions before in
      let gone : get_or es (place_for es) 0 ≡ replaced_in before = replaced es (omega arith) in
      let other : eqb e new ≡ false = ne_eqb e new h in
      let stays : eqb e (get_or es (place_for es) 0) ≡ false = ne_eqb e (get_or es (place_for es) 0) (λ q. g (q ∙ gone)) in (
        ap (is_in e) after_editions ∙ in_other es (place_for es) e new other stays,
        ap (λ (rs : List (List ℕ)). record_for [] edition_of rs e) after_records
            ∙ for_other [] edition_of (records_in before) (place_for es) e made (ap (eqb e) (edition_back new s) ∙ other)
            (ap (eqb e) (sym (edition_in before (place_for es))) ∙ stays),
      )

  keeping : AfterKeep s before after edition
  unfolding first
  keeping =
      subst⁻¹ (AfterKeep s before after) edition_is
      record {
        well_formed = after_well;
        larger = λ e h. let m = at_most e es h in omega arith;
        fits = let m = leb-false last_edition (largest es) left in omega arith;
        found = (found_new, class_new);
        others = found_others;
        recalled = λ standing rules held.
            recall_by_lem standing after new after_well
            ∙ ap₂ recall_by (ap₂ (λ (t u : Bool). t || not u) (ne_eqb new 0 (λ q. omega arith)) found_new)
            (ap (λ (r : List ℕ). drafted_of (settings.draft_of standing) (recalled_pairs r)) class_new)
            ∙ as_written (settings.outcome_of (drafted_of (settings.draft_of standing) (recalled_pairs made))) _ s
            (written_back standing new s rules held);
      }

-- ---- after a tidying

module _ {before after : List ℕ} {outcome : Outcome} (t : Tidies before outcome after) (z : outcome ≡ Done) where
  abbrev rs : List (List ℕ)
  rs = records_in before

  abbrev tidied : List (List ℕ)
  tidied = tidied_by edition_of rs

  was_well : WellFormed before
  was_well = sym t.outcome_is ∙ z

  tidied_bytes : after ≡ store_of tidied
  tidied_bytes = t.store ∙ ap (λ (o : Outcome). cond (is_done o) (tidied_store before) before) was_well

  tidied_many : length tidied ≡ places
  tidied_many = same_length (tidied_same edition_of rs) ∙ length_records before

  tidied_long : any unsized tidied ≡ false
  tidied_long = same_any unsized (tidied_same edition_of rs) ∙ records_sized before (sized before was_well)

  tidied_well : WellFormed after
  tidied_well =
      made_well tidied tidied_bytes tidied_many tidied_long
      (ap₂ ◌||◌ (same_repeated edition_of rs) (same_any spoilt (tidied_same edition_of rs)) ∙ well_formed before was_well)

  tidied_records : records_in after ≡ tidied
  tidied_records = made_records tidied tidied_bytes tidied_many tidied_long

  tidying : AfterTidy before after
  tidying =
      record {
        well_formed = tidied_well;
        same = subst⁻¹ (λ (x : List (List ℕ)). Permᴰ x rs) tidied_records (tidied_same edition_of rs);
        rises = λ i j h l.
            let n = length_editions after in
            rises (editions_in after)
            (ap (λ (x : List (List ℕ)). in_order (map edition_of x)) tidied_records ∙ in_order_lem edition_of rs)
            (neither₀ (repeated (editions_in after)) (any spoilt (records_in after)) (well_formed after tidied_well)) i j h (omega arith);
        twice = λ outcome again u. (
          u.outcome_is ∙ tidied_well,
          u.store
              ∙ ap (λ (o : Outcome). cond (is_done o) (tidied_store after) after) tidied_well
              ∙ ap (λ (x : List (List ℕ)). store_of (tidied_by edition_of x)) tidied_records
              ∙ ap store_of (stays edition_of tidied (in_order_lem edition_of rs))
              ∙ sym tidied_bytes,
        );
        recalls = λ standing e.
            recalled_alike standing after before e tidied_well was_well (
              ap (λ (x : List (List ℕ)). is_in e (map edition_of x)) tidied_records ∙ same_found edition_of e rs,
              ap (λ (x : List (List ℕ)). record_for [] edition_of x e) tidied_records ∙ same_record edition_of [] e rs,
            );
      }

-- ---- all of them

pub laws : Laws
unfolding recall_of
laws =
    record {
      keeping = λ s before edition after k. keeping k;
      recalling = recalling;
      one_request = one_request;
      tidying = λ before outcome after t z. tidying t z;
      keep_refused = λ s before refusal after k.
          k.store
          ∙ ap (λ (o : Outcome). cond (is_done o) (kept_store before s) before)
          (sym (come_to_giving (first (keep_rows before)) (next_edition (editions_in before))) ∙ sym (ap come_to k.gives));
      recall_refused = λ standing store e z.
          left_standing standing (settings.settings_in (draft_for standing store e)) (first (recall_rows standing store e)) z;
      tidy_refused = λ before outcome after t z.
          t.store ∙ ap (λ (u : Bool). cond u (tidied_store before) before) (sym (ap is_done t.outcome_is) ∙ z);
    }
