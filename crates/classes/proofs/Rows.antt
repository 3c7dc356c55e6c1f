-- What each call comes to and leaves, from what its parts found. Assumes nothing.
use mathlib.Core.Path.{◌≡◌, refl, sym, ap, ap₂, ◌∙◌, subst⁻¹}
use mathlib.Core.Bool.{Bool, true, false, ◌||◌, not, cond, or-true, false≢true}
use mathlib.Core.List.{List, [], ◌∷◌}
use Prim.Native.Nat.{ℕ}
use borrow.Author.Tests.{eqb-true, eq-eqb, ne_eqb, not-false}
use lib.Dec.{eqb}
use lib.ListN.{length, get_or, set}
use Rattle.refusals.specs.declared.Refusal.{Refusal}
use Rattle.refusals.specs.declared.Refusal.TheVariants.{NoEdition, BrokenRules, EditionsUsedUp}
use Rattle.refusals.specs.Refusals.{Outcome, Done, Refused, is_done, giving, first}
use Rattle.std.specs.Prelude.{Result, is_ok, Ok, Err, Option, is_some, Some, None}
use Rattle.refusals.proofs.Rows.{off, refused_part, done_part}
use Rattle.std.specs.Option.{ok_or}
use Rattle.std.specs.Result.{MatchResult, IsErrAnd}
use Rattle.std.proofs.lemmas.Result.{err_from_is_err_and}
use Rattle.settings.specs.declared.Settings.{Settings}
use Rattle.settings.specs.declared.Draft.{Draft}
use Rattle.settings.specs.Settings as settings
use Rattle.writes.specs.Writes.{drafted_of, written_to}
use Rattle.editions.specs.Editions.{is_in, place_of, place_for, next_edition, used_up, Placed}
use Rattle.editions.proofs.Walks.{among, there}
use Rattle.classes.specs.Store.{record_of, store_length, records_in, store_of, editions_in, ill_formed, store_rows, keep_rows, kept_of}
use Rattle.classes.specs.Store.{kept_store, Keeps, recalled_pairs, pairs_for, not_found, breaks_rules, edition_rows}
use Rattle.classes.specs.Store.{recall_rows, recall_of}
use Rattle.classes.specs.Steps.{record_at, PutAt}
use Rattle.classes.proofs.Pieces.{all_bytes}

-- ---- 51 and 52

-- a store that neither applies to has its 512 bytes, and is well formed
pub sized : (l : List ℕ) → first (store_rows l) ≡ Done → length l ≡ store_length
unfolding store_rows
sized l h = eqb-true (length l) store_length (not-false _ (off _ _ _ h).0)

pub well_formed : (l : List ℕ) → first (store_rows l) ≡ Done → ill_formed (records_in l) ≡ false
unfolding store_rows
well_formed l h = (off _ _ _ (off _ _ _ h).1).0

pub judged_well : (l : List ℕ) → length l ≡ store_length → ill_formed (records_in l) ≡ false → first (store_rows l) ≡ Done
unfolding store_rows first
judged_well l m h = rw (eq-eqb (length l) store_length m, h)

-- what a recall tells of the write
abbrev pub broken_by : Result Settings Refusal → Result Settings Refusal
broken_by (Ok written) = Ok written
broken_by (Err refusal) = Err BrokenRules

pub told_broken : (w : Result Settings Refusal) {r : Result Settings Refusal} {post : Refusal → Refusal → Type 0}
    → MatchResult w (λ x. r ≡ Ok x) (λ e. IsErrAnd r (post e)) → ((e d : Refusal) → post e d → d ≡ BrokenRules) → r ≡ broken_by w
told_broken (Ok x) h p = h
told_broken (Err e) {r = r} h p = let q = err_from_is_err_and r h in q.1 ∙ ap Err (p e q.0 q.2)

-- ---- rows behind these two

pub done_sized : (l : List ℕ) → Done ≡ first (store_rows l) → length l ≡ store_length
done_sized l q = sized l (sym q)

-- ---- keeping

abbrev value_in : Option ℕ → ℕ
value_in (Some n) = n
value_in None = 0

module _ (s : Settings) (l : List ℕ) where
  keeps : {p : Outcome} {r : Result ℕ Refusal} {l₁ : List ℕ} → p ≡ first (keep_rows l) → r ≡ giving p (next_edition (editions_in l))
      → l₁ ≡ cond (is_done p) (kept_store l s) l → Keeps s l r l₁
  keeps {p} e g k =
      record {
        gives = g ∙ ap (λ (p : Outcome). giving p (next_edition (editions_in l))) e;
        store = k ∙ ap (λ (p : Outcome). cond (is_done p) (kept_store l s) l) e;
      }

  pub keep_refused : {refusal : Refusal} → Refused refusal ≡ first (store_rows l) → Keeps s l (Err refusal) l
  keep_refused q = keeps (refused_part (store_rows l) _ q) refl refl

  module _ {es : List ℕ} (q : Done ≡ first (store_rows l)) (d : es ≡ editions_in l) where
    last_row : {t : Bool} → used_up es ≡ t → cond t (Refused EditionsUsedUp) Done ≡ first (keep_rows l)
    unfolding first
    last_row e =
        ap (λ (t : Bool). cond t (Refused EditionsUsedUp) Done) (sym e ∙ ap used_up d)
        ∙ done_part (store_rows l) ((EditionsUsedUp, used_up (editions_in l)) ∷ []) q

    pub none_left : {edition : Option ℕ} {refusal : Refusal} → edition ≡ cond (used_up es) None (Some (next_edition es)) → edition ≡ None
        → Err refusal ≡ ok_or edition EditionsUsedUp → Keeps s l (Err refusal) l
    none_left m n told =
        subst⁻¹ (λ (r : Result ℕ Refusal). Keeps s l r l) (told ∙ ap (λ (x : Option ℕ). ok_or x EditionsUsedUp) n)
        (go (used_up es) refl (sym n ∙ m))
      where
        go : (t : Bool) → used_up es ≡ t → None ≡ cond t None (Some (next_edition es)) → Keeps s l (Err EditionsUsedUp) l
        go true e k = keeps (last_row e) refl refl
        go false e k = absurd (false≢true (ap is_some k))

    pub kept : {edition : Option ℕ} {n p : ℕ} {r l₁ : List ℕ} → edition ≡ cond (used_up es) None (Some (next_edition es))
        → edition ≡ Some n → p ≡ place_for es → r ≡ record_of n s → PutAt l p r l₁ → Keeps s l (Ok n) l₁
    unfolding kept_of
    kept {n = n} {p = p} {r = r} {l₁ = l₁} m is a w u = go (used_up es) refl (sym is ∙ m)
      where
        go : (t : Bool) → used_up es ≡ t → Some n ≡ cond t None (Some (next_edition es)) → Keeps s l (Ok n) l₁
        go true e k = absurd (false≢true (sym (ap is_some k)))
        go false e k =
            let edition : n ≡ next_edition (editions_in l) = ap value_in k ∙ ap next_edition d in
            let place : p ≡ place_for (editions_in l) = a ∙ ap place_for d in
            let new : r ≡ record_of (next_edition (editions_in l)) s = w ∙ ap (λ (n : ℕ). record_of n s) edition in
            keeps (last_row e) (ap Ok edition)
            (sym (all_bytes l₁ (u.same ∙ done_sized l q))
            ∙ ap store_of (u.records ∙ ap₂ (λ (i : ℕ) (y : List ℕ). set (records_in l) i y) place new))

-- ---- recalling

module _ (l : List ℕ) (st : Settings) (e : ℕ) where
  abbrev draft : Draft
  draft = drafted_of (settings.draft_of st) (pairs_for l e)

  recalls : {p : Outcome} {r : Result Settings Refusal} → p ≡ first (recall_rows st l e) → r ≡ giving p (settings.settings_in draft)
      → r ≡ recall_of st l e
  unfolding recall_of
  recalls k g = g ∙ ap (λ (p : Outcome). giving p (settings.settings_in draft)) k

  pub recall_refused : {refusal : Refusal} → Refused refusal ≡ first (store_rows l) → Err refusal ≡ recall_of st l e
  recall_refused q = recalls (refused_part (store_rows l) _ q) refl

  module _ (q : Done ≡ first (store_rows l)) where
    last_two : {t : Bool} → not_found l e ≡ t → first (edition_rows t (breaks_rules st (pairs_for l e))) ≡ first (recall_rows st l e)
    last_two k =
        ap (λ (t : Bool). first (edition_rows t (breaks_rules st (pairs_for l e)))) (sym k)
        ∙ done_part (store_rows l) (edition_rows (not_found l e) (breaks_rules st (pairs_for l e))) q

    missing : not_found l e ≡ true → Err NoEdition ≡ recall_of st l e
    unfolding first
    missing k = recalls (last_two k) refl

    pub unused_asked : e ≡ 0 → Err NoEdition ≡ recall_of st l e
    unused_asked z = missing (ap (λ (t : Bool). t || not (is_in e (editions_in l))) (eq-eqb e 0 z))

    pub not_found_lem : {es : List ℕ} {place : Option ℕ} {refusal : Refusal} → es ≡ editions_in l → Placed e es 0 place → place ≡ None
        → Err refusal ≡ ok_or place NoEdition → Err refusal ≡ recall_of st l e
    not_found_lem {refusal = refusal} d a n told =
        let same : refusal ≡ NoEdition = cc in
        ap Err same
        ∙ missing (ap (λ (t : Bool). eqb e 0 || not t) (ap (is_in e) (sym d) ∙ sym (among a) ∙ ap is_some n) ∙ or-true (eqb e 0))

    -- a write that is refused breaks the rules, whichever it breaks
    pub taken : {es r : List ℕ} {found : Option ℕ} {p : ℕ} {d₀ d₁ : Draft} {w w₁ : Result Settings Refusal} → (e ≡ 0 → ⊥) → es ≡ editions_in l
        → Placed e es 0 found → found ≡ Some p → r ≡ record_at l p → d₀ ≡ settings.draft_of st → d₁ ≡ drafted_of d₀ (recalled_pairs r)
        → w ≡ settings.written_of d₁ → w₁ ≡ broken_by w → w₁ ≡ recall_of st l e
    unfolding first
    taken {r = r} {p = p} {d₀} {d₁} {w} {w₁} n d a z i b f g h =
        let t = there a z in
        let k : not_found l e ≡ false = rw (ne_eqb e 0 n, sym d, t.0) in
        let place : p ≡ place_of e (editions_in l) = t.1 ∙ ap (place_of e) d in
        let whole : w ≡ written_to st (pairs_for l e) =
        g ∙ ap settings.written_of (f ∙ ap₂ (λ (d : Draft) (r : List ℕ). drafted_of d (recalled_pairs r)) b
        (i ∙ ap (λ (n : ℕ). get_or (records_in l) n []) place)) in
        h ∙ ap broken_by whole ∙ go k (settings.outcome_of draft) refl
      where
        go : not_found l e ≡ false → (o : Outcome) → settings.outcome_of draft ≡ o → broken_by (written_to st (pairs_for l e)) ≡ recall_of st l e
        go k (Ok done) v =
            let write : written_to st (pairs_for l e) ≡ Ok (settings.settings_in draft) =
            ap (λ (o : Outcome). giving o (settings.settings_in draft)) v in
            ap broken_by write
            ∙ recalls (ap (λ (w : Result Settings Refusal). first (edition_rows false (not (is_ok w)))) (sym write) ∙ last_two k) refl
        go k (Err refusal) v =
            let write : written_to st (pairs_for l e) ≡ Err refusal =
            ap (λ (o : Outcome). giving o (settings.settings_in draft)) v in
            ap broken_by write
            ∙ recalls (ap (λ (w : Result Settings Refusal). first (edition_rows false (not (is_ok w)))) (sym write) ∙ last_two k) refl
