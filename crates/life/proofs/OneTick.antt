-- The events of one tick. A condition's own alone decide whether its latch event is later than its last recovery event, since no two
-- conditions share an event number; and within one tick a condition latches or recovers, never both.
-- Assumes nothing.
use mathlib.Core.Path.{◌≡◌, refl, sym, ap, ◌∙◌}
use mathlib.Core.Bool.{Bool, true, false, ◌&&◌, ◌||◌, not, cond, and-true, and-false, and-eq-true_iff}
use mathlib.Core.List.{List, [], ◌∷◌, ◌++◌, append_assoc}
use lib.Dec.{eqb}
use Rattle.laws.specs.History.{newest, each}
use Rattle.laws.proofs.Latch.{wrong}
use Rattle.laws.proofs.Later.{stands_next}
use Rattle.guard.specs.declared.Condition.{Condition}
use Rattle.guard.specs.declared.Condition.TheVariants.{UV, OV, OT, DOC, COC, ROC, LT}
use Rattle.guard.specs.Table.{latch_event, recovery_event}
use Rattle.guard.specs.Account.{Moment}
use Rattle.life.specs.Recorded.{Recorded, latching, recovering, unrecovered, held, recovery, latches_now, recovers_now, event}
use Rattle.life.specs.Recorded.{events_of, last_first}

-- ---- event numbers: both of d's are none of c's

apart : Condition → Condition → Bool
apart c d =
    not (eqb (latch_event d) (latch_event c) || eqb (latch_event d) (recovery_event c) || eqb (recovery_event d) (latch_event c)
    || eqb (recovery_event d) (recovery_event c))

all_apart : Condition → List Condition → Bool
all_apart c [] = true
all_apart c (d ∷ ds) = apart c d && all_apart c ds

none_shared : (c d : Condition) → apart c d ≡ true → (eqb (latch_event d) (latch_event c) ≡ false)
    × (eqb (latch_event d) (recovery_event c) ≡ false) × (eqb (recovery_event d) (latch_event c) ≡ false)
    × (eqb (recovery_event d) (recovery_event c) ≡ false)
unfolding apart
none_shared c d =
    none (eqb (latch_event d) (latch_event c)) (eqb (latch_event d) (recovery_event c)) (eqb (recovery_event d) (latch_event c))
    (eqb (recovery_event d) (recovery_event c))
  where
    none : (p q r s : Bool) → not (p || q || r || s) ≡ true → (p ≡ false) × (q ≡ false) × (r ≡ false) × (s ≡ false)
    none false false false false e = (refl, refl, refl, refl)
    none true q r s e = wrong e
    none false true r s e = wrong e
    none false false true s e = wrong e
    none false false false true e = wrong e

own_numbers : (c : Condition) → (eqb (latch_event c) (latch_event c) ≡ true) × (eqb (latch_event c) (recovery_event c) ≡ false)
    × (eqb (recovery_event c) (latch_event c) ≡ false) × (eqb (recovery_event c) (recovery_event c) ≡ true)
unfolding latch_event recovery_event
own_numbers UV = (refl, refl, refl, refl)
own_numbers OV = (refl, refl, refl, refl)
own_numbers OT = (refl, refl, refl, refl)
own_numbers DOC = (refl, refl, refl, refl)
own_numbers COC = (refl, refl, refl, refl)
own_numbers ROC = (refl, refl, refl, refl)
own_numbers LT = (refl, refl, refl, refl)

module _ (m : Moment) (before : List Moment) (events : List Recorded) where
  abbrev now : Condition → List Recorded
  now c = events_of m before events c

  -- ---- within one tick a condition latches or recovers, never both

  pub never_both : (c : Condition) → (latches_now m before events c && recovers_now m before events c) ≡ false
  never_both c = go (unrecovered c events)
    where
      go : (o : Bool) → (held c m && not o && (o && recovery m before events c)) ≡ false
      go true = ap (λ (t : Bool). t && recovery m before events c) (and-false (held c m))
      go false = and-false (held c m && true)

  -- ---- what looks for a condition's events passes over those of the others

  module _ {A : Type 0} (c : Condition) (look : List Recorded → A)
      (passes : (e : Recorded) (es : List Recorded) → latching c e ≡ false → recovering c e ≡ false → look (e ∷ es) ≡ look es) where
    module _ (d : Condition) (es : List Recorded) (e : apart c d ≡ true) where
      abbrev latch : Recorded
      latch = event m before events (latch_event d)

      abbrev recovers : Recorded
      recovers = event m before events (recovery_event d)

      passed : (a b : Bool) → look ((cond a (latch ∷ []) [] ++ cond b (recovers ∷ []) []) ++ es) ≡ look es
      passed true true =
          let n = none_shared c d e in
          passes latch (recovers ∷ es) n.0 n.1 ∙ passes recovers es n.2 n.3
      passed true false = let n = none_shared c d e in passes latch es n.0 n.1
      passed false true = let n = none_shared c d e in passes recovers es n.2 n.3
      passed false false = refl

      other : look (now d ++ es) ≡ look es
      other = passed (latches_now m before events d) (recovers_now m before events d)

    others : (ds : List Condition) (es : List Recorded) → all_apart c ds ≡ true → look (each now ds ++ es) ≡ look es
    unfolding all_apart
    others [] es e = refl
    others (d ∷ ds) es e =
        let p = (and-eq-true_iff (apart c d) (all_apart c ds)).0 e in
        ap look (append_assoc (now d) (each now ds) es) ∙ other d (each now ds ++ es) p.0 ∙ others ds es p.1

    -- its own are found, after those of the conditions later in the table
    own : (later earlier : List Condition) (es : List Recorded) → all_apart c later ≡ true
        → look (each now (later ++ (c ∷ earlier)) ++ es) ≡ look (now c ++ (each now earlier ++ es))
    unfolding all_apart
    own [] earlier es e = ap look (append_assoc (now c) (each now earlier) es)
    own (d ∷ later) earlier es e =
        let p = (and-eq-true_iff (apart c d) (all_apart c later)).0 e in
        let rest = each now (later ++ (c ∷ earlier)) in
        ap look (append_assoc (now d) rest es) ∙ other d (rest ++ es) p.0 ∙ own later earlier es p.1

  -- ---- so a tick leaves it unrecovered that it latches, or that it leaves so

  abbrev all : List Recorded
  all = each now last_first ++ events

  module _ (c : Condition) where
    abbrev latches : Bool
    latches = latches_now m before events c

    abbrev recovers_here : Bool
    recovers_here = recovers_now m before events c

    passed_over : (e : Recorded) (es : List Recorded) → latching c e ≡ false → recovering c e ≡ false
        → unrecovered c (e ∷ es) ≡ unrecovered c es
    passed_over e es p q = stands_next (latching c) (recovering c) e es ∙ rw (p, q) (and-true (unrecovered c es))

    decided : (es : List Recorded) → unrecovered c (now c ++ es) ≡ (latches || unrecovered c es && not recovers_here)
    decided es = go latches recovers_here
      where
        go : (a b : Bool)
            → unrecovered c
            ((cond a (event m before events (latch_event c) ∷ []) [] ++ cond b (event m before events (recovery_event c) ∷ []) []) ++ es)
            ≡ (a || unrecovered c es && not b)
        go true b = rw (own_numbers c).0 refl
        go false true =
            stands_next (latching c) (recovering c) (event m before events (recovery_event c)) es
            ∙ rw ((own_numbers c).2, (own_numbers c).3) refl
        go false false = sym (and-true (unrecovered c es))

    abbrev Decided : List Recorded → Type 0
    Decided es = unrecovered c es ≡ (latches || unrecovered c events && not recovers_here)

    among : (later earlier : List Condition) → all_apart c later ≡ true → all_apart c earlier ≡ true
        → Decided (each now (later ++ (c ∷ earlier)) ++ events)
    among later earlier e f =
        own c (unrecovered c) passed_over later earlier events e ∙ decided (each now earlier ++ events)
        ∙ ap (λ (o : Bool). latches || o && not recovers_here) (others c (unrecovered c) passed_over earlier events f)

  pub unrecovered_now : (c : Condition)
      → unrecovered c all ≡ (latches_now m before events c || unrecovered c events && not (recovers_now m before events c))
  unfolding all_apart apart latch_event recovery_event
  unrecovered_now UV = among UV (LT ∷ ROC ∷ COC ∷ DOC ∷ OT ∷ OV ∷ []) [] refl refl
  unrecovered_now OV = among OV (LT ∷ ROC ∷ COC ∷ DOC ∷ OT ∷ []) (UV ∷ []) refl refl
  unrecovered_now OT = among OT (LT ∷ ROC ∷ COC ∷ DOC ∷ []) (OV ∷ UV ∷ []) refl refl
  unrecovered_now DOC = among DOC (LT ∷ ROC ∷ COC ∷ []) (OT ∷ OV ∷ UV ∷ []) refl refl
  unrecovered_now COC = among COC (LT ∷ ROC ∷ []) (DOC ∷ OT ∷ OV ∷ UV ∷ []) refl refl
  unrecovered_now ROC = among ROC (LT ∷ []) (COC ∷ DOC ∷ OT ∷ OV ∷ UV ∷ []) refl refl
  unrecovered_now LT = among LT [] (ROC ∷ COC ∷ DOC ∷ OT ∷ OV ∷ UV ∷ []) refl refl

  -- ---- and the newest latch event of OT is this tick's, if it latches now

  passed_newest : (e : Recorded) (es : List Recorded) → latching OT e ≡ false → recovering OT e ≡ false
      → newest (latching OT) (e ∷ es) ≡ newest (latching OT) es
  passed_newest e es p q = rw p refl

  pub newest_now : newest (latching OT) all
      ≡ cond (latches_now m before events OT) (event m before events (latch_event OT) ∷ []) (newest (latching OT) events)
  unfolding all_apart apart latch_event recovery_event
  newest_now =
      own OT (newest (latching OT)) passed_newest (LT ∷ ROC ∷ COC ∷ DOC ∷ []) (OV ∷ UV ∷ []) events refl
      ∙ go (latches_now m before events OT) (recovers_now m before events OT) (each now (OV ∷ UV ∷ []) ++ events)
      ∙ ap (λ (l : List Recorded). cond (latches_now m before events OT) (event m before events 0x04 ∷ []) l)
      (others OT (newest (latching OT)) passed_newest (OV ∷ UV ∷ []) events refl)
    where
      go : (a b : Bool) (es : List Recorded)
          → newest (latching OT) ((cond a (event m before events 0x04 ∷ []) [] ++ cond b (event m before events 0x73 ∷ []) []) ++ es)
          ≡ cond a (event m before events 0x04 ∷ []) (newest (latching OT) es)
      go true b es = refl
      go false true es = refl
      go false false es = refl
