-- What follows from an outcome that is the first row that applies. Assumes nothing.
use mathlib.Core.Path.{◌≡◌, refl, sym, ap, ◌∙◌}
use mathlib.Core.Bool.{Bool, true, false, cond, false≢true}
use mathlib.Core.List.{List, [], ◌∷◌, ◌++◌}
use Rattle.refusals.specs.declared.Refusal.{Refusal}
use Rattle.refusals.specs.Refusals.{Outcome, Done, Refused, is_done, giving, come_to, first}
use Rattle.std.specs.Prelude.{Result, is_ok, Ok, Err}

-- a call is done or refused
pub done_is : (o : Outcome) → is_done o ≡ true → o ≡ Done
done_is (Ok done) e = refl
done_is (Err refusal) e = absurd (false≢true e)

pub refused_not : (refusal : Refusal) → Refused refusal ≡ Done → ⊥
refused_not refusal e = false≢true (ap is_done e)

pub not_done : (o : Outcome) → (o ≡ Done → ⊥) → is_done o ≡ false
not_done (Ok done) h = absurd (h refl)
not_done (Err refusal) h = refl

-- where it is done the first row does not apply, nor those after it
pub off : (refusal : Refusal) (t : Bool) (rest : List (Refusal × Bool)) → first ((refusal, t) ∷ rest) ≡ Done
    → (t ≡ false) × (first rest ≡ Done)
unfolding first
off refusal true rest e = absurd (refused_not refusal e)
off refusal false rest e = (refl, e)

-- of rows in two parts the first decides, and where it is done the second
abbrev pub and_then : Outcome → Outcome → Outcome
and_then (Ok done) outcome = outcome
and_then (Err refusal) outcome = Refused refusal

pub first_append : (xs ys : List (Refusal × Bool)) → first (xs ++ ys) ≡ and_then (first xs) (first ys)
unfolding first
first_append [] ys = refl
first_append ((refusal, t) ∷ xs) ys = go t (first_append xs ys)
  where
    go : (t : Bool) → first (xs ++ ys) ≡ and_then (first xs) (first ys)
        → cond t (Refused refusal) (first (xs ++ ys)) ≡ and_then (cond t (Refused refusal) (first xs)) (first ys)
    go true e = refl
    go false e = e

-- so where the whole is done both parts are
pub both_done : (o p : Outcome) → and_then o p ≡ Done → (o ≡ Done) × (p ≡ Done)
both_done (Ok done) p e = (refl, e)
both_done (Err refusal) p e = absurd (refused_not refusal e)

pub off_both : (xs ys : List (Refusal × Bool)) → first (xs ++ ys) ≡ Done → (first xs ≡ Done) × (first ys ≡ Done)
off_both xs ys e = both_done (first xs) (first ys) (sym (first_append xs ys) ∙ e)

-- of the first part alone: its refusal is that of the whole, and where it is done the second decides
pub refused_part : {refusal : Refusal} (xs ys : List (Refusal × Bool)) → Refused refusal ≡ first xs → Refused refusal ≡ first (xs ++ ys)
refused_part xs ys e = ap (λ (o : Outcome). and_then o (first ys)) e ∙ sym (first_append xs ys)

pub done_part : (xs ys : List (Refusal × Bool)) → Done ≡ first xs → first ys ≡ first (xs ++ ys)
done_part xs ys e = ap (λ (o : Outcome). and_then o (first ys)) e ∙ sym (first_append xs ys)

-- ---- a call that gives a value

pub come_to_giving : {A : Type 0} (o : Outcome) (a : A) → come_to (giving o a) ≡ o
come_to_giving (Ok done) a = refl
come_to_giving (Err refusal) a = refl

pub is_ok_giving : {A : Type 0} (o : Outcome) (a : A) → is_ok (giving o a) ≡ is_done o
is_ok_giving (Ok done) a = refl
is_ok_giving (Err refusal) a = refl

-- where a call ends by what it comes to
pub gives_refusal : {A : Type 0} {refusal : Refusal} {o : Outcome} (a : A) → Refused refusal ≡ o → Err refusal ≡ giving o a
gives_refusal a e = ap (λ (o : Outcome). giving o a) e

pub gives_value : {A : Type 0} {o : Outcome} (a : A) → Done ≡ o → Ok a ≡ giving o a
gives_value a e = ap (λ (o : Outcome). giving o a) e

-- of what is made of the value
abbrev pub mapped : {A B : Type 0} → (A → B) → Result A Refusal → Result B Refusal
mapped f (Ok a) = Ok (f a)
mapped f (Err refusal) = Err refusal

pub mapped_giving : {A B : Type 0} (f : A → B) (o : Outcome) (a : A) → mapped f (giving o a) ≡ giving o (f a)
mapped_giving f (Ok done) a = refl
mapped_giving f (Err refusal) a = refl
