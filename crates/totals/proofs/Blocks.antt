-- Bytes in blocks come to what they come to in one piece, whatever the cutting, if all blocks but the last are of whole records: each goes
-- on from the totals of the one before it, until one is refused. Why: whole records at the front are taken first, one by one.
-- Assumes nothing.
use mathlib.Core.Path.{◌≡◌, refl, sym, ap, ◌∙◌}
use mathlib.Core.Bool.{false}
use mathlib.Core.List.{List, [], ◌∷◌, ◌++◌, flatten, append-nil}
use Prim.Native.Nat.{ℕ, zero, suc, ◌*◌, ◌/◌, ◌%◌, ◌≤◌}
use native.Mathlib.Omega.{arith}
use lib.ListN.{length, drop, length-append, length-drop}
use lib.Seq.{take-append-le, drop-append-le}
use Rattle.refusals.specs.Refusals.{Outcome, Refused, is_done, first}
use Rattle.refusals.specs.declared.Refusal.{Refusal}
use Rattle.std.specs.Prelude.{Result, Ok, Err}
use Rattle.desk.specs.Desk.{record_length, record_of}
use Rattle.totals.specs.declared.Totals.{Totals}
use Rattle.totals.specs.declared.Billed.{Billed}
use Rattle.totals.specs.Totals.{taken_of, billed_of, so_far, followed_by}
use Rattle.totals.proofs.Records.{first_taken, billed_short, billed_refused, billed_taken}

-- ---- what is stated

-- one block after the other
abbrev pub in_blocks : Billed → List (List ℕ) → Billed
in_blocks b [] = b
in_blocks b (block ∷ more) = in_blocks (followed_by b block) more

-- all but the last are of whole records
pub data Blocks : List (List ℕ) → Type 0 where
  none : Blocks []
  last : {block : List ℕ} → Blocks (block ∷ [])
  whole : {block : List ℕ} {more : List (List ℕ)} → length block % record_length ≡ 0 → Blocks more → Blocks (block ∷ more)

-- ---- whole records, and what follows them

no_bytes_lem : (t : Totals) → billed_of t [] ≡ so_far t
unfolding first
no_bytes_lem t = billed_short t [] (omega arith)

empty : (s : List ℕ) → length s ≤ 0 → s ≡ []
empty [] h = refl
empty (x ∷ s) h = absurd (omega arith)

stays : (b : Billed) (s : List ℕ) → is_done b.outcome ≡ false → followed_by b s ≡ b
stays b s e = rw e refl

records_then : (n : ℕ) (t : Totals) (s rest : List ℕ) → length s ≡ record_length * n
    → billed_of t (s ++ rest) ≡ followed_by (billed_of t s) rest
records_then zero t s rest h =
    let e = empty s (omega arith) in
    ap (λ (x : List ℕ). billed_of t (x ++ rest)) e
    ∙ ap (λ (b : Billed). followed_by b rest) (sym (ap (billed_of t) e ∙ no_bytes_lem t))
records_then (suc n) t s rest h = go (first_taken t s) refl (λ more. records_then n more (drop record_length s) rest)
  where
    long : record_length ≤ length s
    long = omega arith

    longer : record_length ≤ length (s ++ rest)
    longer = simp length-append (omega arith)

    same_first : first_taken t (s ++ rest) ≡ first_taken t s
    same_first = ap (λ (x : List ℕ). taken_of t (record_of x)) (take-append-le record_length s rest long)

    go : (b : Result Totals Refusal) → first_taken t s ≡ b
        → ((more : Totals) → length (drop record_length s) ≡ record_length * n
        → billed_of more (drop record_length s ++ rest) ≡ followed_by (billed_of more (drop record_length s)) rest)
        → billed_of t (s ++ rest) ≡ followed_by (billed_of t s) rest
    go (Ok more) e i =
        billed_taken t (s ++ rest) longer (same_first ∙ e)
        ∙ ap (billed_of more) (drop-append-le record_length s rest long)
        ∙ i more (simp length-drop (omega arith))
        ∙ ap (λ (b : Billed). followed_by b rest) (sym (billed_taken t s long e))
    go (Err refusal) e i =
        billed_refused t (s ++ rest) longer (same_first ∙ e)
        ∙ ap (λ (b : Billed). followed_by b rest) (sym (billed_refused t s long e))

pub two_pieces : (t : Totals) (s rest : List ℕ) → length s % record_length ≡ 0 → billed_of t (s ++ rest) ≡ followed_by (billed_of t s) rest
two_pieces t s rest h = records_then (length s / record_length) t s rest (omega arith)

-- ---- the theorem

pub in_blocks_lem : {bs : List (List ℕ)} → Blocks bs → (t : Totals) → in_blocks (so_far t) bs ≡ billed_of t (flatten bs)
unfolding flatten
in_blocks_lem none t = sym (no_bytes_lem t)
in_blocks_lem (last {block}) t = ap (billed_of t) (sym (append-nil block))
in_blocks_lem (whole {block} {more} h rest) t =
    go (billed_of t block) (in_blocks_lem rest)
    ∙ sym (two_pieces t block (flatten more) h)
  where
    ended : (b : Billed) (bs : List (List ℕ)) → is_done b.outcome ≡ false → in_blocks b bs ≡ b
    ended b [] e = refl
    ended b (x ∷ bs) e = ap (λ (b : Billed). in_blocks b bs) (stays b x e) ∙ ended b bs e

    go : (b : Billed) → ((u : Totals) → in_blocks (so_far u) more ≡ billed_of u (flatten more))
        → in_blocks b more ≡ followed_by b (flatten more)
    go b i = by b.outcome b.totals
      where
        by : (o : Outcome) (u : Totals)
            → in_blocks (record { outcome = o; totals = u }) more ≡ followed_by (record { outcome = o; totals = u }) (flatten more)
        by (Ok done) u = i u
        by (Err refusal) u = ended (record { outcome = Refused refusal; totals = u }) more refl
