-- A loop over a list from its last element down packs one bit an element.
-- Assumes nothing.
use Rattle.std.proofs.Common.{◌≡◌, refl, sym, ◌∙◌, ap, Bool, List, [], ◌∷◌, ◌++◌, append_assoc, length, length-append, ℕ, suc, ◌+◌, ◌^◌, ◌<◌, ◌≤◌, arith}
use Rattle.std.specs.List.{push}
use mathlib.Core.List.{append-nil}
use Rattle.laws.specs.Fold.{packed, bit_of}
use Rattle.laws.proofs.Bits.{packed_lt}

-- the elements behind `rest` are taken, and b has a bit for each
pub record Taken (f : ℕ → Bool) (b : ℕ) (all rest : List ℕ) : Type 0 where
  pub taken : List ℕ
  pub whole : rest ++ taken ≡ all
  pub so_far : b ≡ packed f taken

pub none_taken : {f : ℕ → Bool} {all : List ℕ} → Taken f 0 all all
unfolding packed
none_taken {f} {all} = record { taken = []; whole = append-nil all; so_far = refl }

pub one_taken : {f : ℕ → Bool} {b b' : ℕ} {all rest : List ℕ} (x : ℕ) (rest' : List ℕ) → Taken f b all rest → rest ≡ push rest' x
    → b' ≡ b + b + bit_of (f x) → Taken f b' all rest'
unfolding packed
one_taken x rest' g e q =
    record {
      taken = x ∷ g.taken;
      whole = sym (append_assoc rest' (x ∷ []) g.taken) ∙ ap (λ (l : List ℕ). l ++ g.taken) (sym e) ∙ g.whole;
      so_far = omega (arith, q, g.so_far);
    }

-- with one bit still to come there is room for it
pub room : {f : ℕ → Bool} {b : ℕ} (k : ℕ) {all rest : List ℕ} (x : ℕ) (rest' : List ℕ) → Taken f b all rest → rest ≡ push rest' x
    → length all ≤ suc k → b < 2 ^ k
room {f} {b} k {all} {rest} x rest' g e h =
    rw g.so_far
    (packed_lt f g.taken k (omega (arith, ap length g.whole, ap length e, length-append rest g.taken, length-append rest' (x ∷ []))))

pub all_taken : {f : ℕ → Bool} {b : ℕ} {all rest : List ℕ} → Taken f b all rest → length rest ≡ 0 → b ≡ packed f all
all_taken {f} {rest = []} g h = g.so_far ∙ ap (packed f) g.whole
all_taken {rest = x ∷ xs} g h = absurd (omega arith)
