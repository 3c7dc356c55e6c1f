-- A list of one address, and a list of a block's addresses, carry the values that 0x07 and 0x03 give: the registers of the list's reply,
-- which stand after their addresses, are the payload of 0x07's, and those of 0x03's with the bytes of each exchanged. Assumes nothing.
use mathlib.Core.Path.{◌≡◌, refl, sym, ap, ◌∙◌}
use mathlib.Core.List.{List, [], ◌∷◌, ◌++◌, append-nil, append_assoc}
use Prim.Native.Nat.{ℕ, zero, suc, ◌+◌, ◌<◌}
use native.Mathlib.Nat.{add-zero, zero-add}
use native.Mathlib.Omega.{arith}
use lib.ListN.{drop}
use Rattle.numbers.specs.Numbers.{le16, be16}
use Rattle.replies.specs.Replies.{words}
use Rattle.requests.specs.declared.Query.TheVariants.{Registers, Listed}
use Rattle.requests.specs.Requests.{address_at}
use Rattle.pack.specs.declared.Pack.{Pack}
use Rattle.hire.specs.declared.Hire.{Hire}
use Rattle.answers.specs.Registers.{value_at}
use Rattle.answers.specs.Answers.{with_register, body_by, body_of}
use Rattle.replies.proofs.Writing.{words_alike}

-- the bytes after AA, CMD and PL
abbrev pub payload : List ℕ → List ℕ
payload body = drop 3 body

-- every second word: of each address and its register, the register
abbrev pub registers : List ℕ → List ℕ
registers [] = []
registers (a ∷ []) = []
registers (a ∷ b ∷ []) = []
registers (a ∷ b ∷ c ∷ []) = []
registers (a ∷ b ∷ c ∷ d ∷ rest) = c ∷ d ∷ registers rest

-- the two bytes of each word the other way round
abbrev pub exchanged : List ℕ → List ℕ
exchanged [] = []
exchanged (a ∷ []) = []
exchanged (a ∷ b ∷ rest) = b ∷ a ∷ exchanged rest

-- the request lists the n registers from `at` on
abbrev pub Lists : List ℕ → ℕ → ℕ → Type 0
Lists s at n = (k : ℕ) → k < n → address_at s k ≡ at + k

-- ---- words in a row, from the first

front : (bytes : ℕ → List ℕ) (f : ℕ → ℕ) (at n : ℕ) → words bytes f at (suc n) ≡ bytes (f at) ++ words bytes f (suc at) n
unfolding words
front bytes f at zero = rw (add-zero, append-nil)
front bytes f at (suc n) =
    let next : at + suc n ≡ suc at + n = omega arith in
    ap (λ (l : List ℕ). l ++ bytes (f (at + suc n))) (front bytes f at n)
    ∙ append_assoc (bytes (f at)) (words bytes f (suc at) n) (bytes (f (at + suc n)))
    ∙ ap (λ (k : ℕ). bytes (f at) ++ (words bytes f (suc at) n ++ bytes (f k))) next

-- of the list's reply
listed : (value f : ℕ → ℕ) (i n : ℕ) → registers (words (with_register value) f i n) ≡ words (λ at. le16 (value at)) f i n
unfolding words
listed value f i zero = refl
listed value f i (suc n) =
    ap registers (front (with_register value) f i n)
    ∙ ap (λ (l : List ℕ). le16 (value (f i)) ++ l) (listed value f (suc i) n)
    ∙ sym (front (λ at. le16 (value at)) f i n)

-- of the block's, with the bytes of each exchanged
swapped : (f : ℕ → ℕ) (at n : ℕ) → exchanged (words be16 f at n) ≡ words le16 f at n
unfolding words
swapped f at zero = refl
swapped f at (suc n) =
    ap exchanged (front be16 f at n) ∙ ap (λ (l : List ℕ). le16 (f at) ++ l) (swapped f (suc at) n) ∙ sym (front le16 f at n)

module _ (p : Pack) (h : Hire) (s t : List ℕ) where
  -- a list of a block's addresses, and the block by 0x07
  pub list_is_block : (at n : ℕ) → Lists s at n
      → registers (payload (body_of p h s (Listed n))) ≡ payload (body_of p h t (Registers 0x07 at n))
  unfolding body_by
  list_is_block at n e =
      listed (value_at p h) (address_at s) 0 n
      ∙ words_alike (λ a. le16 (value_at p h a)) le16 (address_at s) (value_at p h) 0 at n
      (λ k l. ap (λ (a : ℕ). le16 (value_at p h a)) (ap (address_at s) (zero-add k) ∙ e k l))

  -- a list of one address, whichever it is
  pub list_of_one : registers (payload (body_of p h s (Listed 1))) ≡ payload (body_of p h t (Registers 0x07 (address_at s 0) 1))
  list_of_one = list_is_block (address_at s 0) 1 go
    where
      go : Lists s (address_at s 0) 1
      go zero l = sym (add-zero (address_at s 0))
      go (suc k) l = absurd (omega arith)

  -- and by 0x03
  pub block_is_block : (at n : ℕ) → exchanged (payload (body_of p h s (Registers 0x03 at n))) ≡ payload (body_of p h t (Registers 0x07 at n))
  unfolding body_by
  block_is_block at n = swapped (value_at p h) at n
