-- Lines. A line ends with LF (10) or CR LF (13 10).
-- Assumes nothing.
use Rattle.std.specs.Prelude.{Bool, cond, List, [], ◌∷◌, ◌≡◌, ℕ, suc, ◌+◌, ◌-◌, eqb, ltb, length, drop, get_or, set}

-- how many bytes stand before the first that passes; all of them if none does
abbrev pub until : (ℕ → Bool) → List ℕ → ℕ
until passes [] = 0
until passes (b ∷ bs) = cond (passes b) 0 (suc (until passes bs))

-- a line ends with LF
abbrev pub is_end : ℕ → Bool
is_end b = eqb b 10

-- the place of the first LF at or after a place; the block's end if there is none
abbrev pub line_end : List ℕ → ℕ → ℕ
line_end block from = from + until is_end (drop from block)

-- or CR LF: the length of what stands before the LF, without a CR that is its last byte
abbrev pub without_cr : List ℕ → ℕ
without_cr line = cond (eqb (get_or line (length line - 1) 0) 13) (length line - 1) (length line)

-- ---- a line that is carried over from one block to the next

-- a buffer, and how many of its bytes are held
pub record Held : Type 0 where
  pub count : ℕ
  pub bytes : List ℕ

abbrev pub held_of : ℕ → List ℕ → Held
held_of count bytes = record { count = count; bytes = bytes }

-- the other of two bytes, or the one if the other is a space
abbrev pub no_space : ℕ → ℕ → ℕ
no_space one other = cond (eqb other 32) one other

-- a byte that a full buffer takes: it is the last now, and the last but one is what was last, or stays if that was a space
abbrev pub squeezed : List ℕ → ℕ → List ℕ
squeezed line b =
    cond (ltb (length line) 2) line
    (set (set line (length line - 1 - 1) (no_space (get_or line (length line - 1 - 1) 0) (get_or line (length line - 1) 0))) (length line - 1) b)

-- a byte behind those that are held, if there is room
abbrev pub held_byte : Held → ℕ → Held
held_byte h b =
    cond (ltb h.count (length h.bytes)) (held_of (h.count + 1) (set h.bytes h.count b))
    (held_of h.count (squeezed h.bytes b))

-- one byte after the other
abbrev pub held_all : Held → List ℕ → Held
held_all h [] = h
held_all h (b ∷ bs) = held_all (held_byte h b) bs

-- what a function gives and leaves is what is held
pub record Holds (h : Held) (count : ℕ) (bytes : List ℕ) : Type 0 where
  pub many : count ≡ h.count
  pub them : bytes ≡ h.bytes
