-- Not to be believed: how a reply to a query is made, a head and words of sixteen bits from one word function. That this is the reply of
-- Answers.antt is a law (proofs/Made).
-- Assumes nothing.
use Rattle.std.specs.Prelude.{cond, List, ◌∷◌, ◌++◌, ℕ, ◌+◌, ◌-◌, ◌*◌, ◌/◌, ◌%◌, eqb, ltb, get_or}
use Rattle.numbers.specs.Numbers.{half_at}
use Rattle.events.specs.Events.{kept_count, new_count, kept_of, new_of, event_longs}
use Rattle.settings.specs.Settings as settings
use Rattle.requests.specs.declared.Query.{Query}
use Rattle.requests.specs.declared.Query.TheVariants.{Registers, Listed, Bare, NewEvents, AllEvents, Temperatures, Cells, SettingsOf}
use Rattle.requests.specs.Requests.{address_at, command_of, has_length, high_first, word_count}
use Rattle.replies.specs.Replies.{word16, words, length_byte}
use Rattle.pack.specs.declared.Pack.{Pack}
use Rattle.hire.specs.declared.Hire.{Hire}
use Rattle.hire.specs.Registers.{temperature_at}
use Rattle.answers.specs.Registers.{value_at}
use Rattle.answers.specs.Answers.{cells_of}

-- a register in the rows of the three ranges
unfoldable pub looked_up : List ℕ → List ℕ → List ℕ → ℕ → ℕ
looked_up readings statistics settings at =
    cond (ltb at 56) (get_or readings at 0)
    (cond (ltb at 100) 0
    (cond (ltb at 118) (get_or statistics (at - 100) 0)
    (cond (ltb at 300) 0
    (cond (ltb at 400) (get_or settings (at - 300) 0) 0))))

-- the i-th word of a list: each address, and its register
unfoldable pub listed_by : (ℕ → ℕ) → List ℕ → ℕ → ℕ
listed_by value s i = cond (eqb (i % 2) 0) (address_at s (i / 2)) (value (address_at s (i / 2)))

module _ (p : Pack) (h : Hire) where
  -- how many words
  abbrev pub count_of : Query → ℕ
  count_of q = word_count q (new_count h.events) (kept_count h.events) (cells_of p)

  abbrev pub listed_word : List ℕ → ℕ → ℕ
  listed_word s i = listed_by (value_at p h) s i

  -- the i-th word of the reply to a query of the request s
  unfoldable pub word_of : List ℕ → Query → ℕ → ℕ
  word_of s (Registers command at n) i = value_at p h (at + i)
  word_of s (Listed n) i = listed_word s i
  word_of s (Bare command at n) i = value_at p h (at + i)
  word_of s NewEvents i = half_at (event_longs p.clock.seconds (new_of h.events)) i
  word_of s AllEvents i = half_at (event_longs p.clock.seconds (kept_of h.events)) i
  word_of s Temperatures i = temperature_at h.sensed i
  word_of s Cells i = value_at p h i
  word_of s (SettingsOf kind n) i = settings.register_of (settings.of_kind p.settings kind) (300 + i)

  -- a reply of n words before its CRC
  unfoldable pub reply_of : List ℕ → Query → ℕ → List ℕ
  reply_of s q n = 0xAA ∷ command_of q ∷ length_byte (has_length q) (2 * n) ++ words (word16 (high_first q)) (word_of s q) 0 n
