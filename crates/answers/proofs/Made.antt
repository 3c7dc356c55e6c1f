-- A query is answered as the definition says: what is sent for it, word by word, are the bytes of its reply; and every reply has room
-- in 259 bytes. Assumes nothing.
use mathlib.Core.Bool.{Bool, true, false, cond}
use mathlib.Core.Path.{◌≡◌, refl, ap, ap₂, ◌∙◌, sym}
use mathlib.Core.List.{List, [], ◌∷◌, ◌++◌, append_assoc}
use Prim.Native.Nat.{ℕ, zero, suc, ◌+◌, ◌*◌, ◌/◌, ◌%◌, ◌≤◌}
use native.Mathlib.Nat.{zero-add}
use native.Mathlib.Omega.{arith}
use lib.ListN.{length, take, length-append}
use lib.Dec.{eqb}
use Rattle.numbers.specs.Numbers.{le16, le32, Wrote, half_at}
use Rattle.std.specs.Prelude.{Option, None, Some, Ok, Err}
use Rattle.refusals.specs.Refusals.{Outcome, Done, left_by}
use Rattle.refusals.proofs.Rows.{refused_not}
use Rattle.events.specs.Events.{kept_count, new_count, kept_of, new_of, event_longs}
use Rattle.settings.specs.Settings as settings
use Rattle.writes.specs.declared.Form.{Form}
use Rattle.writes.specs.declared.Form.TheVariants as form
use Rattle.requests.specs.declared.Query.{Query}
use Rattle.requests.specs.declared.Query.TheVariants.{Registers, Listed, Bare, NewEvents, AllEvents, Temperatures, Cells, SettingsOf}
use Rattle.requests.specs.declared.Request.TheVariants as request
use Rattle.requests.specs.Requests.{address_at, request_of, command_of, has_length, high_first, word_count, Asked}
use Rattle.replies.specs.Replies.{word16, words, sealed, ack_of, Filled, Lengthened, length_byte}
use Rattle.numbers.proofs.Writing.{join_at, of_32}
use Rattle.replies.proofs.Writing.{reply, sealed_length, words_alike, words_length, two_bytes, length_words}
use Rattle.pack.specs.declared.Pack.{Pack}
use Rattle.hire.specs.declared.Hire.{Hire}
use Rattle.answers.specs.Registers.{value_at}
use Rattle.answers.specs.Answers.{with_register, body_by, body_of, payload_of, cells_of, taken_reply, accepted_reply, reply_bytes}
use Rattle.answers.specs.Answers.{left_reply}
use Rattle.answers.specs.Answers.{reply_by, asked_outcome, asked_reply}
use Rattle.answers.specs.Making.{count_of, listed_by, listed_word, word_of, reply_of}
use Rattle.answers.proofs.Payloads.{payload_most}

-- ---- words in a row

-- a row that starts at a place is the row of what stands from there
shifted : (bytes : ℕ → List ℕ) (f : ℕ → ℕ) (at n : ℕ) → words bytes (λ i. f (at + i)) 0 n ≡ words bytes f at n
shifted bytes f at n = words_alike bytes bytes (λ i. f (at + i)) f 0 at n (λ i l. ap (λ (k : ℕ). bytes (f (at + k))) (zero-add i))

-- two words for each place
in_twos : (bytes : ℕ → List ℕ) (f word : ℕ → ℕ) → ((i : ℕ) → le16 (word (2 * i)) ++ le16 (word (suc (2 * i))) ≡ bytes (f i)) → (n : ℕ)
    → words le16 word 0 (2 * n) ≡ words bytes f 0 n
unfolding words
in_twos bytes f word two zero = refl
in_twos bytes f word two (suc n) =
    let twice : 2 * suc n ≡ suc (suc (2 * n)) = omega arith in
    rw twice (simp (zero-add, append_assoc, in_twos bytes f word two n, two n))

-- an even place and the odd one after it
twos : (n : ℕ) → (2 * n % 2 ≡ 0) × (suc (2 * n) % 2 ≡ 1) × (2 * n / 2 ≡ n) × (suc (2 * n) / 2 ≡ n)
twos n = (omega arith, omega arith, omega arith, omega arith)

-- each number of four bytes is its two halves
halves : (f : ℕ → ℕ) (n : ℕ) → words le16 (half_at f) 0 (2 * n) ≡ words le32 f 0 n
halves f = in_twos le32 f (half_at f) (λ i. let (even, odd, low, high) = twos i in rw (even, odd, low, high) (of_32 _ _ (f i) refl refl))

-- the lifetime and n events, after the number of their bytes
events : (f : ℕ → ℕ) (n : ℕ) → 2 * (2 + 2 * n) ∷ words le16 (half_at f) 0 (2 + 2 * n) ≡ (4 + 4 * n) ∷ words le32 f 0 (1 + n)
events f n =
    let bytes : 2 * (2 + 2 * n) ≡ 4 + 4 * n = omega arith in
    let twice : 2 + 2 * n ≡ 2 * (1 + n) = omega arith in
    rw (bytes, twice, halves f (1 + n))

-- ---- what is sent

-- the words of a list: each address and its register
list_words : (p : Pack) (h : Hire) (s : List ℕ) (n : ℕ)
    → words le16 (listed_word p h s) 0 (2 * n) ≡ words (with_register (value_at p h)) (address_at s) 0 n
unfolding listed_by
list_words p h s = in_twos (with_register (value_at p h)) (address_at s) (listed_word p h s) (λ i. let (even, odd, low, high) = twos i in
    rw (even, odd, low, high))

pub as_sent : (p : Pack) (h : Hire) (s : List ℕ) (q : Query) → reply_of p h s q (count_of p h q) ≡ body_of p h s q
unfolding reply_of body_by word_count has_length high_first word_of command_of words
as_sent p h s (Registers command at n) =
    ap (λ (l : List ℕ). 0xAA ∷ command ∷ 2 * n ∷ l) (shifted (word16 (eqb command 0x03)) (value_at p h) at n)
as_sent p h s (Listed n) =
    let bytes : 2 * (2 * n) ≡ 4 * n = omega arith in
    ap₂ (λ (k : ℕ) (l : List ℕ). 0xAA ∷ 0x09 ∷ k ∷ l) bytes (list_words p h s n)
as_sent p h s (Bare command at n) = ap (λ (l : List ℕ). 0xAA ∷ command ∷ l) (shifted le16 (value_at p h) at n)
as_sent p h s NewEvents = ap (λ (l : List ℕ). 0xAA ∷ 0x11 ∷ l) (events (event_longs p.clock.seconds (new_of h.events)) (new_count h.events))
as_sent p h s AllEvents = ap (λ (l : List ℕ). 0xAA ∷ 0x12 ∷ l) (events (event_longs p.clock.seconds (kept_of h.events)) (kept_count h.events))
as_sent p h s Temperatures = refl
as_sent p h s Cells = refl
as_sent p h s (SettingsOf kind n) =
    ap (λ (l : List ℕ). 0xAA ∷ 0x1D ∷ 2 * n ∷ l) (shifted le16 (settings.register_of (settings.of_kind p.settings kind)) 300 n)

-- the words stand after the length byte where there is one
start : (has : Bool) (n : ℕ) → 2 + length (length_byte has n) ≡ cond has 3 2
start true n = refl
start false n = refl

pub within_three : (has : Bool) → cond has 3 2 ≤ 3
within_three true = omega arith
within_three false = omega arith

two_more : (has : Bool) → cond has 5 4 ≤ 2 + cond has 3 2
two_more true = omega arith
two_more false = omega arith

-- two bytes, the length byte, the words and the end are the reply
pub sent : (p : Pack) (h : Hire) (s : List ℕ) (q : Query) (has : Bool) (n : ℕ) {command bytes from to : ℕ} {l₀ l₁ l₂ l₃ l₄ : List ℕ}
    → has ≡ has_length q → command ≡ command_of q → Wrote l₀ 0 (0xAA ∷ command ∷ []) l₁
    → Lengthened l₁ has bytes from l₂ → Wrote l₂ from (words (word16 (high_first q)) (word_of p h s q) 0 n) l₃
    → Filled l₃ (sealed (take to l₃)) l₄ → to ≡ from + 2 * n → bytes ≡ 2 * n
    → Filled l₀ (sealed (reply_of p h s q n)) l₄
unfolding reply_of
sent p h s q has n {bytes = bytes} {to = to} g k head byte row end t e =
    rw (← g, ← k, ← e)
    (reply {n = to} head (join_at byte.put row (start has bytes ∙ sym byte.place_is)) end
    (omega (
      arith,
      byte.place_is,
      start has bytes,
      length-append (length_byte has bytes) (words (word16 (high_first q)) (word_of p h s q) 0 n),
      length_words (high_first q) (word_of p h s q) n,
    )))

-- a word is two bytes of data
pub payload : (p : Pack) (h : Hire) (q : Query) → payload_of p h q ≡ 2 * count_of p h q
unfolding payload_of word_count
payload p h (Registers command at n) = refl
payload p h (Listed n) = omega arith
payload p h (Bare command at n) = refl
payload p h NewEvents = omega arith
payload p h AllEvents = omega arith
payload p h Temperatures = refl
payload p h Cells = refl
payload p h (SettingsOf kind n) = refl

-- so no reply to a query has more than 127
pub few_words : (p : Pack) (h : Hire) (s : List ℕ) (q : Query) {n : ℕ} → n ≡ count_of p h q → request_of s ≡ Ok (request.Read q) → n ≤ 127
few_words p h s q e asks = rw e (omega (arith, payload p h q, payload_most p h s q asks))

-- ---- a reply has at most 259 bytes

body_length : (p : Pack) (h : Hire) (s : List ℕ) (q : Query) → length (body_of p h s q) ≡ cond (has_length q) 3 2 + payload_of p h q
unfolding body_by payload_of has_length
body_length p h s (Registers command at n) =
    omega (arith, words_length 2 (word16 (eqb command 0x03)) (value_at p h) at n (two_bytes (eqb command 0x03)))
body_length p h s (Listed n) = omega (arith, words_length 4 (with_register (value_at p h)) (address_at s) 0 n (λ w. refl))
body_length p h s (Bare command at n) = omega (arith, words_length 2 le16 (value_at p h) at n (λ w. refl))
body_length p h s NewEvents =
    omega (arith, words_length 4 le32 (event_longs p.clock.seconds (new_of h.events)) 0 (1 + new_count h.events) (λ w. refl))
body_length p h s AllEvents =
    omega (arith, words_length 4 le32 (event_longs p.clock.seconds (kept_of h.events)) 0 (1 + kept_count h.events) (λ w. refl))
body_length p h s Temperatures = refl
body_length p h s Cells = omega (arith, words_length 2 le16 (value_at p h) 0 (cells_of p) (λ w. refl))
body_length p h s (SettingsOf kind n) =
    omega (arith, words_length 2 le16 (settings.register_of (settings.of_kind p.settings kind)) 300 n (λ w. refl))

sealed_short : (xs : List ℕ) → length xs ≤ 257 → length (sealed xs) ≤ 259
sealed_short xs m = let e = sealed_length xs in omega arith

-- the reply to a write that is taken
taken_length : (p : Pack) (h : Hire) (f : Form) (s : List ℕ) (n : ℕ) → length (taken_reply f s n) + 2 ≡ reply_bytes p h (Ok (request.Write f n))
unfolding taken_reply reply_bytes
taken_length p h form.Modbus s n = refl
taken_length p h form.Block s n = refl
taken_length p h form.List s n = refl

taken_short : (p : Pack) (h : Hire) (f : Form) (n : ℕ) → reply_bytes p h (Ok (request.Write f n)) ≤ 8
unfolding reply_bytes
taken_short p h form.Modbus n = omega arith
taken_short p h form.Block n = omega arith
taken_short p h form.List n = omega arith

refused_short : (l : Option ℕ) (s : List ℕ) → length (left_reply l s) ≤ 259
refused_short None s = omega arith
refused_short (Some error) s = sealed_short _ (omega arith)

module _ (p : Pack) (h : Hire) (s : List ℕ) where
  -- an accepted request's has as many bytes as its kind says
  accepted_bytes : (q : Asked) → asked_outcome p s q ≡ Done → length (accepted_reply p h s q) ≡ reply_bytes p h q
  unfolding asked_outcome accepted_reply reply_bytes
  accepted_bytes (Err refusal) e = absurd (refused_not refusal e)
  accepted_bytes (Ok request.ClearEvents) e = sealed_length (ack_of 0x02)
  accepted_bytes (Ok request.ClearStatistics) e = sealed_length (ack_of 0x02)
  accepted_bytes (Ok (request.Write f n)) e = sealed_length (taken_reply f s n) ∙ taken_length p h f s n
  accepted_bytes (Ok (request.Read q)) e =
      sealed_length (body_of p h s q) ∙ ap (λ n. n + 2) (body_length p h s q) ∙ add (has_length q) (payload_of p h q)
    where
      add : (has : Bool) (n : ℕ) → cond has 3 2 + n + 2 ≡ cond has 5 4 + n
      add true n = omega arith
      add false n = omega arith

  -- AA, CMD, PL, 254 bytes of data and CRC
  pub most_259 : reply_bytes p h (request_of s) ≤ 259
  unfolding reply_bytes
  most_259 = go (request_of s) refl
    where
      go : (q : Asked) → request_of s ≡ q → reply_bytes p h q ≤ 259
      go (Err refusal) e = omega arith
      go (Ok request.ClearEvents) e = omega arith
      go (Ok request.ClearStatistics) e = omega arith
      go (Ok (request.Write f n)) e = omega (arith, taken_short p h f n)
      go (Ok (request.Read q)) e = omega (arith, within_three (has_length q), two_more (has_length q), payload_most p h s q e)

  -- so every reply has room
  pub reply_length : length (asked_reply p h s (request_of s)) ≤ 259
  unfolding reply_by
  reply_length = go (asked_outcome p s (request_of s)) refl
    where
      go : (o : Outcome) → asked_outcome p s (request_of s) ≡ o → length (reply_by o s (accepted_reply p h s (request_of s))) ≤ 259
      go (Ok done) e = omega (arith, accepted_bytes (request_of s) e, most_259)
      go (Err refusal) e = refused_short (left_by refusal) s

  pub reply_bytes_lem : (q : Asked) → asked_outcome p s q ≡ Done → length (asked_reply p h s q) ≡ reply_bytes p h q
  unfolding reply_by
  reply_bytes_lem q e = ap (λ (o : Outcome). length (reply_by o s (accepted_reply p h s q))) e ∙ accepted_bytes q e
