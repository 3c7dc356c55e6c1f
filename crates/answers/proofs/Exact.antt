-- The bytes of a reply buffer that are told to be the reply are the reply: each kind has the length that its second and third byte say.
-- Assumes nothing.
use Rattle.refusals.specs.declared.Refusal.TheVariants.{WrongField}
use Rattle.std.specs.Option.{ok_or}
use Rattle.requests.specs.declared.Request.{Request}
use mathlib.Core.Path.{◌≡◌, refl, sym, ap, ◌∙◌}
use mathlib.Core.Bool.{Bool, true, false, cond}
use mathlib.Core.List.{List, [], ◌∷◌, ◌++◌, append-nil}
use Prim.Native.Nat.{ℕ, zero, suc, ◌+◌, ◌-◌, ◌*◌, ◌≤◌, min}
use native.Mathlib.Omega.{arith}
use borrow.Author.Tests.{le-ltb, eq-eqb, eqb-true}
use lib.Dec.{eqb, ltb}
use lib.ListN.{length, take, get_or, replicate, length-append, length-replicate}
use lib.Seq.{take-append-add}
use Rattle.crc.specs.Crc.{crc_of}
use Rattle.std.specs.Prelude.{Option, None, Some, Ok, Err}
use Rattle.refusals.specs.Refusals.{Outcome, left_by, first}
use Rattle.events.specs.declared.Event.{Event}
use Rattle.events.specs.Events.{new_count, kept_count, kept_of, new_of, event_longs}
use Rattle.settings.specs.Settings as settings
use Rattle.writes.specs.declared.Form.{Form}
use Rattle.writes.specs.declared.Form.TheVariants as form
use Rattle.requests.specs.declared.Query.{Query}
use Rattle.requests.specs.declared.Query.TheVariants.{Registers, Listed, Bare, NewEvents, AllEvents, Temperatures, Cells, SettingsOf}
use Rattle.requests.specs.declared.Command.{Command}
use Rattle.requests.specs.declared.Command.TheVariants.{Clear, Block, QuickBlock, AskList, Write, Ask, AskSettings, Unknown}
use Rattle.requests.specs.declared.Expected.{Expected}
use Rattle.requests.specs.declared.Request.TheVariants as request
use Rattle.requests.specs.Requests.{expected_of, expected_in, address_at, fields_of, request_rows, asked_of, request_by, request_of, Asked}
use Rattle.requests.specs.Requests.{fields}
use Rattle.numbers.specs.Numbers.{be16, be16_at, le16, le32}
use Rattle.replies.specs.Replies.{word16, words, sealed, padded}
use Rattle.replies.proofs.Writing.{words_length}
use Rattle.pack.specs.declared.Pack.{Pack}
use Rattle.hire.specs.declared.Hire.{Hire}
use Rattle.answers.specs.Registers.{value_at}
use Rattle.answers.specs.Answers.{cells_of, with_register, body_by, body_of, taken_reply, accepted_reply, left_reply, reply_by}
use Rattle.answers.specs.Answers.{asked_outcome, asked_reply}
use Rattle.answers.proofs.Made.{reply_length}
use Rattle.answers.specs.Length.{length_by, length_in}

-- ---- the commands of blocks have a PL, and 0x14 to 0x19 send as many registers as their command says

fits : Query → ℕ → Bool
fits (Registers command at n) pl = eqb (length_by command pl) (5 + pl)
fits (Listed n) pl = true
fits (Bare command at n) pl = eqb (length_by command pl) (4 + 2 * n)
fits NewEvents pl = true
fits AllEvents pl = true
fits Temperatures pl = true
fits Cells pl = true
fits (SettingsOf kind n) pl = true

asks : Command → ℕ → Bool
asks Clear pl = true
asks Block pl = true
asks QuickBlock pl = true
asks AskList pl = true
asks (Write f) pl = true
asks (Ask q) pl = fits q pl
asks AskSettings pl = true
asks Unknown pl = true

reads : Asked → ℕ → Bool
reads (Err refusal) pl = true
reads (Ok request.ClearEvents) pl = true
reads (Ok request.ClearStatistics) pl = true
reads (Ok (request.Write f n)) pl = true
reads (Ok (request.Read q)) pl = fits q pl

record Asks (pl : ℕ) (e : Expected) : Type 0 where
  asks : asks e.command pl ≡ true

record Reads (pl : ℕ) (q : Asked) : Type 0 where
  reads : reads q pl ≡ true

either : {A : Type 0} (P : A → Type 0) (t : Bool) {x y : A} → P x → P y → P (cond t x y)
either P true p q = p
either P false p q = q

expected : (c third seventh pl : ℕ) → Asks pl (expected_of c third seventh)
unfolding expected_of asks fits length_by
expected c third seventh pl =
    either (Asks pl) (eqb c 0x02) (record { asks = refl })
    (either (Asks pl) (eqb c 0x03) (record { asks = refl })
    (either (Asks pl) (eqb c 0x07) (record { asks = refl })
    (either (Asks pl) (eqb c 0x09) (record { asks = refl })
    (either (Asks pl) (eqb c 0x0B) (record { asks = refl })
    (either (Asks pl) (eqb c 0x0D) (record { asks = refl })
    (either (Asks pl) (eqb c 0x10) (record { asks = refl })
    (either (Asks pl) (eqb c 0x11) (record { asks = refl })
    (either (Asks pl) (eqb c 0x12) (record { asks = refl })
    (either (Asks pl) (eqb c 0x14) (record { asks = refl })
    (either (Asks pl) (eqb c 0x15) (record { asks = refl })
    (either (Asks pl) (eqb c 0x16) (record { asks = refl })
    (either (Asks pl) (eqb c 0x17) (record { asks = refl })
    (either (Asks pl) (eqb c 0x18) (record { asks = refl })
    (either (Asks pl) (eqb c 0x19) (record { asks = refl })
    (either (Asks pl) (eqb c 0x1B) (record { asks = refl })
    (either (Asks pl) (eqb c 0x1C) (record { asks = refl })
    (either (Asks pl) (eqb c 0x1D) (record { asks = refl })
    (record { asks = refl }))))))))))))))))))

-- fields that are against their rule ask nothing
by_rule : (pl : ℕ) (good : Bool) (q : Request) → Reads pl (Ok q) → Reads pl (ok_or (fields good q) WrongField)
unfolding reads
by_rule pl true q r = r
by_rule pl false q r = record { reads = refl }

by_fields : (s : List ℕ) (pl : ℕ) (k : Command) → asks k pl ≡ true → Reads pl (ok_or (fields_of k s) WrongField)
unfolding reads fits asks fields_of length_by
by_fields s pl Clear e =
    by_rule pl _ _ (either (λ (q : Request). Reads pl (Ok q)) (eqb (get_or s 2 0) 1) (record { reads = refl }) (record { reads = refl }))
by_fields s pl Block e = by_rule pl _ _ (record { reads = eq-eqb (5 + pl) (5 + pl) refl })
by_fields s pl QuickBlock e = by_rule pl _ _ (record { reads = eq-eqb (5 + pl) (5 + pl) refl })
by_fields s pl AskList e = by_rule pl _ _ (record { reads = refl })
by_fields s pl (Write f) e = by_rule pl _ _ (record { reads = refl })
by_fields s pl (Ask q) e = record { reads = e }
by_fields s pl AskSettings e = by_rule pl _ _ (record { reads = refl })
by_fields s pl Unknown e = record { reads = refl }

asked : (s : List ℕ) (pl : ℕ) → Reads pl (request_of s)
unfolding reads request_of
asked s pl = go (first (request_rows s))
  where
    go : (o : Outcome) → Reads pl (request_by o (asked_of s))
    go (Ok done) = by_fields s pl (expected_in s).command (expected (get_or s 1 0) (get_or s 2 0) (get_or s 6 0) pl).asks
    go (Err refusal) = record { reads = refl }

-- ---- a reply in its buffer

abbrev pub Exact : ℕ → List ℕ → Type 0
Exact room reply = take (length_in (padded room reply)) (padded room reply) ≡ reply

pub padded_length : (room : ℕ) (reply : List ℕ) → length reply ≤ room → length (padded room reply) ≡ room
unfolding padded
padded_length room reply h =
    length-append reply (replicate (room - length reply) 0) ∙ ap (λ (n : ℕ). length reply + n) (length-replicate (room - length reply) 0)
    ∙ omega arith

zero_first : (n : ℕ) → eqb (get_or (replicate n 0) 0 0) 0xAA ≡ false
zero_first zero = refl
zero_first (suc n) = refl

pub none : (room : ℕ) → Exact room []
unfolding length_in padded
none room = rw (zero_first (room - 0)) (go (ltb (length (replicate {A = ℕ} (room - 0) 0)) 259))
  where
    go : (t : Bool) → take {A = ℕ} (cond t 0 0) (replicate (room - 0) 0) ≡ []
    go true = refl
    go false = refl

-- as many bytes as the reply has, from the front
front : (room : ℕ) (xs : List ℕ) → take (length xs + 0) (padded room xs) ≡ xs
unfolding padded
front room xs = take-append-add xs (replicate (room - length xs) 0) 0 ∙ append-nil xs

told : (room c : ℕ) (ys : List ℕ) → 259 ≤ room → 2 + length ys ≤ 259
    → length_by c (get_or (padded room (0xAA ∷ c ∷ ys)) 2 0) ≡ 2 + length ys → Exact room (0xAA ∷ c ∷ ys)
unfolding length_in padded
told room c ys large small e =
    let xs : List ℕ = 0xAA ∷ c ∷ ys in
    let all : length (padded room xs) ≡ room = padded_length room xs (omega arith) in
    let least : min (2 + length ys) room ≡ length xs + 0 = omega arith in
    rw (all, le-ltb room 259 large, e, least) (front room xs)

-- ---- each reply

module _ (room : ℕ) (large : 259 ≤ room) where
  -- a head of two bytes, data and CRC
  headed : (c : ℕ) (ys : List ℕ) → length (sealed (0xAA ∷ c ∷ ys)) ≤ 259
      → length_by c (get_or (padded room (sealed (0xAA ∷ c ∷ ys))) 2 0) ≡ 4 + length ys → Exact room (sealed (0xAA ∷ c ∷ ys))
  unfolding sealed
  headed c ys h e =
      let n = length-append ys (le16 (crc_of (0xAA ∷ c ∷ ys))) in
      told room c (ys ++ le16 (crc_of (0xAA ∷ c ∷ ys))) large (omega (arith, n, h)) (e ∙ omega (arith, n))

  -- the same with the number of the data's bytes before them
  counted : (c n : ℕ) (ys : List ℕ) → ((pl : ℕ) → length_by c pl ≡ 5 + pl) → length ys ≡ n → length (sealed (0xAA ∷ c ∷ n ∷ ys)) ≤ 259
      → Exact room (sealed (0xAA ∷ c ∷ n ∷ ys))
  unfolding sealed padded
  counted c n ys says e h = headed c (n ∷ ys) h (says n ∙ omega (arith, e))

  module _ (p : Pack) (h : Hire) (s : List ℕ) where
    -- the lifetime and n events
    longs : (es : List Event) (n : ℕ) → length (words le32 (event_longs p.clock.seconds es) 0 (1 + n)) ≡ 4 + 4 * n
    longs es n = words_length 4 le32 (event_longs p.clock.seconds es) 0 (1 + n) (λ w. refl) ∙ omega arith

    body : (q : Query) → ((pl : ℕ) → fits q pl ≡ true) → length (sealed (body_of p h s q)) ≤ 259 → Exact room (sealed (body_of p h s q))
    unfolding body_by fits length_by
    body (Registers command at n) f l =
        counted command (2 * n) _ (λ pl. eqb-true _ (5 + pl) (f pl))
        (words_length 2 (word16 (eqb command 0x03)) (value_at p h) at n (two (eqb command 0x03))) l
      where
        two : (t : Bool) (w : ℕ) → length (word16 t w) ≡ 2
        two true w = refl
        two false w = refl
    body (Listed n) f l = counted 0x09 (4 * n) _ (λ pl. refl) (words_length 4 (with_register (value_at p h)) (address_at s) 0 n (λ w. refl)) l
    body (Bare command at n) f l =
        headed command _ l (eqb-true _ (4 + 2 * n) (f _) ∙ ap (λ (k : ℕ). 4 + k) (sym (words_length 2 le16 (value_at p h) at n (λ w. refl))))
    body NewEvents f l = counted 0x11 (4 + 4 * new_count h.events) _ (λ pl. refl) (longs (new_of h.events) (new_count h.events)) l
    body AllEvents f l = counted 0x12 (4 + 4 * kept_count h.events) _ (λ pl. refl) (longs (kept_of h.events) (kept_count h.events)) l
    body Temperatures f l = counted 0x1B 6 _ (λ pl. refl) refl l
    body Cells f l = counted 0x1C (2 * cells_of p) _ (λ pl. refl) (words_length 2 le16 (value_at p h) 0 (cells_of p) (λ w. refl)) l
    body (SettingsOf kind n) f l =
        counted 0x1D (2 * n) _ (λ pl. refl) (words_length 2 le16 (settings.register_of (settings.of_kind p.settings kind)) 300 n
        (λ w. refl)) l

    taken : (f : Form) (n : ℕ) → length (sealed (taken_reply f s n)) ≤ 259 → Exact room (sealed (taken_reply f s n))
    unfolding taken_reply length_by
    taken form.Modbus n l = headed 0x10 (be16 (be16_at s 2) ++ be16 n) l refl
    taken form.Block n l = headed 0x01 (0x0B ∷ []) l refl
    taken form.List n l = headed 0x01 (0x0D ∷ []) l refl

    accepted : (q : Asked) → ((pl : ℕ) → reads q pl ≡ true) → length (accepted_reply p h s q) ≤ 259 → Exact room (accepted_reply p h s q)
    unfolding accepted_reply reads length_by
    accepted (Err refusal) f l = none room
    accepted (Ok request.ClearEvents) f l = headed 0x01 (0x02 ∷ []) l refl
    accepted (Ok request.ClearStatistics) f l = headed 0x01 (0x02 ∷ []) l refl
    accepted (Ok (request.Write f n)) g l = taken f n l
    accepted (Ok (request.Read q)) f l = body q f l

    refused : (left : Option ℕ) → length (left_reply left s) ≤ 259 → Exact room (left_reply left s)
    unfolding length_by
    refused None l = none room
    refused (Some error) l = headed 0x00 (get_or s 1 0 ∷ error ∷ []) l refl

    every : (q : Asked) → ((pl : ℕ) → reads q pl ≡ true) → (o : Outcome) → length (reply_by o s (accepted_reply p h s q)) ≤ 259
        → Exact room (reply_by o s (accepted_reply p h s q))
    unfolding reply_by
    every q f (Ok done) l = accepted q f l
    every q f (Err refusal) l = refused (left_by refusal) l

-- a frame's whole reply, and nothing after it
pub exact : (p : Pack) (h : Hire) (s : List ℕ) (room : ℕ) → 259 ≤ room → Exact room (asked_reply p h s (request_of s))
exact p h s room large =
    every room large p h s (request_of s) (λ pl. (asked s pl).reads) (asked_outcome p s (request_of s)) (reply_length p h s)
