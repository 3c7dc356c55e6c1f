-- An accepted write reads back until the next, on the board after any calls: each register of 300 to 399 shows what the last accepted
-- write that names it gave it, as it was sent, the later of two values in one list, else its factory value; by its number and in the
-- replies of 0x03, 0x07, 0x09 (whatever else its list names) and 0x1D (current), to a frame and to a fetch. And the distance is exact since
-- the clear, rounded once. Why: the board is the one that its deeds make, and the draft of an accepted write has at each register the last
-- value that was put there.
-- Assumes nothing.
use Rattle.std.specs.Prelude.{Ok, Option, Some}
use mathlib.Core.Path.{◌≡◌, refl, sym, ap, ap₂, ◌∙◌, subst⁻¹}
use mathlib.Core.Bool.{Bool, true, false, cond}
use mathlib.Core.Logic.{◌⊎◌, inl, inr}
use mathlib.Core.List.{List, [], ◌∷◌, ◌++◌, map, reverse}
use Prim.Native.Nat.{ℕ, zero, suc, ◌+◌, ◌*◌, ◌≤◌, ◌<◌}
use native.Mathlib.Nat.{zero-add, mul-suc, mul-le-mul_left}
use native.Mathlib.Omega.{arith}
use borrow.Author.Tests.{eqb-true, eqb-false, leb-true, le-leb, lt-leb}
use lib.Dec.{eqb}
use lib.ListN.{length, take, drop, length-drop}
use lib.Seq.{take_all, take-append-le, drop-append-le, drop-drop, drop_at}
use Rattle.laws.specs.History.{never, since, each, head_or, newest}
use Rattle.refusals.specs.Refusals.{Done}
use Rattle.numbers.specs.Numbers.{low_half, high_half, le16, be16}
use Rattle.settings.specs.declared.Settings.{Settings}
use Rattle.settings.specs.declared.Draft.{Draft}
use Rattle.settings.specs.declared.Kind.TheVariants.{Current}
use Rattle.settings.specs.Settings as settings
use Rattle.settings.proofs.Drafts.{by_register, unlisted_reads, done_unlisted}
use Rattle.signed.specs.Signed.{bits_of}
use Rattle.statistics.specs.Statistics as statistics
use Rattle.replies.specs.Replies.{word16, words, sealed, padded}
use Rattle.requests.specs.declared.Query.{Query}
use Rattle.requests.specs.declared.Query.TheVariants.{Registers, Listed, SettingsOf}
use Rattle.writes.specs.declared.Pair.{Pair}
use Rattle.writes.specs.Writes.{names, last_of, drafted_of}
use Rattle.writes.proofs.LastPut.{last_given_lem}
use Rattle.requests.specs.declared.Request.TheVariants as request
use Rattle.requests.specs.Requests.{request_of, address_at, Asked}
use Rattle.requests.proofs.Sound.{counted, sound}
use Rattle.replies.proofs.Writing.{words_alike, words_length, sealed_length}
use Rattle.answers.specs.Registers.{shown_at, value_of, value_at}
use Rattle.answers.specs.Answers.{with_register, body_by, body_of, accepted_reply, reply_by, write_outcome}
use Rattle.board.specs.declared.Board.{Board}
use Rattle.board.specs.Line.{held_in}
use Rattle.board.specs.Calls.{Call, frame, fetch, Lent, reply_lent, shape, seen_of}
use Rattle.board.specs.Behaviour.{Behaviour, board}
use Rattle.board.specs.Account.{Deed, took, wrote, cleared, forgot, sent, handed, heard, fetched, loaded, writing}
use Rattle.board.specs.Account.{last_written, settings_at, distance_at, held_at, board_at, deeds_of}
use Rattle.board.proofs.Account.Deeds.{May}
use Rattle.board.proofs.Account.Settings.{after_older, written}
use Rattle.board.specs.Demands.{deeds, reached, shown}
use Rattle.board.proofs.Account.Shown.{same_bits, distance_shown}
use Rattle.board.proofs.Demands.Demand1.{frame_by_history}
use Rattle.board.proofs.Demands.Demand2.{account}
use Rattle.facts.proofs.Calls.{shown_by}
use Rattle.facts.proofs.Invariants.{All, all_reversed, TypedCall, Typed, Sixteen, TypedDeed, after_typed_calls}

-- what the last accepted write that names a register gave it, as it was sent, the later of two values in one write; else its factory value
abbrev pub last_given : ℕ → List Deed → ℕ
last_given at h = last_written (settings.register_of settings.factory at) at (λ v. v) h

-- ---- what an accepted write gives

-- the settings of a draft that is done read as its values, each as it was put
values_read : (d : Draft) → settings.outcome_of d ≡ Done → settings.value_in d.values 320 < 65536 → (at : ℕ) → 300 ≤ at → at ≤ 399
    → settings.register_of (settings.settings_in d) at ≡ settings.value_in d.values at
unfolding settings.register_of settings.settings_of
values_read d done small =
    by_register (λ at. 300 ≤ at → at ≤ 399 → settings.register_of (settings.settings_in d) at ≡ settings.value_in d.values at)
    (λ l m. refl) (λ l m. refl) (λ l m. refl) (λ l m. refl) (λ l m. refl) (λ l m. refl) (λ l m. refl) (λ l m. refl)
    (λ l m. same_bits _ small) (λ l m. refl) (λ l m. refl) (λ l m. refl)
    (λ at u l m. unlisted_reads at u (settings.settings_in d) ∙ sym (done_unlisted d done at l m u))

-- a register that pairs of sixteen bits give is of sixteen bits
last_sixteen : (at stood : ℕ) (ps : List Pair) → stood < 65536 → All Sixteen ps → last_of stood at (λ v. v) ps < 65536
last_sixteen at stood [] small bits = small
last_sixteen at stood (p ∷ ps) small bits = go (names at p) (last_sixteen at stood ps small bits.1)
  where
    go : (t : Bool) → last_of stood at (λ v. v) ps < 65536
        → head_or stood (map (λ p. p.value) (cond t (p ∷ []) (newest (names at) ps))) < 65536
    go true older = bits.0
    go false older = older

module _ (cells per_km : ℕ) where
  -- so after every accepted write of a history the settings read as they were given
  abbrev Given : List Deed → Type 0
  Given k = (last_given 320 k < 65536) × ((at : ℕ) → 300 ≤ at → at ≤ 399 → settings.register_of (settings_at k) at ≡ last_given at k)

  accepted_gives : (h : List Deed) (ps : List Pair) → All Sixteen ps → write_outcome (settings_at h) ps ≡ Done → Given h
      → Given (wrote ps ∷ h)
  accepted_gives h ps bits done (small, reads) =
      let d = drafted_of (settings.draft_of (settings_at h)) ps in
      let older : (at : ℕ) → last_given at (wrote ps ∷ h) ≡ last_of (last_given at h) at (λ v. v) ps =
      λ at. after_older _ at (λ v. v) ps (each writing (since never h)) in
      let drafted : (at : ℕ) → 300 ≤ at → at ≤ 399 → settings.value_in d.values at ≡ last_given at (wrote ps ∷ h) =
      λ at l m. last_given_lem at l m (settings_at h) ps ∙ ap (λ (v : ℕ). last_of v at (λ v. v) ps) (reads at l m) ∙ sym (older at) in
      let sixteen = subst⁻¹ (λ (v : ℕ). v < 65536) (older 320) (last_sixteen 320 (last_given 320 h) ps small bits) in
      let fits = subst⁻¹ (λ (v : ℕ). v < 65536) (drafted 320 (omega arith) (omega arith)) sixteen in (
        sixteen,
        λ at l m. ap (λ (s : Settings). settings.register_of s at) (written ps h) ∙ values_read d done fits at l m ∙ drafted at l m,
      )

  kept_given : (d : Deed) (k : List Deed) → May cells per_km k d → TypedDeed d → Given k → Given (d ∷ k)
  unfolding settings_at
  kept_given (took given r) k m t p = p
  kept_given (wrote ps) k m t p = accepted_gives k ps t.1 m p
  kept_given cleared k m t p = p
  kept_given forgot k m t p = p
  kept_given sent k m t p = p
  kept_given handed k m t p = p
  kept_given (heard bytes) k m t p = p
  kept_given fetched k m t p = p
  kept_given (loaded es) k m t p = p

  writes_give : (cs : List Call) → Typed cs → Given (deeds_of cells per_km cs)
  unfolding settings.register_of settings_at bits_of
  writes_give cs typed = after_typed_calls cells per_km Given kept_given (omega arith, λ at l m. refl) cs typed

-- ---- rows

-- bytes before an end stand whatever comes after it
pub before : (k m : ℕ) (xs ys : List ℕ) → m + k ≤ length xs → take k (drop m (xs ++ ys)) ≡ take k (drop m xs)
before k m xs ys l =
    ap (take k) (drop-append-le m xs ys (omega arith))
    ∙ take-append-le k (drop m xs) ys (omega (arith, length-drop m xs))

-- the i-th number of a row, each of k bytes
pub word_at : (k : ℕ) (bytes : ℕ → List ℕ) (f : ℕ → ℕ) (at n i : ℕ) → ((w : ℕ) → length (bytes w) ≡ k) → i < n
    → take k (drop (k * i) (words bytes f at n)) ≡ bytes (f (at + i))
unfolding words
word_at k bytes f at zero i long l = absurd (omega arith)
word_at k bytes f at (suc n) i long l = go (eqb i n) refl (λ m. word_at k bytes f at n i long m)
  where
    all : length (words bytes f at n) ≡ k * n
    all = words_length k bytes f at n long

    go : (t : Bool) → eqb i n ≡ t → (i < n → take k (drop (k * i) (words bytes f at n)) ≡ bytes (f (at + i)))
        → take k (drop (k * i) (words bytes f at n ++ bytes (f (at + n)))) ≡ bytes (f (at + i))
    go true e older =
        subst⁻¹ (λ j. take k (drop (k * j) (words bytes f at n ++ bytes (f (at + n)))) ≡ bytes (f (at + j))) (eqb-true i n e)
        (ap (take k) (drop_at (words bytes f at n) (bytes (f (at + n))) (k * n) all)
        ∙ take_all k (bytes (f (at + n))) (omega (arith, long (f (at + n)))))
    go false e older =
        let m : i < n = omega (arith, eqb-false) in
        let inside = mul-le-mul_left k m in
        before k (k * i) (words bytes f at n) (bytes (f (at + n))) (omega (arith, all, mul-suc k i, inside)) ∙ older m

-- rows of equal numbers, and of equal registers at the same addresses
pub words_same : (bytes : ℕ → List ℕ) (f g : ℕ → ℕ) (at n : ℕ) → ((i : ℕ) → i < n → f (at + i) ≡ g (at + i))
    → words bytes f at n ≡ words bytes g at n
words_same bytes f g at n e = words_alike bytes bytes f g at at n (λ i l. ap bytes (e i l))

pub listed_same : (f g a : ℕ → ℕ) (n : ℕ) → ((i : ℕ) → i < n → f (a i) ≡ g (a i))
    → words (with_register f) a 0 n ≡ words (with_register g) a 0 n
listed_same f g a n e =
    words_alike (with_register f) (with_register g) a a 0 0 n
    (λ i l. rw zero-add (ap (λ (v : ℕ). le16 (a i) ++ le16 v) (e i l)))

-- ---- as a caller sees it, of any behaviour

-- what those calls last gave a register
abbrev pub given_by : ℕ → ℕ → List Call → ℕ → ℕ
given_by cells per_km cs at = last_given at (deeds cells per_km cs)

-- after those calls c asks the request s and lends that room for its reply: a frame its own, a fetch the frame that is held then
abbrev pub Asks : ℕ → ℕ → List Call → Call → List ℕ → ℕ → Type 0
Asks cells per_km cs c s room = (c ≡ frame s room) ⊎ ((c ≡ fetch room) × (held_at (deeds cells per_km cs) ≡ s))

-- after those calls whatever asks that query and is done gets these bytes, then their CRC and zeros
abbrev pub Replies : Behaviour → ℕ → ℕ → List Call → Query → (List ℕ → List ℕ) → Type 0
Replies B cells per_km cs q bytes =
    (c : Call) (s : List ℕ) (room : ℕ) → Asks cells per_km cs c s room → request_of s ≡ Ok (request.Read q)
    → (shown B cells per_km cs c).outcome ≡ Done → (shown B cells per_km cs c).buffer ≡ padded room (sealed (bytes s))

-- to 0x09: each address in order and its register, where registers show those values
abbrev pub listed : (ℕ → ℕ) → ℕ → List ℕ → List ℕ
listed value n s = 0xAA ∷ 0x09 ∷ 4 * n ∷ words (with_register value) (address_at s) 0 n

-- what an accepted 0x03 or 0x07 of settings, an accepted 0x09, an accepted 0x1D (current), and an accepted 0x03 of the distance reply
pub record ReadsBack (B : Behaviour) : Type 0 where
  pub block : (cells per_km : ℕ) (cs : List Call) → Typed cs → (command at n : ℕ) → 300 ≤ at → at + n ≤ 400
      → Replies B cells per_km cs (Registers command at n)
      (λ s. 0xAA ∷ command ∷ 2 * n ∷ words (word16 (eqb command 0x03)) (given_by cells per_km cs) at n)
  -- in a list each setting shows what it was last given, whatever registers beside it show
  pub list : (cells per_km : ℕ) (cs : List Call) → Typed cs
      → (value : ℕ → ℕ) × ((at : ℕ) → 300 ≤ at → at ≤ 399 → value at ≡ given_by cells per_km cs at)
      × ((n : ℕ) → Replies B cells per_km cs (Listed n) (listed value n))
  pub current : (cells per_km : ℕ) (cs : List Call) → Typed cs → (n : ℕ)
      → Replies B cells per_km cs (SettingsOf Current n) (λ s. 0xAA ∷ 0x1D ∷ 2 * n ∷ words le16 (given_by cells per_km cs) 300 n)
  pub distance : (cells per_km : ℕ) (cs : List Call) → per_km ≤ 65535
      → Replies B cells per_km cs (Registers 0x03 100 2)
      (λ s. 0xAA ∷ 0x03 ∷ 4
      ∷ be16 (low_half (distance_at per_km (deeds cells per_km cs)))
      ++ be16 (high_half (distance_at per_km (deeds cells per_km cs))))

-- the i-th entry of a list: an address and its register
pub entry_at : (value : ℕ → ℕ) (s : List ℕ) (n i : ℕ) → i < n
    → take 4 (drop (4 * i) (words (with_register value) (address_at s) 0 n)) ≡ with_register value (address_at s i)
entry_at value s n i l =
    word_at 4 (with_register value) (address_at s) 0 n i (λ w. refl) l ∙ ap (λ (j : ℕ). with_register value (address_at s j)) (zero-add i)

-- so of a list that mixes ranges, entry by entry: where the i-th address is a setting's, its four bytes are that address and what it was
-- last given
pub entry_reads : (B : Behaviour) → ReadsBack B → (cells per_km : ℕ) (cs : List Call) → Typed cs → (c : Call) (s : List ℕ) (room n : ℕ)
    → Asks cells per_km cs c s room → request_of s ≡ Ok (request.Read (Listed n)) → (shown B cells per_km cs c).outcome ≡ Done
    → (i : ℕ) → i < n → 300 ≤ address_at s i → address_at s i ≤ 399
    → take 4 (drop (3 + 4 * i) (shown B cells per_km cs c).buffer)
    ≡ le16 (address_at s i) ++ le16 (last_given (address_at s i) (deeds cells per_km cs))
unfolding sealed padded
entry_reads B reads cells per_km cs typed c s room n asks e z i l least most =
    let (value, given, replies) = reads.list cells per_km cs typed in
    let body = listed value n s in
    let row = words_length 4 (with_register value) (address_at s) 0 n (λ w. refl) in
    let all : length body ≡ 3 + 4 * n = omega (arith, row) in
    ap (λ (l : List ℕ). take 4 (drop (3 + 4 * i) l)) (replies n c s room asks e z)
    ∙ before 4 (3 + 4 * i) (sealed body) _ (omega (arith, all, sealed_length body))
    ∙ before 4 (3 + 4 * i) body _ (omega (arith, all))
    ∙ ap (take 4) (sym (drop-drop (4 * i) 3 body))
    ∙ entry_at value s n i l
    ∙ ap (λ (v : ℕ). le16 (address_at s i) ++ le16 v) (given (address_at s i) least most)

-- ---- our board after any calls

module _ (cells per_km : ℕ) (cs : List Call) where
  abbrev after : Board
  after = reached board cells per_km cs

  abbrev made : List Deed
  made = deeds cells per_km cs

  abbrev given_at : ℕ → ℕ
  given_at = given_by cells per_km cs

  holds_after : (P : Board → Type 0) → P (board_at cells per_km made) → P after
  holds_after P = subst⁻¹ P (account cells per_km cs)

  -- what is lent to the reply, by a frame and by a fetch
  abbrev lending : List ℕ → ℕ → Lent
  lending s room = reply_lent s room (accepted_reply after.pack after.hire s (request_of s))

  lent_by : (c : Call) (s : List ℕ) (room : ℕ) → Asks cells per_km cs c s room → (shape c).lent after ≡ lending s room
  unfolding shape
  lent_by c s room (inl e) = ap (λ (c : Call). (shape c).lent after) e
  lent_by c s room (inr (e, is)) =
      ap (λ (c : Call). (shape c).lent after) e
      ∙ ap (λ (s : List ℕ). lending s room) (holds_after (λ b. held_in b ≡ held_at made) (frame_by_history cells per_km made) ∙ is)

  -- so an accepted query is answered with its bytes
  answered : (q : Query) (bytes : List ℕ → List ℕ)
      → ((s : List ℕ) → request_of s ≡ Ok (request.Read q) → body_of after.pack after.hire s q ≡ bytes s)
      → Replies board cells per_km cs q bytes
  unfolding seen_of reply_by accepted_reply
  answered q bytes is c s room asks e z =
      ap (seen_of ((shape c).lent after)) z
      ∙ ap (λ (l : Lent). seen_of l Done) (lent_by c s room asks)
      ∙ ap (λ (r : Asked). padded room (accepted_reply after.pack after.hire s r)) e
      ∙ ap (λ (body : List ℕ). padded room (sealed body)) (is s e)

  -- 100 and 101, the distance
  pub distance_reads : per_km ≤ 65535
      → (shown_by after 100 ≡ Some (low_half (distance_at per_km made))) × (shown_by after 101 ≡ Some (high_half (distance_at per_km made)))
  unfolding shown_at statistics.register_of board_at
  distance_reads most =
      let e = distance_shown per_km made most in (
        holds_after (λ b. shown_by b 100 ≡ Some (low_half (distance_at per_km made))) (ap (λ n. Some (low_half n)) e),
        holds_after (λ b. shown_by b 101 ≡ Some (high_half (distance_at per_km made))) (ap (λ n. Some (high_half n)) e),
      )

  module _ (typed : Typed cs) where
    all_made : Given cells per_km made
    all_made = writes_give cells per_km (reverse cs) (all_reversed TypedCall cs [] typed tt)

    -- a register by its number
    pub register_reads : (at : ℕ) → 300 ≤ at → at ≤ 399 → shown_by after at ≡ Some (last_given at made)
    unfolding shown_at board_at
    register_reads at l m =
        holds_after (λ b. shown_by b at ≡ Some (last_given at made))
        (rw (lt-leb at 55 (omega arith), le-leb 100 at (omega arith), lt-leb at 117 (omega arith), le-leb 300 at l, le-leb at 399 m)
        (ap Some (all_made.1 at l m)))

    -- and as replies have it
    pub value_reads : (at : ℕ) → 300 ≤ at → at ≤ 399 → value_at after.pack after.hire at ≡ given_at at
    unfolding value_at
    value_reads at l m = ap value_of (register_reads at l m)

    -- the replies of 0x03 and 0x07, before their CRC: the registers of a block
    pub block_reads : (s : List ℕ) (command at n : ℕ) → 300 ≤ at → at + n ≤ 400
        → body_of after.pack after.hire s (Registers command at n)
        ≡ 0xAA ∷ command ∷ 2 * n ∷ words (word16 (eqb command 0x03)) given_at at n
    unfolding body_by
    block_reads s command at n l m =
        ap (λ (bytes : List ℕ). 0xAA ∷ command ∷ 2 * n ∷ bytes)
        (words_same (word16 (eqb command 0x03)) (value_at after.pack after.hire) given_at at n
        (λ i k. value_reads (at + i) (omega arith) (omega arith)))

    -- the reply of 0x1D, current
    pub settings_read : (s : List ℕ) (n : ℕ) → n ≤ 100
        → body_of after.pack after.hire s (SettingsOf Current n) ≡ 0xAA ∷ 0x1D ∷ 2 * n ∷ words le16 given_at 300 n
    unfolding body_by settings.of_kind board_at
    settings_read s n few =
        holds_after (λ b. body_of b.pack b.hire s (SettingsOf Current n) ≡ 0xAA ∷ 0x1D ∷ 2 * n ∷ words le16 given_at 300 n)
        (ap (λ (bytes : List ℕ). 0xAA ∷ 0x1D ∷ 2 * n ∷ bytes)
        (words_same le16 (settings.register_of (settings_at made)) given_at 300 n
        (λ i k. all_made.1 (300 + i) (omega arith) (omega arith))))

-- 0x1D shows 100 settings at most
few : (s : List ℕ) (n : ℕ) → request_of s ≡ Ok (request.Read (SettingsOf Current n)) → n ≤ 100
unfolding counted
few s n e = leb-true n 100 (rw e at (sound s).few)

pub held : ReadsBack board
unfolding body_by value_at words
held =
    record {
      block = λ cells per_km cs typed command at n l m.
          answered cells per_km cs (Registers command at n) _ (λ s e. block_reads cells per_km cs typed s command at n l m);
      list = λ cells per_km cs typed. (
        value_at (after cells per_km cs).pack (after cells per_km cs).hire,
        value_reads cells per_km cs typed,
        λ n. answered cells per_km cs (Listed n) _ (λ s e. refl),
      );
      current = λ cells per_km cs typed n.
          answered cells per_km cs (SettingsOf Current n) _ (λ s e. settings_read cells per_km cs typed s n (few s n e));
      distance = λ cells per_km cs most.
          let d = distance_reads cells per_km cs most in
          answered cells per_km cs (Registers 0x03 100 2) _
          (λ s e. ap₂ (λ (low high : Option ℕ). 0xAA ∷ 0x03 ∷ 4 ∷ be16 (value_of low) ++ be16 (value_of high)) d.0 d.1);
    }
