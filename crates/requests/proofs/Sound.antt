-- What holds of a request whatever its bytes: the command that it is answered with is its second byte, the registers that it reads lie in
-- the three ranges, it counts no more than its command may, and its length is 4 to 264. By the tests in the definition's order.
-- Assumes nothing.
use mathlib.Core.Path.{◌≡◌, refl, sym, ap, ◌∙◌}
use mathlib.Core.Bool.{Bool, true, false, ◌&&◌, cond, and-eq-true_iff, false≢true}
use mathlib.Core.List.{List, []}
use Prim.Native.Nat.{ℕ, zero, suc, ◌+◌, ◌*◌, ◌/◌, ◌≤◌, ◌<◌}
use native.Mathlib.Omega.{arith}
use borrow.Author.Tests.{eqb-true, eqb-false, leb-true, le-leb}
use lib.Dec.{eqb, leb}
use lib.ListN.{get_or}
use Rattle.refusals.specs.declared.Refusal.TheVariants.{WrongField}
use Rattle.refusals.specs.Refusals.{Outcome, first}
use Rattle.std.specs.Prelude.{Ok, Err}
use Rattle.std.specs.Option.{ok_or}
use Rattle.writes.specs.declared.Form.TheVariants as form
use Rattle.numbers.specs.Numbers.{be16_at, le16_at}
use Rattle.writes.specs.Writes.{between, write_command}
use Rattle.requests.specs.declared.Query.{Query}
use Rattle.requests.specs.declared.Query.TheVariants.{Registers, Listed, Bare, NewEvents, AllEvents, Temperatures, Cells, SettingsOf}
use Rattle.requests.specs.declared.Command.{Command}
use Rattle.requests.specs.declared.Command.TheVariants.{Clear, Block, QuickBlock, AskList, Write, Ask, AskSettings, Unknown}
use Rattle.requests.specs.declared.Expected.{Expected}
use Rattle.requests.specs.declared.Request.{Request}
use Rattle.requests.specs.declared.Request.TheVariants as request
use Rattle.requests.specs.Requests.{expect, expected_of, expected_in, in_one_range, address_at, all_shown, fields_of}
use Rattle.requests.specs.Requests.{Asked, fields, request_rows, asked_of, request_by, request_of, command_of}

-- the command that a request is answered with; c where it has none of its own
unfoldable pub command_in : ℕ → Asked → ℕ
command_in c (Err refusal) = c
command_in c (Ok request.ClearEvents) = c
command_in c (Ok request.ClearStatistics) = c
command_in c (Ok (request.Write f n)) = write_command f
command_in c (Ok (request.Read q)) = command_of q

-- the registers that a query of those bytes names: how many, and the i-th; the cells are 0 to 15
unfoldable pub named_by : Query → ℕ
named_by (Registers command at n) = n
named_by (Listed n) = n
named_by (Bare command at n) = n
named_by NewEvents = 0
named_by AllEvents = 0
named_by Temperatures = 0
named_by Cells = 16
named_by (SettingsOf kind n) = 0

unfoldable pub register_in : List ℕ → Query → ℕ → ℕ
register_in s (Registers command at n) i = at + i
register_in s (Listed n) i = address_at s i
register_in s (Bare command at n) i = at + i
register_in s NewEvents i = i
register_in s AllEvents i = i
register_in s Temperatures i = i
register_in s Cells i = i
register_in s (SettingsOf kind n) i = i

-- each lies in one of the ranges
unfoldable pub in_range : List ℕ → Query → Bool
in_range s (Registers command at n) = in_one_range at n
in_range s (Listed n) = all_shown s n
in_range s (Bare command at n) = in_one_range at n
in_range s NewEvents = true
in_range s AllEvents = true
in_range s Temperatures = true
in_range s Cells = in_one_range 0 16
in_range s (SettingsOf kind n) = true

-- as many as its command may count: RL up to 127, 63 addresses, the two registers of a bare reply, RL up to 100
unfoldable pub counted : Query → Bool
counted (Registers command at n) = leb n 127
counted (Listed n) = leb n 63
counted (Bare command at n) = leb n 2
counted NewEvents = true
counted AllEvents = true
counted Temperatures = true
counted Cells = true
counted (SettingsOf kind n) = leb n 100

-- what is asked of a query, of a request that is one
abbrev pub of_query : (Query → Bool) → Asked → Bool
of_query asks (Err refusal) = true
of_query asks (Ok request.ClearEvents) = true
of_query asks (Ok request.ClearStatistics) = true
of_query asks (Ok (request.Write f n)) = true
of_query asks (Ok (request.Read q)) = asks q

unfoldable pub reads_in_range : List ℕ → Asked → Bool
reads_in_range s q = of_query (in_range s) q

-- so each address of a list does
pub each_shown : (s : List ℕ) (n i : ℕ) → all_shown s n ≡ true → i < n → in_one_range (address_at s i) 1 ≡ true
unfolding all_shown
each_shown s zero i h l = absurd (omega arith)
each_shown s (suc n) i h l = go (eqb i n) refl (λ k. each_shown s n i both.0 k)
  where
    both : (all_shown s n ≡ true) × (in_one_range (address_at s n) 1 ≡ true)
    both = (and-eq-true_iff (all_shown s n) (in_one_range (address_at s n) 1)).0 h

    go : (t : Bool) → eqb i n ≡ t → (i < n → in_one_range (address_at s i) 1 ≡ true) → in_one_range (address_at s i) 1 ≡ true
    go true e f = ap (λ (k : ℕ). in_one_range (address_at s k) 1) (eqb-true i n e) ∙ both.1
    go false e f = f (omega (arith, eqb-false))

pub record Sound (c : ℕ) (s : List ℕ) (q : Asked) : Type 0 where
  pub named : command_in c q ≡ c
  pub lies_in_range : reads_in_range s q ≡ true
  pub few : of_query counted q ≡ true

-- ---- the command byte

byte_of : ℕ → Command → ℕ
byte_of c Clear = 0x02
byte_of c Block = 0x03
byte_of c QuickBlock = 0x07
byte_of c AskList = 0x09
byte_of c (Write f) = write_command f
byte_of c (Ask q) = command_of q
byte_of c AskSettings = 0x1D
byte_of c Unknown = c

-- what is asked whatever the fields, of those bytes
asks_within : List ℕ → Command → Bool
asks_within s Clear = true
asks_within s Block = true
asks_within s QuickBlock = true
asks_within s AskList = true
asks_within s (Write f) = true
asks_within s (Ask q) = in_range s q && counted q
asks_within s AskSettings = true
asks_within s Unknown = true

module _ (s : List ℕ) (c third seventh : ℕ) where
  record Stands (e : Expected) : Type 0 where
    stands : byte_of c e.command ≡ c
    within : asks_within s e.command ≡ true
    least : 4 ≤ e.length
    most : third ≤ 255 → seventh ≤ 255 → e.length ≤ 264

  byte : (k : ℕ) (x : Expected) {y : Expected} → byte_of c x.command ≡ k → asks_within s x.command ≡ true → 4 ≤ x.length
      → (third ≤ 255 → seventh ≤ 255 → x.length ≤ 264) → Stands y → Stands (cond (eqb c k) x y)
  byte k x {y} p r l m q = go (eqb c k) refl
    where
      go : (t : Bool) → eqb c k ≡ t → Stands (cond t x y)
      go true e = record { stands = p ∙ sym (eqb-true c k e); within = r; least = l; most = m }
      go false e = q

  expected : Stands (expected_of c third seventh)
  unfolding expected_of byte_of asks_within in_range counted command_of write_command
  expected =
      byte 0x02 (expect 5 Clear) refl refl (omega arith) (λ h k. omega arith)
      (byte 0x03 (expect 8 Block) refl refl (omega arith) (λ h k. omega arith)
      (byte 0x07 (expect 7 QuickBlock) refl refl (omega arith) (λ h k. omega arith)
      (byte 0x09 (expect (5 + third) AskList) refl refl (omega arith) (λ h k. omega arith)
      (byte 0x0B (expect (5 + third) (Write form.Block)) refl refl (omega arith) (λ h k. omega arith)
      (byte 0x0D (expect (5 + third) (Write form.List)) refl refl (omega arith) (λ h k. omega arith)
      (byte 0x10 (expect (9 + seventh) (Write form.Modbus)) refl refl (omega arith) (λ h k. omega arith)
      (byte 0x11 (expect 4 (Ask NewEvents)) refl refl (omega arith) (λ h k. omega arith)
      (byte 0x12 (expect 4 (Ask AllEvents)) refl refl (omega arith) (λ h k. omega arith)
      (byte 0x14 (expect 4 (Ask (Bare 0x14 36 2))) refl refl (omega arith) (λ h k. omega arith)
      (byte 0x15 (expect 4 (Ask (Bare 0x15 38 2))) refl refl (omega arith) (λ h k. omega arith)
      (byte 0x16 (expect 4 (Ask (Bare 0x16 41 1))) refl refl (omega arith) (λ h k. omega arith)
      (byte 0x17 (expect 4 (Ask (Bare 0x17 40 1))) refl refl (omega arith) (λ h k. omega arith)
      (byte 0x18 (expect 4 (Ask (Bare 0x18 50 1))) refl refl (omega arith) (λ h k. omega arith)
      (byte 0x19 (expect 4 (Ask (Bare 0x19 32 2))) refl refl (omega arith) (λ h k. omega arith)
      (byte 0x1B (expect 4 (Ask Temperatures)) refl refl (omega arith) (λ h k. omega arith)
      (byte 0x1C (expect 4 (Ask Cells)) refl refl (omega arith) (λ h k. omega arith)
      (byte 0x1D (expect 7 AskSettings) refl refl (omega arith) (λ h k. omega arith)
      (record { stands = refl; within = refl; least = omega arith; most = λ h k. omega arith }))))))))))))))))))

-- 4 bytes at least, and 264 at most
pub least : (c third seventh : ℕ) → 4 ≤ (expected_of c third seventh).length
least c third seventh = (expected [] c third seventh).least

pub most : (c third seventh : ℕ) → third ≤ 255 → seventh ≤ 255 → (expected_of c third seventh).length ≤ 264
most c third seventh = (expected [] c third seventh).most

-- ---- the fields

-- a count that passes its test, the last of some, where the most that the test lets through is at most so many
counts : (most : ℕ) (a : Bool) (n through : ℕ) → (a && between 1 through n) ≡ true → through ≤ most → leb n most ≡ true
counts most a n through h l =
    let rule = (and-eq-true_iff (leb 1 n) (leb n through)).0 ((and-eq-true_iff a (between 1 through n)).0 h).1 in
    le-leb n most (omega (arith, leb-true n through rule.1))

module _ (c : ℕ) (s : List ℕ) where
  -- the last two of the tests that a block passes
  block : (k at padding rl through : ℕ) → k ≡ c → (eqb padding 0 && between 1 through rl && in_one_range at rl) ≡ true → through ≤ 127
      → Sound c s (Ok (request.Read (Registers k at rl)))
  unfolding command_in reads_in_range in_range counted command_of
  block k at padding rl through e h l =
      let both = (and-eq-true_iff (eqb padding 0 && between 1 through rl) (in_one_range at rl)).0 h in
      record { named = e; lies_in_range = both.1; few = counts 127 (eqb padding 0) rl through both.0 l }

  -- fields that are against their rule ask nothing
  by_rule : (good : Bool) (q : Request) → (good ≡ true → Sound c s (Ok q)) → Sound c s (ok_or (fields good q) WrongField)
  unfolding command_in reads_in_range
  by_rule true q h = h refl
  by_rule false q h = record { named = refl; lies_in_range = refl; few = refl }

  asked : (k : Command) → byte_of c k ≡ c → asks_within s k ≡ true → Sound c s (ok_or (fields_of k s) WrongField)
  unfolding command_in reads_in_range in_range counted byte_of asks_within fields_of command_of
  asked Clear e r = by_rule _ _ (λ h. go (eqb (get_or s 2 0) 1))
    where
      go : (t : Bool) → Sound c s (Ok (cond t request.ClearEvents request.ClearStatistics))
      go true = record { named = refl; lies_in_range = refl; few = refl }
      go false = record { named = refl; lies_in_range = refl; few = refl }
  asked Block e r = by_rule _ _ (λ h. block 0x03 (be16_at s 2) (get_or s 4 0) (get_or s 5 0) _ e h (omega arith))
  asked QuickBlock e r = by_rule _ _ (λ h. block 0x07 (le16_at s 3) 0 (get_or s 2 0) _ e h (omega arith))
  asked AskList e r =
      let pl = get_or s 2 0 in
      by_rule _ _ (λ h. let both = (and-eq-true_iff (eqb pl (2 * (pl / 2)) && between 1 _ (pl / 2)) (all_shown s (pl / 2))).0 h in record {
        named = e;
        lies_in_range = both.1;
        few = counts 63 (eqb pl (2 * (pl / 2))) (pl / 2) _ both.0 (omega arith);
      })
  asked (Write f) e r = by_rule _ _ (λ h. record { named = e; lies_in_range = refl; few = refl })
  asked (Ask q) e r = let both = (and-eq-true_iff (in_range s q) (counted q)).0 r in record { named = e; lies_in_range = both.0; few = both.1 }
  asked AskSettings e r =
      let options = between 1 4 (get_or s 2 0) && eqb (get_or s 3 0) 0 in
      by_rule _ _ (λ h. record { named = e; lies_in_range = refl; few = counts 100 options (get_or s 4 0) _ h (omega arith) })
  asked Unknown e r = record { named = refl; lies_in_range = refl; few = refl }

-- ---- every request

asked_sound : (s : List ℕ) → Sound (get_or s 1 0) s (asked_of s)
asked_sound s =
    let k = expected s (get_or s 1 0) (get_or s 2 0) (get_or s 6 0) in
    asked (get_or s 1 0) s (expected_in s).command k.stands k.within

pub sound : (s : List ℕ) → Sound (get_or s 1 0) s (request_of s)
unfolding request_of command_in reads_in_range
sound s = go (first (request_rows s))
  where
    go : (o : Outcome) → Sound (get_or s 1 0) s (request_by o (asked_of s))
    go (Ok done) = asked_sound s
    go (Err refusal) = record { named = refl; lies_in_range = refl; few = refl }
