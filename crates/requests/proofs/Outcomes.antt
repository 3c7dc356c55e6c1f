-- What a request comes to, by the first of its rows that applies; and what holds of one that is accepted. By the rows in their order.
-- Assumes nothing.
use mathlib.Core.Path.{◌≡◌, refl, sym, ap, ◌∙◌, subst⁻¹}
use mathlib.Core.Bool.{Bool, true, false, ◌&&◌, not, cond, false≢true, and-eq-true_iff}
use mathlib.Core.List.{List}
use Prim.Native.Nat.{ℕ, ◌+◌, ◌*◌}
use lib.Dec.{eqb}
use lib.ListN.{length, get_or}
use borrow.Author.Tests.{eqb-true}
use Rattle.refusals.specs.declared.Refusal.{Refusal}
use Rattle.refusals.specs.declared.Refusal.TheVariants.{Foreign, Damaged, UnknownCommand, WrongLength, WrongField}
use Rattle.refusals.specs.Refusals.{Outcome, Done, Refused, first}
use Rattle.refusals.proofs.Rows.{off}
use Rattle.std.specs.Prelude.{is_ok, Err, Option, is_some, Some, None}
use Rattle.std.specs.Option.{ok_or}
use Rattle.requests.specs.declared.Command.TheVariants.{Write}
use Rattle.requests.specs.declared.Request.{Request}
use Rattle.writes.specs.declared.Form.TheVariants as form
use Rattle.writes.specs.Writes.{between, count_of, well_counted, all_settings, pairs_of}
use Rattle.requests.specs.Requests.{fields, expected_of, expected_in, length_of, fields_of, fields_in, asked_of, request_by, request_of}
use Rattle.requests.specs.Requests.{foreign, damaged, unknown_command, right_length, wrong_length, wrong_field, request_rows}

-- one that no row refuses is what its fields ask; any other is refused with the first that applies
pub accepted : (s : List ℕ) → first (request_rows s) ≡ Done → request_of s ≡ asked_of s
unfolding request_of
accepted s e = ap (λ (o : Outcome). request_by o (asked_of s)) e

pub refused : (s : List ℕ) (refusal : Refusal) → first (request_rows s) ≡ Refused refusal → request_of s ≡ Err refusal
unfolding request_of
refused s refusal e = ap (λ (o : Outcome). request_by o (asked_of s)) e

-- ---- of an accepted one

pub record Accepted (s : List ℕ) : Type 0 where
  pub ours : foreign s ≡ false
  pub whole : damaged s ≡ false
  pub known : unknown_command s ≡ false
  pub exact : length s ≡ length_of s
  pub kept : is_some (fields_in s) ≡ true

holds : (t : Bool) → not t ≡ false → t ≡ true
holds true e = refl
holds false e = absurd (false≢true (sym e))

-- fields that are there keep their rule
kept_fields : (good : Bool) (asks : Request) → is_some (fields good asks) ≡ true → good ≡ true
kept_fields true asks e = refl
kept_fields false asks e = absurd (false≢true e)

-- 0x10's PL is 2·RL by its fields: so it is as long as the raw line takes it to be
pub right_is_taken : (s : List ℕ) → is_some (fields_in s) ≡ true → right_length (get_or s 1 0) (get_or s 5 0) (expected_in s).length ≡ length_of s
unfolding length_of expected_of fields_of well_counted count_of
right_is_taken s = go (get_or s 1 0) (eqb (get_or s 1 0) 0x10) refl
  where
    pl : ℕ
    pl = get_or s 6 0

    rl : ℕ
    rl = get_or s 5 0

    twice : is_some (fields_of (Write form.Modbus) s) ≡ true → pl ≡ 2 * rl
    twice good =
        let rules = kept_fields _ _ good in
        let counted = ((and-eq-true_iff (well_counted form.Modbus s rl) (all_settings (pairs_of form.Modbus s rl))).0 rules).0 in
        eqb-true pl (2 * rl) ((and-eq-true_iff (eqb (get_or s 4 0) 0 && between 1 100 rl) (eqb pl (2 * rl))).0 counted).1

    go : (c : ℕ) (t : Bool) → eqb c 0x10 ≡ t → is_some (fields_of (expected_of c (get_or s 2 0) pl).command s) ≡ true
        → cond t (9 + 2 * rl) (expected_of c (get_or s 2 0) pl).length ≡ (expected_of c (get_or s 2 0) pl).length
    go c true e =
        subst⁻¹ (λ (c : ℕ). is_some (fields_of (expected_of c (get_or s 2 0) pl).command s) ≡ true → 9 + 2 * rl ≡ (expected_of c (get_or s 2 0) pl).length)
        (eqb-true c 0x10 e) (λ good. ap (λ (n : ℕ). 9 + n) (sym (twice good)))
    go c false e = λ good. refl

pub none_applies : (s : List ℕ) → first (request_rows s) ≡ Done → Accepted s
unfolding length_of
none_applies s e =
    let a = off Foreign (foreign s) _ e in
    let b = off Damaged (damaged s) _ a.1 in
    let c = off UnknownCommand (unknown_command s) _ b.1 in
    let d = off WrongLength (wrong_length s) _ c.1 in
    let f = off WrongField (wrong_field s) _ d.1 in
    record {
      ours = a.0;
      whole = b.0;
      known = c.0;
      exact = eqb-true _ _ (holds _ d.0) ∙ right_is_taken s (holds (is_some (fields_in s)) f.0);
      kept = holds (is_some (fields_in s)) f.0;
    }

-- so it asks something
pub accepted_asks : (s : List ℕ) → first (request_rows s) ≡ Done → is_ok (request_of s) ≡ true
accepted_asks s e = ap is_ok (accepted s e) ∙ go (fields_in s) (none_applies s e).kept
  where
    go : (asked : Option Request) → is_some asked ≡ true → is_ok (ok_or asked WrongField) ≡ true
    go (Some asks) k = refl
    go None k = absurd (false≢true k)
