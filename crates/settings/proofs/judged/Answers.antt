-- Each register passed by is in its range; where one is not, it is the lowest, and where none is left the order decides. Assumes nothing.
use mathlib.Core.Path.{◌≡◌, refl, sym, ap, ◌∙◌}
use mathlib.Core.Bool.{Bool, true, not, cond}
use mathlib.Core.List.{List, [], ◌∷◌}
use Prim.Native.Nat.{ℕ, ◌+◌, ◌-◌, ◌≤◌}
use native.Mathlib.Omega.{arith}
use Rattle.refusals.specs.declared.Refusal.{Refusal}
use Rattle.refusals.specs.declared.Refusal.TheVariants.{OutOfRange, OutOfOrder}
use Rattle.refusals.specs.Refusals.{Done, Refused, first}
use Rattle.settings.specs.Settings.{registers, up_from, judged_of, ordered, settings_of}
use Rattle.settings.proofs.Hundred.{fits_by, range_row, on_from, tested}
use borrow.Author.Rules.{rules}
use Rattle.settings.proofs.judged.Goals as goal

pub loop-i-init : goal.loop-i-init
unfolding registers
loop-i-init c = (search rules, refl)

-- the judgement, where a register is found and where none is left
found : (values : List ℕ) (at : ℕ) → (OutOfRange at, true) ≡ range_row values registers → Refused (OutOfRange at) ≡ judged_of values
unfolding judged_of first
found values at e = ap (λ (row : Refusal × Bool). first (row ∷ (OutOfOrder, not (ordered (settings_of values))) ∷ [])) e

none_left : (values : List ℕ) (i : ℕ) {t : Bool} → 100 ≤ i → range_row values (on_from i) ≡ range_row values registers
    → ordered (settings_of values) ≡ t → cond (not t) (Refused OutOfOrder) Done ≡ judged_of values
unfolding judged_of first
none_left values i past e o =
    let none : 100 - i ≡ 0 = omega arith in
    rw (← o)
    (ap (λ (row : Refusal × Bool). first (row ∷ (OutOfOrder, not (ordered (settings_of values))) ∷ []))
    (ap (λ (n : ℕ). range_row values (up_from (300 + i) n)) (sym none) ∙ e))

pub returns-then-not-is_in_range : goal.returns-then-not-is_in_range
returns-then-not-is_in_range c =
    let fitting = fits_by c.loop-i.i _ (omega arith) c.values-least.ensures c.values-greatest.ensures c.is_in_range.ensures ∙ c.if-not-is_in_range.true in
    let values = c.args.values in
    found values (300 + c.loop-i.i) (sym (tested values c.loop-i.i (omega arith) fitting) ∙ c.loop-i.invariant.1)

pub loop-i-preserved : goal.loop-i-preserved
loop-i-preserved c =
    let fitting = fits_by c.loop-i.i _ (omega arith) c.values-least.ensures c.values-greatest.ensures c.is_in_range.ensures ∙ c.if-not-is_in_range.false in
    (search rules, sym (tested c.args.values c.loop-i.i (omega arith) fitting) ∙ c.loop-i.invariant.1)

pub returns-then-ordered : goal.returns-then-ordered
returns-then-ordered c =
    let o = ap ordered (sym c.of.ensures) ∙ sym c.ordered.ensures ∙ c.if-ordered.true in
    none_left c.args.values c.loop-i.i (omega arith) c.loop-i.invariant.1 o

pub returns-else-ordered : goal.returns-else-ordered
returns-else-ordered c =
    let o = ap ordered (sym c.of.ensures) ∙ sym c.ordered.ensures ∙ c.if-ordered.false in
    none_left c.args.values c.loop-i.i (omega arith) c.loop-i.invariant.1 o
