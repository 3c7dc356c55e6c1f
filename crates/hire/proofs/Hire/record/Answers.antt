-- What is left to record after each turn ends in what all the numbers record. Assumes nothing.
use mathlib.Core.Path.{◌≡◌, refl, sym, ap, ◌∙◌}
use mathlib.Core.List.{List}
use Prim.Native.Nat.{ℕ, suc, ◌≤◌, ◌<◌}
use native.Mathlib.Numerals.{add-one}
use lib.ListN.{length, get_or, drop, drop_of_length-le}
use lib.Seq.{drop-cons}
use borrow.Author.Rules.{rules}
use Rattle.events.specs.declared.Events.{Events}
use Rattle.hire.specs.Hire.{with_events}
use Rattle.hire.specs.Tick.{recorded_of, recorded_all, record_of}
use Rattle.hire.proofs.Hire.record.Goals as goal

-- the first of what is left is recorded
first : (seconds : ℕ) (events : Events) (ns : List ℕ) (i : ℕ) → i < length ns
    → recorded_all seconds events (drop i ns) ≡ recorded_all seconds (recorded_of seconds events (get_or ns i 0)) (drop (suc i) ns)
unfolding recorded_all
first seconds events ns i h = ap (recorded_all seconds events) (drop-cons ns i 0 h)

-- and nothing is left at the end
last : (seconds : ℕ) (events : Events) (ns : List ℕ) (i : ℕ) → length ns ≤ i → recorded_all seconds events (drop i ns) ≡ events
unfolding recorded_all
last seconds events ns i h = ap (recorded_all seconds events) (drop_of_length-le ns {i = i} h)

pub loop-number-init : goal.loop-number-init
loop-number-init c = refl

pub loop-number-preserved : goal.loop-number-preserved
loop-number-preserved c =
    let more = first c.args.seconds c.loop-number.events c.args.numbers c.loop-number.number-index (search rules) in
    rw (add-one, c.recorded-events.ensures) (sym more ∙ c.loop-number.invariant)

pub returns : goal.returns
unfolding record_of
returns c =
    let none = last c.args.seconds c.loop-number.events c.args.numbers c.loop-number.number-index (search rules) in
    c.with_events.ensures ∙ ap (with_events c.args.self) (sym none ∙ c.loop-number.invariant)
