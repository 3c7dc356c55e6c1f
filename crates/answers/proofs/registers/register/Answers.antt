-- In a range its value is what is shown, and outside nothing is. Assumes nothing.
use Rattle.std.specs.Prelude.{Option, Some, None}
use mathlib.Core.Bool.{Bool, true, false, ◌||◌, cond}
use mathlib.Core.Path.{◌≡◌, refl}
use native.Mathlib.Nat.{add-zero}
use Rattle.answers.proofs.Blocks.{first_of}
use Prim.Native.Nat.{ℕ, ◌+◌}
use Rattle.settings.specs.Settings as settings
use Rattle.statistics.specs.Statistics as statistics
use Rattle.hire.specs.Registers.{reading_register}
use Rattle.pack.specs.declared.Pack.{Pack}
use Rattle.hire.specs.declared.Hire.{Hire}
use Rattle.answers.specs.Registers.{in_readings, in_statistics, in_settings, shown_at, value_of, value_at}
use Rattle.answers.proofs.registers.register.Goals as goal

-- one of three values, or none
abbrev one_of : Bool → Bool → Bool → ℕ → ℕ → ℕ → Option ℕ
one_of l s t x y z = cond l (Some x) (cond s (Some y) (cond t (Some z) None))

by_value : (l s t : Bool) (x y z : ℕ) → one_of l s t x y z ≡ cond (l || (s || t)) (Some (value_of (one_of l s t x y z))) None
by_value true s t x y z = refl
by_value false true t x y z = refl
by_value false false true x y z = refl
by_value false false false x y z = refl

shown : (p : Pack) (h : Hire) (at : ℕ)
    → shown_at p h at ≡ cond (in_readings at || (in_statistics at || in_settings at)) (Some (value_at p h at)) None
unfolding value_at shown_at
shown p h at = by_value (in_readings at) (in_statistics at) (in_settings at) (reading_register h p.clock.seconds p.per_km at)
    (statistics.register_of h.statistics p.per_km at) (settings.register_of p.settings at)

pub returns-then-is_shown : goal.returns-then-is_shown
returns-then-is_shown c =
    let args = c.args in
    rw (shown args.pack args.hire args.at, ← c.is_shown.ensures, c.if-is_shown.true, first_of (λ i. value_at args.pack args.hire (args.at + i)) c.block-words.ensures, add-zero)

pub returns : goal.returns
returns c =
    let args = c.args in
    rw (shown args.pack args.hire args.at, ← c.is_shown.ensures, c.if-is_shown.false)
