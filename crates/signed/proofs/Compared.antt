-- A comparison of two signed locals compares the whole numbers that they are known to be.
-- Assumes nothing.
use mathlib.Core.Path.{◌≡◌, ap₂, ◌∙◌}
use lib.IntN.{ℤ}
use mathlib.Core.Bool.{Bool}
use mir.Syntax.{Width}
use mir.Val.{SFits, to_z, of_z}
use mir.Facts.{to_z-of_z}

module _ (test : ℤ → ℤ → Bool) where
  pub at : {w : Width} {a b a' b' : ℤ} → a ≡ a' → b ≡ b' → SFits w a → SFits w b → test (to_z w (of_z w a)) (to_z w (of_z w b)) ≡ test a' b'
  at p q fa fb = ap₂ test (to_z-of_z fa ∙ p) (to_z-of_z fb ∙ q)
