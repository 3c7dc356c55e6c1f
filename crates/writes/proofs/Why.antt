-- Why a write is refused (W-208), on settings that are in range: the register of a 44 is one of the write, its final value is outside its
-- range, and no lower register ends outside its own; 45 is given exactly where every register ends in its range and the order fails. By the
-- final values; what is not written is in its range already. Assumes nothing.
use mathlib.Core.Path.{◌≡◌, refl, sym, ap, ◌∙◌}
use mathlib.Core.Bool.{Bool, true, false, cond, false≢true}
use mathlib.Core.Logic.{◌↔◌}
use mathlib.Core.List.{List, [], ◌∷◌, map}
use Prim.Native.Nat.{ℕ, ◌<◌, ◌≤◌}
use native.Mathlib.Omega.{arith}
use borrow.Author.Tests.{not-true, not-false}
use Rattle.laws.specs.History.{any, head_or, newest}
use Rattle.refusals.specs.declared.Refusal.TheVariants.{OutOfRange, OutOfOrder}
use Rattle.refusals.specs.Refusals.{Refused, come_to}
use Rattle.refusals.proofs.Rows.{come_to_giving}
use Rattle.settings.specs.declared.Settings.{Settings}
use Rattle.settings.specs.Settings as settings
use Rattle.settings.proofs.Drafts.{AllFit, in_range_is}
use Rattle.settings.proofs.Why.{told_44, told_45}
use Rattle.writes.specs.declared.Pair.{Pair}
use Rattle.writes.specs.Writes.{names, last_of, drafted_of, written_to}
use Rattle.writes.proofs.LastPut.{last_given_lem}

-- a register that no pair names ends as it stood
unnamed : (ps : List Pair) (at stood : ℕ) → any (names at) ps ≡ false → last_of stood at (λ v. v) ps ≡ stood
unnamed [] at stood e = refl
unnamed (p ∷ ps) at stood e = go (names at p) e (unnamed ps at stood)
  where
    go : (t : Bool) → cond t true (any (names at) ps) ≡ false → (any (names at) ps ≡ false → last_of stood at (λ v. v) ps ≡ stood)
        → head_or stood (map (λ p. p.value) (cond t (p ∷ []) (newest (names at) ps))) ≡ stood
    go true e older = absurd (false≢true (sym e))
    go false e older = older e

module _ (s : Settings) (stands : settings.in_range s ≡ true) (ps : List Pair) where
  -- what a register ends on
  abbrev pub final : ℕ → ℕ
  final at = last_of (settings.register_of s at) at (λ v. v) ps

  abbrev values : List ℕ
  values = (drafted_of (settings.draft_of s) ps).values

  ends : (at : ℕ) → 300 ≤ at → at ≤ 399 → settings.value_in values at ≡ final at
  ends at l m = last_given_lem at l m s ps

  judged : come_to (written_to s ps) ≡ settings.judged_of values
  judged = come_to_giving (settings.judged_of values) (settings.settings_in (drafted_of (settings.draft_of s) ps))

  pub record Outside (at : ℕ) : Type 0 where
    pub written : any (names at) ps ≡ true
    pub outside : settings.fits at (final at) ≡ false
    pub below : (other : ℕ) → 300 ≤ other → other < at → settings.fits other (final other) ≡ true

  named : (at : ℕ) → 300 ≤ at → at ≤ 399 → settings.fits at (final at) ≡ false → (t : Bool) → any (names at) ps ≡ t → t ≡ true
  named at l m out true e = refl
  named at l m out false e =
      absurd (false≢true (sym out ∙ ap (settings.fits at) (unnamed ps at (settings.register_of s at) e) ∙ (in_range_is s).0 stands at l m))

  pub why_44 : (at : ℕ) → come_to (written_to s ps) ≡ Refused (OutOfRange at) → Outside at
  unfolding settings.is_out
  why_44 at e =
      let f = told_44 values at (sym judged ∙ e) in
      let out : settings.fits at (final at) ≡ false =
      sym (ap (settings.fits at) (ends at f.least (omega (arith, f.most)))) ∙ not-true _ f.here in
      record {
        written = named at f.least (omega (arith, f.most)) out (any (names at) ps) refl;
        outside = out;
        below = λ other l m.
            sym (ap (settings.fits other) (ends other l (omega (arith, f.most)))) ∙ not-false _ (f.below other l m);
      }

  pub why_45 : (come_to (written_to s ps) ≡ Refused OutOfOrder)
      ↔ (AllFit final × (settings.ordered (settings.settings_in (drafted_of (settings.draft_of s) ps)) ≡ false))
  why_45 = (
    λ e. let h = (told_45 values).0 (sym judged ∙ e) in (λ at l m. sym (ap (settings.fits at) (ends at l m)) ∙ h.0 at l m, h.1),
    λ h. judged ∙ (told_45 values).1 (λ at l m. ap (settings.fits at) (ends at l m) ∙ h.0 at l m, h.1),
  )
