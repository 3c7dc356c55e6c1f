-- A recall is one write: the twelve of a record are the pairs of a 0x0D request, and what was made of settings gives these settings again,
-- whatever settings stand. Assumes nothing.
use mathlib.Core.Path.{◌≡◌, refl, sym, ap, ◌∙◌}
use mathlib.Core.Bool.{Bool, true, false, not, cond, false≢true}
use mathlib.Core.List.{List, [], ◌∷◌, map}
use Prim.Native.Nat.{ℕ, ◌+◌, ◌-◌, ◌*◌, ◌/◌, ◌%◌, ◌<◌, ◌≤◌}
use native.Mathlib.Omega.{arith}
use borrow.Author.Tests.{eqb-true}
use lib.Seq.{ext_get_or}
use lib.Signed.{mag}
use Rattle.laws.specs.History.{any, head_or, newest}
use Rattle.laws.proofs.Looking.{none_first, none_after}
use Rattle.refusals.specs.Refusals.{Outcome, Done, giving}
use Rattle.std.specs.Prelude.{Ok}
use Rattle.settings.specs.declared.Settings.{Settings}
use Rattle.settings.specs.Settings as settings
use Rattle.settings.proofs.Drafts.{listed, by_register, unlisted_reads, begun_hundred, begun_at, begun_settings}
use Rattle.settings.proofs.Hundred.{values_length}
use Rattle.writes.specs.declared.Pair.{Pair}
use Rattle.writes.specs.Writes.{names, last_of, pair_at, pairs_of, well_counted, all_settings, drafted_of, written_to}
use Rattle.writes.proofs.LastPut.{drafted_hundred, last_given_lem}
use Rattle.editions.specs.Editions.{edition_of}
use Rattle.classes.specs.Store.{record_of, pairs_in, recalled_pairs}
use Rattle.classes.specs.Laws.{OneRequest}

-- ---- the request

whole : (w : ℕ) → w % 256 + 256 * (w / 256) ≡ w
whole w = omega arith

pub one_request : (r : List ℕ) → OneRequest (recalled_pairs r)
unfolding pairs_in pairs_of pair_at well_counted all_settings
one_request r = record { written = simp whole; rules = refl; settings = refl }

-- ---- what was made of settings

pub edition_back : (e : ℕ) (s : Settings) → edition_of (record_of e s) ≡ e
unfolding edition_of record_of
edition_back e s = omega arith

-- a register that no pair names ends as it stood
unnamed : (ps : List Pair) (at stood : ℕ) → any (λ p. not (listed p.at)) ps ≡ false → listed at ≡ false
    → last_of stood at (λ v. v) ps ≡ stood
unnamed [] at stood h u = refl
unnamed (p ∷ ps) at stood h u =
    go (names at p) refl (unnamed ps at stood (none_after (not (listed p.at)) (any (λ p. not (listed p.at)) ps) h) u)
  where
    go : (t : Bool) → names at p ≡ t → last_of stood at (λ v. v) ps ≡ stood
        → head_or stood (map (λ p. p.value) (cond t (p ∷ []) (newest (names at) ps))) ≡ stood
    go true e later =
        absurd (false≢true (sym (none_first (not (listed p.at)) (any (λ p. not (listed p.at)) ps) h)
        ∙ ap (λ (n : ℕ). not (listed n)) (eqb-true p.at at e)
        ∙ ap not u))
    go false e later = later

module _ (standing : Settings) (e : ℕ) (s : Settings) where
  pairs : List Pair
  pairs = recalled_pairs (record_of e s)

  -- each register ends on the kept one
  ends : (at : ℕ) → last_of (settings.register_of standing at) at (λ v. v) pairs ≡ settings.register_of s at
  unfolding pairs pairs_in record_of listed
  ends =
      by_register (λ at. last_of (settings.register_of standing at) at (λ v. v) pairs ≡ settings.register_of s at)
      (whole _) (whole _) (whole _) (whole _) (whole _) (whole _) (whole _) (whole _) (whole _) (whole _) (whole _) (whole _)
      (λ at u. unnamed pairs at (settings.register_of standing at) refl u ∙ unlisted_reads at u standing ∙ sym (unlisted_reads at u s))

  values_are : (drafted_of (settings.draft_of standing) pairs).values ≡ settings.values_of s
  values_are =
      let draft = drafted_of (settings.draft_of standing) pairs in
      let hundred = drafted_hundred (settings.draft_of standing) pairs (begun_hundred standing) in
      ext_get_or 0 draft.values (settings.values_of s) (hundred ∙ sym (values_length s))
      (λ i l.
      let place : 300 + i - 300 ≡ i = omega arith in
      let most : 300 + i ≤ 399 = omega (arith, hundred) in
      let least : 300 ≤ 300 + i = omega arith in
      rw place at (last_given_lem (300 + i) least most standing pairs ∙ ends (300 + i) ∙ sym (begun_at s (300 + i) least most)))

  pub written_back : settings.judged_of (settings.values_of s) ≡ Done → mag s.r320 < 32768
      → written_to standing (recalled_pairs (record_of e s)) ≡ Ok s
  unfolding pairs
  written_back rules held =
      let draft = drafted_of (settings.draft_of standing) pairs in
      let done : settings.outcome_of draft ≡ Done = ap settings.judged_of values_are ∙ rules in
      ap (λ (o : Outcome). giving o (settings.settings_in draft)) done
      ∙ ap Ok (ap settings.settings_of values_are ∙ begun_settings s held)
