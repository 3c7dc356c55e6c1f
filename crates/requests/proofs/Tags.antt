-- The last arm of a match on a query or a command stands for every variant but those above it, each known by its place in the declaration.
-- Assumes nothing.
use mathlib.Core.Bool.{false, not, false≢true}
use mathlib.Core.Path.{◌≡◌, refl, sym}
use mathlib.Core.List.{List}
use Prim.Native.Nat.{ℕ}
use lib.Dec.{T, eqb}
use mir.Val.{has_key}
use types.Run.{OneOf, miss}
use denote.Enum.Declared.{tag_of}
use borrow.Author.Tests.{ne_eqb}
use Rattle.requests.specs.declared.Query.{Query}
use Rattle.requests.specs.declared.Query.TheVariants.{Registers, Listed, Bare, NewEvents, AllEvents, Temperatures, Cells, SettingsOf}
use Rattle.requests.specs.declared.Command.{Command}
use Rattle.requests.specs.declared.Command.TheVariants.{Clear, Block, QuickBlock, AskList, Write, Ask, AskSettings, Unknown}
use Rattle.requests.specs.Requests.{is_unknown, has_length, high_first, marks}
use Rattle.requests.specs.contracts.Query.{the_type}
use Rattle.requests.specs.contracts.Command as command

abbrev pub tag : Query → ℕ
tag = tag_of the_type

pub by_tag : (q : Query) → (has_length q ≡ not (eqb (tag q) 2)) × (eqb (tag q) 0 ≡ false → high_first q ≡ false) × (marks q ≡ eqb (tag q) 3)
unfolding has_length high_first marks
by_tag (Registers command at n) = (refl, λ e. absurd (false≢true (sym e)), refl)
by_tag (Listed n) = (refl, λ e. refl, refl)
by_tag (Bare command at n) = (refl, λ e. refl, refl)
by_tag NewEvents = (refl, λ e. refl, refl)
by_tag AllEvents = (refl, λ e. refl, refl)
by_tag Temperatures = (refl, λ e. refl, refl)
by_tag Cells = (refl, λ e. refl, refl)
by_tag (SettingsOf kind n) = (refl, λ e. refl, refl)

pub unknown_tag : (k : Command) → is_unknown k ≡ eqb (tag_of command.the_type k) 7
unknown_tag Clear = refl
unknown_tag Block = refl
unknown_tag QuickBlock = refl
unknown_tag AskList = refl
unknown_tag (Write f) = refl
unknown_tag (Ask q) = refl
unknown_tag AskSettings = refl
unknown_tag Unknown = refl

-- what an arm stands for is not what it leaves out
pub others : (ks : List ℕ) (k n : ℕ) → OneOf ks n → T (not (has_key ks k)) → eqb n k ≡ false
others ks k n o h = ne_eqb n k (λ e. miss ks k h (rw e at o))
