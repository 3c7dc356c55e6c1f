-- By cases on the query, each row what its call gives. Assumes nothing.
use Rattle.std.specs.Prelude.{Ok}
use mathlib.Core.Path.{refl, ap, ◌∙◌}
use Prim.Native.Nat.{◌+◌}
use native.Mathlib.Nat.{zero-add}
use Rattle.laws.proofs.Rows.{row_alike}
use Rattle.settings.specs.declared.Settings.{Settings}
use Rattle.settings.specs.Settings.{register_of}
use Rattle.requests.specs.declared.Request.TheVariants as request
use Rattle.answers.specs.Registers.{value_at}
use Rattle.answers.specs.Making.{count_of, word_of}
use Rattle.answers.proofs.Blocks.{registers_lie, bare_lie, cells_lie, as_words}
use Rattle.answers.proofs.words_of.Goals as goal

pub block-requires : goal.block-requires
block-requires c =
    let a = c.args in
    registers_lie a.pack a.hire a.request.now _ _ _ (c.requires.0 ∙ ap (λ q. Ok (request.Read q)) c.in-Registers.is)
    (c.requires.1.0 ∙ ap (count_of a.pack a.hire) c.in-Registers.is)

pub block-requires-in-Bare : goal.block-requires-in-Bare
block-requires-in-Bare c =
    let a = c.args in
    bare_lie a.pack a.hire a.request.now _ _ _ (c.requires.0 ∙ ap (λ q. Ok (request.Read q)) c.in-Bare.is)
    (c.requires.1.0 ∙ ap (count_of a.pack a.hire) c.in-Bare.is)

pub block-requires-in-Cells : goal.block-requires-in-Cells
block-requires-in-Cells c =
    let a = c.args in
    cells_lie a.pack a.hire a.request.now (c.requires.1.0 ∙ ap (count_of a.pack a.hire) c.in-Cells.is)

pub returns-in-Registers : goal.returns-in-Registers
unfolding word_of
returns-in-Registers c =
    let a = c.args in
    as_words a.pack a.hire a.request.now a.query _ a.count c.block.ensures c.requires.1.1
    (λ i. rw c.in-Registers.is)

pub returns-in-Listed : goal.returns-in-Listed
unfolding word_of
returns-in-Listed c =
    let a = c.args in
    rw c.in-Listed.is (c.listed.ensures ∙ row_alike 127 _ _ a.count (λ i l. refl))

pub returns-in-Bare : goal.returns-in-Bare
unfolding word_of
returns-in-Bare c =
    let a = c.args in
    as_words a.pack a.hire a.request.now a.query _ a.count c.block-in-Bare.ensures c.requires.1.1
    (λ i. rw c.in-Bare.is)

pub returns-in-NewEvents : goal.returns-in-NewEvents
unfolding word_of
returns-in-NewEvents c =
    let a = c.args in
    as_words a.pack a.hire a.request.now a.query _ a.count c.new_words.ensures c.requires.1.1
    (λ i. rw c.in-NewEvents.is)

pub returns-in-AllEvents : goal.returns-in-AllEvents
unfolding word_of
returns-in-AllEvents c =
    let a = c.args in
    as_words a.pack a.hire a.request.now a.query _ a.count c.kept_words.ensures c.requires.1.1
    (λ i. rw c.in-AllEvents.is)

pub returns-in-Temperatures : goal.returns-in-Temperatures
unfolding word_of
returns-in-Temperatures c =
    let a = c.args in
    as_words a.pack a.hire a.request.now a.query _ a.count c.temperatures.ensures c.requires.1.1
    (λ i. rw c.in-Temperatures.is)

pub returns-in-Cells : goal.returns-in-Cells
unfolding word_of
returns-in-Cells c =
    let a = c.args in
    as_words a.pack a.hire a.request.now a.query _ a.count c.block-in-Cells.ensures c.requires.1.1
    (λ i. rw c.in-Cells.is (ap (value_at a.pack a.hire) (zero-add i)))

pub returns-in-SettingsOf : goal.returns-in-SettingsOf
unfolding word_of
returns-in-SettingsOf c =
    let a = c.args in
    as_words a.pack a.hire a.request.now a.query _ a.count c.registers.ensures c.requires.1.1
    (λ i. rw c.in-SettingsOf.is (ap (λ (s : Settings). register_of s (300 + i)) c.of_kind.ensures))
