-- What is sent is the reply: the request asks for no more words than there is room for. Assumes nothing.
use mathlib.Core.Path.{◌≡◌}
use native.Mathlib.Omega.{arith}
use Prim.Native.Nat.{min}
use Rattle.answers.specs.Making.{count_of}
use Rattle.answers.proofs.Made.{few_words, as_sent}
use Rattle.answers.proofs.read.Goals as goal

pub send-requires : goal.send-requires
send-requires c =
    let args = c.args in
    let few : c.min-cells.result ≡ min 16 args.pack.cells = omega arith in
    let told : c.word_count-count.result ≡ count_of args.pack args.hire args.query =
    rw (c.word_count-count.ensures, c.kept_count.ensures.0, c.new_count.ensures.0, few) in
    (c.requires, (told, few_words args.pack args.hire args.request.now args.query (told) c.requires))

pub returns : goal.returns
returns c =
    let args = c.args in
    let few : c.min-cells.result ≡ min 16 args.pack.cells = omega arith in
    let told : c.word_count-count.result ≡ count_of args.pack args.hire args.query =
    rw (c.word_count-count.ensures, c.kept_count.ensures.0, c.new_count.ensures.0, few) in
    rw (← as_sent args.pack args.hire args.request.now args.query, ← told) c.send.ensures
