-- An offer, then a fetch, then the length of what it left. Assumes nothing.
use mathlib.Core.List.{List}
use mathlib.Core.Path.{◌≡◌, ap, ◌∙◌}
use Rattle.std.proofs.Common.{length, ℕ}
use Rattle.board.specs.declared.Answer.{Answer}
use Rattle.board.specs.declared.Board.{Board}
use Rattle.board.specs.declared.Heard.{Heard}
use Rattle.board.specs.Calls.{offer, fetch, shape, left_of, hearing, board_after, buffer_after}
use Rattle.board.specs.Promises.{Leaves}
use Rattle.answers.specs.Length.{length_in}
use Rattle.port.specs.Port.{buffer_of, Answers}
use Rattle.port.proofs.answer.Goals as goal

answered : {b : Board} {bytes before after : List ℕ} {h : Heard} {a : Answer} {n : ℕ} → h ≡ hearing b (offer bytes)
    → Leaves h.board (fetch (length before)) before a after → n ≡ length_in after
    → Answers b bytes before (record { taken = h.taken; length = n; board = a.board }) after
unfolding shape left_of
answered {b} {bytes} {before} {after} {h} {a} {n} e f k =
    let buffer : after ≡ buffer_of b bytes (length before) =
    f.lent ∙ ap (λ (x : Heard). buffer_after x.board (fetch (length before))) e in
    let board : a.board ≡ board_after (board_after b (offer bytes)) (fetch (length before)) =
    ap (λ (x : Answer). x.board) f.answer ∙ ap (λ (x : Heard). board_after x.board (fetch (length before))) e in
    let said = k ∙ ap length_in buffer in
    record { turn = λ i. record { taken = (e i).taken; length = said i; board = board i }; buffer = buffer }

pub returns : goal.returns
returns c = answered c.offer-heard.ensures c.fetch-answer.ensures c.length_in.ensures.0
