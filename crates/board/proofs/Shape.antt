-- What follows for every call from its shape alone, whatever call it is. Assumes nothing.
use mathlib.Core.Path.{◌≡◌, refl, sym, ap, ◌∙◌}
use mathlib.Core.Bool.{Bool, true, false, not, cond, and-false, false≢true}
use mathlib.Core.List.{List}
use Prim.Native.Nat.{ℕ}
use Rattle.refusals.specs.declared.Refusal.TheVariants.{NoBoard}
use Rattle.refusals.specs.Refusals.{Outcome, Done, Refused, is_done, first}
use Rattle.refusals.proofs.Rows.{not_done, off}
use Rattle.pack.specs.declared.Pack.{Pack}
use Rattle.pack.specs.Pack as pack
use Rattle.board.specs.declared.Board.{Board}
use Rattle.board.specs.declared.Answer.{Answer}
use Rattle.board.specs.State.{usable}
use Rattle.board.specs.Calls.{Call, Shape, area_lent, shape, outcome_of, lets_go, board_by, left_of, outcome_in, answer_to}
use Rattle.board.specs.Promises.{Leaves, left_in}

-- a test that is met
pub not_false_true : (t : Bool) → not t ≡ false → t ≡ true
not_false_true true e = refl
not_false_true false e = sym e

-- ---- 21 before all others, and on a usable board the rows decide

module _ (b : Board) (s : Shape) where
  pub none_21 : usable b ≡ false → outcome_of b s ≡ Refused NoBoard
  unfolding outcome_of first
  none_21 e = rw e refl

  pub by_rows : usable b ≡ true → outcome_of b s ≡ first (s.rows b)
  unfolding outcome_of first
  by_rows e = rw e refl

  -- a call that is done: its board is one, and no row applies
  pub is_done_lem : outcome_of b s ≡ Done → (usable b ≡ true) × (first (s.rows b) ≡ Done)
  unfolding outcome_of
  is_done_lem e = let (u, z) = off NoBoard (not (usable b)) (s.rows b) e in (not_false_true (usable b) u, z)

-- so what a pack's first row says is decided alike
pub no_board : (p : Pack) {o : Outcome} → o ≡ pack.start_outcome p → is_done o ≡ false → (pack.usable p ≡ false) × (o ≡ Refused NoBoard)
unfolding pack.start_outcome first
no_board p {o} e z = go (pack.usable p) e (sym (ap is_done e) ∙ z)
  where
    go : (u : Bool) → o ≡ cond (not u) (Refused NoBoard) Done → is_done (cond (not u) (Refused NoBoard) Done) ≡ false
        → (u ≡ false) × (o ≡ Refused NoBoard)
    go true e z = absurd (false≢true (sym z))
    go false e z = (refl, e)

pub some_board : (p : Pack) {o : Outcome} → o ≡ pack.start_outcome p → is_done o ≡ true → (pack.usable p ≡ true) × (o ≡ Done)
unfolding pack.start_outcome first
some_board p {o} e z = go (pack.usable p) e (sym (ap is_done e) ∙ z)
  where
    go : (u : Bool) → o ≡ cond (not u) (Refused NoBoard) Done → is_done (cond (not u) (Refused NoBoard) Done) ≡ true
        → (u ≡ true) × (o ≡ Done)
    go true e z = (refl, e)
    go false e z = absurd (false≢true z)

-- ---- the board after a call

module _ (b : Board) (s : Shape) (o : Outcome) where
  -- a refused call leaves it as it was
  pub kept : (o ≡ Done → ⊥) → lets_go s o ≡ false → board_by b s o ≡ b
  unfolding board_by
  kept h e = rw (not_done o h, e) refl

  pub kept_none : o ≡ Refused NoBoard → board_by b s o ≡ b
  unfolding board_by
  kept_none e = ap (board_by b s) e ∙ refl

  -- a call that is no fetch lets nothing go
  pub holds_on : s.fetches ≡ false → lets_go s o ≡ false
  holds_on e = rw (e, and-false) refl

  -- one that changes nothing where it is done
  pub unchanging : s.done b ≡ b → s.fetches ≡ false → b ≡ board_by b s o
  unfolding board_by
  unchanging e f = rw (e, f, and-false) (go (is_done o))
    where
      go : (t : Bool) → b ≡ cond t b b
      go true = refl
      go false = refl

-- ---- so a result is the answer to a call

module _ (b : Board) (c : Call) where
  pub answered : (o : Outcome) (x : Board) → o ≡ outcome_in b c → x ≡ board_by b (shape c) o
      → ◌≡◌ {A = Answer} (record { outcome = o; board = x }) (answer_to b c)
  answered o x e f = let g = f ∙ ap (board_by b (shape c)) e in λ i. record { outcome = e i; board = g i }

  pub refused : (o : Outcome) → o ≡ outcome_in b c → (o ≡ Done → ⊥) → lets_go (shape c) o ≡ false
      → ◌≡◌ {A = Answer} (record { outcome = o; board = b }) (answer_to b c)
  refused o e h k = answered o b e (sym (kept b (shape c) o h k))

  pub done : (o : Outcome) (x : Board) → o ≡ Done → o ≡ outcome_in b c → x ≡ (shape c).done b
      → ◌≡◌ {A = Answer} (record { outcome = o; board = x }) (answer_to b c)
  unfolding board_by
  done o x d e f = answered o x e (f ∙ ap (λ (p : Outcome). board_by b (shape c) p) (sym d))

  pub none : (o : Outcome) → o ≡ Refused NoBoard → usable b ≡ false → ◌≡◌ {A = Answer} (record { outcome = o; board = b }) (answer_to b c)
  none o d e = answered o b (d ∙ sym (none_21 b (shape c) e)) (sym (kept_none b (shape c) o d))

-- ---- a call that is lent an area: what the function that writes it says of it is what the call leaves

pub left_in_lem : (b : Board) (c : Call) (area before : List ℕ) → (shape c).lent b ≡ area_lent area
    → left_in b c before ≡ cond (is_done (outcome_in b c)) area before
unfolding left_of
left_in_lem b c area before lent = ap (λ l. left_of l (outcome_in b c) before) lent

module _ (b : Board) (c : Call) {area before : List ℕ} {o : Outcome} {r : Answer} (lent : (shape c).lent b ≡ area_lent area) where
  pub writes : {x : Board} {after : List ℕ} → usable b ≡ true → o ≡ first ((shape c).rows b) → after ≡ cond (is_done o) area before
      → x ≡ board_by b (shape c) o → r ≡ record { outcome = o; board = x } → Leaves b c before r after
  writes {x} {after} some by-own-rows written boarded told =
      let is = by-own-rows ∙ sym (by_rows b (shape c) some) in
      record {
        answer = told ∙ answered b c o x is boarded;
        lent = written ∙ ap (λ (p : Outcome). cond (is_done p) area before) is ∙ sym (left_in_lem b c area before lent);
      }

  pub writes_nothing : usable b ≡ false → o ≡ Refused NoBoard → r ≡ record { outcome = o; board = b } → Leaves b c before r before
  writes_nothing none-usable is told =
      record {
        answer = told ∙ none b c o is none-usable;
        lent = sym
            (left_in_lem b c area before lent ∙ ap (λ (p : Outcome). cond (is_done p) area before) (none_21 b (shape c) none-usable));
      }
