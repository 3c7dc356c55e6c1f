-- Demand 3. Two boards that agree on what a handover keeps (or that went through 300 quiet ticks) answer everything alike ever after:
-- what one rider did shows to no later one. It holds of our board, and of every board that meets demand 2.
-- Assumes nothing.
use mathlib.Core.Path.{◌≡◌, refl, sym, ap, ◌∙◌}
use mathlib.Core.Bool.{Bool, true, false, cond}
use mathlib.Core.Logic.{inl, inr}
use mathlib.Core.List.{List, [], ◌∷◌, ◌++◌}
use Prim.Native.Nat.{ℕ, ◌/◌, ◌%◌, min}
use lib.ListN.{length, drop}
use Rattle.board.specs.declared.Board.{Board}
use Rattle.laws.specs.History.{head_or}
use Rattle.desk.specs.Desk.{record_length}
use Rattle.guard.specs.declared.Guard.{Guard}
use Rattle.pack.specs.declared.Pack.{Pack}
use Rattle.board.specs.State.{usable}
use Rattle.board.specs.Start.{start_board}
use Rattle.hire.specs.Hire.{new_hire}
use Rattle.pack.specs.Pack.{new_pack}
use Rattle.board.specs.Handover.{handed_over}
use Rattle.refusals.specs.Refusals.{Outcome, Done, is_done, first}
use Rattle.board.specs.Calls.{Call, seen, handover, shape, board_by, outcome_in, step}
use Rattle.board.specs.Behaviour.{Behaviour, board, after_in, answers_in}
use Rattle.board.specs.Account.{Deed, board_at, clock_at, seconds_at, count_at}
use Rattle.board.specs.Demands.{deeds, without_record, shown, next, BothQuiet, SameKept, Demand2, Demand3}
use Rattle.board.proofs.Shape.{none_21, by_rows, kept_none}
use Rattle.board.proofs.Account.Tick.{guard_at}
use Rattle.board.proofs.Demands.QuietTicks.{stilled}
use Rattle.board.proofs.Demands.Demand2.{account, demand2}

-- ---- a board that is not usable stays as it is

unusable : (b : Board) (c : Call) → usable b ≡ false → (step b c).0 ≡ b
unusable b c e = kept_none b (shape c) (outcome_in b c) (none_21 b (shape c) e)

stays : (b : Board) (cs : List Call) → usable b ≡ false → after_in board b cs ≡ b
unfolding after_in
stays b [] e = refl
stays b (c ∷ cs) e = ap (λ x. after_in board x cs) (unusable b c e) ∙ stays b cs e

-- ---- from a handover on, the board is made of its pack

handed_on : Pack → Board
handed_on p = record { pack = p; hire = new_hire p.clock.seconds }

module _ (b : Board) (number : ℕ) (e : usable b ≡ true) where
  abbrev handing : Call
  handing = handover number record_length

  is_handed : outcome_in b handing ≡ Done
  unfolding shape first
  is_handed = by_rows b (shape handing) e

  handed_board : (step b handing).0 ≡ handed_on b.pack
  unfolding shape board_by handed_over handed_on
  handed_board = ap (board_by b (shape handing)) is_handed

  handed_seen : without_record (step b handing).1 ≡ seen (handed_on b.pack) Done [] 0
  unfolding shape board_by handed_over handed_on
  handed_seen = ap (λ (o : Outcome). seen (board_by b (shape handing) o) o [] (cond (is_done o) 0 0)) is_handed

module _ (B : Behaviour) where
  answers_after : (s : B.State) (xs zs : List Call) → drop (length xs) (answers_in B s (xs ++ zs)) ≡ answers_in B (after_in B s xs) zs
  unfolding after_in answers_in
  answers_after s [] zs = refl
  answers_after s (x ∷ xs) zs = answers_after (B.step s x).0 xs zs

-- ---- what is kept makes the pack

kept_pack : (cells per_km : ℕ) (h k : List Deed) → SameKept h k → (board_at cells per_km h).pack ≡ (board_at cells per_km k).pack
unfolding board_at
kept_pack cells per_km h k e =
    λ i. record {
      settings = e.settings i;
      guard = record { latched = e.latched i; waits = e.waits i; remembered = e.remembered i };
      clock = e.clock i;
      cells = cells;
      per_km = per_km;
    }

kept_usable : (cells per_km : ℕ) (h : List Deed) → usable (board_at cells per_km h) ≡ usable (start_board cells per_km)
unfolding board_at start_board new_pack
kept_usable cells per_km h = refl

same_clock : (h k : List Deed) → count_at h ≡ count_at k → clock_at h ≡ clock_at k
unfolding clock_at seconds_at
same_clock h k e = λ i. record { seconds = min 4294967295 (e i / 10); tenths = min 42949672959 (e i) % 10 }

module _ (cells per_km : ℕ) (xs ys : List Call) where
  both_quiet : BothQuiet 300 (deeds cells per_km xs) (deeds cells per_km ys) → SameKept (deeds cells per_km xs) (deeds cells per_km ys)
  both_quiet q =
      let same-guard : guard_at (deeds cells per_km xs) ≡ guard_at (deeds cells per_km ys) = stilled cells per_km xs q.first
      ∙ sym (stilled cells per_km ys q.second) in
      record {
        settings = q.settings;
        clock = same_clock _ _ q.ticks;
        latched = ap (λ (g : Guard). g.latched) same-guard;
        waits = ap (λ (g : Guard). g.waits) same-guard;
        remembered = ap (λ (g : Guard). g.remembered) same-guard;
      }

  module _ (e : SameKept (deeds cells per_km xs) (deeds cells per_km ys)) (zs : List Call) (number number' : ℕ) where
    b : Board
    b = start_board cells per_km

    packs : (after_in board b xs).pack ≡ (after_in board b ys).pack
    unfolding b
    packs =
        ap (λ (x : Board). x.pack) (account cells per_km xs) ∙ kept_pack cells per_km (deeds cells per_km xs) (deeds cells per_km ys) e
        ∙ sym (ap (λ (x : Board). x.pack) (account cells per_km ys))

    still_usable : (cs : List Call) → usable b ≡ true → usable (after_in board b cs) ≡ true
    unfolding b
    still_usable cs u = ap usable (account cells per_km cs) ∙ kept_usable cells per_km (deeds cells per_km cs) ∙ u

    abbrev HandedAlike : Board → Board → Type 0
    HandedAlike x y =
        (without_record (step x (handover number record_length)).1 ≡ without_record (step y (handover number' record_length)).1)
        × (answers_in board (step x (handover number record_length)).0 zs ≡ answers_in board (step y (handover number' record_length)).0 zs)

    some_handed : (x y : Board) → usable x ≡ true → usable y ≡ true → x.pack ≡ y.pack → HandedAlike x y
    some_handed x y u v p = (
      handed_seen x number u ∙ ap (λ (k : Pack). seen (handed_on k) Done [] 0) p ∙ sym (handed_seen y number' v),
      ap (λ (z : Board). answers_in board z zs) (handed_board x number u ∙ ap handed_on p ∙ sym (handed_board y number' v)),
    )

    none_handed : (x : Board) → usable x ≡ false → HandedAlike x x
    unfolding shape board_by
    none_handed x u = (
      ap (λ (o : Outcome). seen (board_by x (shape (handover number record_length)) o) o [] (cond (is_done o) 0 0))
          (none_21 x (shape (handover number record_length)) u)
          ∙ sym (ap (λ (o : Outcome). seen (board_by x (shape (handover number' record_length)) o) o [] (cond (is_done o) 0 0))
          (none_21 x (shape (handover number' record_length)) u)),
      ap (λ (z : Board). answers_in board z zs)
          (unusable x (handover number record_length) u ∙ sym (unusable x (handover number' record_length) u)),
    )

    same : HandedAlike (after_in board (start_board cells per_km) xs) (after_in board (start_board cells per_km) ys)
    unfolding b
    same = go (usable b) refl
      where
        go : (t : Bool) → usable b ≡ t → HandedAlike (after_in board b xs) (after_in board b ys)
        go true u = some_handed (after_in board b xs) (after_in board b ys) (still_usable xs u) (still_usable ys u) packs
        go false u = rw (stays b xs u, stays b ys u) (none_handed b u)

pub demand3 : Demand3 board
demand3 cells per_km xs ys zs number number' (inl q) = same cells per_km xs ys (both_quiet cells per_km xs ys q) zs number number'
demand3 cells per_km xs ys zs number number' (inr e) = same cells per_km xs ys e zs number number'

-- every board that meets demand 2 answers as ours does
module _ (B : Behaviour) (meets : Demand2 B) where
  pub alike : (cells per_km : ℕ) (xs zs : List Call)
      → answers_in B (after_in B (B.start cells per_km) xs) zs ≡ answers_in board (after_in board (start_board cells per_km) xs) zs
  alike cells per_km xs zs =
      sym (answers_after B (B.start cells per_km) xs zs)
      ∙ ap (drop (length xs)) (meets cells per_km (xs ++ zs) ∙ sym (demand2 cells per_km (xs ++ zs)))
      ∙ answers_after board (start_board cells per_km) xs zs

  -- what is seen at a call, and all that is seen after it
  pub as_ours : (cells per_km : ℕ) (cs : List Call) (c : Call) → shown B cells per_km cs c ≡ shown board cells per_km cs c
  unfolding answers_in
  as_ours cells per_km cs c = ap (head_or (shown board cells per_km cs c)) (alike cells per_km cs (c ∷ []))

  after_as_ours : (cells per_km : ℕ) (cs : List Call) (c : Call) (zs : List Call)
      → answers_in B (next B cells per_km cs c) zs ≡ answers_in board (next board cells per_km cs c) zs
  unfolding answers_in
  after_as_ours cells per_km cs c zs = ap (drop 1) (alike cells per_km cs (c ∷ zs))

  pub meets_demand3 : Demand3 B
  meets_demand3 cells per_km xs ys zs number number' k =
      let handing : ℕ → Call = λ n. handover n record_length in
      let ours = demand3 cells per_km xs ys zs number number' k in (
        ap without_record (as_ours cells per_km xs (handing number)) ∙ ours.0
            ∙ sym (ap without_record (as_ours cells per_km ys (handing number'))),
        after_as_ours cells per_km xs (handing number) zs ∙ ours.1 ∙ sym (after_as_ours cells per_km ys (handing number') zs),
      )
