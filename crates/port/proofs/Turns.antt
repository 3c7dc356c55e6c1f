-- Turn by turn: what is left to serve, after the turns that are done, leads to the same board.
-- Assumes nothing.
use mathlib.Core.Path.{◌≡◌, refl, sym, ap, ap₂, ◌∙◌}
use mathlib.Core.List.{List, [], ◌∷◌}
use Prim.Native.Nat.{ℕ, zero, suc, ◌+◌, ◌-◌, ◌<◌, ◌≤◌, min}
use native.Mathlib.Omega.{arith}
use native.Mathlib.Nat.{not-suc-le-zero}
use Rattle.std.proofs.Common.{length, take, drop, length-drop}
use lib.Seq.{take_all}
use Rattle.board.specs.declared.Board.{Board}
use Rattle.port.specs.declared.Turn.{Turn}
use Rattle.port.specs.Port.{turn_of, Answers, turns_of, served_of}

pub record Serving (b₀ : Board) (bytes : List ℕ) (b : Board) (rest : List ℕ) (turns : ℕ) : Type 0 where
  pub within : turns ≤ suc (length bytes)
  pub board : (turns_of (suc (length bytes) - turns) b rest).board ≡ (served_of b₀ bytes).board

pub begun : {b : Board} {bytes : List ℕ} → Serving b bytes b bytes 0
unfolding served_of
begun {b} {bytes} =
    let e : suc (length bytes) - 0 ≡ suc (length bytes) = omega arith in
    record { within = omega arith; board = ap (λ (n : ℕ). (turns_of n b bytes).board) e }

-- past its end a list has nothing to drop
dropped : (n : ℕ) (xs : List ℕ) → drop (min n (length xs)) xs ≡ drop n xs
dropped zero xs = let e : min 0 (length xs) ≡ 0 = omega arith in ap (λ (k : ℕ). drop k xs) e
dropped (suc n) [] = let e : min (suc n) 0 ≡ 0 = omega arith in ap (λ (k : ℕ). drop {A = ℕ} k []) e
dropped (suc n) (x ∷ xs) =
    let e : min (suc n) (suc (length xs)) ≡ suc (min n (length xs)) = omega arith in ap (λ (k : ℕ). drop k (x ∷ xs)) e ∙ dropped n xs

one_turn : (n : ℕ) (b : Board) (rest : List ℕ) → 0 < n → 0 < length rest
    → (turns_of n b rest).board ≡ (turns_of (n - 1) (turn_of b rest 259).board (drop (turn_of b rest 259).taken rest)).board
unfolding turns_of
one_turn zero b rest l m = absurd (not-suc-le-zero l)
one_turn (suc n) b [] l m = absurd (not-suc-le-zero m)
one_turn (suc n) b (x ∷ xs) l m =
    let e : n ≡ suc n - 1 = omega arith in
    ap (λ (k : ℕ). (turns_of k (turn_of b (x ∷ xs) 259).board (drop (turn_of b (x ∷ xs) 259).taken (x ∷ xs))).board) e

module _ {b₀ : Board} {bytes : List ℕ} {b : Board} {rest : List ℕ} {turns : ℕ} (s : Serving b₀ bytes b rest turns) where
  pub next : {t : Turn} {n : ℕ} {before after : List ℕ} → Answers b rest before t after → 259 ≡ length before
      → n ≡ min t.taken (length rest) → turns ≤ length bytes → 0 < length rest
      → Serving b₀ bytes t.board (take (length rest - n) (drop n rest)) (turns + 1)
  next {t} {n} a room k l m =
      let e : t ≡ turn_of b rest 259 = a.turn ∙ ap (turn_of b rest) (sym room) in
      let fewer : suc (length bytes) - turns - 1 ≡ suc (length bytes) - (turns + 1) = omega arith in
      let whole : take (length rest - n) (drop n rest) ≡ drop n rest =
      take_all (length rest - n) (drop n rest) (simp length-drop (omega arith)) in
      let all : take (length rest - n) (drop n rest) ≡ drop (turn_of b rest 259).taken rest =
      whole ∙ ap (λ (i : ℕ). drop i rest) k ∙ dropped t.taken rest ∙ ap (λ (x : Turn). drop x.taken rest) e
      in
      record {
        within = omega arith;
        board =
            ap₂ (λ (x : Board) (ys : List ℕ). (turns_of (suc (length bytes) - (turns + 1)) x ys).board) (ap (λ (x : Turn). x.board) e) all
            ∙ ap (λ (k : ℕ). (turns_of k (turn_of b rest 259).board (drop (turn_of b rest 259).taken rest)).board) (sym fewer)
            ∙ sym (one_turn (suc (length bytes) - turns) b rest (omega arith) m)
            ∙ s.board;
      }

  pub out_of_turns : length bytes < turns → b ≡ (served_of b₀ bytes).board
  unfolding turns_of
  out_of_turns l = let e : 0 ≡ suc (length bytes) - turns = omega (arith, s.within) in ap (λ (k : ℕ). (turns_of k b rest).board) e ∙ s.board

  pub none_left : length rest ≤ 0 → b ≡ (served_of b₀ bytes).board
  unfolding turns_of
  none_left l = go (suc (length bytes) - turns) rest l ∙ s.board
    where
      go : (n : ℕ) (rest : List ℕ) → length rest ≤ 0 → b ≡ (turns_of n b rest).board
      go zero rest l = refl
      go (suc n) [] l = refl
      go (suc n) (x ∷ xs) l = absurd (not-suc-le-zero l)
