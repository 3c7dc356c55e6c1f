-- Any cutting of the same bytes gives the replies and end state of the stream cut with all of it in view, for the length of a frame may be
-- read off the bytes that have come. The end can always be reached; and frames put end to end are cut into these.
-- Assumes nothing.
use mathlib.Core.Path.{◌≡◌, refl, sym, ap, ◌∙◌}
use mathlib.Core.Bool.{Bool, true, false, cond, not}
use mathlib.Core.List.{List, [], ◌∷◌, ◌++◌, append-nil, flatten, Memᴰ}
use Prim.Native.Nat.{ℕ, zero, suc, ◌+◌, ◌-◌, ◌<◌}
use native.Mathlib.Omega.{arith}
use lib.Dec.{eqb, leb}
use lib.ListN.{length, take, get_or, length-append}
use lib.Seq.{take-append_seam, take_at, append_snoc}
use borrow.Author.Tests.{le-leb, lt-leb, eq-eqb, ne_eqb}
use Rattle.requests.specs.Requests.{length_of}
use Rattle.requests.proofs.Lengths.{least_of, prefix, settled}
use Rattle.receiver.specs.declared.Receiver.{Receiver}
use Rattle.receiver.specs.Receiver.{no_bytes, held_of, complete, is_held, skips, with_byte, offered_of}
use Rattle.receiver.specs.Line.{Cut, unfinished, framed, cut, Turn, offers, fetches, Line, heard, ran, Ended, Served}
use Rattle.receiver.proofs.Filling.{done, free}
use Rattle.receiver.proofs.Through.{none_held, through, after_fetch, same}

-- ---- a frame at the front of a stream

-- the frame that a stream begins, if it is complete, and what the cut goes on with
abbrev first_frame : List ℕ → Cut → Cut
first_frame w next = cond (complete w) (framed (take (length_of w) w) next) (unfinished w)

cut_off : (f bs w : List ℕ) (next : Cut) → f ++ bs ≡ w → length f ≡ length_of w → first_frame w next ≡ framed f next
cut_off f bs w next e n =
    let l = sym (ap length e) ∙ length-append f bs in
    let t : take (length_of w) w ≡ f = ap (take (length_of w)) (sym e) ∙ take_at f bs (length_of w) n in
    rw (le-leb (length_of w) (length w) (omega arith), t)

-- ---- frames put end to end

-- it begins with 0xAA, and is as long as the rule says of it
pub record Frame (f : List ℕ) : Type 0 where
  pub begins : get_or f 0 0 ≡ 0xAA
  pub exact : length_of f ≡ length f

abbrev pub Good : List (List ℕ) → Type 0
Good fs = (f : List ℕ) → Memᴰ f fs → Frame f

-- the bytes that a frame before has used up
passed : (f bs : List ℕ) → cut (length f) (f ++ bs) ≡ cut 0 bs
passed [] bs = refl
passed (b ∷ f) bs = passed f bs

one_frame : (f bs : List ℕ) → Frame f → cut 0 (f ++ bs) ≡ framed f (cut 0 bs)
one_frame [] bs g = let l = least_of [] in let e : ◌≡◌ {A = ℕ} (length_of []) 0 = g.exact in absurd (omega arith)
one_frame (b ∷ f) bs g =
    let n = sym g.exact ∙ settled (b ∷ f) bs (omega arith) in
    let k : length_of (b ∷ (f ++ bs)) - 1 ≡ length f = omega arith in
    rw (eq-eqb b 0xAA g.begins, cut_off (b ∷ f) bs (b ∷ (f ++ bs)) (cut (length_of (b ∷ (f ++ bs)) - 1) (f ++ bs)) refl n, k, passed f bs)

-- A stream of frames put end to end is cut into these, and nothing is left over.
pub whole_frames : (fs : List (List ℕ)) → Good fs → ((cut 0 (flatten fs)).frames ≡ fs) × ((cut 0 (flatten fs)).rest ≡ [])
unfolding flatten
whole_frames [] g = (refl, refl)
whole_frames (f ∷ fs) g =
    let i = whole_frames fs (λ x m. g x (Memᴰ.tail m)) in
    rw (one_frame f (flatten fs) (g f (Memᴰ.head refl))) (ap (λ (l : List (List ℕ)). f ∷ l) i.0, i.1)

-- ---- one byte more

grown : (r : Receiver) (b : ℕ) → skips (held_of r) b ≡ false → held_of (with_byte r b) ≡ held_of r ++ (b ∷ [])
unfolding with_byte
grown r b e = rw e (take-append_seam (held_of r ++ (b ∷ [])) _)

grows : (held : List ℕ) (b : ℕ) → 0 < length held → skips held b ≡ false
grows held b h = rw (ne_eqb (length held) 0 (λ e. omega arith))

skipped : (b : ℕ) → eqb b 0xAA ≡ false → with_byte no_bytes b ≡ no_bytes
unfolding with_byte
skipped b e = rw e

one_byte : (r : Receiver) (b : ℕ) → is_held r ≡ false → offered_of r (b ∷ []) ≡ done 1 (with_byte r b)
one_byte r b e = free r (b ∷ []) e ∙ ap (λ (t : Bool). done (cond t 0 1) (cond t r (with_byte r b))) e

-- whether a frame is held, by the length of the frame that the stream w begins
held_in : (r : Receiver) (bs w : List ℕ) → held_of r ++ bs ≡ w → is_held r ≡ leb (length_of w) (length (held_of r))
unfolding is_held
held_in r bs w e = rw e at (prefix (held_of r) bs)

-- ---- any cutting

-- byte by byte, with a fetch before each and one after the last
abbrev pub bytewise : List ℕ → List Turn
bytewise [] = fetches 259 ∷ []
bytewise (b ∷ bs) = fetches 259 ∷ offers 1 ∷ bytewise bs

module _ {S Reply : Type 0} (answer : S → List ℕ → S × Reply) where
  answered : (s : S) (f : List ℕ) {l : Line S Reply} {c : Cut} → Served answer (answer s f).0 l c
      → Served answer s (heard (answer s f).1 l) (framed f c)
  answered s f a = record { replies = ap (λ (rs : List Reply). (answer s f).1 ∷ rs) a.replies; state = a.state; held = a.held }

  -- nothing has come of a frame; or some has come of the frame that the stream w begins, and `pass` bytes of it are still to come
  abbrev Outside : List ℕ → Type 0
  Outside bs = (s : S) → Served answer s (through answer s no_bytes bs) (cut 0 bs)

  abbrev Inside : List ℕ → Type 0
  Inside bs = (w : List ℕ) (pass : ℕ) (s : S) (r : Receiver) → held_of r ++ bs ≡ w → length (held_of r) + pass ≡ length_of w
      → 0 < length (held_of r) → Served answer s (through answer s r bs) (first_frame w (cut pass bs))

  outside_none : Outside []
  outside_none s = rw none_held (record { replies = refl; state = refl; held = refl })

  outside_more : (b : ℕ) (bs : List ℕ) → Outside bs → Inside bs → Outside (b ∷ bs)
  outside_more b bs f g s = rw none_held (go (eqb b 0xAA) refl)
    where
      go : (t : Bool) → eqb b 0xAA ≡ t
          → Served answer s (through answer s (with_byte no_bytes b) bs)
          (cond t (first_frame (b ∷ bs) (cut (length_of (b ∷ bs) - 1) bs)) (cut 0 bs))
      go true e =
          let w : held_of (with_byte no_bytes b) ≡ b ∷ [] = grown no_bytes b (ap not e) in
          g (b ∷ bs) (length_of (b ∷ bs) - 1) s (with_byte no_bytes b) (ap (λ (h : List ℕ). h ++ bs) w)
          (rw w (omega (arith, least_of (b ∷ bs)))) (rw w (omega arith))
      go false e = rw (skipped b e) (f s)

  -- all of the frame has come: it is answered, and let go
  inside_complete : (bs : List ℕ) → Outside bs → (w : List ℕ) (s : S) (r : Receiver) → held_of r ++ bs ≡ w → length (held_of r) ≡ length_of w
      → Served answer s (through answer s r bs) (first_frame w (cut 0 bs))
  inside_complete bs f w s r e n =
      let all = held_in r bs w e ∙ le-leb (length_of w) (length (held_of r)) (omega arith) in
      rw (after_fetch answer s bs r all, cut_off (held_of r) bs w (cut 0 bs) e n)
      (answered s (held_of r) (f (answer s (held_of r)).0))

  inside_none : Outside [] → Inside []
  inside_none f w zero s r e n h = inside_complete [] f w s r e (omega arith)
  inside_none f w (suc pass) s r e n h =
      let l = sym (ap length e) ∙ length-append (held_of r) [] in
      rw (held_in r [] w e, lt-leb (length_of w) (length (held_of r)) (omega arith), lt-leb (length_of w) (length w) (omega arith))
      (record { replies = refl; state = refl; held = sym (append-nil (held_of r)) ∙ e })

  inside_more : (b : ℕ) (bs : List ℕ) → Outside (b ∷ bs) → Inside bs → Inside (b ∷ bs)
  inside_more b bs f g w zero s r e n h = inside_complete (b ∷ bs) f w s r e (omega arith)
  inside_more b bs f g w (suc pass) s r e n h =
      let d = grown r b (grows (held_of r) b h) in
      let l = ap length d ∙ length-append (held_of r) (b ∷ []) in
      rw (held_in r (b ∷ bs) w e, lt-leb (length_of w) (length (held_of r)) (omega arith))
      (g w pass s (with_byte r b) (ap (λ (held : List ℕ). held ++ bs) d ∙ append_snoc (held_of r) b bs ∙ e) (omega arith) (omega arith))

  both : (bs : List ℕ) → Outside bs × Inside bs
  both [] = (outside_none, inside_none outside_none)
  both (b ∷ bs) = let i = both bs in let f = outside_more b bs i.0 i.1 in (f, inside_more b bs f i.1)

  -- Whatever the offers and fetches, in whatever order and pieces: if in the end every byte is taken and no frame is held, the replies, the
  -- state and what has come of the next frame are those of the stream cut into frames all at once.
  pub any_cutting : (turns : List Turn) (s : S) (bytes : List ℕ)
      → Ended (ran answer turns s no_bytes bytes) → Served answer s (ran answer turns s no_bytes bytes) (cut 0 bytes)
  any_cutting turns s bytes e = rw (same answer turns s no_bytes bytes e) ((both bytes).0 s)

  -- And from any receiver on, two such ways agree in everything, to the last byte of the array.
  pub two_cuttings : (turns others : List Turn) (s : S) (r : Receiver) (bytes : List ℕ)
      → Ended (ran answer turns s r bytes) → Ended (ran answer others s r bytes) → ran answer turns s r bytes ≡ ran answer others s r bytes
  two_cuttings turns others s r bytes e f = same answer turns s r bytes e ∙ sym (same answer others s r bytes f)

  -- The end can always be reached, from any receiver on.
  pub ends : (bs : List ℕ) (s : S) (r : Receiver) → Ended (ran answer (bytewise bs) s r bs)
  ends [] s r = go (is_held r) refl
    where
      go : (t : Bool) → is_held r ≡ t → Ended (ran answer (bytewise []) s r [])
      go true e = rw e (refl, none_held)
      go false e = rw e (refl, e)
  ends (b ∷ bs) s r = go (is_held r) refl (ends bs (answer s (held_of r)).0 (with_byte no_bytes b)) (ends bs s (with_byte r b))
    where
      go : (t : Bool) → is_held r ≡ t → Ended (ran answer (bytewise bs) (answer s (held_of r)).0 (with_byte no_bytes b) bs)
          → Ended (ran answer (bytewise bs) s (with_byte r b) bs)
          → Ended (ran answer (bytewise (b ∷ bs)) s r (b ∷ bs))
      go true e i j = rw (e, one_byte no_bytes b none_held) i
      go false e i j = rw (e, one_byte r b e) j
