-- A record has 32 bytes, and they read back as the record, whatever follows them. Why: each number stands behind those before it, and
-- reads back by itself.
-- Assumes nothing.
use mathlib.Core.Path.{◌≡◌, refl, sym, ap, ◌∙◌}
use mathlib.Core.List.{List, [], ◌++◌, append-nil}
use Prim.Native.Nat.{ℕ, ◌+◌}
use native.Mathlib.Omega.{arith}
use lib.ListN.{length, drop_of_length-le}
use lib.Seq.{sets-eq}
use Rattle.refusals.specs.Refusals.{Done}
use Rattle.numbers.specs.Numbers.{le32, le64, Wrote}
use Rattle.numbers.proofs.ReadBack.{stands}
use Rattle.desk.specs.declared.Record.{Record}
use Rattle.desk.specs.Desk.{record_length, record_bytes, record_of, Puts}

-- as many bytes as there are leave nothing of what was there
pub whole : {before xs after : List ℕ} → Wrote before 0 xs after → length before ≡ length xs → after ≡ xs
whole {before} {xs} w h =
    w.wrote
    ∙ sets-eq xs before 0 (omega arith)
    ∙ ap (λ (l : List ℕ). xs ++ l) (drop_of_length-le before {i = 0 + length xs} (omega arith))
    ∙ append-nil xs

module _ (r : Record) where
  pub length_record : length (record_bytes r) ≡ record_length
  unfolding record_bytes
  length_record = refl

  pub record_back : (rest : List ℕ) → record_of (record_bytes r ++ rest) ≡ r
  unfolding record_bytes record_of
  record_back rest =
      let pack = le32 r.pack in
      let seconds = pack ++ le32 r.seconds in
      let positive = seconds ++ le64 r.positive in
      let negative = positive ++ le64 r.negative in
      let distance = negative ++ le32 r.distance in
      let last = le32 r.latchings ++ rest in
      let fifth = le32 r.distance ++ last in
      let fourth = le64 r.negative ++ fifth in
      let third = le64 r.positive ++ fourth in
      λ i. record {
        pack = stands 0 3 r.pack [] (le32 r.seconds ++ third) 0 refl i;
        seconds = stands 0 3 r.seconds pack third 4 refl i;
        positive = stands 0 7 r.positive seconds fourth 8 refl i;
        negative = stands 0 7 r.negative positive fifth 16 refl i;
        distance = stands 0 3 r.distance negative last 24 refl i;
        latchings = stands 0 3 r.latchings distance rest 28 refl i;
      }

  -- so what is put reads back
  pub put_back : {before after : List ℕ} → Puts r before Done after → record_of after ≡ r
  put_back p = ap record_of (p.bytes ∙ sym (append-nil (record_bytes r))) ∙ record_back []
