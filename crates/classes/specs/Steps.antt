-- How the calls are made: what their parts find and leave in a store. No paper speaks of it. Assumes nothing.
use Rattle.std.specs.Prelude.{List, [], ◌++◌, ◌≡◌, ℕ, suc, length, get_or, take, drop, set}
use Rattle.editions.specs.Editions.{edition_of, put_in}
use Rattle.classes.specs.Store.{records_in}

-- the record at a place
abbrev pub record_at : List ℕ → ℕ → List ℕ
record_at store i = get_or (records_in store) i []

-- one record put
pub record PutAt (before : List ℕ) (i : ℕ) (r after : List ℕ) : Type 0 where
  pub same : length after ≡ length before
  pub records : records_in after ≡ set (records_in before) i r

-- one record put in behind those after it that it comes behind
pub record Sunk (before : List ℕ) (i : ℕ) (after : List ℕ) : Type 0 where
  pub same : length after ≡ length before
  pub records : records_in after ≡ take i (records_in before) ++ put_in edition_of (record_at before i) (drop (suc i) (records_in before))
