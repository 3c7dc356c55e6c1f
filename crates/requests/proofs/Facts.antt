-- The rules of W-202's requests, computed: each asks what it must, or is refused. Two bytes stand for the CRC.
-- Assumes nothing.
use mathlib.Core.Path.{◌≡◌, refl}
use mathlib.Core.List.{List, [], ◌∷◌, ◌++◌, map}
use Prim.Native.Nat.{ℕ}
use lib.ListN.{drop, replicate}
use Rattle.refusals.specs.declared.Refusal.TheVariants.{UnknownCommand, WrongLength, WrongField}
use Rattle.std.specs.Prelude.{Ok, Err}
use Rattle.refusals.specs.Refusals.{first}
use Rattle.requests.specs.declared.Query.TheVariants.{Registers, Listed}
use Rattle.requests.specs.declared.Request.TheVariants as request
use Rattle.requests.specs.Requests.{expected_of, address_at, all_shown, fields_of, Asked, request_rows, asked_of, request_by}

-- what a request comes to by the rows behind those of its first byte and its CRC
ruled : List ℕ → Asked
ruled s = request_by (first (drop 2 (request_rows s))) (asked_of s)

against : Asked
against = Err WrongField

-- 0x07, RL and address; 0x09, PL and addresses
block : ℕ → ℕ → ℕ → Asked
block rl low high = ruled (0xAA ∷ 0x07 ∷ rl ∷ low ∷ high ∷ 0 ∷ 0 ∷ [])

list : ℕ → List ℕ → Asked
list pl addresses = ruled (0xAA ∷ 0x09 ∷ pl ∷ addresses ++ 0 ∷ 0 ∷ [])

-- by block 1 to 127, in one of the ranges: 0, 1, 56 and 57 registers from 0; 100 and 101 from 300 (0x012C); 127 and 128 never fit one
by_block :
    map (λ rl. block rl 0 0) (0 ∷ 1 ∷ 56 ∷ 57 ∷ [])
    ≡ against ∷ Ok (request.Read (Registers 0x07 0 1)) ∷ Ok (request.Read (Registers 0x07 0 56)) ∷ against ∷ []
    × map (λ rl. block rl 0x2C 0x01) (100 ∷ 101 ∷ 127 ∷ 128 ∷ []) ≡ Ok (request.Read (Registers 0x07 300 100)) ∷ against ∷ against ∷ against ∷ []
unfolding ruled against block first expected_of fields_of
by_block = (refl, refl)

-- by list 1 to 63 addresses: 0, 1, 63 and 64; and a PL that is odd
by_list :
    (list 0 [] ≡ against) × (list 2 (0 ∷ 0 ∷ []) ≡ Ok (request.Read (Listed 1))) × (list 126 (replicate 126 0) ≡ Ok (request.Read (Listed 63)))
    × (list 128 (replicate 128 0) ≡ against) × (list 3 (0 ∷ 0 ∷ 0 ∷ []) ≡ against)
unfolding ruled against list first expected_of fields_of all_shown address_at
by_list = (refl, refl, refl, refl, refl)

-- a read list may mix ranges: 55, 117 and 399; an address outside them, 56, 99, 118, 299 or 400, is 43, also after good ones
mixed : list 6 (55 ∷ 0 ∷ 117 ∷ 0 ∷ 0x8F ∷ 0x01 ∷ []) ≡ Ok (request.Read (Listed 3))
unfolding ruled list first expected_of fields_of all_shown address_at
mixed = refl

outside :
    map (λ low. list 4 (0 ∷ 0 ∷ low ∷ 0 ∷ [])) (56 ∷ 99 ∷ 118 ∷ []) ≡ replicate 3 against
    × map (λ low. list 4 (low ∷ 0x01 ∷ 0 ∷ 0 ∷ [])) (0x2B ∷ 0x90 ∷ []) ≡ replicate 2 against
unfolding ruled against list first expected_of fields_of all_shown address_at
outside = (refl, refl)

-- a length that is not 7, or not 5+PL, whatever the fields; and an unknown command, whatever the length
wrong_length :
    map ruled (
    (0xAA ∷ 0x07 ∷ 1 ∷ 0 ∷ 0 ∷ 0 ∷ 0 ∷ 0 ∷ [])
    ∷ (0xAA ∷ 0x09 ∷ 4 ∷ 0 ∷ 0 ∷ 0 ∷ 0 ∷ [])
    ∷ (0xAA ∷ 0x0B ∷ 4 ∷ 0x2C ∷ 0x01 ∷ 0 ∷ 0 ∷ 0 ∷ 0 ∷ 0 ∷ 0 ∷ [])
    ∷ (0xAA ∷ 0x0D ∷ 8 ∷ 0x2C ∷ 0x01 ∷ 0 ∷ 0 ∷ 0 ∷ 0 ∷ [])
    ∷ []
    ) ≡ replicate 4 (Err WrongLength)
unfolding ruled first expected_of fields_of
wrong_length = refl

unknown : map ruled ((0xAA ∷ 0x13 ∷ 0 ∷ 0 ∷ []) ∷ (0xAA ∷ 0x13 ∷ 0 ∷ 0 ∷ 0 ∷ []) ∷ []) ≡ replicate 2 (Err UnknownCommand)
unfolding ruled first expected_of fields_of
unknown = refl
