-- What the definitions come to, computed. Letters are written by their codes: 48 is 0, 65 is A, 97 is a, 45 is -.
-- Assumes nothing.
use mathlib.Core.Path.{◌≡◌, refl}
use mathlib.Core.List.{[], ◌∷◌}
use Rattle.std.specs.Prelude.{None, Some}
use Rattle.text.specs.Lines.{line_end, without_cr}
use Rattle.text.specs.Words.{words_of, word_at}
use Rattle.text.specs.Numbers.{number_of, signed_of, byte_of}
use Rattle.text.specs.Digits.{digits_within, decimal_text, word_text, bytes_text, used}

-- 'a LF b' ends at 1; a CR before the LF is no part of a line, and any other is
pub lines : (line_end (97 ∷ 10 ∷ 98 ∷ []) 0 ≡ 1)
    × (line_end (97 ∷ 10 ∷ 98 ∷ []) 2 ≡ 3)
    × (without_cr (97 ∷ 13 ∷ []) ≡ 1)
    × (without_cr (13 ∷ 97 ∷ []) ≡ 2)
    × (without_cr [] ≡ 0)
lines = (refl, refl, refl, refl, refl)

-- ' ab  c ' has two words
pub words : (words_of (32 ∷ 97 ∷ 98 ∷ 32 ∷ 32 ∷ 99 ∷ 32 ∷ []) ≡ (97 ∷ 98 ∷ []) ∷ (99 ∷ []) ∷ [])
    × (words_of (32 ∷ 32 ∷ []) ≡ [])
    × (word_at (32 ∷ 97 ∷ []) 0 ≡ 1)
words = (refl, refl, refl)

-- 007 is 7, 65535 fits and 65536 does not; nothing, -1 and 1a are no numbers
pub numbers : (number_of 65535 (48 ∷ 48 ∷ 55 ∷ []) ≡ Some 7)
    × (number_of 65535 (54 ∷ 53 ∷ 53 ∷ 51 ∷ 53 ∷ []) ≡ Some 65535)
    × (number_of 65535 (54 ∷ 53 ∷ 53 ∷ 51 ∷ 54 ∷ []) ≡ None)
    × (number_of 65535 [] ≡ None)
    × (number_of 65535 (45 ∷ 49 ∷ []) ≡ None)
    × (number_of 65535 (49 ∷ 97 ∷ []) ≡ None)
numbers = (refl, refl, refl, refl, refl, refl)

-- -0 is 0 and -32768 the lowest, each told as 32768 more; -32769, 32768 and - alone are none
pub signed : (signed_of 32767 (45 ∷ 48 ∷ []) ≡ Some 32768)
    × (signed_of 32767 (45 ∷ 51 ∷ 50 ∷ 55 ∷ 54 ∷ 56 ∷ []) ≡ Some 0)
    × (signed_of 32767 (45 ∷ 51 ∷ 50 ∷ 55 ∷ 54 ∷ 57 ∷ []) ≡ None)
    × (signed_of 32767 (51 ∷ 50 ∷ 55 ∷ 54 ∷ 56 ∷ []) ≡ None)
    × (signed_of 32767 (45 ∷ []) ≡ None)
signed = (refl, refl, refl, refl, refl)

-- aF is AF; A, G0 and 0AF are no bytes
pub bytes : (byte_of (97 ∷ 70 ∷ []) ≡ Some 0xAF)
    × (byte_of (65 ∷ []) ≡ None)
    × (byte_of (71 ∷ 48 ∷ []) ≡ None)
    × (byte_of (48 ∷ 65 ∷ 70 ∷ []) ≡ None)
bytes = (refl, refl, refl, refl)

-- 0, 9, 10, 255, 999, 65536 and the greatest of 64 bits as text
pub decimals : (decimal_text 0 ≡ 48 ∷ [])
    × (decimal_text 9 ≡ 57 ∷ [])
    × (decimal_text 10 ≡ 49 ∷ 48 ∷ [])
    × (decimal_text 255 ≡ 50 ∷ 53 ∷ 53 ∷ [])
    × (decimal_text 999 ≡ 57 ∷ 57 ∷ 57 ∷ [])
    × (decimal_text 65536 ≡ 54 ∷ 53 ∷ 53 ∷ 51 ∷ 54 ∷ [])
    × (decimal_text 18446744073709551615
    ≡ 49 ∷ 56 ∷ 52 ∷ 52 ∷ 54 ∷ 55 ∷ 52 ∷ 52 ∷ 48 ∷ 55 ∷ 51 ∷ 55 ∷ 48 ∷ 57 ∷ 53 ∷ 53 ∷ 49 ∷ 54 ∷ 49 ∷ 53 ∷ [])
unfolding decimal_text digits_within
decimals = (refl, refl, refl, refl, refl, refl, refl)

-- 0xAF09 as a word, the bytes AF 09 each after a space; two bytes stand before two zeros
pub hex : (word_text 0xAF09 ≡ 65 ∷ 70 ∷ 48 ∷ 57 ∷ [])
    × (bytes_text (0xAF ∷ 0x09 ∷ []) ≡ 32 ∷ 65 ∷ 70 ∷ 32 ∷ 48 ∷ 57 ∷ [])
    × (used (0 ∷ 5 ∷ 0 ∷ 0 ∷ []) ≡ 2)
hex = (refl, refl, refl)
