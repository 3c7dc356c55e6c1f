-- How many bytes a reply has, as its own bytes say it.
-- Assumes nothing.
use Rattle.std.specs.Prelude.{cond, List, ℕ, ◌+◌, min, eqb, ltb, length, get_or}

-- how many bytes a reply has, by its second byte and its third: a NACK 6, an ACK 5, 0x10's 8; 0x14 to 0x19 have no PL, two registers or
-- one; every other says its PL
unfoldable pub length_by : ℕ → ℕ → ℕ
length_by command pl =
    cond (eqb command 0x00) 6
    (cond (eqb command 0x01) 5
    (cond (eqb command 0x10) 8
    (cond (eqb command 0x14) 8
    (cond (eqb command 0x15) 8
    (cond (eqb command 0x16) 6
    (cond (eqb command 0x17) 6
    (cond (eqb command 0x18) 6
    (cond (eqb command 0x19) 8
    (5 + pl)))))))))

-- how many bytes of a reply buffer are the reply: none where there was no room for one, or there is none
unfoldable pub length_in : List ℕ → ℕ
length_in buffer =
    cond (ltb (length buffer) 259) 0
    (cond (eqb (get_or buffer 0 0) 0xAA) (min (length_by (get_or buffer 1 0) (get_or buffer 2 0)) (length buffer)) 0)
