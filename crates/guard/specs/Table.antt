-- The rest of the table of conditions: which switches each turns off, and its events at latching and at recovery.
-- Assumes nothing.
use Rattle.std.specs.Prelude.{Bool, true, false, ◌&&◌, ◌||◌, not, cond, ℕ}
use Rattle.guard.specs.declared.Conditions.{Conditions}
use Rattle.guard.specs.declared.Condition.{Condition}
use Rattle.guard.specs.declared.Condition.TheVariants.{UV, OV, OT, DOC, COC, ROC, LT}

-- a condition's yes or no
unfoldable pub is : Conditions → Condition → Bool
is c UV = c.uv
is c OV = c.ov
is c OT = c.ot
is c DOC = c.doc
is c COC = c.coc
is c ROC = c.roc
is c LT = c.lt

-- the column 'Off'
unfoldable pub names_charge : Condition → Bool
names_charge UV = false
names_charge OV = true
names_charge OT = true
names_charge DOC = false
names_charge COC = true
names_charge ROC = false
names_charge LT = true

unfoldable pub names_discharge : Condition → Bool
names_discharge UV = true
names_discharge OV = false
names_discharge OT = true
names_discharge DOC = true
names_discharge COC = false
names_discharge ROC = true
names_discharge LT = false

-- something naming the switch is latched
unfoldable pub charge_off : Conditions → Bool
charge_off l = l.ov || l.ot || l.coc || l.lt

unfoldable pub discharge_off : Conditions → Bool
discharge_off l = l.uv || l.ot || l.doc || l.roc

-- any condition but LT is latched
unfoldable pub faulty : Conditions → Bool
faulty l = l.uv || l.ov || l.ot || l.doc || l.coc || l.roc

-- the columns 'Event at latching, at recovery'
unfoldable pub latch_event : Condition → ℕ
latch_event UV = 0x02
latch_event OV = 0x03
latch_event OT = 0x04
latch_event DOC = 0x05
latch_event COC = 0x06
latch_event ROC = 0x07
latch_event LT = 0x37

unfoldable pub recovery_event : Condition → ℕ
recovery_event UV = 0x7B
recovery_event OV = 0x79
recovery_event OT = 0x73
recovery_event DOC = 0x77
recovery_event COC = 0x76
recovery_event ROC = 0x78
recovery_event LT = 0x74

-- latching: it was not latched, and is; recovery: it was, and is not
abbrev pub latches : Conditions → Conditions → Condition → Bool
latches before after c = is after c && not (is before c)

abbrev pub recovers : Conditions → Conditions → Condition → Bool
recovers before after c = is before c && not (is after c)

-- the number of the event that a condition records, 0 for none
unfoldable pub event_of : Conditions → Conditions → Condition → ℕ
event_of before after c = cond (latches before after c) (latch_event c) (cond (recovers before after c) (recovery_event c) 0)
