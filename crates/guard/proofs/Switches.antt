-- A switch is off exactly if a latched condition names it.
-- Assumes nothing.
use mathlib.Core.Path.{◌≡◌, refl, ◌∙◌}
use mathlib.Core.Bool.{Bool, true, false, ◌&&◌, ◌||◌, or-true, or-false, or_assoc}
use Rattle.guard.specs.declared.Conditions.{Conditions}
use Rattle.guard.specs.declared.Condition.{Condition}
use Rattle.guard.specs.declared.Condition.TheVariants.{UV, OV, OT, DOC, COC, ROC, LT}
use Rattle.guard.specs.Table.{is, names_charge, names_discharge, charge_off, discharge_off}

-- some condition that is named is latched
module _ (names : Condition → Bool) (l : Conditions) where
  some : Bool
  some = names UV && l.uv
      || (names OV && l.ov
      || (names OT && l.ot || (names DOC && l.doc || (names COC && l.coc || (names ROC && l.roc || names LT && l.lt)))))

  named : (c : Condition) → is l c ≡ true → names c ≡ true → some ≡ true
  unfolding is some
  named UV p q = simp (p, q)
  named OV p q = simp (p, q, or-true)
  named OT p q = simp (p, q, or-true)
  named DOC p q = simp (p, q, or-true)
  named COC p q = simp (p, q, or-true)
  named ROC p q = simp (p, q, or-true)
  named LT p q = simp (p, q, or-true)

charge : (l : Conditions) → charge_off l ≡ some names_charge l
unfolding charge_off names_charge some
charge l = simp or_assoc

discharge : (l : Conditions) → discharge_off l ≡ some names_discharge l
unfolding discharge_off names_discharge some
discharge l = simp (or_assoc, or-false)

pub charge_named : (l : Conditions) (c : Condition) → is l c ≡ true → names_charge c ≡ true → charge_off l ≡ true
charge_named l c p q = charge l ∙ named names_charge l c p q

pub discharge_named : (l : Conditions) (c : Condition) → is l c ≡ true → names_discharge c ≡ true → discharge_off l ≡ true
discharge_named l c p q = discharge l ∙ named names_discharge l c p q

pub charge_unnamed : (l : Conditions) → ((c : Condition) → names_charge c ≡ true → is l c ≡ false) → charge_off l ≡ false
unfolding charge_off is names_charge
charge_unnamed l off = simp (off OV refl, off OT refl, off COC refl, off LT refl)

pub discharge_unnamed : (l : Conditions) → ((c : Condition) → names_discharge c ≡ true → is l c ≡ false) → discharge_off l ≡ false
unfolding discharge_off is names_discharge
discharge_unnamed l off = simp (off UV refl, off OT refl, off DOC refl, off ROC refl)
