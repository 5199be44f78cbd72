-- What goes through a mirror sector by sector.
use Rattle.std.proofs.Common.{◌≡◌, ℕ, Bool, true, false, cond, eqb, List, Some, None, sym, refl, ap, ◌∙◌, subst, arith, eqb-true}
use Rattle.device.specs.declared.fault.Fault.{Fault}
use Rattle.device.specs.Faults.{raised}
use Rattle.device.specs.Meaning.{Sector, sick, held, Meaning, newest}
use Rattle.device.specs.Calls.{Kept, Worn, added, settled, sick_fault, written}
use Rattle.device.specs.Cuts.{CutSector}
use Rattle.device.proofs.Lists.{kept_refl}
use Rattle.layers.specs.Mirrored.{either, mirrored}

-- a relation of a sector before and after a call that leaves a sick sector as it was, and makes no sector sick
record KeepsSick (R : Sector → Sector → Type 0) : Type 0 where
  same : (f : Fault) → R (sick f) (sick f)
  only : (f : Fault) (t : Sector) → R (sick f) t → t ≡ sick f
  none : (old : List (List ℕ)) (new : List ℕ) (f : Fault) → R (held old new) (sick f) → ⊥

-- such a relation goes through a mirror sector by sector
both_sides : (R : Sector → Sector → Type 0) → KeepsSick R → (x y x' y' : Sector) → R x x' → R y y' → R (either x y) (either x' y')
both_sides R keeps (held o n) y (held o' n') y' h k = h
both_sides R keeps (held o n) y (sick f) y' h k = absurd (keeps.none o n f h)
both_sides R keeps (sick f) y x' y' h k = subst (λ (v : Sector). R (either (sick f) y) (either v y')) (sym (keeps.only f x' h)) (second y y' k)
  where
    second : (y y' : Sector) → R y y' → R (either (sick f) y) (either (sick f) y')
    second (held o n) (held o' n') k = k
    second (held o n) (sick g) k = absurd (keeps.none o n g k)
    second (sick g) y' k = subst (λ (v : Sector). R (sick (raised f)) (either (sick f) v)) (sym (keeps.only g y' k)) (keeps.same (raised f))

pub either_worn : (x y x' y' : Sector) → Worn x x' → Worn y y' → Worn (either x y) (either x' y')
either_worn = both_sides Worn (record { same = λ f. refl; only = λ f t h. h; none = λ o n f h. h })

pub either_kept : (x y x' y' : Sector) → Kept x x' → Kept y y' → Kept (either x y) (either x' y')
either_kept = both_sides Kept (record { same = λ f. refl; only = λ f t h. h; none = λ o n f h. h })

pub either_cut : (x y x' y' : Sector) → CutSector x x' → CutSector y y' → CutSector (either x y) (either x' y')
either_cut = both_sides CutSector (record { same = λ f. refl; only = λ f t h. h; none = λ o n f h. h })

pub either_settled : (x y : Sector) → either (settled x) (settled y) ≡ settled (either x y)
either_settled (held o n) y = refl
either_settled (sick f) (held o n) = refl
either_settled (sick f) (sick g) = refl

added_either : (w : List ℕ) (x y : Sector) → added w (either x y) ≡ either (added w x) (added w y)
added_either w (held o n) y = refl
added_either w (sick f) (held o n) = refl
added_either w (sick f) (sick g) = refl

written_either_at : (e : Bool) (w : List ℕ) (x y : Sector) → cond e (added w (either x y)) (either x y) ≡ either (cond e (added w x) x) (cond e (added w y) y)
written_either_at true w x y = added_either w x y
written_either_at false w x y = refl

-- a write to the mirror is a write to each side
pub written_either : (s : ℕ) (w : List ℕ) (a b : Meaning) (t : ℕ) → written s w (mirrored a b).sector t ≡ either (written s w a.sector t) (written s w b.sector t)
written_either s w a b t = written_either_at (eqb t s) w (a.sector t) (b.sector t)

kept_sick_at : (e : Bool) (w : List ℕ) (x : Sector) (f : Fault) → (e ≡ true → x ≡ sick f) → Kept (cond e (added w x) x) x
kept_sick_at true w x f h = let P : Sector → Type 0 = λ v. Kept (added w v) v in subst P (sym (h refl)) refl
kept_sick_at false w x f h = kept_refl x

-- a write to a sick sector leaves the side as it was
pub kept_sick : (s : ℕ) (w : List ℕ) (a : Meaning) (f : Fault) → a.sector s ≡ sick f → (t : ℕ) → Kept (written s w a.sector t) (a.sector t)
kept_sick s w a f h t = kept_sick_at (eqb t s) w (a.sector t) f (λ e. ap a.sector (eqb-true t s e) ∙ h)

pub healthy_first : (x y : Sector) → sick_fault x ≡ None → sick_fault (either x y) ≡ None
healthy_first (held o n) y e = refl
healthy_first (sick f) (held o n) e = refl
healthy_first (sick f) (sick g) e = let z : ◌≡◌ {A = ℕ} 0 1 = cc in absurd (omega arith)

pub healthy_second : (x y : Sector) → sick_fault y ≡ None → sick_fault (either x y) ≡ None
healthy_second (held o n) y e = refl
healthy_second (sick f) (held o n) e = refl
healthy_second (sick f) (sick g) e = let z : ◌≡◌ {A = ℕ} 0 1 = cc in absurd (omega arith)

pub both_sick : (x y : Sector) (f g : Fault) → x ≡ sick f → y ≡ sick g → sick_fault (either x y) ≡ Some (raised f)
both_sick x y f g h k = ap (λ (v : Sector). sick_fault (either v y)) h ∙ ap (λ (v : Sector). sick_fault (either (sick f) v)) k

pub newest_first : (x y : Sector) → sick_fault x ≡ None → newest x ≡ newest (either x y)
newest_first (held o n) y e = refl
newest_first (sick f) y e = let z : ◌≡◌ {A = ℕ} 0 1 = cc in absurd (omega arith)

pub newest_second : (x y : Sector) (f : Fault) → x ≡ sick f → newest y ≡ newest (either x y)
newest_second x (held o n) f e = ap (λ (v : Sector). newest (either v (held o n))) (sym e)
newest_second x (sick g) f e = ap (λ (v : Sector). newest (either v (sick g))) (sym e)
