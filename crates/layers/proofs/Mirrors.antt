-- From what a call did to each side to what it did to the mirror.
use Rattle.std.proofs.Common.{◌≡◌, ℕ, ◌<◌, Bool, true, false, not, cond, nat_lt, ◌⊎◌, List, Some, None, Ok, Err, Option, ◌==◌, sym, refl, ap, ◌∙◌, subst, inl, inr, arith, ltb-true, true≢false, ⊎_elim}
use Rattle.std.proofs.lemmas.Bool.{cases_Bool, not-true}
use Rattle.std.specs.Prelude.{MatchBool}
use Rattle.device.specs.declared.fault.Cause.{Cause}
use Rattle.device.specs.declared.fault.Cause.TheVariants.{Sick}
use Rattle.device.specs.declared.fault.Fault.{Fault}
use Rattle.device.specs.Faults.{cause_number, out_of_range, raised, raised_answer, Answer}
use Rattle.device.specs.Meaning.{Sector, sick, held, Meaning, newest, Lawful, LawfulPower, LawfulSector}
use Rattle.device.specs.Calls.{ByAnswer, ByFault, Reads, Writes, Flushes, Kept, Worn, Refused, Went, Accepted, answer_of, filled, power_fault, sick_fault, standing, settled, written}
use Rattle.device.specs.Cuts.{Cut}
use Rattle.device.proofs.Lists.{kept_refl, worn_refl, kept_worn, settled_kept}
use Rattle.device.proofs.Steps.{standing_is, by_none, by_some, flushes_went, flushed_went}
use Rattle.layers.specs.declared.mirror.Mirror.{Mirror}
use Rattle.layers.specs.Mirrored.{either, both_power, mirrored, mirror_layer}
use Rattle.layers.specs.Sides.{lost_power, found_sick, either_answer, joined, mirror_stands, EitherFetched, BothWrote, BothFlushed, EachWrote, EachFlushed}
use Rattle.layers.proofs.Eithers.{either_worn, either_kept, either_cut, either_settled, written_either, kept_sick, healthy_first, healthy_second, both_sick, newest_first, newest_second}

-- power

both_on : (p q : Answer) → p ≡ Ok tt → q ≡ Ok tt → both_power p q ≡ Ok tt
both_on p q e d = ap (λ (x : Answer). both_power x q) e ∙ ap raised_answer d

both_were_on : (p q : Answer) → power_fault (both_power p q) ≡ None → (p ≡ Ok tt) × (q ≡ Ok tt)
both_were_on (Ok x) (Ok y) e = (refl, refl)
both_were_on (Ok x) (Err g) e = (refl, cc)
both_were_on (Err f) q e = (cc, cc)

-- where either side's power is off, so is the mirror's
first_off : (p q : Answer) (f : Fault) → p ≡ Err f → both_power p q ≡ Err (raised f)
first_off p q f e = ap (λ (x : Answer). both_power x q) e

second_off : (p q : Answer) (f : Fault) → q ≡ Err f → (g : Fault) × (both_power p q ≡ Err g)
second_off (Err g) q f e = (raised g, refl)
second_off (Ok x) q f e = (raised f, ap raised_answer e)

-- what stands in the way of the mirror and of its sides

-- a side takes a call to sector s: the sector is in range, and power is on
record Ready (m : Meaning) (s : ℕ) : Type 0 where
  range : s < m.size
  power : m.power ≡ Ok tt

cond_none : (b : Bool) (o : Option Fault) (f : Fault) → cond b o (Some f) ≡ None → (b ≡ true) × (o ≡ None)
cond_none true o f e = (refl, e)
cond_none false o f e = (cc, cc)

none_of : (o : Option Fault) → answer_of o ≡ Ok tt → o ≡ None
none_of None e = refl
none_of (Some f) e = cc

-- where the mirror finds nothing in the way, both sides are ready
both_ready : (a b : Meaning) (s : ℕ) → answer_of (mirror_stands (mirrored a b) s) ≡ Ok tt → Ready a s × Ready b s
both_ready a b s e =
    let c = cond_none (nat_lt s (mirrored a b).size) (power_fault (mirrored a b).power) (out_of_range mirror_layer s) (none_of (mirror_stands (mirrored a b) s) e) in
    let on = both_were_on a.power b.power c.1 in
    let i : s < (mirrored a b).size = ltb-true s (mirrored a b).size c.0 in
    (record { range = omega arith; power = on.0 }, record { range = omega arith; power = on.1 })

-- only sickness stands in the way of a side that is ready
side_stands : (d s : ℕ) (m : Meaning) → Ready m s → standing d m s ≡ sick_fault (m.sector s)
side_stands d s m h = standing_is d s m (sick_fault (m.sector s)) h.range h.power refl

ready_stands : (a b : Meaning) (s : ℕ) → Ready a s → Ready b s → standing mirror_layer (mirrored a b) s ≡ sick_fault (either (a.sector s) (b.sector s))
ready_stands a b s h k =
    let i : s < a.size = h.range in
    let j : s < b.size = k.range in
    standing_is mirror_layer s (mirrored a b) (sick_fault (either (a.sector s) (b.sector s))) (omega arith) (both_on a.power b.power h.power k.power) refl

-- causes

-- where power went off in a call, the fault says so
lost_says : (n : Meaning) (f : Fault) → Lawful n → n.power ≡ Err f → lost_power (Err f) ≡ true
lost_says n f h e = ap (λ (c : Cause). cause_number c == 3) (subst LawfulPower e h.power).0

-- a sick sector's fault says so
sick_says : (f : Fault) → f.cause ≡ Sick → (lost_power (Err f) ≡ false) × (found_sick (Err f) ≡ true)
sick_says f e = (ap (λ (c : Cause). cause_number c == 3) e, ap (λ (c : Cause). not (cause_number c == 3)) e)

one_cause : (p : Answer) → found_sick p ≡ true → lost_power p ≡ false
one_cause (Ok x) e = refl
one_cause (Err f) e = not-true (lost_power (Err f)) e

-- sides

-- what a call did to one side: Done, or power went off in it and Lost
record Side (Done Lost : Type 0) (m : Meaning) (at : ℕ → Sector) (p : Answer) (n : Meaning) : Type 0 where
  size : n.size ≡ m.size
  worn : (t : ℕ) → Worn (at t) (n.sector t)
  how : ((lost_power p ≡ false) × Done) ⊎ ((lost_power p ≡ true) × (f : Fault) × (n.power ≡ Err f) × Lost)

-- a call that nothing stood in the way of
went_side : {Done Lost Then : Type 0} (m n : Meaning) (at : ℕ → Sector) (p : Answer) → Lawful n
    → (Done → (t : ℕ) → Worn (at t) (n.sector t)) → (p ≡ Ok tt → Done → Then) → (lost_power p ≡ true → Lost)
    → Went m at Done p n → Side Then Lost m at p n
went_side m n at (Ok x) h wears does loses w = record { size = w.size; worn = wears w.so; how = inl (refl, does refl w.so) }
went_side m n at (Err f) h wears does loses w =
    let says = lost_says n f h w.so.power in
    record { size = w.size; worn = w.so.each; how = inr (says, f, w.so.power, loses says) }

-- a call to sector s in which power stayed: it was accepted unless the sector is sick
record Took (m : Meaning) (s : ℕ) (at : ℕ → Sector) (p : Answer) (n : Meaning) : Type 0 where
  answers : sick_fault (m.sector s) ≡ None → p ≡ Ok tt
  kept : Accepted at n

-- a call to sector s that neither range nor power stood in the way of
abbrev Called : Meaning → ℕ → (ℕ → Sector) → Answer → Meaning → Type 0
Called m s at p n = ByFault (sick_fault (m.sector s)) (λ f. Refused f m p n) (Went m at (Accepted at n) p n)

-- such a call to a lawful side
record Asked (Lost : Type 0) (m : Meaning) (s : ℕ) (at : ℕ → Sector) (p : Answer) (n : Meaning) : Type 0 where
  law : LawfulSector (m.sector s)
  call : Called m s at p n
  side : Side (Took m s at p n) Lost m at p n

called_side : {Lost : Type 0} (m n : Meaning) (s : ℕ) (at : ℕ → Sector) (p : Answer) (x : Sector) → m.sector s ≡ x → LawfulSector x → Lawful n
    → ((f : Fault) → m.sector s ≡ sick f → Accepted at m) → (lost_power p ≡ true → Lost)
    → ByFault (sick_fault x) (λ f. Refused f m p n) (Went m at (Accepted at n) p n)
    → Side (Took m s at p n) Lost m at p n
called_side m n s at p (sick f) e l k stays loses h =
    let kept : Accepted at n = subst (Accepted at) (sym h.same) (stays f e) in
    record {
      size = ap (λ (v : Meaning). v.size) h.same;
      worn = λ t. kept_worn (at t) (n.sector t) (kept t);
      how = inl (ap (lost_power) h.says ∙ (sick_says f l).0, record { answers = λ i. cc (ap sick_fault e); kept = kept });
    }
called_side m n s at p (held old new) e l k stays loses h =
    went_side m n at p k (λ a t. kept_worn (at t) (n.sector t) (a t)) (λ a t. record { answers = λ i. a; kept = t }) loses h

asked : {Lost : Type 0} (d : ℕ) (m n : Meaning) (s : ℕ) (at : ℕ → Sector) (p : Answer) → Ready m s → Lawful m → Lawful n
    → ((f : Fault) → m.sector s ≡ sick f → Accepted at m) → (lost_power p ≡ true → Lost)
    → ByFault (standing d m s) (λ f. Refused f m p n) (Went m at (Accepted at n) p n) → Asked Lost m s at p n
asked d m n s at p ready h k stays loses c =
    let law = h.each s ready.range in
    let call = subst (λ (o : Option Fault). ByFault o (λ f. Refused f m p n) (Went m at (Accepted at n) p n)) (side_stands d s m ready) c in
    record { law = law; call = call; side = called_side m n s at p (m.sector s) refl law k stays loses call }

-- a side that was not asked
same_side : {Lost : Type 0} (m n : Meaning) (s : ℕ) (q : Answer) → q ≡ Ok tt → n ≡ m → Side (Took m s m.sector q n) Lost m m.sector q n
same_side m n s q e same = record {
  size = ap (λ (v : Meaning). v.size) same;
  worn = λ t. subst (λ (v : Meaning). Worn (m.sector t) (v.sector t)) (sym same) (worn_refl (m.sector t));
  how = inl (
    ap (lost_power) e,
    record {
      answers = λ i. e;
      kept = λ t. subst (λ (v : Meaning). Kept (m.sector t) (v.sector t)) (sym same) (kept_refl (m.sector t));
    },
  );
}

-- a side that answers that it is sick is sick
is_sick : (m n : Meaning) (s : ℕ) (at : ℕ → Sector) (p : Answer) (x : Sector) → m.sector s ≡ x → Lawful n → found_sick p ≡ true
    → ByFault (sick_fault x) (λ f. Refused f m p n) (Went m at (Accepted at n) p n) → (f : Fault) × (m.sector s ≡ sick f) × (p ≡ Err f)
is_sick m n s at p (sick f) e k v c = (f, e, c.says)
is_sick m n s at (Ok x) (held o w) e k v c = absurd (true≢false (sym v))
is_sick m n s at (Err f) (held o w) e k v c = absurd (true≢false (sym (lost_says n f k c.so.power) ∙ one_cause (Err f) v))

-- and one that does not is not
is_well : (m n : Meaning) (at : ℕ → Sector) (p : Answer) (x : Sector) → LawfulSector x → found_sick p ≡ false
    → ByFault (sick_fault x) (λ f. Refused f m p n) (Went m at (Accepted at n) p n) → sick_fault x ≡ None
is_well m n at p (sick f) l v c = absurd (true≢false (sym (sick_says f l).1 ∙ ap (found_sick) (sym c.says) ∙ v))
is_well m n at p (held o w) l v c = refl

-- both sides

-- the mirror's answer is that of the sides where power stayed on both, or else its power after the call
joined_by : {A B Lost : Type 0} {a b a' b' : Meaning} {p q : Answer} {pa pb : ℕ → Sector} (P : Answer → Type 0)
    → Side A Lost a pa p a' → Side B Lost b pb q b'
    → (A → B → P (either_answer p q)) → ((g : Fault) → both_power a'.power b'.power ≡ Err g → Lost → P (Err g))
    → P (joined p q (both_power a'.power b'.power))
joined_by {A} {B} {Lost} {a} {b} {a'} {b'} {p} {q} P h k both lost = cases h.how k.how
  where
    power : Answer
    power = both_power a'.power b'.power

    second_is : Bool → Answer
    second_is v = cond v power (either_answer p q)

    first_is : Bool → Answer
    first_is v = cond v power (second_is (lost_power q))

    cases : ((lost_power p ≡ false) × A) ⊎ ((lost_power p ≡ true) × (f : Fault) × (a'.power ≡ Err f) × Lost)
        → ((lost_power q ≡ false) × B) ⊎ ((lost_power q ≡ true) × (f : Fault) × (b'.power ≡ Err f) × Lost)
        → P (joined p q power)
    cases (inl x) (inl y) = subst P (sym (ap first_is x.0 ∙ ap second_is y.0)) (both x.1 y.1)
    cases (inl x) (inr y) =
        let o = second_off a'.power b'.power y.1 y.2 in
        subst P (sym (ap first_is x.0 ∙ ap second_is y.0 ∙ o.1)) (lost o.0 o.1 y.3)
    cases (inr x) y =
        let o = first_off a'.power b'.power x.1 x.2 in
        subst P (sym (ap first_is x.0 ∙ o)) (lost (raised x.1) o x.3)

-- what the call did to the mirror, where one of the sides accepted it
joined_went : {A B Lost Done : Type 0} {a b a' b' : Meaning} {p q : Answer} {pa pb : ℕ → Sector} (at : ℕ → Sector)
    → Side A Lost a pa p a' → Side B Lost b pb q b' → ((t : ℕ) → at t ≡ either (pa t) (pb t))
    → (A → B → (either_answer p q ≡ Ok tt) × Done)
    → Went (mirrored a b) at Done (joined p q (both_power a'.power b'.power)) (mirrored a' b')
joined_went {A} {B} {Lost} {Done} {a} {b} {a'} {b'} {p} {q} {pa} {pb} at h k splits both =
    let ea = h.size in
    let eb = k.size in
    let small : (mirrored a' b').size ≡ (mirrored a b).size = omega arith in
    joined_by (λ r. Went (mirrored a b) at Done r (mirrored a' b')) h k
    (λ x y. subst (λ (r : Answer). Went (mirrored a b) at Done r (mirrored a' b')) (sym (both x y).0) (record { size = small; so = (both x y).1 }))
    (λ g e l. record {
      size = small;
      so = record {
        power = e;
        each = λ t. subst (λ (v : Sector). Worn v (either (a'.sector t) (b'.sector t))) (sym (splits t))
            (either_worn (pa t) (pb t) (a'.sector t) (b'.sector t) (h.worn t) (k.worn t));
      };
    })

first_answers : (p q : Answer) → p ≡ Ok tt → either_answer p q ≡ Ok tt
first_answers p q e = ap (λ (r : Answer). either_answer r q) e

second_answers : (p q : Answer) → q ≡ Ok tt → either_answer p q ≡ Ok tt
second_answers (Ok x) q e = refl
second_answers (Err f) q e = ap (either_answer (Err f)) e

-- one of two sides that are not both sick accepted the call
one_answers : (x y : Sector) (p q : Answer) → sick_fault (either x y) ≡ None → (sick_fault x ≡ None → p ≡ Ok tt) → (sick_fault y ≡ None → q ≡ Ok tt)
    → either_answer p q ≡ Ok tt
one_answers (held o n) y p q e h k = first_answers p q (h refl)
one_answers (sick f) (held o n) p q e h k = second_answers p q (k refl)
one_answers (sick f) (sick g) p q e h k = cc

-- a call to the mirror, where not both sides are sick
well_called : {Lost : Type 0} {a b a' b' : Meaning} {p q : Answer} {pa pb : ℕ → Sector} {s : ℕ} (at : ℕ → Sector)
    → Side (Took a s pa p a') Lost a pa p a' → Side (Took b s pb q b') Lost b pb q b' → ((t : ℕ) → at t ≡ either (pa t) (pb t))
    → sick_fault (either (a.sector s) (b.sector s)) ≡ None
    → Called (mirrored a b) s at (joined p q (both_power a'.power b'.power)) (mirrored a' b')
well_called {Lost} {a} {b} {a'} {b'} {p} {q} {pa} {pb} {s} at h k splits healthy =
    let r = joined p q (both_power a'.power b'.power) in
    by_none (λ f. Refused f (mirrored a b) r (mirrored a' b')) (Went (mirrored a b) at (Accepted at (mirrored a' b')) r (mirrored a' b'))
    (sick_fault (either (a.sector s) (b.sector s))) healthy
    (joined_went at h k splits (λ x y. (
      one_answers (a.sector s) (b.sector s) p q healthy x.answers y.answers,
      λ t. subst (λ (v : Sector). Kept v (either (a'.sector t) (b'.sector t))) (sym (splits t))
          (either_kept (pa t) (pb t) (a'.sector t) (b'.sector t) (x.kept t) (y.kept t)),
    )))

-- a call that a sick side refused
refused_by : (m n : Meaning) (s : ℕ) (at : ℕ → Sector) (p : Answer) (f : Fault) → m.sector s ≡ sick f → Called m s at p n → Refused f m p n
refused_by m n s at p f e h = subst (λ (x : Sector). ByFault (sick_fault x) (λ f. Refused f m p n) (Went m at (Accepted at n) p n)) e h

-- where both sides are sick the mirror refuses the call with the first side's fault
both_refused : (a b a' b' : Meaning) (p q power : Answer) (f g : Fault) → f.cause ≡ Sick → g.cause ≡ Sick → Refused f a p a' → Refused g b q b'
    → Refused (raised f) (mirrored a b) (joined p q power) (mirrored a' b')
both_refused a b a' b' p q power f g c d h k = record {
  says =
      ap (λ (r : Answer). joined r q power) h.says ∙ ap (λ (r : Answer). joined (Err f) r power) k.says
      ∙ ap (λ (v : Bool). cond v power (cond (lost_power (Err g)) power (Err (raised f)))) (sick_says f c).0
      ∙ ap (λ (v : Bool). cond v power (Err (raised f))) (sick_says g d).0;
  same = ap (λ (x : Meaning). mirrored x b') h.same ∙ ap (mirrored a) k.same;
}

-- a call that both sides were asked
both_called : {Lost : Type 0} {a b a' b' : Meaning} {p q : Answer} {pa pb : ℕ → Sector} {s : ℕ} (at : ℕ → Sector)
    → Asked Lost a s pa p a' → Asked Lost b s pb q b' → ((t : ℕ) → at t ≡ either (pa t) (pb t))
    → Called (mirrored a b) s at (joined p q (both_power a'.power b'.power)) (mirrored a' b')
both_called {Lost} {a} {b} {a'} {b'} {p} {q} {pa} {pb} {s} at h k splits = cases (a.sector s) (b.sector s) refl refl h.law k.law
  where
    power : Answer
    power = both_power a'.power b'.power

    cases : (x y : Sector) → a.sector s ≡ x → b.sector s ≡ y → LawfulSector x → LawfulSector y → Called (mirrored a b) s at (joined p q power) (mirrored a' b')
    cases (held o n) y ex ey lx ly = well_called at h.side k.side splits (healthy_first (a.sector s) (b.sector s) (ap sick_fault ex))
    cases (sick f) (held o n) ex ey lx ly = well_called at h.side k.side splits (healthy_second (a.sector s) (b.sector s) (ap sick_fault ey))
    cases (sick f) (sick g) ex ey lx ly =
        by_some (λ e. Refused e (mirrored a b) (joined p q power) (mirrored a' b'))
        (Went (mirrored a b) at (Accepted at (mirrored a' b')) (joined p q power) (mirrored a' b'))
        (sick_fault (either (a.sector s) (b.sector s))) (raised f) (both_sick (a.sector s) (b.sector s) f g ex ey)
        (both_refused a b a' b' p q power f g lx ly (refused_by a a' s pa p f ex h.call) (refused_by b b' s pb q g ey k.call))

mirror_called : (m n : Meaning) (s : ℕ) (at : ℕ → Sector) (r : Answer) → standing mirror_layer m s ≡ sick_fault (m.sector s) → Called m s at r n
    → ByFault (standing mirror_layer m s) (λ f. Refused f m r n) (Went m at (Accepted at n) r n)
mirror_called m n s at r e c = subst (λ (o : Option Fault). ByFault o (λ f. Refused f m r n) (Went m at (Accepted at n) r n)) (sym e) c

-- both sides of a mirror are lawful
abbrev pub LawfulSides : Mirror Meaning Meaning → Type 0
LawfulSides m = Lawful m.first × Lawful m.second

-- read

-- a read's buffer holds what its answer says, whether it was refused or not
read_filled : (o : Option Fault) (m n : Meaning) (went : Type 0) (new buffer buffer' : List ℕ) (p : Answer)
    → ByFault o (λ f. Refused f m p n × (buffer' ≡ buffer)) (went × (buffer' ≡ filled p new buffer))
    → ByFault o (λ f. Refused f m p n) went × (buffer' ≡ filled p new buffer)
read_filled (Some f) m n went new buffer buffer' p h = (h.0, h.1 ∙ ap (λ (r : Answer). filled r new buffer) (sym h.0.says))
read_filled None m n went new buffer buffer' p h = h

filled_read : (o : Option Fault) (m n : Meaning) (went : Type 0) (new buffer buffer' : List ℕ) (p : Answer)
    → ByFault o (λ f. Refused f m p n) went → buffer' ≡ filled p new buffer
    → ByFault o (λ f. Refused f m p n × (buffer' ≡ buffer)) (went × (buffer' ≡ filled p new buffer))
filled_read (Some f) m n went new buffer buffer' p h e = (h, e ∙ ap (λ (r : Answer). filled r new buffer) h.says)
filled_read None m n went new buffer buffer' p h e = (h, e)

-- a read in which power went off leaves the buffer as it was
lost_filled : (p : Answer) (new buffer buffer' : List ℕ) → buffer' ≡ filled p new buffer → lost_power p ≡ true → buffer' ≡ buffer
lost_filled (Ok x) new buffer buffer' h e = cc
lost_filled (Err f) new buffer buffer' h e = h

-- where the first side is sick, the second's answer fills the buffer
second_filled : (f : Fault) (q : Answer) (new buffer : List ℕ) → filled q new buffer ≡ filled (either_answer (Err f) q) new buffer
second_filled f (Ok x) new buffer = refl
second_filled f (Err g) new buffer = refl

-- a read of one side
read_side : {Lost : Type 0} (d : ℕ) (m n : Meaning) (s : ℕ) (buffer buffer' : List ℕ) (p : Answer) → Ready m s → Lawful m → Lawful n
    → (lost_power p ≡ true → buffer' ≡ filled p (newest (m.sector s)) buffer → Lost)
    → Reads d m s buffer p n buffer' → Asked Lost m s m.sector p n × (buffer' ≡ filled p (newest (m.sector s)) buffer)
read_side d m n s buffer buffer' p ready h k loses did =
    let c = read_filled (standing d m s) m n (Went m m.sector (Accepted m.sector n) p n) (newest (m.sector s)) buffer buffer' p did in
    (asked d m n s m.sector p ready h k (λ f e t. kept_refl (m.sector t)) (λ e. loses e c.1) c.0, c.1)

-- a read of the mirror, by how its sides' contents fill the buffer
mirror_read : {a b a' b' : Meaning} {p q : Answer} {s : ℕ} {buffer buffer' : List ℕ} → Ready a s → Ready b s
    → Side (Took a s a.sector p a') (buffer' ≡ buffer) a a.sector p a' → Side (Took b s b.sector q b') (buffer' ≡ buffer) b b.sector q b'
    → Called (mirrored a b) s (mirrored a b).sector (joined p q (both_power a'.power b'.power)) (mirrored a' b')
    → (Took a s a.sector p a' → Took b s b.sector q b' → buffer' ≡ filled (either_answer p q) (newest (either (a.sector s) (b.sector s))) buffer)
    → Reads mirror_layer (mirrored a b) s buffer (joined p q (both_power a'.power b'.power)) (mirrored a' b') buffer'
mirror_read {a} {b} {a'} {b'} {p} {q} {s} {buffer} {buffer'} ra rb h k c fills =
    let r = joined p q (both_power a'.power b'.power) in
    let new = newest (either (a.sector s) (b.sector s)) in
    filled_read (standing mirror_layer (mirrored a b) s) (mirrored a b) (mirrored a' b')
    (Went (mirrored a b) (mirrored a b).sector (Accepted (mirrored a b).sector (mirrored a' b')) r (mirrored a' b')) new buffer buffer' r
    (mirror_called (mirrored a b) (mirrored a' b') s (mirrored a b).sector r (ready_stands a b s ra rb) c)
    (joined_by (λ z. buffer' ≡ filled z new buffer) h k fills (λ g z l. l))

-- the first side answers that it is sick
read_second : (d e s : ℕ) (a b a' b' : Meaning) (buffer buffer' : List ℕ) (p q : Answer) → Ready a s → Ready b s
    → Lawful a → Lawful b → Lawful a' → Lawful b' → found_sick p ≡ true
    → Reads d a s buffer p a' buffer → Reads e b s buffer q b' buffer'
    → Reads mirror_layer (mirrored a b) s buffer (joined p q (both_power a'.power b'.power)) (mirrored a' b') buffer'
read_second d e s a b a' b' buffer buffer' p q ra rb la lb ka kb v da db =
    let new = newest (either (a.sector s) (b.sector s)) in
    let x = read_side {Lost = buffer' ≡ buffer} d a a' s buffer buffer p ra la ka (λ w i. absurd (true≢false (sym w ∙ one_cause p v))) da in
    let y = read_side e b b' s buffer buffer' q rb lb kb (λ w i. lost_filled q (newest (b.sector s)) buffer buffer' i w) db in
    let ill = is_sick a a' s a.sector p (a.sector s) refl ka v x.0.call in
    mirror_read ra rb x.0.side y.0.side (both_called (mirrored a b).sector x.0 y.0 (λ t. refl))
    (λ i j. y.1 ∙ ap (λ (z : List ℕ). filled q z buffer) (newest_second (a.sector s) (b.sector s) ill.0 ill.1) ∙ second_filled ill.0 q new buffer
    ∙ ap (λ (z : Answer). filled (either_answer z q) new buffer) (sym ill.2))

-- the first side does not
read_first : (d s : ℕ) (a b a' b' : Meaning) (buffer buffer' : List ℕ) (p q : Answer) → Ready a s → Ready b s
    → Lawful a → Lawful a' → found_sick p ≡ false
    → Reads d a s buffer p a' buffer' → q ≡ Ok tt → b' ≡ b
    → Reads mirror_layer (mirrored a b) s buffer (joined p q (both_power a'.power b'.power)) (mirrored a' b') buffer'
read_first d s a b a' b' buffer buffer' p q ra rb la ka v da e same =
    let new = newest (either (a.sector s) (b.sector s)) in
    let x = read_side d a a' s buffer buffer' p ra la ka (λ w i. lost_filled p (newest (a.sector s)) buffer buffer' i w) da in
    let y : Side (Took b s b.sector q b') (buffer' ≡ buffer) b b.sector q b' = same_side b b' s q e same in
    let well = is_well a a' a.sector p (a.sector s) x.0.law v x.0.call in
    mirror_read ra rb x.0.side y (well_called (mirrored a b).sector x.0.side y (λ t. refl) (healthy_first (a.sector s) (b.sector s) well))
    (λ i j. x.1 ∙ ap (λ (z : Answer). filled z (newest (a.sector s)) buffer) (i.answers well) ∙ newest_first (a.sector s) (b.sector s) well
    ∙ ap (λ (z : Answer). filled z new buffer) (sym (first_answers p q (i.answers well))))

-- a read of the mirror, by those of its sides
pub read_joined : (d e : ℕ) (m n : Mirror Meaning Meaning) (s : ℕ) (buffer : List ℕ) (r : Answer) (buffer' : List ℕ) → LawfulSides m → LawfulSides n
    → answer_of (mirror_stands (mirrored m.first m.second) s) ≡ Ok tt → EitherFetched (λ a. a) (λ b. b) (Reads d) (Reads e) m s buffer r n buffer'
    → Reads mirror_layer (mirrored m.first m.second) s buffer r (mirrored n.first n.second) buffer'
read_joined d e m n s buffer r buffer' h k on did =
    let ready = both_ready m.first m.second s on in
    subst (λ (v : Answer). Reads mirror_layer (mirrored m.first m.second) s buffer v (mirrored n.first n.second) buffer') (sym did.3)
    (⊎_elim
    (λ v.
    let both = subst Did v did.2 in
    read_second d e s m.first m.second n.first n.second buffer buffer' did.0 did.1 ready.0 ready.1 h.0 h.1 k.0 k.1 v both.0 both.1)
    (λ v.
    let one = subst Did v did.2 in
    read_first d s m.first m.second n.first n.second buffer buffer' did.0 did.1 ready.0 ready.1 h.0 k.0 v one.0 one.1 one.2) (cases_Bool (found_sick did.0)))
  where
    Did : Bool → Type 0
    Did b =
        MatchBool b (Reads d m.first s buffer did.0 n.first buffer × Reads e m.second s buffer did.1 n.second buffer')
        (Reads d m.first s buffer did.0 n.first buffer' × (did.1 ≡ Ok tt) × (n.second ≡ m.second))

-- write

if_ok : {P : Type 0} (r : Answer) → P → ByAnswer r P (λ f. Unit {0})
if_ok (Ok x) h = h
if_ok (Err f) h = tt

-- a write to the mirror, by those to its sides
pub write_joined : (d e : ℕ) (m n : Mirror Meaning Meaning) (s : ℕ) (w : List ℕ) (r : Answer) → LawfulSides m → LawfulSides n
    → answer_of (mirror_stands (mirrored m.first m.second) s) ≡ Ok tt → BothWrote (λ a. a) (λ b. b) (Writes d) (Writes e) m s w r n
    → Writes mirror_layer (mirrored m.first m.second) s w r (mirrored n.first n.second) × EachWrote m s w r n
write_joined d e m n s w r h k on did =
    let a = m.first in
    let b = m.second in
    let a' = n.first in
    let b' = n.second in
    let at = written s w (mirrored a b).sector in
    let ready = both_ready a b s on in
    let x = asked {Lost = Unit {0}} d a a' s (written s w a.sector) did.0 ready.0 h.0 k.0 (kept_sick s w a) (λ e. tt) did.2.0 in
    let y = asked {Lost = Unit {0}} e b b' s (written s w b.sector) did.1 ready.1 h.1 k.1 (kept_sick s w b) (λ e. tt) did.2.1 in
    subst (λ (v : Answer). Writes mirror_layer (mirrored a b) s w v (mirrored a' b') × EachWrote m s w v n) (sym did.3) (
      mirror_called (mirrored a b) (mirrored a' b') s at (joined did.0 did.1 (both_power a'.power b'.power)) (ready_stands a b s ready.0 ready.1)
          (both_called at x y (written_either s w a b)),
      joined_by (λ v. EachWrote m s w v n) x.side y.side (λ i j. if_ok (either_answer did.0 did.1) (i.kept, j.kept)) (λ g e l. tt),
    )

-- flush

flushed_side : (m n : Meaning) (p : Answer) → Lawful n → m.power ≡ Ok tt → Flushes m p n
    → Side ((p ≡ Ok tt) × ((t : ℕ) → n.sector t ≡ settled (m.sector t))) (Unit {0}) m m.sector p n
flushed_side m n p k on c =
    went_side m n m.sector p k (λ h t. kept_worn (m.sector t) (n.sector t) (settled_kept (m.sector t) (n.sector t) (h t))) (λ e h. (e, h)) (λ e. tt)
    (flushed_went m n p on c)

-- a flush of the mirror, by those of its sides
pub flush_joined : (m n : Mirror Meaning Meaning) (r : Answer) → LawfulSides n → (mirrored m.first m.second).power ≡ Ok tt
    → BothFlushed (λ a. a) (λ b. b) Flushes Flushes m r n → Flushes (mirrored m.first m.second) r (mirrored n.first n.second)
flush_joined m n r k on did =
    let a = m.first in
    let b = m.second in
    let were = both_were_on a.power b.power (ap power_fault on) in
    subst (λ (v : Answer). Flushes (mirrored a b) v (mirrored n.first n.second)) (sym did.3)
    (flushes_went (mirrored a b) (mirrored n.first n.second) (joined did.0 did.1 (both_power n.first.power n.second.power)) on
    (joined_went (mirrored a b).sector (flushed_side a n.first did.0 k.0 were.0 did.2.0) (flushed_side b n.second did.1 k.1 were.1 did.2.1) (λ t. refl)
    (λ x y. (
      first_answers did.0 did.1 x.0,
      λ t. ap (λ (v : Sector). either v (n.second.sector t)) (x.1 t) ∙ ap (either (settled (a.sector t))) (y.1 t) ∙ either_settled (a.sector t) (b.sector t),
    ))))

-- an accepted flush leaves each side only its newest contents
pub flush_lists : (m n : Mirror Meaning Meaning) (r : Answer) → LawfulSides n → (mirrored m.first m.second).power ≡ Ok tt
    → BothFlushed (λ a. a) (λ b. b) Flushes Flushes m r n → EachFlushed m r n
flush_lists m n r k on did =
    let a = m.first in
    let b = m.second in
    let were = both_were_on a.power b.power (ap power_fault on) in
    subst (λ (v : Answer). EachFlushed m v n) (sym did.3)
    (joined_by (λ v. EachFlushed m v n) (flushed_side a n.first did.0 k.0 were.0 did.2.0) (flushed_side b n.second did.1 k.1 were.1 did.2.1)
    (λ x y. if_ok (either_answer did.0 did.1) (x.1, y.1)) (λ g e l. tt))

-- cut

pub mirror_cut : (a b a' b' : Meaning) → Cut a a' → Cut b b' → Cut (mirrored a b) (mirrored a' b')
mirror_cut a b a' b' h k =
    let ea = h.size in
    let eb = k.size in
    record {
      size = omega arith;
      power = both_on a'.power b'.power h.power k.power;
      each = λ s. either_cut (a.sector s) (b.sector s) (a'.sector s) (b'.sector s) (h.each s) (k.each s);
    }
