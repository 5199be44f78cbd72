use Rattle.std.proofs.Common.{◌≡◌, ◌+◌, ◌-◌, ◌<◌, ◌≤◌, refl, sym, ap, ◌∙◌, cond, eqb, ltb, ◌||◌, true, false, Bool, ℕ, List, ◌++◌, ◌∷◌, [], map, length, get_or, take, Bor, arith, rules}
use Rattle.std.proofs.lemmas.Bool.{lt-ltb, le-ltb}
use Rattle.std.proofs.lemmas.List.{take_at, length-append, length-map}
use Rattle.std.specs.List.{list_any}
use Rattle.std.specs.VecDeque.Iter.{deque_iter_rest}
use Rattle.images.specs.declared.queue.WaitingWrite.{WaitingWrite}
use Rattle.images.specs.Sectors.{whole, content}
use Rattle.images.specs.Image.{waiting_for}
use Rattle.images.specs.Queue.{left_of, left_at, cut_content}
use Rattle.images.specs.Queued.{waiting}
use Rattle.images.proofs.Waits.{one_waits, any_ahead, or_self, done_more, sector_more, done_all}
use Rattle.images.proofs.Chooses.{left_next, left_stays, left_again, left_settled, left_other, same_cond, left_all}
use Rattle.images.proofs.queued.QueuedImage.choose_by_write.Goals as goal
use Rattle.images.proofs.queued.QueuedImage.choose_by_write.Goals.{then-choice-eq0-via-then-choice-eq0, then-choice-eq0-via-else-choice-eq0+then-sector-size, then-choice-eq0-via-else-choice-eq0+else-sector-size+then-waits_before}

pub loop-place-preserved-then-choice-eq0 : goal.loop-place-preserved-then-choice-eq0
loop-place-preserved-then-choice-eq0 c =
    let plan = c.args.plan.now in
    let p = c.args.self.now in
    let bytes = p.sectors.bytes.now in
    let queue = waiting p in
    let disk = c.loop-place.self.1.0.bytes.now in
    let h = c.loop-place.invariant in
    let w = c.in-Some.write in
    let s = w.now.sector in
    let so_far = map (λ (v : Bor WaitingWrite). v.now) c.loop-place.yielded in
    let done : ℕ → Bool = λ t. list_any (λ v. eqb t v.sector) so_far in
    let more : ℕ → Bool = λ t. list_any (λ v. eqb t v.sector) (map (λ (v : Bor WaitingWrite). v.now) (c.loop-place.yielded ++ (w ∷ []))) in
    let m : (t : ℕ) → more t ≡ (done t || eqb t s) = λ t. sector_more t c.loop-place.yielded w in
    let rest = deque_iter_rest c.next.new.self in
    let writes : map (λ (v : Bor WaitingWrite). v.now) (c.loop-place.yielded ++ (w ∷ [])) ++ rest ≡ queue =
    done_more c.loop-place.yielded w rest ∙ ap (λ (z : List WaitingWrite). so_far ++ z) (sym c.in-Some.ensures.steps) ∙ h.writes in
    let place : c.loop-place.place + 1 ≡ length (c.loop-place.yielded ++ (w ∷ [])) = ap (λ (n : ℕ). n + 1) h.place ∙ sym (length-append c.loop-place.yielded (w ∷ [])) in
    let few : c.loop-place.place + 1 + length rest ≤ 16 =
    let one_less : length (deque_iter_rest c.loop-place.write-iterator) ≡ length rest + 1 = ap length c.in-Some.ensures.steps ∙ omega arith in
    let was = h.few in omega arith in
    let cut = cut_content plan bytes queue in
    let x = content bytes s in
    let xs = waiting_for s queue in
    let k = c.unwrap_or-choice.result in
    let choice : k ≡ get_or plan s 0 = search rules in
    let before : take c.loop-place.place queue ≡ so_far =
    ap (take c.loop-place.place) (sym h.writes) ∙ take_at so_far (deque_iter_rest c.loop-place.write-iterator) c.loop-place.place (length-map c.loop-place.yielded (λ v. v.now) ∙ sym h.place) in
    let stays : (t : ℕ) → content disk t ≡ cond (more t) (cut t) (content bytes t) =
    elim c.then-choice-eq0.branch [
      | then-choice-eq0-via-then-choice-eq0 b ↦
          left_stays cut (content bytes) (content disk) done more s m h.bytes
          (same_cond (ltb s (whole bytes)) x (left_at plan bytes queue s) (ap (λ (j : ℕ). left_of j x xs) (sym choice ∙ b.if-choice-eq0.true) ∙ left_settled x xs))
      | then-choice-eq0-via-else-choice-eq0+then-sector-size b ↦
          let outside : ltb s (whole bytes) ≡ false = ap (ltb s) (sym c.size-size.ensures.exact) ∙ le-ltb s c.size-size.result b.if-sector-size.true in
          left_stays cut (content bytes) (content disk) done more s m h.bytes (ap (λ (v : Bool). cond v (left_at plan bytes queue s) x) outside)
      | then-choice-eq0-via-else-choice-eq0+else-sector-size+then-waits_before b ↦
          left_again cut (content bytes) (content disk) done more s m h.bytes
          (ap (list_any (λ (v : WaitingWrite). eqb s v.sector)) (sym before) ∙ sym b.waits_before.ensures ∙ b.if-waits_before.true)
    ] in
    record { bytes = stays; long = h.long; sick = h.sick; lender = h.lender; writes = writes; place = place; few = few }

pub loop-place-preserved : goal.loop-place-preserved
loop-place-preserved c =
    let plan = c.args.plan.now in
    let p = c.args.self.now in
    let bytes = p.sectors.bytes.now in
    let queue = waiting p in
    let disk = c.loop-place.self.1.0.bytes.now in
    let h = c.loop-place.invariant in
    let w = c.in-Some.write in
    let s = w.now.sector in
    let so_far = map (λ (v : Bor WaitingWrite). v.now) c.loop-place.yielded in
    let done : ℕ → Bool = λ t. list_any (λ v. eqb t v.sector) so_far in
    let more : ℕ → Bool = λ t. list_any (λ v. eqb t v.sector) (map (λ (v : Bor WaitingWrite). v.now) (c.loop-place.yielded ++ (w ∷ []))) in
    let m : (t : ℕ) → more t ≡ (done t || eqb t s) = λ t. sector_more t c.loop-place.yielded w in
    let rest = deque_iter_rest c.next.new.self in
    let writes : map (λ (v : Bor WaitingWrite). v.now) (c.loop-place.yielded ++ (w ∷ [])) ++ rest ≡ queue =
    done_more c.loop-place.yielded w rest ∙ ap (λ (z : List WaitingWrite). so_far ++ z) (sym c.in-Some.ensures.steps) ∙ h.writes in
    let place : c.loop-place.place + 1 ≡ length (c.loop-place.yielded ++ (w ∷ [])) = ap (λ (n : ℕ). n + 1) h.place ∙ sym (length-append c.loop-place.yielded (w ∷ [])) in
    let few : c.loop-place.place + 1 + length rest ≤ 16 =
    let one_less : length (deque_iter_rest c.loop-place.write-iterator) ≡ length rest + 1 = ap length c.in-Some.ensures.steps ∙ omega arith in
    let was = h.few in omega arith in
    let cut = cut_content plan bytes queue in
    let x = content bytes s in
    let xs = waiting_for s queue in
    let k = c.unwrap_or-choice.result in
    let choice : k ≡ get_or plan s 0 = search rules in
    let above : 0 < k = search rules in
    let some = one_waits s queue (ap (list_any (λ (v : WaitingWrite). eqb s v.sector)) (sym writes) ∙ any_ahead (λ v. eqb s v.sector) _ rest (m s ∙ or_self (done s) s)) in
    let inside : ltb s (whole bytes) ≡ true = ap (ltb s) (sym c.size-size.ensures.exact) ∙ lt-ltb s c.size-size.result c.if-sector-size.false in
    let left : c.chosen-content.result.now ≡ cut s =
    c.chosen-content.ensures ∙ left_other k (k - 1) x some.0 xs (omega arith) some.1 ∙ ap (λ (j : ℕ). left_of j x xs) choice ∙ sym (ap (λ (v : Bool). cond v (left_at plan bytes queue s) x) inside) in
    record {
      bytes = left_next cut (content bytes) (content disk) (content c.store.new.self.bytes.now) done more s m h.bytes
          (λ t. c.store.ensures.each t ∙ ap (λ (z : List ℕ). cond (eqb t s) z (content disk t)) left);
      long = c.store.ensures.long ∙ h.long;
      sick = c.store.ensures.rewrites.sick ∙ h.sick;
      lender = c.store.ensures.rewrites.lender ∙ h.lender;
      writes = writes;
      place = place;
      few = few;
    }

pub returns : goal.returns
returns c =
    let plan = c.args.plan.now in
    let p = c.args.self.now in
    let h = c.loop-place.invariant in
    let all = done_all (map (λ (v : Bor WaitingWrite). v.now) c.loop-place.yielded) (deque_iter_rest c.loop-place.write-iterator) (waiting p) h.writes c.in-None.ensures.steps.0 in
    record {
      bytes = λ t. h.bytes t ∙ ap (λ (q : List WaitingWrite). cond (list_any (λ w. eqb t w.sector) q) (cut_content plan p.sectors.bytes.now (waiting p) t) (content p.sectors.bytes.now t)) all
          ∙ left_all plan p.sectors.bytes.now (waiting p) t;
      long = h.long;
      stays = record { power = refl; sick = h.sick; lender = h.lender };
    }
