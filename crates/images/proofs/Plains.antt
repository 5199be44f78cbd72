-- What the calls of a plain image do to its lists.
use Rattle.std.proofs.Common.{◌≡◌, ℕ, ◌+◌, ◌*◌, ◌<◌, ◌≤◌, Bool, true, false, cond, eqb, ltb, List, [], length, get_or, Ok, Option, sym, refl, ap, ◌∙◌, subst, arith, ltb-true, eqb-true}
use mathlib.Core.Path.{fun_ext}
use borrow.Author.Tests.{both_ways}
use Rattle.device.specs.declared.fault.Fault.{Fault}
use Rattle.device.specs.Faults.{sick_at}
use Rattle.device.specs.Meaning.{Sector, held}
use Rattle.device.specs.Calls.{Writes, Kept, written, added}
use Rattle.device.specs.Cuts.{chosen, cut_by}
use Rattle.device.proofs.Lists.{kept_refl}
use Rattle.device.proofs.Steps.{writes_went}
use Rattle.images.specs.Sectors.{whole, content, over, is_sick}
use Rattle.images.specs.Image.{sector_of, image_sector, image_meaning}
use Rattle.images.specs.Plain.{replaced}
use Rattle.images.proofs.Contents.{over_at, over_whole, Ready, ready_stands, ready_listed}

replaced_at : (inside bad e : Bool) (f : Fault) (b c c' : List ℕ) → (e ≡ true → (inside ≡ true) × (bad ≡ false)) → c' ≡ cond e b c → sector_of inside bad f c' [] ≡ cond e (held [] b) (sector_of inside bad f c [])
replaced_at inside bad false f b c c' h q = ap (λ (x : List ℕ). sector_of inside bad f x []) q
replaced_at false bad true f b c c' h q = absurd (both_ways false refl (h refl).0)
replaced_at true true true f b c c' h q = absurd (both_ways true (h refl).1 refl)
replaced_at true false true f b c c' h q = ap (held []) q

-- a write replaces the content of its sector
pub plain_lists : (layer : ℕ) (sick_ones : List (Option ℕ)) (bytes bytes' b : List ℕ) (s : ℕ) → Ready bytes sick_ones s → length b ≡ 512 → bytes' ≡ over bytes s b
    → (t : ℕ) → image_sector layer sick_ones bytes' [] t ≡ replaced s b (image_sector layer sick_ones bytes []) t
plain_lists layer sick_ones bytes bytes' b s n l e t =
    let lt : s < whole bytes = ltb-true _ _ n.inside in
    let h : 512 * s + 512 ≤ length bytes = omega arith in
    ap (λ (x : List ℕ). image_sector layer sick_ones x [] t) e
    ∙ ap (λ (k : ℕ). sector_of (ltb t k) (is_sick sick_ones t) (sick_at layer t) (content (over bytes s b) t) []) (over_whole bytes b s lt l)
    ∙ replaced_at (ltb t (whole bytes)) (is_sick sick_ones t) (eqb t s) (sick_at layer t) b (content bytes t) (content (over bytes s b) t)
    (λ q. (ap (λ (x : ℕ). ltb x (whole bytes)) (eqb-true t s q) ∙ n.inside, ap (is_sick sick_ones) (eqb-true t s q) ∙ n.well)) (over_at bytes b s t h l)

kept_replaced : (e : Bool) (b : List ℕ) (x : List ℕ) (t : Sector) → (e ≡ true → t ≡ held [] x) → Kept (cond e (added b t) t) (cond e (held [] b) t)
kept_replaced false b x t h = kept_refl t
kept_replaced true b x t h = let P : Sector → Type 0 = λ v. Kept (added b v) (held [] b) in subst P (sym (h refl)) (refl, tt)

pub plain_writes : (layer : ℕ) (sick_ones : List (Option ℕ)) (bytes bytes' b : List ℕ) (s : ℕ) → Ready bytes sick_ones s → length b ≡ 512 → bytes' ≡ over bytes s b
    → Writes layer (image_meaning layer sick_ones bytes []) s b (Ok tt) (image_meaning layer sick_ones bytes' [])
plain_writes layer sick_ones bytes bytes' b s n l e =
    let at = image_sector layer sick_ones bytes [] in
    writes_went layer s (image_meaning layer sick_ones bytes []) (image_meaning layer sick_ones bytes' []) b (Ok tt) (ready_stands layer bytes sick_ones [] s n)
    (record {
      size = ap whole e ∙ over_whole bytes b s (ltb-true _ _ n.inside) l;
      so = λ t. subst (λ (x : Sector). Kept (written s b at t) x) (sym (plain_lists layer sick_ones bytes bytes' b s n l e t))
          (kept_replaced (eqb t s) b (content bytes t) (at t)
          (λ q. ready_listed layer bytes sick_ones [] t (subst (Ready bytes sick_ones) (sym (eqb-true t s q)) n)));
    })

chosen_at : (k : ℕ) (inside bad : Bool) (f : Fault) (x : List ℕ) → sector_of inside bad f x [] ≡ chosen k (sector_of inside bad f x [])
chosen_at k false bad f x = refl
chosen_at k true true f x = refl
chosen_at k true false f x = refl

-- a cut changes nothing
pub plain_cut : (layer : ℕ) (plan : List ℕ) (sick_ones : List (Option ℕ)) (bytes : List ℕ) → image_meaning layer sick_ones bytes [] ≡ cut_by plan (image_meaning layer sick_ones bytes [])
plain_cut layer plan sick_ones bytes =
    ap (λ (f : ℕ → Sector). record { size = whole bytes; power = Ok tt; sector = f })
    (fun_ext (λ s. chosen_at (get_or plan s 0) (ltb s (whole bytes)) (is_sick sick_ones s) (sick_at layer s) (content bytes s)))
