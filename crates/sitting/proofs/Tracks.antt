-- What a record and a withdrawal make of the tracks.
use Rattle.std.proofs.Common.{◌≡◌, ℕ, Bool, cond, List, ◌∷◌, sym, refl, ap, ◌∙◌, subst, eq-eqb}
use Rattle.takes.specs.declared.State.TheVariants.{Open}
use Rattle.takes.specs.Entries.{begin, block, trailer, withdrawal, next_place}
use Rattle.takes.specs.Takes.{longer, takes}
use Rattle.takes.specs.Tracks.{splice, track}
use Rattle.takes.proofs.Contents.{others_stay}
use Rattle.takes.proofs.Punches.{punches, restores}
use Rattle.journal.specs.declared.header.Header.{Header}
use Rattle.journal.specs.Log.{Log, Run}
use Rattle.journal.proofs.InStep.{table_run}
use Rattle.sitting.specs.Claims.{PunchedIn, Restored, OtherTracksStay, TracksStay}

module _ (hd : Header) (h : Log) where
  -- a take stays open with a block more
  still_open : (k : ℕ) (xs : List (List ℕ)) → Run hd (block k xs ∷ h) → (takes (block k xs ∷ h) k).state ≡ Open
  still_open k xs r = ap (λ (b : Bool). (cond b (longer xs (next_place h) (takes h k)) (takes h k)).state) (eq-eqb k k refl) ∙ r.1.0.3

  pub punched_in : (k : ℕ) (xs : List (List ℕ)) → Run hd (block k xs ∷ h) → PunchedIn (block k xs ∷ h) k
  punched_in k xs r later b t p is n =
      let open_now = subst (λ (j : ℕ). (takes (block k xs ∷ h) j).state ≡ Open) n (still_open k xs r) in
      subst (λ (j : ℕ). track (block k xs ∷ h) t ≡ splice p (takes (block k xs ∷ h) j).elements (track b t)) (sym n)
      (punches (block k xs ∷ h) later b t p (table_run hd (block k xs ∷ h) r) is open_now)

  pub restored : (t k : ℕ) → Run hd (withdrawal t k ∷ h) → Restored h t k
  restored t k r later b s p is n = restores h later b t s p k (table_run hd (withdrawal t k ∷ h) r) is n

  pub block_stays : (k : ℕ) (xs : List (List ℕ)) → Run hd (block k xs ∷ h) → OtherTracksStay h (block k xs) (takes h k).track
  block_stays k xs r s ne = others_stay h (block k xs) s (table_run hd (block k xs ∷ h) r) (λ e. ne (sym e))

  pub withdrawal_stays : (t k : ℕ) → Run hd (withdrawal t k ∷ h) → OtherTracksStay h (withdrawal t k) t
  withdrawal_stays t k r s ne = others_stay h (withdrawal t k) s (table_run hd (withdrawal t k ∷ h) r) (λ e. ne (sym e))

  pub begin_stays : (t p : ℕ) → Run hd (begin t p ∷ h) → TracksStay h (begin t p)
  begin_stays t p r s = others_stay h (begin t p) s (table_run hd (begin t p ∷ h) r) (λ e. e)

  pub trailer_stays : (k : ℕ) → Run hd (trailer k ∷ h) → TracksStay h (trailer k)
  trailer_stays k r s = others_stay h (trailer k) s (table_run hd (trailer k ∷ h) r) (λ e. e)
