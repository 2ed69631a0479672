-- A step that was taken, as it is told.
-- Assumes nothing.
use Rattle.std.proofs.Common.{◌≡◌, Bool, true, false, is_some, List, Some, None, Ok, Err, Option, Result, refl, ap, ◌∙◌, inr}
use Rattle.std.specs.Bool.{then_some}
use Rattle.levels.specs.declared.refusals.Refusal.{Refusal}
use Rattle.messages.specs.Messages.{Letter}
use Rattle.records.specs.declared.Record.{Record}
use Rattle.records.specs.Records.{written}
use Rattle.stations.specs.Deeds.{Deed, option}
use Rattle.runs.specs.declared.events.Fate.{Fate}
use Rattle.runs.specs.Disks.{after, told, lives}
use Rattle.runs.specs.Worlds.{kept, writes}
use Rattle.berths.specs.declared.berth.Berth.{Berth}
use Rattle.berths.specs.Berths.{Acts}
use Rattle.berths.specs.Disks.{disk}

pub kept_is : {A : Type 0} (l : Bool) (x : A) → then_some l x ≡ kept l x
kept_is true x = refl
kept_is false x = refl

writes_one : (r : Option Record) → is_some r ≡ writes (option written r)
writes_one None = refl
writes_one (Some r) = refl

module _ {S D E M : Type 0} (takes : S → Result D E → S → Type 0) (gives : Refusal → E → Type 0) (means : D → Deed) (letters : M → List Letter) (f : Fate) (b c : Berth S) where
  pub acts_ok : (o : Option S) (x y : S) (d : D) (r : Option Record) (s : Bool) (m : M) → o ≡ Some x → takes x (Ok d) y → option written r ≡ (means d).records → s ≡ is_some r → letters m ≡ told f s (means d).letters → disk c.journal ≡ after f s (option written r) (disk b.journal) → c.station ≡ kept (lives f) y → Acts takes gives means letters f o (Ok m) b c
  acts_ok o x y d r s m e t w i l p k =
      let n : s ≡ writes (means d).records = i ∙ writes_one r ∙ ap writes w in
      rw e (d, y, t, record { says = l ∙ ap (λ z. told f z (means d).letters) n; writes_down = p ∙ ap (λ z. after f z (option written r) (disk b.journal)) n ∙ ap (λ z. after f (writes (means d).records) z (disk b.journal)) w; runs_on = k })

  pub acts_err : (o : Option S) (x y : S) (e : E) → o ≡ Some x → takes x (Err e) y → disk c.journal ≡ disk b.journal → c.station ≡ Some y → Acts takes gives means letters f o (Err e) b c
  acts_err o x y e h t d k = rw h (inr (y, t, d, k))
