-- Every event, with any fate, keeps the invariant.
-- Assumes nothing.
use Rattle.std.proofs.Common.{◌≡◌, ℕ, zero, suc, ◌<◌, true, false, ◌&&◌, eqb, ltb, leb, List, [], ◌∷◌, ◌++◌, length, get_or, Some, Ok, Err, Result, refl, le_of_suc-le-suc, not-suc-le-zero}
use Rattle.std.proofs.lemmas.Bool.{cond_both, ltb-true}
use Rattle.levels.specs.Verdicts.{Verdict, Bad}
use Rattle.forms.specs.Said.{said}
use Rattle.messages.specs.Messages.{Telling, word, promise, heard, level, has_it, Letter}
use Rattle.stations.specs.Boats.{Memory}
use Rattle.stations.specs.Deeds.{nothing}
use Rattle.runs.specs.declared.events.Event.{Event}
use Rattle.runs.specs.declared.events.Event.TheVariants.{Enlist, Renew, GoBack, Start, Rest, Promise, Tick, Announce, Say, BringWord, BringNotice}
use Rattle.runs.specs.declared.events.Fate.{Fate}
use Rattle.runs.specs.Worlds.{World, Said, start, there, at, aboard, arriving, letter_of, no_word, no_notice, what_harbour, play, outcome, plays, run}
use Rattle.runs.specs.Promises.{safe, safe_port}
use Rattle.runs.proofs.Parts.{Each}
use Rattle.runs.proofs.Holds.{Told, Sound, sound_start, boat_moves, harbour_moves, Made, move_sound, Up, move_up, up_none, up_then}
use Rattle.runs.proofs.Ports.{aboard_made, rest_call, list_made, level_made, reopen_made}
use Rattle.runs.proofs.Ports as ports
use Rattle.runs.proofs.Vessels.{Fair, rest_step, promise_made, tick_made, say_made, open_made}
use Rattle.runs.proofs.Vessels as vessels

at_made : (w : World) (b : ℕ) (k : Memory → Result World Verdict) → (there w b ≡ true → (m : Memory) → (w.boat b).running ≡ Some m → Made w (k m)) → Made w (at w b k)
at_made w b k h = cond_both (there w b) (aboard (w.boat b).running k) (Err Bad) (Made w) (λ t. aboard_made w (w.boat b).running k (λ m e. h t m e)) (λ t. tt)

pub each_at : {A : Type 0} (P : A → Type 0) (n : ℕ) (xs : List A) (d : A) → Each P xs → n < length xs → P (get_or xs n d)
each_at P n [] d h l = absurd (not-suc-le-zero l)
each_at P zero (x ∷ xs) d h l = h.0
each_at P (suc n) (x ∷ xs) d h l = each_at P n xs d h.1 (le_of_suc-le-suc l)

-- what was sent is fair to whom it comes
told_fair : (w : World) (sd : Sound w) (l : Letter) → Told (safe w) (safe_port w) l → (i : ℕ) (m : Memory) (up : (w.boat i).running ≡ Some m) → Fair w sd i m up l l.body
told_fair w sd l t i m up = go l.body t
  where
    go : (b : Telling) → Told (safe w) (safe_port w) (record { from = l.from; to = l.to; number = l.number; body = b }) → Fair w sd i m up l b
    go (word u) t = tt
    go (promise f) t = tt
    go (heard f) t = t
    go (level k) t = t
    go (has_it k) t = tt

-- a notice comes
notice_made : (w : World) (l : Letter) (f : Fate) → Sound w → Told (safe w) (safe_port w) l → Made w (arriving w l f)
notice_made w l f sd t =
    cond_both (eqb l.to 0) _ _ (Made w)
    (λ z. aboard_made w w.harbour.running _ (λ x e. ports.comes_made w sd x e l f t))
    (λ z. at_made w l.to _ (λ o m e. vessels.comes_made w sd l.to m e l f refl (told_fair w sd l t l.to m e)))

-- a word comes, whatever it is
word_made : (w : World) (x : Said) (f : Fate) → Sound w → Made w (arriving w (letter_of x) f)
word_made w x f sd =
    cond_both (eqb x.to 0) _ _ (Made w)
    (λ z. aboard_made w w.harbour.running _ (λ b e. cond_both (eqb x.to 0) _ _ (λ r. Made w (what_harbour w f r)) (λ q. tt) (λ q. tt)))
    (λ z. at_made w x.to _ (λ o m e. vessels.comes_made w sd x.to m e (letter_of x) f refl tt))

pub play_made : (w : World) (e : Event) (f : Fate) → Sound w → Made w (play w e f)
play_made w (Enlist b) f sd = cond_both (there w b.0) _ _ (Made w) (λ t. aboard_made w w.harbour.running _ (λ x e. list_made w sd x e b.0 f t)) (λ t. tt)
play_made w (Renew b to) f sd = cond_both (there w b.0 && leb (w.boat b.0).program to.0) _ _ (Made w) (λ t. open_made w b.0 to.0 f sd) (λ t. tt)
play_made w (GoBack b to) f sd =
    cond_both (there w b.0 && ltb to.0 (w.boat b.0).program) _ _ (Made w) (λ t. cond_both (leb _ to.0) _ _ (Made w) (λ u. open_made w b.0 to.0 f sd) (λ u. tt)) (λ t. tt)
play_made w (Start b) f sd =
    cond_both (eqb b.0 0) _ _ (Made w) (λ z. reopen_made w f sd) (λ z. cond_both (there w b.0) _ _ (Made w) (λ t. open_made w b.0 (w.boat b.0).program f sd) (λ t. tt))
play_made w (Rest b) f sd =
    cond_both (eqb b.0 0) _ _ (Made w) (λ z. aboard_made w w.harbour.running _ (λ x e. harbour_moves false (nothing, x) f (rest_call w sd x e)))
    (λ z. at_made w b.0 _ (λ t m e. boat_moves b.0 (w.boat b.0) false (nothing, m) f (rest_step w sd b.0 m e)))
play_made w (Promise b) f sd = at_made w b.0 _ (λ t m e. promise_made w sd b.0 m e f)
play_made w (Tick b) f sd = at_made w b.0 _ (λ t m e. tick_made w sd b.0 m e f)
play_made w (Announce k) f sd = aboard_made w w.harbour.running _ (λ x e. level_made w sd x e k.0 f)
play_made w (Say i j u) f sd = cond_both (there w j.0) _ _ (Made w) (λ tj. at_made w i.0 _ (λ ti m e. say_made w sd i.0 m e j.0 (said u) f ti tj)) (λ tj. tt)
play_made w (BringWord n) f sd = cond_both (ltb n (length w.words)) _ _ (Made w) (λ t. word_made w (get_or w.words n no_word) f sd) (λ t. tt)
play_made w (BringNotice n) f sd =
    cond_both (ltb n (length w.notices)) _ _ (Made w)
    (λ t. notice_made w (get_or w.notices n no_notice) f sd (each_at (Told (safe w) (safe_port w)) n w.notices no_notice sd.notices (ltb-true n (length w.notices) t))) (λ t. tt)

pub outcome_sound : (w : World) (r : Result World Verdict) → Sound w → Made w r → Sound (outcome w r)
outcome_sound w (Ok v) sd m = move_sound w sd m
outcome_sound w (Err e) sd m = sd

outcome_up : (w : World) (r : Result World Verdict) → Made w r → Up w (outcome w r)
outcome_up w (Ok v) m = move_up w m
outcome_up w (Err e) m = up_none w

pub play_sound : (w : World) (e : Event × Fate) → Sound w → Sound (outcome w (play w e.0 e.1))
play_sound w e sd = outcome_sound w (play w e.0 e.1) sd (play_made w e.0 e.1 sd)

pub plays_sound : (w : World) (es : List (Event × Fate)) → Sound w → Sound (plays w es)
plays_sound w [] sd = sd
plays_sound w (e ∷ es) sd = plays_sound (outcome w (play w e.0 e.1)) es (play_sound w e sd)

pub plays_up : (w : World) (es : List (Event × Fate)) → Sound w → Up w (plays w es)
plays_up w [] sd = up_none w
plays_up w (e ∷ es) sd =
    let v : World = outcome w (play w e.0 e.1) in
    up_then w v (plays v es) (outcome_up w (play w e.0 e.1) (play_made w e.0 e.1 sd)) (plays_up v es (play_sound w e sd))

pub run_sound : (n : ℕ) (es : List (Event × Fate)) → Sound (run n es)
run_sound n es = plays_sound (start n) es (sound_start n)

pub plays_then : (w : World) (es fs : List (Event × Fate)) → plays w (es ++ fs) ≡ plays (plays w es) fs
plays_then w [] fs = refl
plays_then w (e ∷ es) fs = plays_then (outcome w (play w e.0 e.1)) es fs
