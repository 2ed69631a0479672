-- The promises hold after every list of events.
-- Assumes nothing.
use Rattle.std.proofs.Common.{◌≡◌, ℕ, zero, suc, ◌-◌, ◌<◌, ◌≤◌, Bool, true, false, cond, not, ◌&&◌, ltb, leb, List, [], ◌∷◌, ◌++◌, length, get_or, replicate, is_some, Some, None, Ok, Err, Option, Result, sym, refl, ap, ◌∙◌, subst, inl, inr, arith}
use mathlib.Core.Path.{fun_ext}
use mathlib.Core.List.Memᴰ
use mathlib.Core.List.{Memᴰ}
use mathlib.Core.Logic.{∥∥₁_map}
use Rattle.std.proofs.lemmas.List.{length-replicate}
use Rattle.std.proofs.lemmas.Bool.{le-leb, lt-ltb, ltb-true, ltb-false, and_from, cond-true, cond_both}
use Rattle.levels.specs.declared.refusals.Refusal.{Refusal}
use Rattle.levels.specs.Verdicts.{Verdict, Number, Bad, Tries}
use Rattle.levels.specs.Rules.{reads, newest, keep_form}
use Rattle.forms.specs.Meaning.{form_of, ship_of}
use Rattle.forms.specs.Said.{said}
use Rattle.logbooks.specs.Slots.{Kept}
use Rattle.logbooks.specs.Logs.{Log, empty, slot_of, older, taking}
use Rattle.world.proofs.Abs.{place_of_lem}
use Rattle.world.proofs.Spoke.{form_bounds}
use Rattle.levels.specs.Standings.{running, gone_back}
use Rattle.protocol.specs.Order.{numbers}
use Rattle.protocol.specs.Fleet.{Machine}
use Rattle.protocol.specs.Fleet as fleet
use Rattle.protocol.proofs.Parts.{after_start}
use Rattle.world.specs.declared.messages.Notice.{Notice}
use Rattle.world.specs.declared.messages.Notice.TheVariants.{Promised, Heard, Allowed, Taken}
use Rattle.world.specs.declared.events.Event.{Event}
use Rattle.world.specs.declared.events.Event.TheVariants.{Enlist, Renew, GoBack, Restart, Promise, Tick, Announce, Say, BringWord, BringNotice}
use Rattle.world.specs.Worlds.{World, BoatState, Said, begun, fresh, start, place_of, state_at, log_at, at, tells, opening, opened, play, no_word, no_notice, kept_by, taken, hearing_word}
use Rattle.world.specs.Abstract.{seen, boat_of, log_in, log_of, heard_of, machine_of, word_of, abs}
use Rattle.world.specs.Promises.{Heeded, none, after, plays, run, Listed, Holds, Promises, RunPromises, Reached}
use Rattle.world.proofs.Sent.{mem_at, mem_back}
use Rattle.world.proofs.Ruled.{Ruled, promises_of_numbers, Made, made_renewing, made_going_back, made_restarting, made_promising, made_ticking, made_talking, made_hearing_word}
use Rattle.world.proofs.Harbour.{backed, made_hearing_notice, made_announcing, made_enlisting}

-- the start
same_everywhere : {A : Type 0} (n i : ℕ) (x : A) → get_or (replicate n x) i x ≡ x
same_everywhere zero i x = refl
same_everywhere (suc n) zero x = refl
same_everywhere (suc n) (suc i) x = same_everywhere n i x

start_boat : (n b : ℕ) → boat_of (start n) b ≡ fresh
start_boat n b = go (place_of (start n) b)
  where
    go : (o : Option ℕ) → seen (start n) o ≡ fresh
    go None = refl
    go (Some i) = same_everywhere n i fresh

start_log : (n b : ℕ) → log_of (start n) b ≡ empty
start_log n b = go (place_of (start n) b)
  where
    go : (o : Option ℕ) → log_in (start n) o ≡ empty
    go None = refl
    go (Some i) = same_everywhere n i empty

pub ruled_start : (n : ℕ) → Ruled (start n)
ruled_start n =
    let F : (ℕ → Machine ℕ) → fleet.World ℕ = λ m. record { machine = m; listed = []; heard = λ b. 1; said = 1; words = []; notices = [] } in
    let M : BoatState → Machine ℕ = λ s. machine_of s.standing in
    record {
      crew = [];
      on = λ j at. absurd (Memᴰ.not-nil at);
      all = λ j h. no h;
      reach = subst (fleet.Reach numbers) (sym (ap F (fun_ext (λ b. ap M (start_boat n b))))) (fleet.begin []);
      answered = λ j a. absurd (never (sym (ap (λ (s : BoatState). s.answered) (start_boat n j)) ∙ a));
      spoke = record { meant = λ x at. absurd (Memᴰ.not-nil at); numbered = λ x at. absurd (Memᴰ.not-nil at); once = none; kept = λ b s at. absurd (Memᴰ.not-nil (subst (λ (l : Log). Memᴰ s l.slots) (start_log n b) at)) };
      there = λ j h. no h;
      sorted = refl;
      paired = length-replicate n empty ∙ sym (length-replicate n fresh);
    }
  where
    never : false ≡ true → ⊥
    never h = let z : ◌≡◌ {A = ℕ} 0 1 = cc in omega arith

    no : {A : Type 0} → false ≡ true → A
    no h = absurd (never h)

-- every event keeps the rules
pub made_play : (w : World) (e : Event) → Ruled w → Made Ruled (play w e)
made_play w (Enlist b) r = made_enlisting w b.0 r
made_play w (Renew b to) r = made_renewing w b.0 to.0 r
made_play w (GoBack b to) r = made_going_back w b.0 to.0 r
made_play w (Restart b) r = made_restarting w b.0 r
made_play w (Promise b) r = made_promising w b.0 r
made_play w (Tick b) r = made_ticking w b.0 r
made_play w (Announce k) r = made_announcing w k.0 r
made_play w (Say i j u) r = made_talking w i.0 j.0 (said u) r
made_play w (BringWord n) r =
    cond_both (ltb n (length w.words)) (hearing_word w (get_or w.words n no_word)) (Err Bad) (Made Ruled) (λ _. made_hearing_word w (get_or w.words n no_word) r) (λ _. tt)
made_play w (BringNotice n) r =
    cond_both (ltb n (length w.notices)) _ (Err Bad) (Made Ruled) (λ t. made_hearing_notice w (get_or w.notices n no_notice) r (mem_at w.notices n no_notice (ltb-true n (length w.notices) t))) (λ _. tt)

ruled_after : (w : World) (x : Result World Verdict) → Ruled w → Made Ruled x → Ruled (after w x)
ruled_after w (Ok v) r m = m
ruled_after w (Err e) r m = r

pub ruled_plays : (w : World) (es : List Event) → Ruled w → Ruled (plays w es)
ruled_plays w [] r = r
ruled_plays w (e ∷ es) r = ruled_plays (after w (play w e)) es (ruled_after w (play w e) r (made_play w e r))

-- what follows from the rules
module _ (w : World) (r : Ruled w) where
  reads_it : (x : Said) → Memᴰ x w.words → Listed w x.to → reads (boat_of w x.to).standing.program (form_of x.spoken) ≡ true
  reads_it x at on =
      let f : (1 ≤ form_of x.spoken) × (form_of x.spoken ≤ 3) = form_bounds x.spoken in
      let p : form_of x.spoken ≤ (boat_of w x.to).standing.program = (promises_of_numbers.understood (abs r.crew w) r.reach x.to (r.all x.to on)).0 (word_of x) (mem_back word_of x w.words [] at) refl in
      and_from _ _ (le-leb 1 (form_of x.spoken) f.0) (le-leb (form_of x.spoken) (newest (boat_of w x.to).standing.program) (omega arith))

  is_legible : (b v : ℕ) (s : Kept) → Memᴰ s (log_of w b).slots → Listed w b → (boat_of w b).standing.floor ≤ v → reads v (form_of s.word) ≡ true
  is_legible b v s at on h =
      let f : (1 ≤ form_of s.word) × (form_of s.word ≤ 3) = form_bounds s.word in
      let o = promises_of_numbers.levels_hold (abs r.crew w) r.reach b b (r.all b on) in
      let k = r.spoke.kept b s at in
      and_from _ _ (le-leb 1 (form_of s.word) f.0) (le-leb (form_of s.word) (newest v) (omega (arith, o, k)))

  heard_first : (b : ℕ) → 1 ≤ heard_of w b
  heard_first b =
      let p = after_start r.reach in
      (promises_of_numbers.grows (fleet.start numbers p.0) (abs r.crew w) p.1).heard b

  holds : (n : Notice) → Memᴰ n w.notices → Holds w n
  holds (Promised b f) at = backed w r (Promised b f) at
  holds (Heard b f) at = backed w r (Heard b f) at
  holds (Allowed b k) at = backed w r (Allowed b k) at
  holds (Taken b k) at = backed w r (Taken b k) at

  is_silent : (b : ℕ) → tells (boat_of w b) ≡ false → (boat_of w b).standing.floor ≤ heard_of w b
  is_silent b h = go (boat_of w b).answered refl h
    where
      go : (t : Bool) → (boat_of w b).answered ≡ t → ltb 1 (boat_of w b).standing.floor && not t ≡ false → (boat_of w b).standing.floor ≤ heard_of w b
      go true e m = r.answered b e
      go false e m = omega (arith, ltb-false 1 (boat_of w b).standing.floor (left (ltb 1 (boat_of w b).standing.floor) m), heard_first b)
        where
          left : (t : Bool) → t && true ≡ false → t ≡ false
          left true q = q
          left false q = refl

  heeded_taking : (i k : ℕ) (x : Said) → Heeded (kept_by w i (taking (log_at w i) x.from x.number x.spoken k))
  heeded_taking i k x =
      let P : Result Log Verdict → Type 0 = λ l. Heeded (kept_by w i l) in
      cond_both (older ((log_at w i).lasts x.from (ship_of x.spoken)) x.number) (Err (Number 2)) _ P (λ _. inl refl)
      (λ _. cond_both (not (is_some (slot_of (ship_of x.spoken) (log_at w i).slots)) && leb 4096 (length (log_at w i).slots)) (Err (Number 6)) _ P (λ _. inr refl) (λ _. tt))

  is_heeded : (n : ℕ) → n < length w.words → Listed w (get_or w.words n no_word).to → Heeded (play w (BringWord n))
  is_heeded n l on =
      let x : Said = get_or w.words n no_word in
      subst Heeded (sym (cond-true (ltb n (length w.words)) (hearing_word w x) (Err Bad) (lt-ltb n (length w.words) l)))
      (go (place_of w x.to) refl (r.there x.to on) (reads_it x (mem_at w.words n no_word l) on))
    where
      go : (o : Option ℕ) → place_of w (get_or w.words n no_word).to ≡ o → is_some o ≡ true → reads (seen w o).standing.program (form_of (get_or w.words n no_word).spoken) ≡ true → Heeded (at o (λ i. cond (reads (state_at w i).standing.program (form_of (get_or w.words n no_word).spoken)) (kept_by w i (taken w i (state_at w i).standing (get_or w.words n no_word))) (Err (Number 1))))
      go None e t c = let z : ◌≡◌ {A = ℕ} 0 1 = cc in absurd (omega arith)
      go (Some i) e t c =
          let x : Said = get_or w.words n no_word in
          let k : ℕ = keep_form (state_at w i).standing (form_of x.spoken) in
          let p : (1 ≤ x.to) × (x.to ≤ length w.boats) × (i ≡ x.to - 1) = place_of_lem w x.to i e in
          let m : i < length w.logs = omega (arith, r.paired) in
          subst Heeded (sym (cond-true (reads (state_at w i).standing.program (form_of x.spoken)) (kept_by w i (taken w i (state_at w i).standing x)) (Err (Number 1)) c ∙ ap (kept_by w i) (cond-true (ltb i (length w.logs)) (taking (log_at w i) x.from x.number x.spoken k) (Err Bad) (lt-ltb i (length w.logs) m))))
          (heeded_taking i k x)

  goes_back : (b i to : ℕ) → place_of w b ≡ Some i → (state_at w i).standing.floor ≤ to → to < (state_at w i).standing.program → play w (GoBack (record { 0 = b }) (record { 0 = to })) ≡ Ok (opening w i b (begun (running (state_at w i).standing to) (state_at w i).used))
  goes_back b i to e low high =
      ap (λ o. at o (λ p. opened w p b (state_at w p).used (gone_back (state_at w p).standing to))) e
      ∙ ap (opened w i b (state_at w i).used) (cond-true (ltb to (state_at w i).standing.program) _ (Err Bad) (lt-ltb to (state_at w i).standing.program high)
      ∙ cond-true (leb (state_at w i).standing.floor to) (Ok (running (state_at w i).standing to)) (Err (Number 3)) (le-leb (state_at w i).standing.floor to low))

  pub promises : Promises w
  promises =
      record {
        readable = reads_it;
        taken = is_heeded;
        meant = r.spoke.meant;
        kept = r.spoke.kept;
        legible = is_legible;
        numbered = r.spoke.numbered;
        once = r.spoke.once;
        spoken = λ x at. (said x ((promises_of_numbers.within (abs r.crew w) r.reach).0 (word_of x) (mem_back word_of x w.words [] at)));
        levels = λ b. (promises_of_numbers.steady (abs r.crew w) r.reach b).0;
        floors = λ b on. (promises_of_numbers.levels_hold (abs r.crew w) r.reach b b (r.all b on)).1;
        programs = λ b. (promises_of_numbers.steady (abs r.crew w) r.reach b).1;
        backed = holds;
        heard = λ b. (promises_of_numbers.backed (abs r.crew w) r.reach).1 b;
        silent = is_silent;
        back = goes_back;
      }
    where
      said : (x : Said) → form_of x.spoken ≤ (boat_of w x.from).standing.level → (form_of x.spoken ≤ (boat_of w x.from).standing.level) × (form_of x.spoken ≤ w.harbour.said)
      said x h = (h, omega (arith, h, (promises_of_numbers.steady (abs r.crew w) r.reach x.from).0))

pub run_promises : RunPromises
run_promises n es = promises (run n es) (ruled_plays (start n) es (ruled_start n))

-- a call carries on what events have made
pub plays_push : (w : World) (es : List Event) (e : Event) → plays w (es ++ e ∷ []) ≡ after (plays w es) (play (plays w es) e)
plays_push w [] e = refl
plays_push w (x ∷ es) e = plays_push (after w (play w x)) es e

pub reached_start : (n : ℕ) (w : World) → w ≡ start n → ∥ Reached w ∥₁
reached_start n w e = ∣ (n, [], sym e) ∣₁

pub reached_play : (x y : World) (e : Event) (t : Result (Unit {0}) Refusal) → Tries (play x e) t x y → ∥ Reached x ∥₁ → ∥ Reached y ∥₁
reached_play x y e (Ok u) t h = ∥∥₁_map h (λ q. (q.0, q.1 ++ e ∷ [], plays_push (start q.0) q.1 e ∙ ap (λ w. after w (play w e)) q.2 ∙ ap (after x) t))
reached_play x y e (Err n) t h = subst (λ (z : World). ∥ Reached z ∥₁) (sym t.1) h

pub promises_reached : (w : World) → ∥ Reached w ∥₁ → ∥ Promises w ∥₁
promises_reached w h = ∥∥₁_map h (λ q. subst Promises q.2 (run_promises q.0 q.1))
