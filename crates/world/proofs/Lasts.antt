-- Nothing that was sent is ever taken away.
-- Assumes nothing.
use Rattle.std.proofs.Common.{◌≡◌, ℕ, ◌+◌, Bool, true, false, cond, not, ◌&&◌, eqb, ltb, leb, ◌⊎◌, List, [], ◌∷◌, ◌++◌, length, get_or, is_some, Ok, Err, Result, sym, refl, subst, inl, inr}
use mathlib.Core.List.Memᴰ
use mathlib.Core.List.{Memᴰ}
use Rattle.std.proofs.lemmas.Bool.{cond_both}
use Rattle.levels.specs.Verdicts.{Verdict, Number, Bad}
use Rattle.levels.specs.Rules.{Boat, reads}
use Rattle.levels.specs.Standings.{renewed, gone_back}
use Rattle.ledger.specs.Entries.{floor_of}
use Rattle.ledger.specs.Ledgers.{Book, listing, hearing, saying}
use Rattle.forms.specs.Meaning.{Uttered, form_of}
use Rattle.forms.specs.Said.{said}
use Rattle.logbooks.specs.Logs.{Log}
use Rattle.world.specs.declared.messages.Notice.{Notice}
use Rattle.world.specs.declared.messages.Notice.TheVariants.{Promised, Heard, Allowed, Taken}
use Rattle.world.specs.declared.events.Event.{Event}
use Rattle.world.specs.declared.events.Event.TheVariants.{Enlist, Renew, GoBack, Restart, Promise, Tick, Announce, Say, BringWord, BringNotice}
use Rattle.world.specs.Worlds.{World, Said, BoatState, begun, start, place_of, state_at, moored, noticed, reopened, telling, opening, opened, vowed, tells, announced, enlisted, talked, kept_by, taken, hearing_word, hearing_notice, confirmed, assured, learned, no_word, no_notice, play}
use Rattle.world.specs.Promises.{after, plays, run, Lasting, RunLasts}
use Rattle.world.proofs.Ruled.{Made, made_at, made_if}

mem_more : {A : Type 0} (x : A) (xs ys : List A) → Memᴰ x xs → Memᴰ x (xs ++ ys)
mem_more x [] ys at = absurd (Memᴰ.not-nil at)
mem_more x (y ∷ xs) ys at = go (Memᴰ.cases_cons at) (mem_more x xs ys)
  where
    go : (x ≡ y) ⊎ Memᴰ x xs → (Memᴰ x xs → Memᴰ x (xs ++ ys)) → Memᴰ x (y ∷ (xs ++ ys))
    go (inl e) r = Memᴰ.head e
    go (inr m) r = Memᴰ.tail (r m)

lasts_opening : (w : World) (i b : ℕ) (s : BoatState) → Lasting w (opening w i b s)
lasts_opening w i b s =
    cond_both (ltb 1 s.standing.floor) (noticed (reopened w i s) (telling b s.standing.floor)) (reopened w i s) (Lasting w) (λ _. (λ x at. at, λ n at. mem_more n w.notices _ at)) (λ _. (λ x at. at, λ n at. at))

lasts_opened : (w : World) (i b n : ℕ) (r : Result Boat Verdict) → Made (Lasting w) (opened w i b n r)
lasts_opened w i b n (Ok s) = lasts_opening w i b (begun s n)
lasts_opened w i b n (Err v) = tt

lasts_announced : (w : World) (k : ℕ) (r : Result Book Verdict) → Made (Lasting w) (announced w k r)
lasts_announced w k (Ok x) = (λ x at. at, λ n at. mem_more n w.notices _ at)
lasts_announced w k (Err v) = tt

lasts_enlisted : (w : World) (r : Result Book Verdict) → Made (Lasting w) (enlisted w r)
lasts_enlisted w (Ok x) = (λ x at. at, λ n at. at)
lasts_enlisted w (Err v) = tt

lasts_kept : (w : World) (i : ℕ) (r : Result Log Verdict) → Made (Lasting w) (kept_by w i r)
lasts_kept w i (Ok l) = (λ x at. at, λ n at. at)
lasts_kept w i (Err v) = tt

lasts_confirmed : (w : World) (b : ℕ) (r : Result (ℕ × Book) Verdict) → Made (Lasting w) (confirmed w b r)
lasts_confirmed w b (Ok p) = (λ x at. at, λ n at. mem_more n w.notices _ at)
lasts_confirmed w b (Err v) = tt

lasts_talking : (w : World) (p i j : ℕ) (u : Uttered) → Made (Lasting w) (cond (is_some (place_of w j) && not (eqb j i)) (cond (reads (state_at w p).standing.program (form_of u)) (cond (leb 4294967296 ((state_at w p).used + 1)) (Err (Number 6)) (Ok (talked w p i j (state_at w p) u))) (Err (Number 1))) (Err Bad))
lasts_talking w p i j u = go (is_some (place_of w j) && not (eqb j i)) (reads (state_at w p).standing.program (form_of u)) (leb 4294967296 ((state_at w p).used + 1))
  where
    go : (a b c : Bool) → Made (Lasting w) (cond a (cond b (cond c (Err (Number 6)) (Ok (talked w p i j (state_at w p) u))) (Err (Number 1))) (Err Bad))
    go true true true = tt
    go true true false = (λ x at. mem_more x w.words _ at, λ n at. at)
    go true false c = tt
    go false b c = tt

lasts_word : (w : World) (x : Said) → Made (Lasting w) (hearing_word w x)
lasts_word w x =
    made_at (Lasting w) (place_of w x.to) (λ i. cond (reads (state_at w i).standing.program (form_of x.spoken)) (kept_by w i (taken w i (state_at w i).standing x)) (Err (Number 1))) (λ i e. cond_both (reads (state_at w i).standing.program (form_of x.spoken)) (kept_by w i (taken w i (state_at w i).standing x)) (Err (Number 1)) (Made (Lasting w)) (λ _. lasts_kept w i (taken w i (state_at w i).standing x)) (λ _. tt))

lasts_notice : (w : World) (n : Notice) → Made (Lasting w) (hearing_notice w n)
lasts_notice w (Promised b f) = lasts_confirmed w b.0 (hearing w.harbour b.0 f.0)
lasts_notice w (Heard b f) = made_at (Lasting w) (place_of w b.0) (λ i. Ok (moored w i (assured (state_at w i) f.0))) (λ i e. (λ x at. at, λ n at. at))
lasts_notice w (Allowed b k) = made_at (Lasting w) (place_of w b.0) (λ i. Ok (learned w i b.0 k.0)) (λ i e. (λ x at. at, λ n at. mem_more n w.notices _ at))
lasts_notice w (Taken b k) = made_if (Lasting w) (is_some (floor_of b.0 w.harbour.list)) w (Number 5) (λ _. (λ x at. at, λ n at. at))

lasts_play : (w : World) (e : Event) → Made (Lasting w) (play w e)
lasts_play w (Enlist b) = made_at (Lasting w) (place_of w b.0) (λ i. enlisted w (listing w.harbour b.0)) (λ i e. lasts_enlisted w (listing w.harbour b.0))
lasts_play w (Renew b to) = made_at (Lasting w) (place_of w b.0) (λ i. opened w i b.0 (state_at w i).used (renewed (state_at w i).standing to.0)) (λ i e. lasts_opened w i b.0 (state_at w i).used (renewed (state_at w i).standing to.0))
lasts_play w (GoBack b to) = made_at (Lasting w) (place_of w b.0) (λ i. opened w i b.0 (state_at w i).used (gone_back (state_at w i).standing to.0)) (λ i e. lasts_opened w i b.0 (state_at w i).used (gone_back (state_at w i).standing to.0))
lasts_play w (Restart b) = made_at (Lasting w) (place_of w b.0) (λ i. Ok (opening w i b.0 (begun (state_at w i).standing (state_at w i).used))) (λ i e. lasts_opening w i b.0 (begun (state_at w i).standing (state_at w i).used))
lasts_play w (Promise b) = made_at (Lasting w) (place_of w b.0) (λ i. Ok (noticed (moored w i (vowed (state_at w i))) (telling b.0 (state_at w i).standing.program))) (λ i e. (λ x at. at, λ n at. mem_more n w.notices _ at))
lasts_play w (Tick b) = made_at (Lasting w) (place_of w b.0) (λ i. Ok (cond (tells (state_at w i)) (noticed w (telling b.0 (state_at w i).standing.floor)) w)) (λ i e. cond_both (tells (state_at w i)) (noticed w (telling b.0 (state_at w i).standing.floor)) w (Lasting w) (λ _. (λ x at. at, λ n at. mem_more n w.notices _ at)) (λ _. (λ x at. at, λ n at. at)))
lasts_play w (Announce k) = lasts_announced w k.0 (saying w.harbour k.0)
lasts_play w (Say i j u) = made_at (Lasting w) (place_of w i.0) (λ p. cond (is_some (place_of w j.0) && not (eqb j.0 i.0)) (cond (reads (state_at w p).standing.program (form_of (said u))) (cond (leb 4294967296 ((state_at w p).used + 1)) (Err (Number 6)) (Ok (talked w p i.0 j.0 (state_at w p) (said u)))) (Err (Number 1))) (Err Bad)) (λ p e. lasts_talking w p i.0 j.0 (said u))
lasts_play w (BringWord n) = cond_both (ltb n (length w.words)) (hearing_word w (get_or w.words n no_word)) (Err Bad) (Made (Lasting w)) (λ _. lasts_word w (get_or w.words n no_word)) (λ _. tt)
lasts_play w (BringNotice n) = cond_both (ltb n (length w.notices)) (hearing_notice w (get_or w.notices n no_notice)) (Err Bad) (Made (Lasting w)) (λ _. lasts_notice w (get_or w.notices n no_notice)) (λ _. tt)

lasts_after : (w : World) (r : Result World Verdict) → Made (Lasting w) r → Lasting w (after w r)
lasts_after w (Ok v) m = m
lasts_after w (Err e) m = (λ x at. at, λ n at. at)

lasts_plays : (w : World) (es : List Event) → Lasting w (plays w es)
lasts_plays w [] = (λ x at. at, λ n at. at)
lasts_plays w (e ∷ es) =
    let a : Lasting w (after w (play w e)) = lasts_after w (play w e) (lasts_play w e) in
    let b : Lasting (after w (play w e)) (plays (after w (play w e)) es) = lasts_plays (after w (play w e)) es in
    (λ x at. b.0 x (a.0 x at), λ n at. b.1 n (a.1 n at))

plays_all : (w : World) (es fs : List Event) → plays w (es ++ fs) ≡ plays (plays w es) fs
plays_all w [] fs = refl
plays_all w (e ∷ es) fs = plays_all (after w (play w e)) es fs

pub run_lasts : RunLasts
run_lasts n es fs = subst (Lasting (run n es)) (sym (plays_all (start n) es fs)) (lasts_plays (run n es) fs)
