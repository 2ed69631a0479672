-- What saying and hearing a word come to in the world.
-- Assumes nothing.
use Rattle.std.proofs.Common.{◌≡◌, ℕ, ◌+◌, ◌-◌, ◌<◌, Bool, true, false, cond, not, ◌&&◌, eqb, leb, [], ◌∷◌, ◌++◌, length, get_or, is_some, Ok, Err, vec_items, Result, sym, refl, ap, ◌∙◌, arith}
use Rattle.std.proofs.lemmas.List.{length-map, get_or-map, map_push, set-get_or}
use Rattle.std.proofs.lemmas.Bool.{and_from, lt-ltb, cond-true, cond-false}
use Rattle.std.specs.Prelude.{Vec}
use Rattle.std.specs.declared.alloc.Global.{Global}
use Rattle.std.specs.Borrow.{MutBor}
use Rattle.std.specs.Vec.{with_item}
use Rattle.levels.specs.declared.refusals.Refusal.{Refusal}
use Rattle.levels.specs.Verdicts.{Verdict, Number, Bad, Memory, verdict, Due, Tries}
use Rattle.levels.specs.Rules.{reads, keep_form, say_form}
use Rattle.levels.specs.Standings.{view, counting}
use Rattle.forms.specs.Meaning.{Meaning, Uttered, form_of, put, get}
use Rattle.logbooks.specs.Logs.{Log, log, empty, taking}
use Rattle.forms.specs.declared.sent.Sent.{Sent}
use Rattle.fleet.specs.declared.fleet.Berth.{Berth}
use Rattle.fleet.specs.declared.fleet.Fleet.{Fleet}
use Rattle.world.specs.Worlds.{World, BoatState, Said, place_of, state_at, at, logged, talked, talking, kept_by, taken, hearing_word, no_word, bringing_word, spoken, word_of}
use Rattle.fleet.specs.Fleets.{world, state, sent, all_sent}
use Rattle.fleet.specs.Lends.{Lookup}
use Rattle.fleet.proofs.Boats.{there, within, state_is, log_is, logged_is}

-- a word that was sent
pub bring_at : (f : Fleet) (n : ℕ) (s : Sent) → n < length (vec_items f.words) → s ≡ get_or (vec_items f.words) n s → bringing_word (world f) n ≡ hearing_word (world f) (sent s)
bring_at f n s l e =
    let m = length-map (vec_items f.words) sent in
    cond-true _ _ _ (lt-ltb n (length (all_sent (vec_items f.words))) (omega (arith, m))) ∙ ap (hearing_word (world f)) (get_or-map sent (vec_items f.words) n s no_word l ∙ ap sent (sym e))

-- the boat that it is for takes it, or passes it over
due_kept : (w : World) (i : ℕ) (want : Result Log Verdict) (v : Verdict) → Due want v → Due (kept_by w i want) v
due_kept w i want (Number n) d = ap (kept_by w i) d
due_kept w i want Bad d = ap (kept_by w i) d
due_kept w i (Ok l) Memory d = refl
due_kept w i (Err e) Memory d = d

module _ (f : Fleet) (b : ℕ) (v : MutBor Berth) (found : Lookup (vec_items f.boats) b (Ok v)) where
  pub hear_at : (x : Said) → x.to ≡ b → hearing_word (world f) x ≡ cond (reads v.now.vessel.standing.program.0 (form_of x.spoken)) (kept_by (world f) (b - 1) (taking (log v.now.log) x.from x.number x.spoken (keep_form (view v.now.vessel.standing) (form_of x.spoken)))) (Err (Number 1))
  hear_at x e =
      let w : World = world f in
      let n = length-map (vec_items f.boats) (λ (y : Berth). log y.log) in
      let G : ℕ → BoatState → Result World Verdict = λ i s. cond (reads s.standing.program (form_of x.spoken)) (kept_by w i (taken w i s.standing x)) (Err (Number 1)) in
      let T : Result Log Verdict → Result World Verdict = λ t. cond (reads v.now.vessel.standing.program.0 (form_of x.spoken)) (kept_by w (b - 1) t) (Err (Number 1)) in
      ap (λ o. at o (λ i. G i (state_at w i))) (ap (place_of w) e ∙ there f b v found) ∙ ap (G (b - 1)) (state_is f b v found) ∙ ap T (cond-true _ _ _ (lt-ltb (b - 1) (length w.logs) (omega (arith, n, within f b v found))) ∙ ap (λ l. taking l x.from x.number x.spoken (keep_form (view v.now.vessel.standing) (form_of x.spoken))) (log_is f b v found))

  pub take_tries : (x : Berth) (want : Result Log Verdict) (r : Result (Unit {0}) Refusal) → state x.vessel ≡ state v.now.vessel → Tries want r (log v.now.log) (log x.log) → Tries (kept_by (world f) (b - 1) want) r (world f) (world (record f { boats = with_item f.boats (b - 1) x }))
  take_tries x want (Ok u) s t =
      let F : World → Result World Verdict = λ y. Ok y in
      ap (kept_by (world f) (b - 1)) t ∙ ap F (logged_is f b v found x (log x.log) s refl)
  take_tries x want (Err n) s t =
      (due_kept (world f) (b - 1) want (verdict n) t.0, sym (logged_is f b v found x (log x.log) s refl) ∙ ap (logged (world f) (b - 1)) (t.1 ∙ sym (log_is f b v found)) ∙ ap (λ l. record (world f) { logs = l }) (set-get_or (world f).logs (b - 1) empty))

  -- it says a word
  pub say_at : (j : ℕ) (u : Uttered) → is_some (place_of (world f) j) ≡ true → eqb j b ≡ false → reads v.now.vessel.standing.program.0 (form_of u) ≡ true → leb 4294967296 (v.now.vessel.used + 1) ≡ false → talking (world f) b j u ≡ Ok (talked (world f) (b - 1) b j (state v.now.vessel) u)
  say_at j u t d a k =
      let w : World = world f in
      let G : ℕ → BoatState → Result World Verdict = λ p y. cond (is_some (place_of w j) && not (eqb j b)) (cond (reads y.standing.program (form_of u)) (cond (leb 4294967296 (y.used + 1)) (Err (Number 6)) (Ok (talked w p b j y u))) (Err (Number 1))) (Err Bad) in
      ap (λ o. at o (λ p. G p (state_at w p))) (there f b v found) ∙ ap (G (b - 1)) (state_is f b v found) ∙ cond-true _ _ _ (and_from _ _ t (ap not d)) ∙ cond-true _ _ _ a ∙ cond-false _ _ _ k

-- the number and the word that are said
pub counts : (n m : ℕ) → ◌≡◌ {A = Result ℕ Verdict} (Ok m) (counting n) → (m ≡ n + 1) × (leb 4294967296 (n + 1) ≡ false)
counts n m = go (leb 4294967296 (n + 1)) refl
  where
    go : (t : Bool) → leb 4294967296 (n + 1) ≡ t → ◌≡◌ {A = Result ℕ Verdict} (Ok m) (cond t (Err (Number 6)) (Ok (n + 1))) → (m ≡ n + 1) × (leb 4294967296 (n + 1) ≡ false)
    go true e q = cc
    go false e q = (cc, e)

pub word_is : (i j n k : ℕ) (s : BoatState) (u v : Uttered) (m : Meaning) → n ≡ s.used + 1 → m ≡ get u → k ≡ say_form s.standing j → v ≡ put k m → word_of i j s u ≡ record { from = i; to = j; number = n; given = m; spoken = v }
word_is i j n k s u v m a b d e = cc

pub spoken_is : (f : Fleet) (x : Said) (y : Sent) (ws : Vec Sent Global) → x ≡ sent y → vec_items ws ≡ vec_items f.words ++ y ∷ [] → spoken (world f) x ≡ world (record f { words = ws })
spoken_is f x y ws e p =
    ap (spoken (world f)) e ∙ ap (λ l. record (world f) { words = l }) (sym (ap all_sent p ∙ map_push sent (vec_items f.words) y))
