-- The events that raise a level are all taken, and raise it.
-- Assumes nothing.
use Rattle.std.proofs.Common.{◌≡◌, ℕ, ◌+◌, ◌*◌, ◌≤◌, max, Bool, true, false, cond, ◌&&◌, ◌||◌, eqb, ltb, List, [], ◌∷◌, ◌++◌, length, is_some, Some, None, Ok, Err, unwrap_or, sym, refl, ap, ◌∙◌, subst, inl, inr, append_assoc, append-nil, arith, length-append}
use mathlib.Core.Bool.{Bool-set}
use mathlib.Core.List.{is_set}
use mathlib.Core.Logic.{∥∥₁_elim}
use native.Mathlib.Nat.{ℕ_set}
use Rattle.std.proofs.lemmas.List.{length-map}
use Rattle.std.proofs.lemmas.Bool.{ltb-true, ltb-false, leb-true, le-leb, or_parts, or_from, and_parts, cond-true, cond-false, cases_eq, cases_Bool}
use Rattle.levels.specs.Verdicts.{Number, Bad}
use Rattle.levels.specs.Standings.{raised}
use Rattle.ledger.specs.Entries.{Entry, floor_of, lacking, above, ascending}
use Rattle.ledger.specs.Ledgers.{unpromised}
use Rattle.world.specs.declared.messages.Notice.{Notice}
use Rattle.world.specs.declared.messages.Notice.TheVariants.{Taken}
use Rattle.world.specs.declared.events.Event.{Event}
use Rattle.world.specs.declared.events.Event.TheVariants.{Announce, BringNotice}
use Rattle.world.specs.Worlds.{World, BoatState, start, at, place_of, state_at, moored, booked, learned, allowing, to_each, told_each, announced, play}
use Rattle.world.specs.Abstract.{boat_of, heard_of}
use Rattle.world.specs.Promises.{after, plays, run, Listed, Reached}
use Rattle.world.specs.Rising.{vouch, vouching, behind, bringing, levels_notice, raising, outdated, can_raise, taken, Risen, RunRises}
use Rattle.world.specs.Calls.{Raised}
use Rattle.ledger.proofs.Books.{some_is, Known, known_past, known_all, floor_tail, lacks_none, listed_same}
use Rattle.world.proofs.Ruled.{Ruled}
use Rattle.world.proofs.Kept.{ruled_start, ruled_plays}
use Rattle.world.proofs.Vouches.{Did, did_none, did_next, did_then, ruled_ok, Keeps, keeps_same, keeps_moored, like_at, boat_here, boat_apart, brings, Vouched, vouches}

-- P holds of each boat of the list but those that are still to come
abbrev Past : World → List Entry → (ℕ → Type 0) → Type 0
Past w es P = (j : ℕ) → Listed w j → floor_of j es ≡ None → P j

past_next : (w : World) (e : Entry) (es : List Entry) (P Q : ℕ → Type 0) → Past w (e ∷ es) P → Q e.boat.0 → ((j : ℕ) → (j ≡ e.boat.0 → ⊥) → P j → Q j) → Past w es Q
past_next w e es P Q p here apart j on none =
    elim (cases_eq j e.boat.0) [ inl q ↦ subst Q (sym q) here | inr d ↦ apart j d (p j on (floor_tail j e es d ∙ none)) ]

past_first : (w : World) (es : List Entry) (P : ℕ → Type 0) → ((j : ℕ) → is_some (floor_of j es) ≡ is_some (floor_of j w.harbour.list)) → Past w es P
past_first w es P same j on none =
    let h : false ≡ true = sym (ap is_some none) ∙ same j ∙ on in
    let z : ◌≡◌ {A = ℕ} 0 1 = cc in
    absurd (omega arith)

-- a boat of the list has a place
place_on : (v : World) (r : Ruled v) (b f : ℕ) → floor_of b v.harbour.list ≡ Some f → (i : ℕ) × (place_of v b ≡ Some i)
place_on v r b f e = some_is (place_of v b) (r.there b (ap is_some e))

-- the boats of es have vouched
record Heeded (k : ℕ) (w v : World) (es : List Entry) (n : ℕ) (u : World) : Type 0 where
  did : Did v (vouching w k es n) u
  ruled : Ruled u
  keeps : Keeps k w u
  sent : length u.notices ≡ n + 2 * behind k es
  heard : (j : ℕ) → Listed w j → k ≤ heard_of u j

heeded : (k : ℕ) (w v : World) (es : List Entry) (n : ℕ) → Ruled v → Keeps k w v → outdated w k es ≡ false → Known v.harbour.list es → ascending es ≡ true → length v.notices ≡ n → Past w es (λ j. k ≤ heard_of v j) → (u : World) × Heeded k w v es n u
heeded k w v [] n r p new known a l past = (v, record { did = did_none v; ruled = r; keeps = p; sent = omega arith; heard = λ j on. past j on refl })
heeded k w v (e ∷ es) n r p new known a l past =
    let b : ℕ = e.boat.0 in
    let old : (ltb (boat_of w b).standing.program k ≡ false) × (outdated w k es ≡ false) = or_parts (ltb (boat_of w b).standing.program k) (outdated w k es) new in
    let asc : (above b es ≡ true) × (ascending es ≡ true) = and_parts (above b es) (ascending es) a in
    elim (cases_Bool (ltb e.floor.0 k)) [
      | inl t ↦
          (let i : (i : ℕ) × (place_of v b ≡ Some i) = place_on v r b e.floor.0 known.0 in
          let x : (u : World) × Vouched k w v e.boat n u = vouches k w v e.boat i.0 e.floor.0 n r p i.1 (ltb-false (boat_of w b).standing.program k old.0) known.0 (ltb-true e.floor.0 k t) l in
          let y : (u : World) × Heeded k w x.0 es (n + 2) u = heeded k w x.0 es (n + 2) x.1.ruled x.1.keeps old.1 (known_past b v.harbour.list x.0.harbour.list es asc.0 asc.1 x.1.apart known.1) asc.1 x.1.sent (past_next w e es (λ j. k ≤ heard_of v j) (λ j. k ≤ heard_of x.0 j) past x.1.here (λ j d h. subst (λ o. k ≤ unwrap_or o 1) (sym (x.1.apart j d)) h)) in
          let c : behind k (e ∷ es) ≡ 1 + behind k es = cond-true (ltb e.floor.0 k) (1 + behind k es) (behind k es) t in (
            y.0,
            record {
              did = subst (λ ev. Did v ev y.0) (sym (cond-true (ltb e.floor.0 k) (vouch w k e.boat ∷ BringNotice n ∷ BringNotice (n + 1) ∷ vouching w k es (n + 2)) (vouching w k es n) t)) (x.1.on (vouching w k es (n + 2)) y.0 y.1.did);
              ruled = y.1.ruled;
              keeps = y.1.keeps;
              sent = omega (arith, y.1.sent, c);
              heard = y.1.heard;
            },
          ))
      | inr t ↦
          (let h : heard_of v b ≡ e.floor.0 = ap (λ o. unwrap_or o 1) known.0 in
          let y : (u : World) × Heeded k w v es n u = heeded k w v es n r p old.1 known.1 asc.1 l (past_next w e es (λ j. k ≤ heard_of v j) (λ j. k ≤ heard_of v j) past (omega (arith, h, ltb-false e.floor.0 k t)) (λ j d q. q)) in
          let c : behind k (e ∷ es) ≡ behind k es = cond-false (ltb e.floor.0 k) (1 + behind k es) (behind k es) t in (
            y.0,
            record {
              did = subst (λ ev. Did v ev y.0) (sym (cond-false (ltb e.floor.0 k) (vouch w k e.boat ∷ BringNotice n ∷ BringNotice (n + 1) ∷ vouching w k es (n + 2)) (vouching w k es n) t)) y.1.did;
              ruled = y.1.ruled;
              keeps = y.1.keeps;
              sent = omega (arith, y.1.sent, c);
              heard = y.1.heard;
            },
          ))
    ]

-- the harbour says what all of the list have promised
same_length : (k : ℕ) (w v : World) → Keeps k w v → length v.harbour.list ≡ length w.harbour.list
same_length k w v p =
    let n : Entry → ℕ = λ e. e.boat.0 in sym (length-map v.harbour.list n) ∙ ap length p.listed ∙ length-map w.harbour.list n

abbrev proclaimed : World → ℕ → World
proclaimed v k = told_each (booked v (record { list = v.harbour.list; said = max v.harbour.said k })) k

says : (k : ℕ) (w v : World) → Ruled v → Keeps k w v → eqb k 0 ≡ false → ltb 1 k && eqb (length w.harbour.list) 0 ≡ false → ((j : ℕ) → Listed w j → k ≤ heard_of v j) → play v (Announce (record { 0 = k })) ≡ Ok (proclaimed v k)
says k w v r p some many heard =
    let full : ltb 1 k && eqb (length v.harbour.list) 0 ≡ false = ap (λ m. ltb 1 k && eqb m 0) (same_length k w v p) ∙ many in
    let none : lacking k v.harbour.list ≡ None = lacks_none k v.harbour.list v.harbour.list (known_all v.harbour.list r.sorted) (λ j f e. (omega (arith, heard j (sym (listed_same j v.harbour.list w.harbour.list p.listed) ∙ ap is_some e), ap (λ o. unwrap_or o 1) e))) in
    ap (announced v k) (cond-false (eqb k 0) (Err Bad) _ some ∙ cond-false (unpromised k v.harbour.list) (Err (Number 4)) _ (or_from (ltb 1 k && eqb (length v.harbour.list) 0) (is_some (lacking k v.harbour.list)) full (ap is_some none)))

-- the boats of es are told
record Taught (k : ℕ) (w v : World) (es : List Entry) (n : ℕ) (u : World) : Type 0 where
  did : Did v (bringing es n) u
  keeps : Keeps k w u
  levels : (j : ℕ) → Listed w j → k ≤ (boat_of u j).standing.level

taught : (k : ℕ) (w v : World) (es : List Entry) (n : ℕ) (pre post : List Notice) → Ruled v → Keeps k w v → v.notices ≡ pre ++ (to_each k es ++ post) → length pre ≡ n → Known v.harbour.list es → Past w es (λ j. k ≤ (boat_of v j).standing.level) → (u : World) × Taught k w v es n u
taught k w v [] n pre post r p q l known past = (v, record { did = did_none v; keeps = p; levels = λ j on. past j on refl })
taught k w v (e ∷ es) n pre post r p q l known past =
    let b : ℕ = e.boat.0 in
    let i : (i : ℕ) × (place_of v b ≡ Some i) = place_on v r b e.floor.0 known.0 in
    let s : BoatState = record { standing = raised (state_at v i.0).standing k; answered = (state_at v i.0).answered; used = (state_at v i.0).used } in
    let has : Notice = Taken (record { 0 = b }) (record { 0 = (raised (state_at v i.0).standing k).level }) in
    let x : World = learned v i.0 b k in
    let does : play v (BringNotice n) ≡ Ok x = brings v pre (to_each k es ++ post) (allowing k e) n q l ∙ ap (λ o. at o (λ m. Ok (learned v m b k))) i.1 in
    let m : Keeps k w (moored v i.0 s) = keeps_moored k w v b i.0 s p i.1 (like_at k w v b i.0 p i.1) in
    let here : k ≤ (boat_of x b).standing.level = subst (λ (t : BoatState). k ≤ t.standing.level) (sym (boat_here v b i.0 s i.1)) (omega arith) in
    let next : x.notices ≡ (pre ++ allowing k e ∷ []) ++ (to_each k es ++ (post ++ has ∷ [])) = ap (λ ns. ns ++ has ∷ []) q ∙ append_assoc pre (allowing k e ∷ (to_each k es ++ post)) (has ∷ []) ∙ ap (λ ns. pre ++ allowing k e ∷ ns) (append_assoc (to_each k es) post (has ∷ [])) ∙ sym (append_assoc pre (allowing k e ∷ []) (to_each k es ++ (post ++ has ∷ []))) in
    let y : (u : World) × Taught k w x es (n + 1) u = taught k w x es (n + 1) (pre ++ allowing k e ∷ []) (post ++ has ∷ []) (ruled_ok v x (BringNotice n) r does) (record { boats = m.boats; listed = m.listed }) next (length-append pre (allowing k e ∷ []) ∙ ap (λ c. c + 1) l) known.1 (past_next w e es (λ j. k ≤ (boat_of v j).standing.level) (λ j. k ≤ (boat_of x j).standing.level) past here (λ j d h. subst (λ (t : BoatState). k ≤ t.standing.level) (sym (boat_apart v b i.0 s j i.1 d)) h)) in
    (y.0, record { did = did_next v x y.0 (BringNotice n) (bringing es (n + 1)) does y.1.did; keeps = y.1.keeps; levels = y.1.levels })

bringing_same : (xs ys : List Entry) (n : ℕ) → length xs ≡ length ys → bringing xs n ≡ bringing ys n
bringing_same [] [] n e = refl
bringing_same [] (y ∷ ys) n e = absurd (omega arith)
bringing_same (x ∷ xs) [] n e = absurd (omega arith)
bringing_same (x ∷ xs) (y ∷ ys) n e = ap (λ es. BringNotice n ∷ es) (bringing_same xs ys (n + 1) (omega arith))

rises : (k : ℕ) (w : World) → Ruled w → eqb k 0 ≡ false → ltb 1 k && eqb (length w.harbour.list) 0 ≡ false → outdated w k w.harbour.list ≡ false → (u : World) × Did w (raising k w) u × Risen k w u
rises k w r some many new =
    let list : List Entry = w.harbour.list in
    let x : (u : World) × Heeded k w w list (length w.notices) u = heeded k w w list (length w.notices) r (keeps_same k w) new (known_all list r.sorted) r.sorted refl (past_first w list (λ j. k ≤ heard_of w j) (λ j. refl)) in
    let v : World = x.0 in
    let p : Keeps k w v = x.1.keeps in
    let said : play v (Announce (record { 0 = k })) ≡ Ok (proclaimed v k) = says k w v x.1.ruled p some many x.1.heard in
    let y : (u : World) × Taught k w (proclaimed v k) v.harbour.list (levels_notice k w) u = taught k w (proclaimed v k) v.harbour.list (levels_notice k w) v.notices [] (ruled_ok v (proclaimed v k) (Announce (record { 0 = k })) x.1.ruled said) (record { boats = p.boats; listed = p.listed }) (ap (λ ns. v.notices ++ ns) (sym (append-nil (to_each k v.harbour.list)))) x.1.sent (known_all v.harbour.list x.1.ruled.sorted) (past_first w v.harbour.list (λ j. k ≤ (boat_of v j).standing.level) (λ j. listed_same j v.harbour.list list p.listed)) in
    let told : Did (proclaimed v k) (bringing list (levels_notice k w)) y.0 = subst (λ es. Did (proclaimed v k) es y.0) (bringing_same v.harbour.list list (levels_notice k w) (same_length k w v p)) y.1.did in
    (y.0, did_then w v y.0 (vouching w k list (length w.notices)) (Announce (record { 0 = k }) ∷ bringing list (levels_notice k w)) x.1.did (did_next v (proclaimed v k) y.0 (Announce (record { 0 = k })) (bringing list (levels_notice k w)) said told), record { levels = y.1.levels; programs = λ b. (y.1.keeps.boats b).0; listed = y.1.keeps.listed; floors = λ b. (y.1.keeps.boats b).1 })

-- where there are events, all that is asked for is there
pub rising_ok : (k : ℕ) (w : World) (fs : List Event) → can_raise k w ≡ Ok fs → (raising k w ≡ fs) × (eqb k 0 ≡ false) × (ltb 1 k && eqb (length w.harbour.list) 0 ≡ false) × (outdated w k w.harbour.list ≡ false)
rising_ok k w fs = go (eqb k 0) (ltb 1 k && eqb (length w.harbour.list) 0) (outdated w k w.harbour.list)
  where
    go : (a b c : Bool) → cond a (Err Bad) (cond (b || c) (Err (Number 4)) (Ok (raising k w))) ≡ Ok fs → (raising k w ≡ fs) × (a ≡ false) × (b ≡ false) × (c ≡ false)
    go true b c e = let z : ◌≡◌ {A = ℕ} 0 1 = cc in absurd (omega arith)
    go false true c e = let z : ◌≡◌ {A = ℕ} 0 1 = cc in absurd (omega arith)
    go false false true e = let z : ◌≡◌ {A = ℕ} 0 1 = cc in absurd (omega arith)
    go false false false e = (cc, refl, refl, refl)

ruled_rises : (k : ℕ) (w : World) (fs : List Event) → Ruled w → can_raise k w ≡ Ok fs → (taken w fs ≡ true) × Risen k w (plays w fs)
ruled_rises k w fs r e =
    let o : (raising k w ≡ fs) × (eqb k 0 ≡ false) × (ltb 1 k && eqb (length w.harbour.list) 0 ≡ false) × (outdated w k w.harbour.list ≡ false) = rising_ok k w fs e in
    let x : (u : World) × Did w (raising k w) u × Risen k w u = rises k w r o.1 o.2 o.3 in
    subst (λ es. (taken w es ≡ true) × Risen k w (plays w es)) o.0 (x.1.took, subst (Risen k w) (sym x.1.comes) x.2)

plays_append : (w : World) (es fs : List Event) → plays w (es ++ fs) ≡ plays (plays w es) fs
plays_append w [] fs = refl
plays_append w (e ∷ es) fs = plays_append (after w (play w e)) es fs

pub run_rises_lem : RunRises
run_rises_lem n k es fs e =
    let x : (taken (run n es) fs ≡ true) × Risen k (run n es) (plays (run n es) fs) = ruled_rises k (run n es) fs (ruled_plays (start n) es (ruled_start n)) e in
    (x.0, subst (Risen k (run n es)) (sym (plays_append (start n) es fs)) x.1)

-- the same of any world that events have made
module _ (k : ℕ) (w : World) (fs : List Event) (h : ∥ Reached w ∥₁) (e : can_raise k w ≡ Ok fs) where
  from : Reached w → (taken w fs ≡ true) × Risen k w (plays w fs)
  from q = subst (λ (x : World). can_raise k x ≡ Ok fs → (taken x fs ≡ true) × Risen k x (plays x fs)) q.2 (ruled_rises k (run q.0 q.1) fs (ruled_plays (start q.0) q.1 (ruled_start q.0))) e

  pub reached_taken : taken w fs ≡ true
  reached_taken = ∥∥₁_elim h (Bool-set _ _) (λ q. (from q).0)

  reached_risen : Risen k w (plays w fs)
  reached_risen =
      record {
        levels = λ b on. leb-true k (boat_of (plays w fs) b).standing.level (∥∥₁_elim h (Bool-set _ _) (λ q. le-leb k (boat_of (plays w fs) b).standing.level ((from q).1.levels b on)));
        programs = λ b. ∥∥₁_elim h (ℕ_set _ _) (λ q. (from q).1.programs b);
        listed = ∥∥₁_elim h (is_set ℕ_set _ _) (λ q. (from q).1.listed);
        floors = λ b l. ∥∥₁_elim h (ℕ_set _ _) (λ q. (from q).1.floors b l);
      }

  pub reached_raised : (v : World) (es : List Event) → es ≡ fs → v ≡ plays w es → Raised k w v (Ok tt)
  reached_raised v es same went =
      let all : raising k w ≡ fs = (rising_ok k w fs e).0 in
      let here : v ≡ plays w fs = went ∙ ap (plays w) same in
      (e ∙ ap Ok (sym all), here ∙ ap (plays w) (sym all), subst (Risen k w) (sym here) reached_risen)
