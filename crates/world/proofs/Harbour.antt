-- The steps by which boats and harbour hear of each other: each keeps the rules.
-- Assumes nothing.
use Rattle.std.proofs.Common.{◌≡◌, ℕ, ◌≤◌, max, Bool, true, false, cond, ◌&&◌, ◌||◌, eqb, ltb, leb, ◌⊎◌, List, [], ◌∷◌, ◌++◌, length, is_some, Some, None, Ok, Err, Option, Result, unwrap_or, sym, refl, ap, ◌∙◌, subst, inl, inr, append_assoc, append-nil, arith}
use mathlib.Core.Path.{fun_ext}
use mathlib.Core.List.Memᴰ
use mathlib.Core.List.{Memᴰ}
use Rattle.std.proofs.lemmas.Bool.{leb-true, ltb-false, eqb-true, eq-eqb, cond-true, cond-false, cond_both, cases_Bool}
use Rattle.levels.specs.Verdicts.{Verdict, Number, Bad}
use Rattle.levels.specs.Rules.{Boat}
use Rattle.levels.specs.Standings.{raised}
use Rattle.ledger.specs.Entries.{Entry, floor_of, ascending, entered, heard, lacking}
use Rattle.ledger.specs.Ledgers.{Book, answering, listing, unpromised}
use Rattle.protocol.specs.Order.{numbers, higher}
use Rattle.protocol.specs.Fleet.{Machine, put, Step, Later, now, next, hears, confirms, lists, decides, announces, learns, answers}
use Rattle.protocol.specs.Fleet as fleet
use Rattle.protocol.specs.Promise as promise
use Rattle.protocol.proofs.Puts.{put_here}
use Rattle.world.specs.declared.messages.Notice.{Notice}
use Rattle.world.specs.declared.messages.Notice.TheVariants.{Promised, Heard, Allowed, Taken}
use Rattle.world.specs.Worlds.{World, BoatState, place_of, state_at, moored, noticed, booked, confirmed, assured, learned, allowing, to_each, told_each}
use Rattle.world.specs.Worlds as spec
use Rattle.world.specs.Abstract.{boat_of, heard_of, machine_of, notice_of, abs}
use Rattle.world.proofs.Abs.{higher_max, boat_moored}
use Rattle.ledger.proofs.Books.{raised_by, floor_heard, ascending_heard, floor_entered, none_lacks, none_is, some_is, ascending_entered}
use Rattle.world.proofs.Sent.{mem_back}
use Rattle.world.proofs.Ruled.{Ruled, promises_of_numbers, Made, made_at, made_if, boat_is_lem, ruled_moored, ruled_noticed, same_machine}

-- what a notice that was sent states is true
pub backed : (w : World) (r : Ruled w) (n : Notice) → Memᴰ n w.notices → promise.Holds numbers (abs r.crew w) (notice_of n)
backed w r n at = (promises_of_numbers.backed (abs r.crew w) r.reach).0 (notice_of n) (mem_back notice_of n w.notices [] at)

-- a boat is brought an answer to its promise
ruled_assured : (w : World) (b i f : ℕ) (s : BoatState) (r : Ruled w) → place_of w b ≡ Some i → boat_of w b ≡ s → f ≤ heard_of w b → Ruled (moored w i (assured s f))
ruled_assured w b i f s r e q h = ruled_moored w b i (assured s f) r e (same_machine w r b s q) (go s.answered refl) (omega (arith, ap (λ (x : BoatState). x.standing.level) q)) (omega (arith, ap (λ (x : BoatState). x.used) q))
  where
    go : (t : Bool) → s.answered ≡ t → t || leb s.standing.floor f ≡ true → s.standing.floor ≤ heard_of w b
    go true p m = subst (λ (x : BoatState). x.answered ≡ true → x.standing.floor ≤ heard_of w b) q (r.answered b) p
    go false p m = omega (arith, leb-true s.standing.floor f m)

-- a boat is brought a level
learn_machine : (w : World) (r : Ruled w) (b k : ℕ) (s : BoatState) → boat_of w b ≡ s → k ≤ w.harbour.said → Later numbers (abs r.crew w) (fleet.machined (abs r.crew w) b (machine_of (raised s.standing k)))
learn_machine w r b k s e h =
    let x : Boat = (boat_of w b).standing in
    let F : ℕ → fleet.World ℕ = λ l. fleet.machined (abs r.crew w) b (record { program = x.program; floor = x.floor; level = l; file = [] }) in
    subst (λ (y : BoatState). Later numbers (abs r.crew w) (fleet.machined (abs r.crew w) b (machine_of (raised y.standing k)))) e
    (subst (λ (l : ℕ). Later numbers (abs r.crew w) (F l)) (sym (higher_max x.level k)) (next now (learns (abs r.crew w) b k h)))

ruled_learned : (w : World) (b i k : ℕ) (r : Ruled w) → place_of w b ≡ Some i → k ≤ w.harbour.said → Ruled (learned w i b k)
ruled_learned w b i k r e h =
    let q : boat_of w b ≡ state_at w i = boat_is_lem w b i e in
    let s : BoatState = record { standing = raised (state_at w i).standing k; answered = (state_at w i).answered; used = (state_at w i).used } in
    let m : Ruled (moored w i s) = ruled_moored w b i s r e (learn_machine w r b k (state_at w i) q h) (subst (λ (x : BoatState). x.answered ≡ true → x.standing.floor ≤ heard_of w b) q (r.answered b)) (omega (arith, ap (λ (x : BoatState). x.standing.level) q)) (omega (arith, ap (λ (x : BoatState). x.used) q)) in
    let p : boat_of (moored w i s) b ≡ s = boat_moored w b i s e b ∙ put_here b s (boat_of w) in
    ruled_noticed (moored w i s) _ m (answers (abs m.crew (moored w i s)) b (max (state_at w i).standing.level k) (omega (arith, ap (λ (x : BoatState). x.standing.level) p)))

-- the ledger is another, which knows of each boat no less, and of the same boats
ruled_booked : (w : World) (x : Book) (r : Ruled w) → ((j : ℕ) → is_some (floor_of j x.list) ≡ is_some (floor_of j w.harbour.list)) → ((j : ℕ) → heard_of w j ≤ heard_of (booked w x) j) → fleet.Reach numbers (abs r.crew (booked w x)) → ascending x.list ≡ true → Ruled (booked w x)
ruled_booked w x r same up reached sorted =
    record {
      crew = r.crew;
      on = λ j at. same j ∙ r.on j at;
      all = λ j on. r.all j (sym (same j) ∙ on);
      reach = reached;
      answered = λ j a. omega (arith, r.answered j a, up j);
      spoke = r.spoke;
      paired = r.paired;
      there = λ j on. r.there j (sym (same j) ∙ on);
      sorted = sorted;
    }

-- the harbour hears a promise of a boat of its list
module _ (w : World) (b f : ℕ) where
  abbrev noted : Book
  noted = record { list = heard b f w.harbour.list; said = w.harbour.said }

  same_boats : (j : ℕ) → is_some (floor_of j noted.list) ≡ is_some (floor_of j w.harbour.list)
  same_boats j = ap is_some (floor_heard j b f w.harbour.list) ∙ go (eqb j b) (floor_of j w.harbour.list)
    where
      go : (t : Bool) (o : Option ℕ) → is_some (cond t (raised_by f o) o) ≡ is_some o
      go true None = refl
      go true (Some x) = refl
      go false o = refl

  heard_put : (g : ℕ) → floor_of b w.harbour.list ≡ Some g → (j : ℕ) → heard_of (booked w noted) j ≡ put b (higher (heard_of w b) f) (heard_of w) j
  heard_put g e j =
      let V : Option ℕ → ℕ = λ o. unwrap_or o 1 in
      ap V (floor_heard j b f w.harbour.list) ∙ elim (cases_Bool (eqb j b)) [
        | inl t ↦ ap V (cond-true _ _ _ t) ∙ ap (λ n. V (raised_by f (floor_of n w.harbour.list))) (eqb-true j b t) ∙ ap (λ o. V (raised_by f o)) e ∙ higher_max g f ∙ ap (λ o. higher (V o) f) (sym e) ∙ sym (cond-true _ _ _ t)
        | inr t ↦ ap V (cond-false _ _ _ t) ∙ sym (cond-false _ _ _ t)
      ]

  ruled_noted : (g : ℕ) (r : Ruled w) → floor_of b w.harbour.list ≡ Some g → f ≤ (boat_of w b).standing.floor → Ruled (booked w noted)
  ruled_noted g r e h =
      let F : (ℕ → ℕ) → fleet.World ℕ = λ m. record { machine = (abs r.crew w).machine; listed = r.crew; heard = m; said = w.harbour.said; words = (abs r.crew w).words; notices = (abs r.crew w).notices } in
      let same : abs r.crew (booked w noted) ≡ fleet.heard_of numbers (abs r.crew w) b f = ap F (fun_ext (heard_put g e)) in
      let s : Step numbers (abs r.crew w) (fleet.heard_of numbers (abs r.crew w) b f) = hears (abs r.crew w) b f h in
      let up = promises_of_numbers.grows (abs r.crew w) (fleet.heard_of numbers (abs r.crew w) b f) (next now s) in
      ruled_booked w noted r same_boats (λ j. omega (arith, up.heard j, heard_put g e j)) (subst (fleet.Reach numbers) (sym same) (fleet.then r.reach s)) (ascending_heard b f w.harbour.list ∙ r.sorted)

  made_confirmed : (o : Option ℕ) (r : Ruled w) → floor_of b w.harbour.list ≡ o → f ≤ (boat_of w b).standing.floor → Made Ruled (confirmed w b (answering w.harbour b f o))
  made_confirmed None r e h = tt
  made_confirmed (Some g) r e h =
      let m : Ruled (booked w noted) = ruled_noted g r e h in
      let top : heard_of (booked w noted) b ≡ higher (heard_of w b) f = heard_put g e b ∙ put_here b (higher (heard_of w b) f) (heard_of w) in
      let was : heard_of w b ≡ g = ap (λ o. unwrap_or o 1) e in
      ruled_noticed (booked w noted) (Heard (record { 0 = b }) (record { 0 = max g f })) m (confirms (abs m.crew (booked w noted)) b (max g f) (omega (arith, top, was, higher_max (heard_of w b) f)))

pub made_hearing_notice : (w : World) (n : Notice) → Ruled w → Memᴰ n w.notices → Made Ruled (spec.hearing_notice w n)
made_hearing_notice w (Promised b f) r at = made_confirmed w b.0 f.0 (floor_of b.0 w.harbour.list) r refl (backed w r (Promised b f) at)
made_hearing_notice w (Heard b f) r at =
    made_at Ruled (place_of w b.0) (λ i. Ok (moored w i (assured (state_at w i) f.0))) (λ i e. ruled_assured w b.0 i f.0 (state_at w i) r e (boat_is_lem w b.0 i e) (backed w r (Heard b f) at))
made_hearing_notice w (Allowed b k) r at = made_at Ruled (place_of w b.0) (λ i. Ok (learned w i b.0 k.0)) (λ i e. ruled_learned w b.0 i k.0 r e (backed w r (Allowed b k) at))
made_hearing_notice w (Taken b k) r at = made_if Ruled (is_some (floor_of b.0 w.harbour.list)) w (Number 5) (λ _. r)

-- a level that was said is told to each
ruled_told : (k : ℕ) (es : List Entry) (w : World) → Ruled w → k ≤ w.harbour.said → Ruled (record { boats = w.boats; logs = w.logs; harbour = w.harbour; words = w.words; notices = w.notices ++ to_each k es })
ruled_told k [] w r h =
    let F : List Notice → World = λ ns. record { boats = w.boats; logs = w.logs; harbour = w.harbour; words = w.words; notices = ns } in
    subst Ruled (ap F (sym (append-nil w.notices))) r
ruled_told k (e ∷ es) w r h =
    let F : List Notice → World = λ ns. record { boats = w.boats; logs = w.logs; harbour = w.harbour; words = w.words; notices = ns } in
    subst Ruled (ap F (append_assoc w.notices (allowing k e ∷ []) (to_each k es))) (ruled_told k es (noticed w (allowing k e)) (ruled_noticed w (allowing k e) r (announces (abs r.crew w) k h)) h)

-- the harbour says a level that nobody on its list lacks
ruled_said : (w : World) (k : ℕ) (r : Ruled w) → lacking k w.harbour.list ≡ None → Ruled (booked w (record { list = w.harbour.list; said = max w.harbour.said k }))
ruled_said w k r n =
    let x : Book = record { list = w.harbour.list; said = max w.harbour.said k } in
    let F : ℕ → fleet.World ℕ = λ s. record { machine = (abs r.crew w).machine; listed = r.crew; heard = heard_of w; said = s; words = (abs r.crew w).words; notices = (abs r.crew w).notices } in
    ruled_booked w x r (λ j. refl) (λ j. omega arith) (subst (λ (s : ℕ). fleet.Reach numbers (F s)) (sym (higher_max w.harbour.said k)) (fleet.then r.reach (decides (abs r.crew w) k (λ j at. promised j (some_is (floor_of j w.harbour.list) (r.on j at)))))) r.sorted
  where
    promised : (j : ℕ) → ((f : ℕ) × (floor_of j w.harbour.list ≡ Some f)) → k ≤ heard_of w j
    promised j p = omega (arith, none_lacks k j p.0 w.harbour.list n p.1, ap (λ o. unwrap_or o 1) p.1)

pub made_announcing : (w : World) (k : ℕ) → Ruled w → Made Ruled (spec.announcing w k)
made_announcing w k r =
    let P : Result Book Verdict → Type 0 = λ x. Made Ruled (spec.announced w k x) in
    let x : Book = record { list = w.harbour.list; said = max w.harbour.said k } in
    cond_both (eqb k 0) (Err Bad) (cond (unpromised k w.harbour.list) (Err (Number 4)) (Ok x)) P (λ _. tt)
    (λ _. cond_both (unpromised k w.harbour.list) (Err (Number 4)) (Ok x) P (λ _. tt)
    (λ t. ruled_told k w.harbour.list (booked w x) (ruled_said w k r (none_is (lacking k w.harbour.list) (right (ltb 1 k && eqb (length w.harbour.list) 0) (is_some (lacking k w.harbour.list)) t))) (omega arith)))
  where
    right : (a b : Bool) → a || b ≡ false → b ≡ false
    right true b h = let z : ◌≡◌ {A = ℕ} 0 1 = cc in absurd (omega arith)
    right false b h = h

-- a boat more on the list, while no level above 1 was said
module _ (w : World) (b : ℕ) (none : floor_of b w.harbour.list ≡ None) where
  abbrev more : Book
  more = record { list = entered b w.harbour.list; said = w.harbour.said }

  heard_same : (j : ℕ) → heard_of (booked w more) j ≡ heard_of w j
  heard_same j =
      let V : Option ℕ → ℕ = λ o. unwrap_or o 1 in
      ap V (floor_entered j b w.harbour.list) ∙ elim (cases_Bool (eqb b j)) [
        | inl t ↦ ap V (cond-true _ _ _ t) ∙ sym (ap (λ n. V (floor_of n w.harbour.list)) (sym (eqb-true b j t)) ∙ ap V none)
        | inr t ↦ ap V (cond-false _ _ _ t)
      ]

  ruled_more : (i : ℕ) (r : Ruled w) → place_of w b ≡ Some i → w.harbour.said ≤ 1 → Ruled (booked w more)
  ruled_more i r here h =
      let F : (ℕ → ℕ) → fleet.World ℕ = λ m. record { machine = (abs r.crew w).machine; listed = b ∷ r.crew; heard = m; said = w.harbour.said; words = (abs r.crew w).words; notices = (abs r.crew w).notices } in
      let s : Step numbers (abs r.crew w) (fleet.enlisted (abs r.crew w) b) = lists (abs r.crew w) b (omega (arith, ap (λ o. unwrap_or o 1) none)) in
      record {
        crew = b ∷ r.crew;
        on = λ j at. ap is_some (floor_entered j b w.harbour.list) ∙ onto j (Memᴰ.cases_cons at) (r.on j);
        all = λ j on. off j (sym (ap is_some (floor_entered j b w.harbour.list)) ∙ on) (r.all j);
        reach = subst (fleet.Reach numbers) (sym (ap F (fun_ext heard_same))) (fleet.then r.reach s);
        answered = λ j a. omega (arith, r.answered j a, heard_same j);
        spoke = r.spoke;
        paired = r.paired;
        there = λ j on. somewhere j (sym (ap is_some (floor_entered j b w.harbour.list)) ∙ on) (r.there j);
        sorted = ascending_entered b w.harbour.list none r.sorted;
      }
    where
      somewhere : (j : ℕ) → is_some (cond (eqb b j) (Some 1) (floor_of j w.harbour.list)) ≡ true → (is_some (floor_of j w.harbour.list) ≡ true → is_some (place_of w j) ≡ true) → is_some (place_of w j) ≡ true
      somewhere j h f = elim (cases_Bool (eqb b j)) [
        | inl t ↦ ap (λ n. is_some (place_of w n)) (sym (eqb-true b j t)) ∙ ap is_some here
        | inr t ↦ f (sym (ap is_some (cond-false (eqb b j) (Some 1) (floor_of j w.harbour.list) t)) ∙ h)
      ]

      onto : (j : ℕ) {crew : List ℕ} → (j ≡ b) ⊎ Memᴰ j crew → (Memᴰ j crew → is_some (floor_of j w.harbour.list) ≡ true) → is_some (cond (eqb b j) (Some 1) (floor_of j w.harbour.list)) ≡ true
      onto j (inl e) f = ap is_some (cond-true (eqb b j) (Some 1) (floor_of j w.harbour.list) (eq-eqb b j (sym e)))
      onto j (inr m) f = cond_both (eqb b j) (Some 1) (floor_of j w.harbour.list) (λ o. is_some o ≡ true) (λ _. refl) (λ _. f m)

      off : (j : ℕ) {crew : List ℕ} → is_some (cond (eqb b j) (Some 1) (floor_of j w.harbour.list)) ≡ true → (is_some (floor_of j w.harbour.list) ≡ true → Memᴰ j crew) → Memᴰ j (b ∷ crew)
      off j h f = elim (cases_Bool (eqb b j)) [
        | inl t ↦ Memᴰ.head (sym (eqb-true b j t))
        | inr t ↦ Memᴰ.tail (f (sym (ap is_some (cond-false (eqb b j) (Some 1) (floor_of j w.harbour.list) t)) ∙ h))
      ]

pub made_enlisting : (w : World) (b : ℕ) → Ruled w → Made Ruled (spec.enlisting w b)
made_enlisting w b r = made_at Ruled (place_of w b) (λ i. spec.enlisted w (listing w.harbour b)) (λ i e. go i e)
  where
    go : (i : ℕ) → place_of w b ≡ Some i → Made Ruled (spec.enlisted w (listing w.harbour b))
    go i e =
        let P : Result Book Verdict → Type 0 = λ x. Made Ruled (spec.enlisted w x) in
        let full : Result Book Verdict = cond (leb 4096 (length w.harbour.list)) (Err (Number 6)) (Ok (record { list = entered b w.harbour.list; said = w.harbour.said })) in
        let said : Result Book Verdict = cond (ltb 1 w.harbour.said) (Err (Number 4)) full in
        cond_both (eqb b 0) (Err Bad) (cond (is_some (floor_of b w.harbour.list)) (Ok w.harbour) said) P (λ _. tt)
        (λ _. cond_both (is_some (floor_of b w.harbour.list)) (Ok w.harbour) said P (λ _. r)
        (λ t. cond_both (ltb 1 w.harbour.said) (Err (Number 4)) full P (λ _. tt)
        (λ u. cond_both (leb 4096 (length w.harbour.list)) (Err (Number 6)) (Ok (record { list = entered b w.harbour.list; said = w.harbour.said })) P (λ _. tt)
        (λ _. ruled_more w b (none_is (floor_of b w.harbour.list) t) i r e (ltb-false 1 w.harbour.said u)))))
