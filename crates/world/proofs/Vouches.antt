-- A boat vouches for a level: what it says comes to the harbour, and the answer to it.
-- Assumes nothing.
use Rattle.std.proofs.Common.{◌≡◌, ℕ, ◌+◌, ◌<◌, ◌≤◌, max, true, false, cond, ◌&&◌, eqb, ltb, ◌⊎◌, List, [], ◌∷◌, ◌++◌, length, get_or, is_ok, Some, Ok, Err, Result, unwrap_or, sym, refl, ap, ◌∙◌, subst, inl, inr, arith, length-append}
use Rattle.std.proofs.lemmas.List.{get_or_at}
use Rattle.std.proofs.lemmas.Bool.{ltb-true, ltb-false, lt-ltb, eq-eqb, ne_eqb, cond-true, cond-false, cond_both, cases_Bool}
use Rattle.levels.specs.declared.numbers.BoatId.{BoatId}
use Rattle.levels.specs.Verdicts.{Verdict, Bad}
use Rattle.ledger.specs.Entries.{floor_of, heard}
use Rattle.ledger.specs.Ledgers.{Book, answering}
use Rattle.protocol.proofs.Puts.{put_each, put_here}
use Rattle.world.specs.declared.messages.Notice.{Notice}
use Rattle.world.specs.declared.messages.Notice.TheVariants.{Heard}
use Rattle.world.specs.declared.events.Event.{Event}
use Rattle.world.specs.declared.events.Event.TheVariants.{Promise, Tick, BringNotice}
use Rattle.world.specs.Worlds.{World, BoatState, at, place_of, state_at, moored, noticed, booked, telling, tells, vowed, assured, confirmed, no_notice, hearing_notice, play}
use Rattle.world.specs.Abstract.{boat_of, heard_of}
use Rattle.world.specs.Promises.{after, plays}
use Rattle.ledger.specs.Entries.{numbers_of}
use Rattle.world.specs.Rising.{vouch, taken}
use Rattle.world.proofs.Abs.{place_moored, boat_moored}
use Rattle.ledger.proofs.Books.{raised_by, floor_heard, numbers_heard}
use Rattle.world.proofs.Ruled.{Ruled, Made, boat_is_lem}
use Rattle.world.proofs.Kept.{made_play, promises}

-- events that are all taken make u of w
pub record Did (w : World) (es : List Event) (u : World) : Type 0 where
  pub took : taken w es ≡ true
  pub comes : plays w es ≡ u

pub did_none : (w : World) → Did w [] w
did_none w = record { took = refl; comes = refl }

pub did_next : (w v u : World) (e : Event) (es : List Event) → play w e ≡ Ok v → Did v es u → Did w (e ∷ es) u
did_next w v u e es p d =
    record {
      took = ap (λ (x : Result World Verdict). is_ok x && taken (after w x) es) p ∙ d.took;
      comes = ap (λ (x : Result World Verdict). plays (after w x) es) p ∙ d.comes;
    }

pub did_then : (w v u : World) (es fs : List Event) → Did w es v → Did v fs u → Did w (es ++ fs) u
did_then w v u [] fs d f = subst (λ (x : World). Did x fs u) (sym d.comes) f
did_then w v u (e ∷ es) fs d f = go (play w e) refl d (λ x p q. did_then x v u es fs q f)
  where
    go : (x : Result World Verdict) → play w e ≡ x → Did w (e ∷ es) v → ((y : World) → play w e ≡ Ok y → Did y es v → Did y (es ++ fs) u) → Did w (e ∷ (es ++ fs)) u
    go (Ok y) p c r =
        did_next w y u e (es ++ fs) p
        (r y p (record { took = sym (ap (λ (x : Result World Verdict). is_ok x && taken (after w x) es) p) ∙ c.took; comes = sym (ap (λ (x : Result World Verdict). plays (after w x) es) p) ∙ c.comes }))
    go (Err z) p c r = absurd (never (sym (ap (λ (x : Result World Verdict). is_ok x && taken (after w x) es) p) ∙ c.took))
      where
        never : false ≡ true → ⊥
        never h = let o : ◌≡◌ {A = ℕ} 0 1 = cc in omega arith

pub ruled_ok : (w v : World) (e : Event) → Ruled w → play w e ≡ Ok v → Ruled v
ruled_ok w v e r p = subst (Made Ruled) p (made_play w e r)

-- the boats run what they ran, who had promised k has promised nothing else, and the same boats are on the list
abbrev pub Like : ℕ → BoatState → BoatState → Type 0
Like k x y = (y.standing.program ≡ x.standing.program) × (k ≤ x.standing.floor → y.standing.floor ≡ x.standing.floor)

pub record Keeps (k : ℕ) (w v : World) : Type 0 where
  pub boats : (j : ℕ) → Like k (boat_of w j) (boat_of v j)
  pub listed : numbers_of v.harbour.list ≡ numbers_of w.harbour.list

pub keeps_same : (k : ℕ) (w : World) → Keeps k w w
keeps_same k w = record { boats = λ j. (refl, λ h. refl); listed = refl }

pub keeps_moored : (k : ℕ) (w v : World) (b i : ℕ) (s : BoatState) → Keeps k w v → place_of v b ≡ Some i → Like k (boat_of w b) s → Keeps k w (moored v i s)
keeps_moored k w v b i s p e l =
    record {
      boats = λ j. subst (Like k (boat_of w j)) (sym (boat_moored v b i s e j)) (put_each (λ n. Like k (boat_of w n)) b s (boat_of v) l p.boats j);
      listed = p.listed;
    }

-- the boat at a place as it was at first
pub like_at : (k : ℕ) (w v : World) (b i : ℕ) → Keeps k w v → place_of v b ≡ Some i → Like k (boat_of w b) (state_at v i)
like_at k w v b i p e = subst (Like k (boat_of w b)) (boat_is_lem v b i e) (p.boats b)

-- a boat that is another, and the rest
pub boat_here : (v : World) (b i : ℕ) (s : BoatState) → place_of v b ≡ Some i → boat_of (moored v i s) b ≡ s
boat_here v b i s e = boat_moored v b i s e b ∙ put_here b s (boat_of v)

pub boat_apart : (v : World) (b i : ℕ) (s : BoatState) (j : ℕ) → place_of v b ≡ Some i → (j ≡ b → ⊥) → boat_of (moored v i s) j ≡ boat_of v j
boat_apart v b i s j e d = boat_moored v b i s e j ∙ cond-false (eqb j b) s (boat_of v j) (ne_eqb j b d)

-- the notice with a number comes
pub brings : (w : World) (xs ys : List Notice) (x : Notice) (n : ℕ) → w.notices ≡ xs ++ x ∷ ys → length xs ≡ n → play w (BringNotice n) ≡ hearing_notice w x
brings w xs ys x n e l =
    let m : length w.notices ≡ length xs + length (x ∷ ys) = ap length e ∙ length-append xs (x ∷ ys) in
    let lt : n < length w.notices = omega arith in
    cond-true (ltb n (length w.notices)) (hearing_notice w (get_or w.notices n no_notice)) (Err Bad) (lt-ltb n (length w.notices) lt)
    ∙ ap (λ i. hearing_notice w (get_or w.notices i no_notice)) (sym l) ∙ ap (λ ns. hearing_notice w (get_or ns (length xs) no_notice)) e ∙ ap (hearing_notice w) (get_or_at xs x ys no_notice (length xs) refl)

-- a boat tells a floor of at least k; x is the world but for that notice
pub record Vow (k : ℕ) (w v x : World) (b : BoatId) (i f : ℕ) (e : Event) : Type 0 where
  pub does : play v e ≡ Ok (noticed x (telling b.0 f))
  pub keeps : Keeps k w x
  pub place : place_of x b.0 ≡ Some i
  pub book : x.harbour ≡ v.harbour
  pub sent : x.notices ≡ v.notices
  pub enough : k ≤ f

vow_promise : (k : ℕ) (w v : World) (b : BoatId) (i : ℕ) → Keeps k w v → place_of v b.0 ≡ Some i → k ≤ (boat_of w b.0).standing.program → (boat_of w b.0).standing.floor < k → Vow k w v (moored v i (vowed (state_at v i))) b i (state_at v i).standing.program (Promise b)
vow_promise k w v b i p e new low =
    let l : Like k (boat_of w b.0) (state_at v i) = like_at k w v b.0 i p e in
    record {
      does = ap (λ o. at o (λ n. Ok (noticed (moored v n (vowed (state_at v n))) (telling b.0 (state_at v n).standing.program)))) e;
      keeps = keeps_moored k w v b.0 i (vowed (state_at v i)) p e (l.0, λ h. absurd (omega arith));
      place = place_moored v i (vowed (state_at v i)) b.0 ∙ e;
      book = refl;
      sent = refl;
      enough = omega (arith, l.0);
    }

vow_tick : (k : ℕ) (w v : World) (b : BoatId) (i : ℕ) → Ruled v → Keeps k w v → place_of v b.0 ≡ Some i → heard_of v b.0 < k → k ≤ (boat_of w b.0).standing.floor → Vow k w v v b i (state_at v i).standing.floor (Tick b)
vow_tick k w v b i r p e low high =
    let l : Like k (boat_of w b.0) (state_at v i) = like_at k w v b.0 i p e in
    let f : (state_at v i).standing.floor ≡ (boat_of w b.0).standing.floor = l.1 high in
    record {
      does = ap (λ o. at o (λ n. Ok (cond (tells (state_at v n)) (noticed v (telling b.0 (state_at v n).standing.floor)) v))) e ∙ ap Ok (cond-true (tells (state_at v i)) _ v (loud f (cases_Bool (tells (state_at v i)))));
      keeps = p;
      place = e;
      book = refl;
      sent = refl;
      enough = omega (arith, f);
    }
  where
    same : boat_of v b.0 ≡ state_at v i
    same = boat_is_lem v b.0 i e

    loud : (state_at v i).standing.floor ≡ (boat_of w b.0).standing.floor → (tells (state_at v i) ≡ true) ⊎ (tells (state_at v i) ≡ false) → tells (state_at v i) ≡ true
    loud f (inl t) = t
    loud f (inr t) = absurd (omega (arith, (promises v r).silent b.0 (ap tells same ∙ t), ap (λ (s : BoatState). s.standing.floor) same))

vow : (k : ℕ) (w v : World) (b : BoatId) (i : ℕ) → Ruled v → Keeps k w v → place_of v b.0 ≡ Some i → k ≤ (boat_of w b.0).standing.program → heard_of v b.0 < k → (x : World) × (f : ℕ) × Vow k w v x b i f (vouch w k b)
vow k w v b i r p e new low =
    cond_both (ltb (boat_of w b.0).standing.floor k) (Promise b) (Tick b) (λ ev. (x : World) × (f : ℕ) × Vow k w v x b i f ev)
    (λ t. (moored v i (vowed (state_at v i)), (state_at v i).standing.program, vow_promise k w v b i p e new (ltb-true (boat_of w b.0).standing.floor k t)))
    (λ t. (v, (state_at v i).standing.floor, vow_tick k w v b i r p e low (ltb-false (boat_of w b.0).standing.floor k t)))

-- after its three events: the harbour knows enough of the boat, and of the others what it knew
pub record Vouched (k : ℕ) (w v : World) (b : BoatId) (n : ℕ) (u : World) : Type 0 where
  pub on : (es : List Event) (t : World) → Did u es t → Did v (vouch w k b ∷ BringNotice n ∷ BringNotice (n + 1) ∷ es) t
  pub ruled : Ruled u
  pub keeps : Keeps k w u
  pub sent : length u.notices ≡ n + 2
  pub here : k ≤ heard_of u b.0
  pub apart : (j : ℕ) → (j ≡ b.0 → ⊥) → floor_of j u.harbour.list ≡ floor_of j v.harbour.list

module _ (k : ℕ) (w v x : World) (b : BoatId) (i f g n : ℕ) where
  -- the boat has told; the harbour has heard it; the boat has its answer
  abbrev told : World
  told = noticed x (telling b.0 f)

  abbrev answer : Notice
  answer = Heard (record { 0 = b.0 }) (record { 0 = max g f })

  abbrev noted : World
  noted = noticed (booked told (record { list = heard b.0 f x.harbour.list; said = x.harbour.said })) answer

  abbrev sure : World
  sure = moored noted i (assured (state_at noted i) (max g f))

  hears : Vow k w v x b i f (vouch w k b) → floor_of b.0 v.harbour.list ≡ Some g → length v.notices ≡ n → play told (BringNotice n) ≡ Ok noted
  hears o e l =
      brings told x.notices [] (telling b.0 f) n refl (ap length o.sent ∙ l)
      ∙ ap (λ q. confirmed told b.0 (answering x.harbour b.0 f q)) (ap (λ (h : Book). floor_of b.0 h.list) o.book ∙ e)

  learns : Vow k w v x b i f (vouch w k b) → length v.notices ≡ n → play noted (BringNotice (n + 1)) ≡ Ok sure
  learns o l =
      brings noted (x.notices ++ telling b.0 f ∷ []) [] answer (n + 1) refl (length-append x.notices (telling b.0 f ∷ []) ∙ ap (λ m. m + 1) (ap length o.sent ∙ l))
      ∙ ap (λ q. at q (λ m. Ok (moored noted m (assured (state_at noted m) (max g f))))) o.place

  floors : Vow k w v x b i f (vouch w k b) → (j : ℕ) → floor_of j sure.harbour.list ≡ cond (eqb j b.0) (raised_by f (floor_of j v.harbour.list)) (floor_of j v.harbour.list)
  floors o j = floor_heard j b.0 f x.harbour.list ∙ ap (λ (h : Book). cond (eqb j b.0) (raised_by f (floor_of j h.list)) (floor_of j h.list)) o.book

  keeps_sure : Vow k w v x b i f (vouch w k b) → Keeps k w sure
  keeps_sure o =
      let p : Keeps k w noted = record { boats = o.keeps.boats; listed = numbers_heard b.0 f x.harbour.list ∙ o.keeps.listed } in
      keeps_moored k w noted b.0 i (assured (state_at noted i) (max g f)) p o.place (like_at k w noted b.0 i p o.place)

  vouched : Ruled v → Vow k w v x b i f (vouch w k b) → floor_of b.0 v.harbour.list ≡ Some g → length v.notices ≡ n → Vouched k w v b n sure
  vouched r o e l =
      let top : heard_of sure b.0 ≡ max g f = ap (λ q. unwrap_or q 1) (floors o b.0 ∙ cond-true (eqb b.0 b.0) _ _ (eq-eqb b.0 b.0 refl) ∙ ap (raised_by f) e) in
      record {
        on = λ es t d. did_next v told t (vouch w k b) _ o.does (did_next told noted t (BringNotice n) _ (hears o e l) (did_next noted sure t (BringNotice (n + 1)) es (learns o l) d));
        ruled = ruled_ok noted sure (BringNotice (n + 1)) (ruled_ok told noted (BringNotice n) (ruled_ok v told (vouch w k b) r o.does) (hears o e l)) (learns o l);
        keeps = keeps_sure o;
        sent = omega (arith, length-append told.notices (answer ∷ []), length-append x.notices (telling b.0 f ∷ []), ap length o.sent, l);
        here = omega (arith, top, o.enough);
        apart = λ j d. floors o j ∙ cond-false (eqb j b.0) _ _ (ne_eqb j b.0 d);
      }

pub vouches : (k : ℕ) (w v : World) (b : BoatId) (i g n : ℕ) → Ruled v → Keeps k w v → place_of v b.0 ≡ Some i → k ≤ (boat_of w b.0).standing.program → floor_of b.0 v.harbour.list ≡ Some g → g < k → length v.notices ≡ n → (u : World) × Vouched k w v b n u
vouches k w v b i g n r p e new has low l =
    let h : heard_of v b.0 ≡ g = ap (λ o. unwrap_or o 1) has in
    let o : (x : World) × (f : ℕ) × Vow k w v x b i f (vouch w k b) = vow k w v b i r p e new (omega arith) in
    (sure k w v o.0 b i o.1 g n, vouched k w v o.0 b i o.1 g n r o.2 has l)
