-- Whatever the harbour does keeps the invariant.
-- Assumes nothing.
use Rattle.std.proofs.Common.{◌≡◌, ℕ, suc, ◌<◌, ◌≤◌, max, Bool, true, false, cond, ◌&&◌, ◌||◌, eqb, ltb, leb, List, [], ◌∷◌, map, length, is_some, Some, None, Ok, Err, Option, Result, unwrap_or, sym, refl, ap, ◌∙◌, subst, inl, inr, arith}
use Rattle.std.proofs.lemmas.Bool.{cond_both, cond-true, cond-false, eq-eqb, eqb-true, ltb-false, le-leb, leb-false, true≢false, cases_Bool}
use Rattle.std.proofs.lemmas.Bool.Decides.{nat_tests}
use Rattle.levels.specs.Verdicts.{Verdict, Number, Bad}
use Rattle.ledger.specs.Entries.{Entry, entry, floor_of, entered, heard, admitted, lacking}
use Rattle.ledger.specs.Ledgers as ledger
use Rattle.ledger.specs.Ledgers.{Book, answering, unpromised}
use Rattle.ledger.proofs.Books.{none_is, none_lacks}
use Rattle.messages.specs.Messages.{Telling, word, promise, heard as heard_is, level, has_it, Letter, notice}
use Rattle.records.specs.Records.{Written, level_is, boat_is}
use Rattle.stations.specs.Journals as journal
use Rattle.stations.specs.Deeds.{deed, nothing}
use Rattle.stations.specs.Harbours as harbours
use Rattle.stations.specs.Harbours.{listed, confirmed, acknowledged, announced, allowing, recalled}
use Rattle.runs.specs.declared.events.Fate.{Fate}
use Rattle.runs.specs.Worlds.{World, there, writes, harbour_does, what_harbour, aboard, reopened}
use Rattle.runs.specs.Promises.{safe, safe_port, whole_port, Listed, heard_of}
use Rattle.runs.proofs.Parts.{Lawful, Each}
use Rattle.runs.proofs.Fates.{syncs, quiet}
use Rattle.runs.proofs.Lists.{heard_both, heard_here, heard_least, listed_some, listed_apart}
use Rattle.runs.proofs.Holds.{PortLaw, Ashore, Told, Sound, Calls, Moves, harbour_moves, Made}

pub aboard_made : {A : Type 0} (w : World) (o : Option A) (k : A → Result World Verdict) → ((m : A) → o ≡ Some m → Made w (k m)) → Made w (aboard o k)
aboard_made w None k h = tt
aboard_made w (Some m) k h = h m refl

-- lists
heard_entered : (b : ℕ) (es : List Entry) → floor_of b es ≡ None → heard b 1 (entered b es) ≡ entered b es
heard_entered b [] h = cond-true (eqb b b) (entry b 1 ∷ []) (entry b 1 ∷ []) (eq-eqb b b refl)
heard_entered b (e ∷ es) h =
    cond_both (ltb e.boat.0 b) (e ∷ entered b es) (entry b 1 ∷ e ∷ es) (λ xs. heard b 1 xs ≡ xs)
    (λ t. let d : eqb e.boat.0 b ≡ false = grind (arith, nat_tests) in
    let none : floor_of b es ≡ None = sym (cond-false (eqb e.boat.0 b) (Some e.floor.0) (floor_of b es) d) ∙ h in
    cond-false (eqb e.boat.0 b) (entry e.boat.0 (max e.floor.0 1) ∷ entered b es) (e ∷ heard b 1 (entered b es)) d ∙ ap (λ xs. e ∷ xs) (heard_entered b es none))
    (λ t. cond-true (eqb b b) (entry b 1 ∷ e ∷ es) (entry b 1 ∷ heard b 1 (e ∷ es)) (eq-eqb b b refl))

heard_known : (b f g : ℕ) (es : List Entry) → floor_of b es ≡ Some g → f ≤ g → heard b f es ≡ es
heard_known b f g [] e l = refl
heard_known b f g (x ∷ es) e l = go (eqb x.boat.0 b) e (heard_known b f g es)
  where
    go : (t : Bool) → cond t (Some x.floor.0) (floor_of b es) ≡ Some g → (floor_of b es ≡ Some g → f ≤ g → heard b f es ≡ es) → cond t (entry x.boat.0 (max x.floor.0 f) ∷ es) (x ∷ heard b f es) ≡ x ∷ es
    go true q r =
        let s : x.floor.0 ≡ g = cc in
        let m : max x.floor.0 f ≡ x.floor.0 = omega arith in
        ap (λ n. entry x.boat.0 n ∷ es) m
    go false q r = ap (λ xs. x ∷ xs) (r q l)

length_heard : (b f : ℕ) (es : List Entry) → length (heard b f es) ≡ length es
length_heard b f [] = refl
length_heard b f (x ∷ es) =
    cond_both (eqb x.boat.0 b) (entry x.boat.0 (max x.floor.0 f) ∷ es) (x ∷ heard b f es) (λ xs. length xs ≡ length (x ∷ es)) (λ t. omega arith) (λ t. omega (arith, length_heard b f es))

length_entered : (b : ℕ) (es : List Entry) → length (entered b es) ≡ suc (length es)
length_entered b [] = omega arith
length_entered b (x ∷ es) =
    cond_both (ltb x.boat.0 b) (x ∷ entered b es) (entry b 1 ∷ x ∷ es) (λ xs. length xs ≡ suc (length (x ∷ es))) (λ t. omega (arith, length_entered b es)) (λ t. omega arith)

-- a boat that is on the list, and one that is not
admitted_on : (b : ℕ) (es : List Entry) → is_some (floor_of b es) ≡ true → admitted b es ≡ es
admitted_on b es t = cond-true (is_some (floor_of b es)) es (entered b es) t

admitted_off : (b : ℕ) (es : List Entry) → is_some (floor_of b es) ≡ false → admitted b es ≡ entered b es
admitted_off b es t = cond-false (is_some (floor_of b es)) es (entered b es) t

pub lawful_size : (rs : List Written) → Lawful PortLaw rs → length (journal.boats rs) ≤ 4096
lawful_size [] h = omega arith
lawful_size (r ∷ rs) h = h.0.1

-- the harbour runs, and knows x
module _ (w : World) (sd : Sound w) (x : Book) (up : w.harbour.running ≡ Some x) where
  rs : List Written
  rs = whole_port w

  here : Ashore w.harbour (Some x)
  here = subst (Ashore w.harbour) up sd.ledger.runs

  list_is : x.list ≡ journal.boats (whole_port w)
  list_is = ap (λ (y : Book). y.list) here.0

  said_is : x.said ≡ journal.level (whole_port w)
  said_is = ap (λ (y : Book). y.said) here.0

  -- nothing is written
  quiet_call : (y : Book) (ls : List Letter) → y ≡ x → ((h : List Written) → h ≡ whole_port w → Each (Told (safe w) h) ls) → Calls w false (deed [] ls, y)
  quiet_call y ls e t = record { kind = quiet here.1; law = sd.ledger.law; there = sd.ledger.there; heard = sd.ledger.heard; recalls = e ∙ here.0; told = t }

  -- one record is written
  one_call : (r : Written) (y : Book) (ls : List Letter) → PortLaw r (whole_port w) → ((j : ℕ) → Listed (r ∷ whole_port w) j → there w j ≡ true) → ((j : ℕ) → heard_of (r ∷ whole_port w) j ≤ journal.floor (safe w j)) → y ≡ recalled (r ∷ whole_port w) → ((h : List Written) → h ≡ r ∷ whole_port w → Each (Told (safe w) h) ls) → Calls w true (deed (r ∷ []) ls, y)
  one_call r y ls l th h e t = record { kind = syncs (r ∷ []); law = (l, sd.ledger.law); there = th; heard = h; recalls = e; told = t }

  pub rest_call : Calls w false (nothing, x)
  rest_call = quiet_call x [] refl (λ h e. tt)

  -- boats of the list are there
  boat_there : (b f : ℕ) → there w b ≡ true → (j : ℕ) → Listed (boat_is b f ∷ whole_port w) j → there w j ≡ true
  boat_there b f tb j l = elim (cases_Bool (eqb b j)) [ inl t ↦ subst (λ (i : ℕ). there w i ≡ true) (eqb-true b j t) tb | inr t ↦ sd.ledger.there j (listed_apart j b f (whole_port w) t l) ]

  known_there : (b g : ℕ) → floor_of b x.list ≡ Some g → there w b ≡ true
  known_there b g e = sd.ledger.there b (sym (ap (λ (es : List Entry). is_some (floor_of b es)) list_is) ∙ ap is_some e)

  -- a boat is listed
  fresh_book : (b : ℕ) → is_some (floor_of b x.list) ≡ false → record { list = entered b x.list; said = x.said } ≡ recalled (boat_is b 1 ∷ whole_port w)
  fresh_book b t =
      let F : List Entry → ℕ → Book = λ es k. record { list = es; said = k } in
      let off : is_some (floor_of b (journal.boats (whole_port w))) ≡ false = subst (λ (es : List Entry). is_some (floor_of b es) ≡ false) list_is t in
      let es : List Entry = journal.boats (whole_port w) in
      let same : entered b x.list ≡ heard b 1 (admitted b es) = ap (entered b) list_is ∙ sym (heard_entered b es (none_is (floor_of b es) off)) ∙ ap (heard b 1) (sym (admitted_off b es off)) in
      let lev : x.said ≡ journal.level (boat_is b 1 ∷ whole_port w) = omega (arith, said_is) in
      ap (λ es. F es x.said) same ∙ ap (F (heard b 1 (admitted b es))) lev

  fresh_law : (b : ℕ) → eqb b 0 ≡ false → is_some (floor_of b x.list) ≡ false → ltb 1 x.said ≡ false → leb 4096 (length x.list) ≡ false → PortLaw (boat_is b 1) (whole_port w)
  fresh_law b z t l m =
      let es : List Entry = journal.boats (whole_port w) in
      let off : is_some (floor_of b es) ≡ false = subst (λ (es : List Entry). is_some (floor_of b es) ≡ false) list_is t in
      let size : length (heard b 1 (admitted b es)) ≡ suc (length es) = length_heard b 1 (admitted b es) ∙ ap length (admitted_off b es off) ∙ length_entered b es in
      let room : length x.list < 4096 = leb-false 4096 (length x.list) m in
      let few : length es < 4096 = subst (λ (es : List Entry). length es < 4096) list_is room in
      let one : 1 ≤ b = grind (arith, nat_tests, z) in
      let low : x.said ≤ 1 = ltb-false 1 x.said l in
      (le-leb 1 b one, omega (arith, size, few), λ j on. omega arith, inr (omega (arith, low, said_is)))

  pub list_made : (b : ℕ) (f : Fate) → there w b ≡ true → Made w (what_harbour w f (harbours.listing x b))
  list_made b f tb =
      cond_both (eqb b 0) (Err Bad) _ (λ r. Made w (what_harbour w f (listed x b r))) (λ z. tt)
      (λ z. cond_both (is_some (floor_of b x.list)) (Ok x) _ (λ r. Made w (what_harbour w f (listed x b r)))
      (λ t. subst (λ (c : Bool). Moves w (harbour_does w (writes (cond c [] (boat_is b 1 ∷ []))) (deed (cond c [] (boat_is b 1 ∷ [])) [], x) f)) (sym t) (harbour_moves false (nothing, x) f rest_call))
      (λ t. cond_both (ltb 1 x.said) (Err (Number 4)) _ (λ r. Made w (what_harbour w f (listed x b r))) (λ l. tt)
      (λ l. cond_both (leb 4096 (length x.list)) (Err (Number 6)) _ (λ r. Made w (what_harbour w f (listed x b r))) (λ m. tt)
      (λ m. let y : Book = record { list = entered b x.list; said = x.said } in
      subst (λ (c : Bool). Moves w (harbour_does w (writes (cond c [] (boat_is b 1 ∷ []))) (deed (cond c [] (boat_is b 1 ∷ [])) [], y) f)) (sym t)
      (harbour_moves true (deed (boat_is b 1 ∷ []) [], y) f
      (one_call (boat_is b 1) y [] (fresh_law b z t l m) (boat_there b 1 tb)
      (λ j. heard_both (λ n. n ≤ journal.floor (safe w j)) j b 1 (whole_port w) (λ e. omega (arith, sd.ledger.heard j, heard_least j (whole_port w))) (λ e. sd.ledger.heard j))
      (fresh_book b t) (λ h e. tt)))))))

  -- a promise is heard, which is true
  raise_book : (b f g : ℕ) → floor_of b x.list ≡ Some g → record { list = heard b f x.list; said = x.said } ≡ recalled (boat_is b f ∷ whole_port w)
  raise_book b f g e =
      let F : List Entry → ℕ → Book = λ es k. record { list = es; said = k } in
      let es : List Entry = journal.boats (whole_port w) in
      let on : is_some (floor_of b es) ≡ true = sym (ap (λ (es : List Entry). is_some (floor_of b es)) list_is) ∙ ap is_some e in
      let same : heard b f x.list ≡ heard b f (admitted b es) = ap (heard b f) (list_is ∙ sym (admitted_on b es on)) in
      let lev : x.said ≡ journal.level (boat_is b f ∷ whole_port w) = omega (arith, said_is) in
      ap (λ es. F es x.said) same ∙ ap (F (heard b f (admitted b es))) lev

  raise_law : (b f g : ℕ) → eqb b 0 ≡ false → floor_of b x.list ≡ Some g → PortLaw (boat_is b f) (whole_port w)
  raise_law b f g z e =
      let es : List Entry = journal.boats (whole_port w) in
      let on : is_some (floor_of b es) ≡ true = sym (ap (λ (es : List Entry). is_some (floor_of b es)) list_is) ∙ ap is_some e in
      let size : length (heard b f (admitted b es)) ≡ length es = length_heard b f (admitted b es) ∙ ap length (admitted_on b es on) in
      let one : 1 ≤ b = grind (arith, nat_tests, z) in
      (le-leb 1 b one, omega (arith, size, lawful_size (whole_port w) sd.ledger.law), λ j on. omega arith, inl on)

  known_is : (b g : ℕ) → floor_of b x.list ≡ Some g → g ≡ heard_of (whole_port w) b
  known_is b g e = sym (ap (λ o. unwrap_or o 1) e) ∙ ap (λ (es : List Entry). unwrap_or (floor_of b es) 1) list_is

  hear_made : (b v : ℕ) (f : Fate) → eqb b 0 ≡ false → v ≤ journal.floor (safe w b) → Made w (what_harbour w f (confirmed x b v (ledger.hearing x b v)))
  hear_made b v f z low = go (floor_of b x.list) refl
    where
      go : (o : Option ℕ) → floor_of b x.list ≡ o → Made w (what_harbour w f (confirmed x b v (answering x b v o)))
      go None e = tt
      go (Some g) e =
          let y : Book = record { list = heard b v x.list; said = x.said } in
          let ls : List Letter = notice 0 b (heard_is (max g v)) ∷ [] in
          let k : g ≡ heard_of (whole_port w) b = known_is b g e in
          subst (λ (n : ℕ). Moves w (harbour_does w (writes (cond (ltb n v) (boat_is b v ∷ []) [])) (deed (cond (ltb n v) (boat_is b v ∷ []) []) ls, y) f)) (sym (ap (λ o. unwrap_or o 0) e))
          (cond_both (ltb g v) (boat_is b v ∷ []) [] (λ rs. Moves w (harbour_does w (writes rs) (deed rs ls, y) f))
          (λ t. harbour_moves true (deed (boat_is b v ∷ []) ls, y) f
          (one_call (boat_is b v) y ls (raise_law b v g z e) (boat_there b v (known_there b g e))
          (λ j. heard_both (λ n. n ≤ journal.floor (safe w j)) j b v (whole_port w) (λ q. let lw : v ≤ journal.floor (safe w j) = subst (λ (i : ℕ). v ≤ journal.floor (safe w i)) q low in omega (arith, sd.ledger.heard j, lw)) (λ q. sd.ledger.heard j))
          (raise_book b v g e)
          (λ h q. (subst (λ (hs : List Written). max g v ≤ heard_of hs b) (sym q) (omega (arith, heard_here b v (whole_port w), k)), tt))))
          (λ t. let l : v ≤ g = ltb-false g v t in
          let F : List Entry → Book = λ es. record { list = es; said = x.said } in
          harbour_moves false (deed [] ls, y) f
          (quiet_call y ls (ap F (heard_known b v g x.list e l)) (λ h q. (subst (λ (hs : List Written). max g v ≤ heard_of hs b) (sym q) (omega (arith, l, k)), tt)))))

  pub comes_made : (l : Letter) (f : Fate) → Told (safe w) (safe_port w) l → Made w (what_harbour w f (harbours.hearing x l))
  comes_made l f t =
      cond_both (eqb l.to 0) _ _ (λ r. Made w (what_harbour w f r)) (λ e. go l.body t) (λ e. tt)
    where
      go : (b : Telling) → Told (safe w) (safe_port w) (record { from = l.from; to = l.to; number = l.number; body = b }) → Made w (what_harbour w f (harbours.judging x l.from b))
      go (word u) t = tt
      go (promise v) t = cond_both (eqb l.from 0) _ _ (λ r. Made w (what_harbour w f r)) (λ z. tt) (λ z. hear_made l.from v f z t)
      go (heard_is v) t = tt
      go (level k) t = tt
      go (has_it k) t =
          cond_both (eqb l.from 0) _ _ (λ r. Made w (what_harbour w f r)) (λ z. tt)
          (λ z. cond_both (is_some (floor_of l.from x.list)) (Ok (nothing, x)) (Err (Number 5)) (λ r. Made w (what_harbour w f r)) (λ o. harbour_moves false (nothing, x) f rest_call) (λ o. tt))

  -- a level is said
  each_allowed : (k : ℕ) (es : List Entry) (h : List Written) → k ≤ journal.level h → Each (Told (safe w) h) (map (allowing k) es)
  each_allowed k [] h l = tt
  each_allowed k (e ∷ es) h l = (l, each_allowed k es h l)

  level_law : (k : ℕ) → unpromised k x.list ≡ false → PortLaw (level_is k) (whole_port w)
  level_law k u =
      let n : is_some (lacking k x.list) ≡ false = or_false (ltb 1 k && eqb (length x.list) 0) (is_some (lacking k x.list)) u in
      let none : lacking k (journal.boats (whole_port w)) ≡ None = subst (λ (es : List Entry). lacking k es ≡ None) list_is (none_is (lacking k x.list) n) in
      (refl, lawful_size (whole_port w) sd.ledger.law, λ j on. none_lacks k j (heard_of (whole_port w) j) (journal.boats (whole_port w)) none (listed_some j (whole_port w) on), tt)
    where
      or_false : (a b : Bool) → a || b ≡ false → b ≡ false
      or_false true b e = absurd (true≢false e)
      or_false false b e = e

  level_book : (k : ℕ) → record { list = x.list; said = max x.said k } ≡ recalled (level_is k ∷ whole_port w)
  level_book k =
      let F : List Entry → ℕ → Book = λ es n. record { list = es; said = n } in
      let lev : max x.said k ≡ journal.level (level_is k ∷ whole_port w) = omega (arith, said_is) in
      ap (λ es. F es (max x.said k)) list_is ∙ ap (F (journal.boats (whole_port w))) lev

  pub level_made : (k : ℕ) (f : Fate) → Made w (what_harbour w f (harbours.announcing x k))
  level_made k f =
      cond_both (eqb k 0) (Err Bad) _ (λ r. Made w (what_harbour w f (announced x k r))) (λ z. tt)
      (λ z. cond_both (unpromised k x.list) (Err (Number 4)) _ (λ r. Made w (what_harbour w f (announced x k r))) (λ u. tt)
      (λ u. let y : Book = record { list = x.list; said = max x.said k } in
      let ls : List Letter = map (allowing k) x.list in
      cond_both (ltb x.said k) (level_is k ∷ []) [] (λ rs. Moves w (harbour_does w (writes rs) (deed rs ls, y) f))
      (λ t. harbour_moves true (deed (level_is k ∷ []) ls, y) f
      (one_call (level_is k) y ls (level_law k u) sd.ledger.there (λ j. sd.ledger.heard j) (level_book k) (λ h q. each_allowed k x.list h (subst (λ (hs : List Written). k ≤ journal.level hs) (sym q) (omega arith)))))
      (λ t. let l : k ≤ x.said = ltb-false x.said k t in
      let F : ℕ → Book = λ n. record { list = x.list; said = n } in
      let m : max x.said k ≡ x.said = omega (arith, l) in
      harbour_moves false (deed [] ls, y) f (quiet_call y ls (ap F m) (λ h q. each_allowed k x.list h (subst (λ (hs : List Written). k ≤ journal.level hs) (sym q) (omega (arith, l, said_is))))))))

-- the harbour's program begins again
pub reopen_made : (w : World) (f : Fate) → Sound w → Made w (reopened w f (harbours.opening (whole_port w)))
reopen_made w f sd =
    cond_both (journal.every journal.harbour_reads (whole_port w)) _ (Err (Number 1)) (λ r. Made w (reopened w f r))
    (λ t. cond_both (leb (length (journal.boats (whole_port w))) 4096) (Ok (recalled (whole_port w))) (Err (Number 6)) (λ r. Made w (reopened w f r))
    (λ u. harbour_moves true (nothing, recalled (whole_port w)) f (record { kind = syncs []; law = sd.ledger.law; there = sd.ledger.there; heard = sd.ledger.heard; recalls = refl; told = λ h e. tt })) (λ u. tt))
    (λ t. tt)
