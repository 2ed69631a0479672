-- The events of raise do raise, and change no program and no list.
-- Assumes nothing.
use Rattle.std.proofs.Common.{◌≡◌, ℕ, Bool, true, false, cond, ◌⊎◌, List, [], ◌∷◌, sym, refl, ap, ◌∙◌, subst, inl, inr}
use mathlib.Core.List.Memᴰ
use mathlib.Core.List.{Memᴰ}
use Rattle.std.proofs.lemmas.Bool.{cond_both, cond-true, true≢false}
use Rattle.protocol.specs.Order.{Order, Lawful, Truthful}
use Rattle.protocol.specs.Fleet.{Machine, Promise, Level, World, noticed, start, promised, heard_of, decided, learned}
use Rattle.protocol.specs.Promise.{Up}
use Rattle.protocol.specs.Events.{MakePromise, Tell, Hear, Decide, Announce, Learn, every, play, after, run, promising, learning, raise}
use Rattle.protocol.specs.Runs.{Risen, RunRises, RunRisesOn, RaisePromises}
use Rattle.protocol.proofs.Puts.{put_each, put_here, not_first}
use Rattle.protocol.proofs.Sound.{up_then, up_same}
use Rattle.protocol.proofs.Plays.{one_every, after-++, up_after}

-- programs and list are as they were
pub record Keeps {F : Type 0} (w v : World F) : Type 0 where
  pub program : (i : ℕ) → (v.machine i).program ≡ (w.machine i).program
  pub listed : v.listed ≡ w.listed

pub keeps_same : {F : Type 0} (w : World F) → Keeps w w
keeps_same w = record { program = λ i. refl; listed = refl }

pub keeps_then : {F : Type 0} (u w v : World F) → Keeps u w → Keeps w v → Keeps u v
keeps_then u w v p q = record { program = λ i. q.program i ∙ p.program i; listed = q.listed ∙ p.listed }

-- whether it happens or not
pub keeps_test : {F : Type 0} (w v : World F) (b : Bool) → Keeps w v → Keeps w (cond b v w)
keeps_test w v b k = cond_both b v w (Keeps w) (λ e. k) (λ e. keeps_same w)

module _ (O : Order) (L : Lawful O) (below : O.Form → O.Form → Bool) (T : Truthful O below) where
  open O use {Form, ◌⊑◌, ◌⊔◌}

  infix 20 ◌⊑◌
  infixl 30 ◌⊔◌
  -- each event of raise keeps programs and list
  pub keeps_promise : (w : World Form) (i : ℕ) (f : Form) → Keeps w (play O below w (MakePromise i f))
  keeps_promise w i f = keeps_test w (promised O w i f) (below f (w.machine i).program) (record { program = put_each (λ j m. m.program ≡ (w.machine j).program) i _ w.machine refl (λ j. refl); listed = refl })

  pub keeps_tell : (w : World Form) (i : ℕ) (f : Form) → Keeps w (play O below w (Tell i f))
  keeps_tell w i f = keeps_test w (noticed w (Promise i f)) (below f (w.machine i).floor) (record { program = λ j. refl; listed = refl })

  pub keeps_hear : (w : World Form) (i : ℕ) (f : Form) → Keeps w (play O below w (Hear i f))
  keeps_hear w i f = keeps_test w (heard_of O w i f) (below f (w.machine i).floor) (record { program = λ j. refl; listed = refl })

  pub keeps_decide : (w : World Form) (k : Form) → Keeps w (play O below w (Decide k))
  keeps_decide w k = keeps_test w (decided O w k) (every (λ j. below k (w.heard j)) w.listed) (record { program = λ j. refl; listed = refl })

  pub keeps_announce : (w : World Form) (k : Form) → Keeps w (play O below w (Announce k))
  keeps_announce w k = keeps_test w (noticed w (Level k)) (below k w.said) (record { program = λ j. refl; listed = refl })

  pub keeps_learn : (w : World Form) (i : ℕ) (k : Form) → Keeps w (play O below w (Learn i k))
  keeps_learn w i k = keeps_test w (learned O w i k) (below k w.said) (record { program = put_each (λ j m. m.program ≡ (w.machine j).program) i _ w.machine refl (λ j. refl); listed = refl })

  -- one promises, if it has to: then its floor is high enough
  abbrev pub ready : Form → World Form → World Form → ℕ → World Form
  ready k w v i = after O below v (cond (below k (w.machine i).floor) [] (MakePromise i k ∷ []))

  pub ready_keeps : (k : Form) (w v : World Form) (i : ℕ) → Keeps v (ready k w v i)
  ready_keeps k w v i = cond_both (below k (w.machine i).floor) [] (MakePromise i k ∷ []) (λ es. Keeps v (after O below v es)) (λ e. keeps_same v) (λ e. keeps_promise v i k)

  pub ready_floor : (k : Form) (w v : World Form) (i : ℕ) → Up O w v → k ⊑ (v.machine i).program → k ⊑ ((ready k w v i).machine i).floor
  ready_floor k w v i up new =
      cond_both (below k (w.machine i).floor) [] (MakePromise i k ∷ []) (λ es. k ⊑ ((after O below v es).machine i).floor)
      (λ e. L.chain k (w.machine i).floor (v.machine i).floor (T.sound k (w.machine i).floor e) (up.floor i))
      (λ e. subst (λ (u : World Form). k ⊑ (u.machine i).floor) (sym (cond-true (below k (v.machine i).program) (promised O v i k) v (T.complete k (v.machine i).program new)))
      (subst (λ (m : Machine Form). k ⊑ m.floor) (sym (put_here i _ v.machine)) (L.right (v.machine i).floor k)))

  -- it tells and is heard
  abbrev pub told : Form → World Form → ℕ → World Form
  told k v i = play O below (play O below v (Tell i k)) (Hear i k)

  pub told_heard : (k : Form) (v : World Form) (i : ℕ) → k ⊑ (v.machine i).floor → k ⊑ (told k v i).heard i
  told_heard k v i h =
      let yes : below k (v.machine i).floor ≡ true = T.complete k (v.machine i).floor h in
      let tell : play O below v (Tell i k) ≡ noticed v (Promise i k) = cond-true (below k (v.machine i).floor) (noticed v (Promise i k)) v yes in
      let hear : play O below (noticed v (Promise i k)) (Hear i k) ≡ heard_of O (noticed v (Promise i k)) i k = cond-true (below k (v.machine i).floor) (heard_of O (noticed v (Promise i k)) i k) (noticed v (Promise i k)) yes in
      subst (λ (u : World Form). k ⊑ u.heard i) (sym (ap (λ (u : World Form). play O below u (Hear i k)) tell ∙ hear))
      (subst (λ (x : Form). k ⊑ x) (sym (put_here i (v.heard i ⊔ k) v.heard)) (L.right (v.heard i) k))

  pub told_keeps : (k : Form) (v : World Form) (i : ℕ) → Keeps v (told k v i)
  told_keeps k v i = keeps_then v (play O below v (Tell i k)) (told k v i) (keeps_tell v i k) (keeps_hear (play O below v (Tell i k)) i k)

  -- from v on, after the events of the first of js
  abbrev pub one : Form → World Form → World Form → ℕ → World Form
  one k w v i = told k (ready k w v i) i

  pub one_keeps : (k : Form) (w v : World Form) (i : ℕ) → Keeps v (one k w v i)
  one_keeps k w v i = keeps_then v (ready k w v i) (one k w v i) (ready_keeps k w v i) (told_keeps k (ready k w v i) i)

  pub one_up : (k : Form) (w v : World Form) (i : ℕ) → Up O v (one k w v i)
  one_up k w v i =
      up_then O L v (ready k w v i) (one k w v i) (up_after O L below T v (cond (below k (w.machine i).floor) [] (MakePromise i k ∷ []))) (up_after O L below T (ready k w v i) (Tell i k ∷ Hear i k ∷ []))

  pub promising_after : (k : Form) (w v : World Form) (i : ℕ) (js : List ℕ) → after O below v (promising O below k w (i ∷ js)) ≡ after O below (one k w v i) (promising O below k w js)
  promising_after k w v i js = after-++ O L below T v (cond (below k (w.machine i).floor) [] (MakePromise i k ∷ [])) (Tell i k ∷ Hear i k ∷ promising O below k w js)

  pub promising_keeps : (k : Form) (w v : World Form) (js : List ℕ) → Keeps v (after O below v (promising O below k w js))
  promising_keeps k w v [] = keeps_same v
  promising_keeps k w v (i ∷ js) =
      subst (λ (u : World Form). Keeps v u) (sym (promising_after k w v i js))
      (keeps_then v (one k w v i) (after O below (one k w v i) (promising O below k w js)) (one_keeps k w v i) (promising_keeps k w (one k w v i) js))

  pub promising_heard : (k : Form) (w v : World Form) (js : List ℕ) → Up O w v → ((j : ℕ) → Memᴰ j js → k ⊑ (v.machine j).program) → (j : ℕ) → Memᴰ j js → k ⊑ (after O below v (promising O below k w js)).heard j
  promising_heard k w v [] up new j on = absurd (Memᴰ.not-nil on)
  promising_heard k w v (i ∷ js) up new j on =
      let u : World Form = one k w v i in
      let here : k ⊑ u.heard i = told_heard k (ready k w v i) i (ready_floor k w v i up (new i (Memᴰ.head refl))) in
      let on-up : Up O u (after O below u (promising O below k w js)) = up_after O L below T u (promising O below k w js) in
      subst (λ (x : World Form). k ⊑ x.heard j) (sym (promising_after k w v i js))
      (go u here on-up
      (λ at. promising_heard k w u js (up_then O L w v u up (one_up k w v i)) (λ m in-js. subst (λ (p : Form). k ⊑ p) (sym ((one_keeps k w v i).program m)) (new m (Memᴰ.tail in-js))) j at)
      (Memᴰ.cases_cons on))
    where
      go : (u : World Form) → k ⊑ u.heard i → Up O u (after O below u (promising O below k w js)) → (Memᴰ j js → k ⊑ (after O below u (promising O below k w js)).heard j) → (j ≡ i) ⊎ Memᴰ j js → k ⊑ (after O below u (promising O below k w js)).heard j
      go u here on-up rest (inl e) = subst (λ (x : ℕ). k ⊑ (after O below u (promising O below k w js)).heard x) (sym e) (L.chain k (u.heard i) ((after O below u (promising O below k w js)).heard i) here (on-up.heard i))
      go u here on-up rest (inr at) = rest at

  pub learning_keeps : (k : Form) (v : World Form) (js : List ℕ) → Keeps v (after O below v (learning O below k js))
  learning_keeps k v [] = keeps_same v
  learning_keeps k v (i ∷ js) = keeps_then v (play O below v (Learn i k)) (after O below (play O below v (Learn i k)) (learning O below k js)) (keeps_learn v i k) (learning_keeps k (play O below v (Learn i k)) js)

  pub learn_level : (k : Form) (v : World Form) (i : ℕ) → k ⊑ v.said → k ⊑ ((play O below v (Learn i k)).machine i).level
  learn_level k v i h =
      subst (λ (u : World Form). k ⊑ (u.machine i).level) (sym (cond-true (below k v.said) (learned O v i k) v (T.complete k v.said h)))
      (subst (λ (m : Machine Form). k ⊑ m.level) (sym (put_here i _ v.machine)) (L.right (v.machine i).level k))

  pub learning_level : (k : Form) (v : World Form) (js : List ℕ) → k ⊑ v.said → (j : ℕ) → Memᴰ j js → k ⊑ ((after O below v (learning O below k js)).machine j).level
  learning_level k v [] said j on = absurd (Memᴰ.not-nil on)
  learning_level k v (i ∷ js) said j on =
      let u : World Form = play O below v (Learn i k) in
      go u (learn_level k v i said) (up_after O L below T u (learning O below k js))
      (λ at. learning_level k u js (L.chain k v.said u.said said (up_after O L below T v (Learn i k ∷ [])).said) j at)
      (Memᴰ.cases_cons on)
    where
      go : (u : World Form) → k ⊑ (u.machine i).level → Up O u (after O below u (learning O below k js)) → (Memᴰ j js → k ⊑ ((after O below u (learning O below k js)).machine j).level) → (j ≡ i) ⊎ Memᴰ j js → k ⊑ ((after O below u (learning O below k js)).machine j).level
      go u here on-up rest (inl e) = subst (λ (x : ℕ). k ⊑ ((after O below u (learning O below k js)).machine x).level) (sym e) (L.chain k (u.machine i).level ((after O below u (learning O below k js)).machine i).level here (on-up.level i))
      go u here on-up rest (inr at) = rest at

  -- the harbour decides for what all of the list have promised
  pub decide_said : (k : Form) (v : World Form) → ((j : ℕ) → Memᴰ j v.listed → k ⊑ v.heard j) → k ⊑ (play O below v (Decide k)).said
  decide_said k v h =
      subst (λ (u : World Form). k ⊑ u.said) (sym (cond-true (every (λ j. below k (v.heard j)) v.listed) (decided O v k) v (one_every (λ j. below k (v.heard j)) v.listed (λ j on. T.complete k (v.heard j) (h j on)))))
      (L.right v.said k)

  pub run_rises_lem : RunRises O below
  run_rises_lem k w new =
      let v : World Form = after O below w (promising O below k w w.listed) in
      let d : World Form = play O below v (Decide k) in
      let a : World Form = play O below d (Announce k) in
      let u : World Form = after O below a (learning O below k w.listed) in
      let first : Keeps w v = promising_keeps k w w w.listed in
      let heard : (j : ℕ) → Memᴰ j v.listed → k ⊑ v.heard j = λ j on. promising_heard k w w w.listed (up_same O L w) new j (subst (λ (js : List ℕ). Memᴰ j js) first.listed on) in
      let said : k ⊑ a.said = L.chain k d.said a.said (decide_said k v heard) (up_after O L below T d (Announce k ∷ [])).said in
      let kept : Keeps w u = keeps_then w v u first (keeps_then v d u (keeps_decide v k) (keeps_then d a u (keeps_announce d k) (learning_keeps k a w.listed))) in
      subst (λ (x : World Form). Risen O below k w x) (sym (after-++ O L below T w (promising O below k w w.listed) (Decide k ∷ Announce k ∷ learning O below k w.listed)))
      (record { level = learning_level k a w.listed said; program = kept.program; listed = kept.listed })

  pub run_rises_on_lem : RunRisesOn O below
  run_rises_on_lem k crew es new =
      subst (λ (u : World Form). Risen O below k (run O below crew es) u) (sym (after-++ O L below T (start O crew) es (raise O below k (run O below crew es)))) (run_rises_lem k (run O below crew es) new)

  -- the promises among these events
  pub promising_asks : (k : Form) (w : World Form) (js : List ℕ) (i : ℕ) (f : Form) → Memᴰ (MakePromise i f) (promising O below k w js) → (f ≡ k) × Memᴰ i js × (k ⊑ (w.machine i).floor → ⊥)
  promising_asks k w [] i f at = absurd (Memᴰ.not-nil at)
  promising_asks k w (j ∷ js) i f at =
      go (λ a. promising_asks k w js i f a) (Memᴰ.append_cases (cond (below k (w.machine j).floor) [] (MakePromise j k ∷ [])) at)
    where
      Asked : Type 0
      Asked = (f ≡ k) × Memᴰ i (j ∷ js) × (k ⊑ (w.machine i).floor → ⊥)

      mine : below k (w.machine j).floor ≡ false → MakePromise i f ≡ MakePromise j k → Asked
      mine low e =
          let who : i ≡ j = cc in
          let what : f ≡ k = cc in
          (what, Memᴰ.head who, λ h. true≢false (sym (T.complete k (w.machine j).floor (subst (λ (x : ℕ). k ⊑ (w.machine x).floor) who h)) ∙ low))

      go : (Memᴰ (MakePromise i f) (promising O below k w js) → (f ≡ k) × Memᴰ i js × (k ⊑ (w.machine i).floor → ⊥)) → Memᴰ (MakePromise i f) (cond (below k (w.machine j).floor) [] (MakePromise j k ∷ [])) ⊎ Memᴰ (MakePromise i f) (Tell j k ∷ Hear j k ∷ promising O below k w js) → Asked
      go rest (inl a) =
          cond_both (below k (w.machine j).floor) [] (MakePromise j k ∷ []) (λ es. Memᴰ (MakePromise i f) es → Asked) (λ yes b. absurd (Memᴰ.not-nil b)) (λ low b. mine low (Memᴰ.eq_of_singleton b)) a
      go rest (inr a) =
          let r = rest (not_first (Hear j k) (MakePromise i f) (promising O below k w js) (λ e. true≢false cc) (not_first (Tell j k) (MakePromise i f) (Hear j k ∷ promising O below k w js) (λ e. true≢false cc) a)) in
          (r.0, Memᴰ.tail r.1, r.2)

  pub learning_asks : (k : Form) (js : List ℕ) (i : ℕ) (f : Form) → Memᴰ (MakePromise i f) (learning O below k js) → ⊥
  learning_asks k [] i f at = Memᴰ.not-nil at
  learning_asks k (j ∷ js) i f at = learning_asks k js i f (not_first (Learn j k) (MakePromise i f) (learning O below k js) (λ e. true≢false cc) at)

  pub raise_promises_lem : RaisePromises O below
  raise_promises_lem k w i f at = go (Memᴰ.append_cases (promising O below k w w.listed) at)
    where
      go : Memᴰ (MakePromise i f) (promising O below k w w.listed) ⊎ Memᴰ (MakePromise i f) (Decide k ∷ Announce k ∷ learning O below k w.listed) → (f ≡ k) × Memᴰ i w.listed × (k ⊑ (w.machine i).floor → ⊥)
      go (inl a) = promising_asks k w w.listed i f a
      go (inr a) =
          absurd (learning_asks k w.listed i f (not_first (Announce k) (MakePromise i f) (learning O below k w.listed) (λ e. true≢false cc) (not_first (Decide k) (MakePromise i f) (Announce k ∷ learning O below k w.listed) (λ e. true≢false cc) a)))
