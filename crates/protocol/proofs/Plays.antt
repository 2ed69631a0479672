-- An event is a step or nothing, and every step is an event: events reach what the steps reach.
-- Assumes nothing.
use Rattle.std.proofs.Common.{◌≡◌, ℕ, Bool, true, cond, ◌||◌, ◌⊎◌, List, [], ◌∷◌, ◌++◌, sym, refl, ap, ◌∙◌, subst, inl, inr, ⊎_elim}
use mathlib.Core.List.Memᴰ
use mathlib.Core.List.{Memᴰ}
use Rattle.std.proofs.lemmas.Bool.{cond_both, cond-true, and_parts, and_from, or_cases, or_left, or_right}
use Rattle.protocol.specs.Order.{Order, Lawful, Truthful}
use Rattle.protocol.specs.Fleet.{Machine, Notice, Promise, Heard, Level, HasIt, World, running, wrote, refiled, noticed, talked, enlisted, start, promised, heard_of, decided, learned, Step, renews, goes_back, promises, tells, hears, confirms, lists, decides, announces, learns, answers, talks, writes, refiles, begin, then, Later, now, next}
use Rattle.protocol.specs.Promise.{Holds, Up}
use Rattle.protocol.specs.Events.{Event, Run, MakePromise, Tell, Hear, Confirm, Enlist, Decide, Announce, Learn, Answer, Talk, Write, Refile, every, play, after, run}
use Rattle.protocol.specs.Runs.{PlaysByRules, RunReaches, RunsAll, RunUnderstood, RunLevelsHold, RunGrows, RunTakes, RunGoesBack}
use Rattle.protocol.proofs.Puts.{put_here, one_more}
use Rattle.protocol.proofs.Sound.{reach_later, grows, understood, levels_hold_lem, backed, stable}

-- a test that says yes of each says yes of whichever is on the list, and the other way
pub every_one : {A : Type 0} (test : A → Bool) (xs : List A) → every test xs ≡ true → (x : A) → Memᴰ x xs → test x ≡ true
every_one test [] e x at = absurd (Memᴰ.not-nil at)
every_one test (y ∷ ys) e x at =
    let both = and_parts (test y) (every test ys) e in
    one_more (λ z. test z ≡ true) y ys both.0 (every_one test ys both.1) x at

pub one_every : {A : Type 0} (test : A → Bool) (xs : List A) → ((x : A) → Memᴰ x xs → test x ≡ true) → every test xs ≡ true
one_every test [] h = refl
one_every test (y ∷ ys) h = and_from (test y) (every test ys) (h y (Memᴰ.head refl)) (one_every test ys (λ x at. h x (Memᴰ.tail at)))

module _ (O : Order) (L : Lawful O) (below : O.Form → O.Form → Bool) (T : Truthful O below) where
  open O use {Form, ◌⊑◌, ◌⊔◌}

  infix 20 ◌⊑◌
  infixl 30 ◌⊔◌
  -- a test decides whether there is a step
  pub by_test : (w v : World Form) (b : Bool) → (b ≡ true → Step O w v) → Step O w (cond b v w) ⊎ (cond b v w ≡ w)
  by_test w v b step = cond_both b v w (λ u. Step O w u ⊎ (u ≡ w)) (λ e. inl (step e)) (λ e. inr refl)

  pub plays_by_rules_lem : PlaysByRules O below
  plays_by_rules_lem w (Run i p) =
      by_test w (running w i p) (below (w.machine i).program p || below (w.machine i).floor p)
      (λ e. ⊎_elim (λ (a : below (w.machine i).program p ≡ true). renews w i p (T.sound (w.machine i).program p a)) (λ (a : below (w.machine i).floor p ≡ true). goes_back w i p (T.sound (w.machine i).floor p a)) (or_cases (below (w.machine i).program p) (below (w.machine i).floor p) e))
  plays_by_rules_lem w (MakePromise i f) = by_test w (promised O w i f) (below f (w.machine i).program) (λ e. promises w i f (T.sound f (w.machine i).program e))
  plays_by_rules_lem w (Tell i f) = by_test w (noticed w (Promise i f)) (below f (w.machine i).floor) (λ e. tells w i f (T.sound f (w.machine i).floor e))
  plays_by_rules_lem w (Hear i f) = by_test w (heard_of O w i f) (below f (w.machine i).floor) (λ e. hears w i f (T.sound f (w.machine i).floor e))
  plays_by_rules_lem w (Confirm i f) = by_test w (noticed w (Heard i f)) (below f (w.heard i)) (λ e. confirms w i f (T.sound f (w.heard i) e))
  plays_by_rules_lem w (Enlist i) = by_test w (enlisted w i) (below w.said (w.heard i)) (λ e. lists w i (T.sound w.said (w.heard i) e))
  plays_by_rules_lem w (Decide k) =
      by_test w (decided O w k) (every (λ j. below k (w.heard j)) w.listed) (λ e. decides w k (λ j on. T.sound k (w.heard j) (every_one (λ j. below k (w.heard j)) w.listed e j on)))
  plays_by_rules_lem w (Announce k) = by_test w (noticed w (Level k)) (below k w.said) (λ e. announces w k (T.sound k w.said e))
  plays_by_rules_lem w (Learn i k) = by_test w (learned O w i k) (below k w.said) (λ e. learns w i k (T.sound k w.said e))
  plays_by_rules_lem w (Answer i k) = by_test w (noticed w (HasIt i k)) (below k (w.machine i).level) (λ e. answers w i k (T.sound k (w.machine i).level e))
  plays_by_rules_lem w (Talk m) = by_test w (talked w m) (below m.form (w.machine m.from).level) (λ e. talks w m (T.sound m.form (w.machine m.from).level e))
  plays_by_rules_lem w (Write i f) = by_test w (wrote w i f) (below f (w.machine i).level) (λ e. writes w i f (T.sound f (w.machine i).level e))
  plays_by_rules_lem w (Refile i fs) =
      by_test w (refiled w i fs) (every (λ f. below f (w.machine i).level) fs) (λ e. refiles w i fs (λ f at. T.sound f (w.machine i).level (every_one (λ f. below f (w.machine i).level) fs e f at)))

  -- the event of a step
  pub step_event : {w v : World Form} → Step O w v → (e : Event Form) × (play O below w e ≡ v)
  step_event (renews w i p h) =
      (Run i p, cond-true (below (w.machine i).program p || below (w.machine i).floor p) (running w i p) w (or_left (below (w.machine i).program p) (below (w.machine i).floor p) (T.complete (w.machine i).program p h)))
  step_event (goes_back w i p h) =
      (Run i p, cond-true (below (w.machine i).program p || below (w.machine i).floor p) (running w i p) w (or_right (below (w.machine i).program p) (below (w.machine i).floor p) (T.complete (w.machine i).floor p h)))
  step_event (promises w i f h) = (MakePromise i f, cond-true (below f (w.machine i).program) (promised O w i f) w (T.complete f (w.machine i).program h))
  step_event (tells w i f h) = (Tell i f, cond-true (below f (w.machine i).floor) (noticed w (Promise i f)) w (T.complete f (w.machine i).floor h))
  step_event (hears w i f h) = (Hear i f, cond-true (below f (w.machine i).floor) (heard_of O w i f) w (T.complete f (w.machine i).floor h))
  step_event (confirms w i f h) = (Confirm i f, cond-true (below f (w.heard i)) (noticed w (Heard i f)) w (T.complete f (w.heard i) h))
  step_event (lists w i h) = (Enlist i, cond-true (below w.said (w.heard i)) (enlisted w i) w (T.complete w.said (w.heard i) h))
  step_event (decides w k h) =
      (Decide k, cond-true (every (λ j. below k (w.heard j)) w.listed) (decided O w k) w (one_every (λ j. below k (w.heard j)) w.listed (λ j on. T.complete k (w.heard j) (h j on))))
  step_event (announces w k h) = (Announce k, cond-true (below k w.said) (noticed w (Level k)) w (T.complete k w.said h))
  step_event (learns w i k h) = (Learn i k, cond-true (below k w.said) (learned O w i k) w (T.complete k w.said h))
  step_event (answers w i k h) = (Answer i k, cond-true (below k (w.machine i).level) (noticed w (HasIt i k)) w (T.complete k (w.machine i).level h))
  step_event (talks w m h) = (Talk m, cond-true (below m.form (w.machine m.from).level) (talked w m) w (T.complete m.form (w.machine m.from).level h))
  step_event (writes w i f h) = (Write i f, cond-true (below f (w.machine i).level) (wrote w i f) w (T.complete f (w.machine i).level h))
  step_event (refiles w i fs h) =
      (Refile i fs, cond-true (every (λ f. below f (w.machine i).level) fs) (refiled w i fs) w (one_every (λ f. below f (w.machine i).level) fs (λ f at. T.complete f (w.machine i).level (h f at))))

  pub after-++ : (w : World Form) (xs ys : List (Event Form)) → after O below w (xs ++ ys) ≡ after O below (after O below w xs) ys
  after-++ w [] ys = refl
  after-++ w (x ∷ xs) ys = after-++ (play O below w x) xs ys

  -- events lead to a later world
  pub later_then : {u w v : World Form} → Later O u w → Later O w v → Later O u v
  later_then p now = p
  later_then p (next q s) = next (later_then p q) s

  pub later_play : (w : World Form) (e : Event Form) → Later O w (play O below w e)
  later_play w e = go (plays_by_rules_lem w e)
    where
      go : Step O w (play O below w e) ⊎ (play O below w e ≡ w) → Later O w (play O below w e)
      go (inl s) = next now s
      go (inr q) = subst (λ (v : World Form). Later O w v) (sym q) now

  pub later_after : (w : World Form) (es : List (Event Form)) → Later O w (after O below w es)
  later_after w [] = now
  later_after w (e ∷ es) = later_then (later_play w e) (later_after (play O below w e) es)

  pub up_after : (w : World Form) (es : List (Event Form)) → Up O w (after O below w es)
  up_after w es = grows O L w (after O below w es) (later_after w es)

  pub run_reaches_lem : RunReaches O below
  run_reaches_lem crew es = reach_later O L (begin crew) (later_after (start O crew) es)

  pub runs_all_lem : RunsAll O below
  runs_all_lem w (begin crew) = (crew, [], refl)
  runs_all_lem w (then {w = u} r s) =
      let p : (crew : List ℕ) × (es : List (Event Form)) × (run O below crew es ≡ u) = runs_all_lem u r in
      let e : (e : Event Form) × (play O below u e ≡ w) = step_event s in
      (p.0, p.1 ++ (e.0 ∷ []), after-++ (start O p.0) p.1 (e.0 ∷ []) ∙ ap (λ (x : World Form). play O below x e.0) p.2 ∙ e.1)

  pub run_understood_lem : RunUnderstood O below
  run_understood_lem crew es i on = understood O L (run O below crew es) (run_reaches_lem crew es) i on

  pub run_levels_hold_lem : RunLevelsHold O below
  run_levels_hold_lem crew es i j on = levels_hold_lem O L (run O below crew es) (run_reaches_lem crew es) i j on

  pub run_grows_lem : RunGrows O below
  run_grows_lem crew es fs = subst (λ (v : World Form). Up O (run O below crew es) v) (sym (after-++ (start O crew) es fs)) (up_after (run O below crew es) fs)

  pub run_takes_lem : RunTakes O below
  run_takes_lem crew es fs =
      let w : World Form = run O below crew es in
      let v : World Form = run O below crew (es ++ fs) in
      let true-there = (backed O L w (run_reaches_lem crew es)).0 in
      let true-here : (n : Notice Form) → Memᴰ n w.notices → Holds O v n = λ n at. stable O L w v (run_grows_lem crew es fs) n (true-there n at) in
      (λ i f at. cond-true (below f (v.machine i).floor) (heard_of O v i f) v (T.complete f (v.machine i).floor (true-here (Promise i f) at)), λ i k at. cond-true (below k v.said) (learned O v i k) v (T.complete k v.said (true-here (Level k) at)))

  pub run_goes_back_lem : RunGoesBack O below
  run_goes_back_lem crew es i p h =
      let w : World Form = run O below crew es in
      let ran : play O below w (Run i p) ≡ running w i p = cond-true (below (w.machine i).program p || below (w.machine i).floor p) (running w i p) w (or_right (below (w.machine i).program p) (below (w.machine i).floor p) (T.complete (w.machine i).floor p h)) in
      ap (λ (u : World Form). (u.machine i).program) (after-++ (start O crew) es (Run i p ∷ []) ∙ ran) ∙ ap (λ (m : Machine Form). m.program) (put_here i _ w.machine)
