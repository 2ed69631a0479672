-- The same fleet as a function: each event has one outcome, and an event that the rules refuse leaves the world as it is.
-- Assumes nothing.
use Rattle.std.specs.Prelude.{ℕ, Bool, true, cond, ◌&&◌, ◌||◌, List, [], ◌∷◌, ◌++◌}
use Rattle.protocol.specs.Order.{Order}
use Rattle.protocol.specs.Fleet.{Word, Promise, Heard, Level, HasIt, World, running, wrote, refiled, noticed, talked, enlisted, start, promised, heard_of, decided, learned}

-- One for each step, by machine i or about it; the harbour hears, confirms, enlists, decides and announces
pub data Event (F : Type 0) : Type 0 where
  -- a newer program, or an older one
  Run : (i : ℕ) (program : F) → Event F
  MakePromise : (i : ℕ) (floor : F) → Event F
  Tell : (i : ℕ) (floor : F) → Event F
  Hear : (i : ℕ) (floor : F) → Event F
  Confirm : (i : ℕ) (floor : F) → Event F
  Enlist : (i : ℕ) → Event F
  Decide : (level : F) → Event F
  Announce : (level : F) → Event F
  Learn : (i : ℕ) (level : F) → Event F
  Answer : (i : ℕ) (level : F) → Event F
  Talk : (word : Word F) → Event F
  Write : (i : ℕ) (form : F) → Event F
  Refile : (i : ℕ) (forms : List F) → Event F

-- does the test say yes of each
abbrev pub every : {A : Type 0} → (A → Bool) → List A → Bool
every test [] = true
every test (x ∷ xs) = test x && every test xs

-- below: the test of ⊑ by which events are judged
module _ (O : Order) (below : O.Form → O.Form → Bool) where
  open O use {Form}

  -- the world after an event
  abbrev pub play : World Form → Event Form → World Form
  play w (Run i p) = cond (below (w.machine i).program p || below (w.machine i).floor p) (running w i p) w
  play w (MakePromise i f) = cond (below f (w.machine i).program) (promised O w i f) w
  play w (Tell i f) = cond (below f (w.machine i).floor) (noticed w (Promise i f)) w
  play w (Hear i f) = cond (below f (w.machine i).floor) (heard_of O w i f) w
  play w (Confirm i f) = cond (below f (w.heard i)) (noticed w (Heard i f)) w
  play w (Enlist i) = cond (below w.said (w.heard i)) (enlisted w i) w
  play w (Decide k) = cond (every (λ j. below k (w.heard j)) w.listed) (decided O w k) w
  play w (Announce k) = cond (below k w.said) (noticed w (Level k)) w
  play w (Learn i k) = cond (below k w.said) (learned O w i k) w
  play w (Answer i k) = cond (below k (w.machine i).level) (noticed w (HasIt i k)) w
  play w (Talk m) = cond (below m.form (w.machine m.from).level) (talked w m) w
  play w (Write i f) = cond (below f (w.machine i).level) (wrote w i f) w
  play w (Refile i fs) = cond (every (λ f. below f (w.machine i).level) fs) (refiled w i fs) w

  -- the world after some events, the first of the list first
  abbrev pub after : World Form → List (Event Form) → World Form
  after w [] = w
  after w (e ∷ es) = after (play w e) es

  -- from the start, with the crew on the list
  abbrev pub run : List ℕ → List (Event Form) → World Form
  run crew es = after (start O crew) es

  -- How to raise the level. First each promises k, where its floor in w is not there yet, tells it and is heard
  abbrev pub promising : Form → World Form → List ℕ → List (Event Form)
  promising k w [] = []
  promising k w (i ∷ js) = cond (below k (w.machine i).floor) [] (MakePromise i k ∷ []) ++ (Tell i k ∷ Hear i k ∷ promising k w js)

  -- last each learns k
  abbrev pub learning : Form → List ℕ → List (Event Form)
  learning k [] = []
  learning k (i ∷ js) = Learn i k ∷ learning k js

  -- and between them the harbour decides and announces
  abbrev pub raise : Form → World Form → List (Event Form)
  raise k w = promising k w w.listed ++ (Decide k ∷ Announce k ∷ learning k w.listed)
