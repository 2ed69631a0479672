-- What is promised of every list of events. Each is a type; a proof of the type is the theorem.
-- Assumes nothing.
use Rattle.std.specs.Prelude.{◌≡◌, ℕ, Bool, ◌⊎◌, List, [], ◌∷◌, ◌++◌, nat_le}
use mathlib.Core.List.{Memᴰ}
use Rattle.protocol.specs.Order.{Order, Truthful, numbers}
use Rattle.protocol.specs.Fleet.{Promise, Level, World, heard_of, learned, Step, Reach}
use Rattle.protocol.specs.Promise.{Up, Reads, InOrder}
use Rattle.protocol.specs.Events.{Event, Run, MakePromise, Tell, Hear, Learn, play, after, run, raise}

module _ (O : Order) (below : O.Form → O.Form → Bool) where
  open O use {Form, ◌⊑◌}

  infix 20 ◌⊑◌
  -- An event is a step of the rules, or nothing happens.
  abbrev pub PlaysByRules : Type 0
  PlaysByRules = (w : World Form) (e : Event Form) → Step O w (play O below w e) ⊎ (play O below w e ≡ w)

  -- Events reach only what the steps reach.
  abbrev pub RunReaches : Type 0
  RunReaches = (crew : List ℕ) (es : List (Event Form)) → Reach O (run O below crew es)

  -- And all of it.
  abbrev pub RunsAll : Type 0
  RunsAll = (w : World Form) → Reach O w → (crew : List ℕ) × (es : List (Event Form)) × (run O below crew es ≡ w)

  -- Whatever happens, each of the list can read every word to it, and its own file.
  abbrev pub RunUnderstood : Type 0
  RunUnderstood = (crew : List ℕ) (es : List (Event Form)) (i : ℕ) → Memᴰ i (run O below crew es).listed → Reads O (run O below crew es) i

  -- Nobody uses what wasn't said, and nothing was said that one of the list could undo.
  abbrev pub RunLevelsHold : Type 0
  RunLevelsHold = (crew : List ℕ) (es : List (Event Form)) (i j : ℕ) → Memᴰ j (run O below crew es).listed → InOrder O (run O below crew es) i j

  -- What was promised, heard, said or allowed is never taken back by more events.
  abbrev pub RunGrows : Type 0
  RunGrows = (crew : List ℕ) (es fs : List (Event Form)) → Up O (run O below crew es) (run O below crew (es ++ fs))

  -- A notice that was sent is taken whenever it comes, whatever happened since: a promise by the harbour, a level by any machine.
  abbrev pub RunTakes : Type 0
  RunTakes =
      (crew : List ℕ) (es fs : List (Event Form)) →
      let v : World Form = run O below crew (es ++ fs) in
      ((i : ℕ) (f : Form) → Memᴰ (Promise i f) (run O below crew es).notices → play O below v (Hear i f) ≡ heard_of O v i f) × ((i : ℕ) (k : Form) → Memᴰ (Level k) (run O below crew es).notices → play O below v (Learn i k) ≡ learned O v i k)

  -- From the floor up any program can be run.
  abbrev pub RunGoesBack : Type 0
  RunGoesBack = (crew : List ℕ) (es : List (Event Form)) (i : ℕ) (p : Form) → ((run O below crew es).machine i).floor ⊑ p → ((run O below crew (es ++ (Run i p ∷ []))).machine i).program ≡ p

  -- u is w risen to k: all of the list may use k, and programs and list are as they were
  pub record Risen (k : Form) (w u : World Form) : Type 0 where
    pub level : (i : ℕ) → Memᴰ i w.listed → k ⊑ (u.machine i).level
    pub program : (i : ℕ) → (u.machine i).program ≡ (w.machine i).program
    pub listed : u.listed ≡ w.listed

  -- The events of raise bring all of the list to k, if all run what can do k.
  abbrev pub RunRises : Type 0
  RunRises = (k : Form) (w : World Form) → ((i : ℕ) → Memᴰ i w.listed → k ⊑ (w.machine i).program) → Risen k w (after O below w (raise O below k w))

  -- The same of lists of events alone: whatever has happened, there is a way on.
  abbrev pub RunRisesOn : Type 0
  RunRisesOn =
      (k : Form) (crew : List ℕ) (es : List (Event Form)) →
      let w : World Form = run O below crew es in
      ((i : ℕ) → Memᴰ i w.listed → k ⊑ (w.machine i).program) → Risen k w (run O below crew (es ++ raise O below k w))

  -- These events ask for no promise that isn't needed: it is k, by one of the list whose floor in w is not there yet.
  abbrev pub RaisePromises : Type 0
  RaisePromises = (k : Form) (w : World Form) (i : ℕ) (f : Form) → Memᴰ (MakePromise i f) (raise O below k w) → (f ≡ k) × Memᴰ i w.listed × (k ⊑ (w.machine i).floor → ⊥)

  -- all of them
  pub record Runs : Type 0 where
    pub plays_by_rules : PlaysByRules
    pub run_reaches : RunReaches
    pub runs_all : RunsAll
    pub run_understood : RunUnderstood
    pub run_levels_hold : RunLevelsHold
    pub run_grows : RunGrows
    pub run_takes : RunTakes
    pub run_goes_back : RunGoesBack
    pub run_rises : RunRises
    pub run_rises_on : RunRisesOn
    pub raise_promises : RaisePromises

-- Of an order with any test that is right.
abbrev pub RunsOf : Order → Type 0
RunsOf O = (below : O.Form → O.Form → Bool) → Truthful O below → Runs O below

-- the fleet of numbers: boats 1 and 2 on the list
abbrev pub two : List (Event ℕ) → World ℕ
two es = run numbers nat_le (1 ∷ 2 ∷ []) es

-- A computed run. Only boat 1 takes program 2: raising changes no level. Both do: both come to 2.
abbrev pub ShownRises : Type 0
ShownRises =
    let one : List (Event ℕ) = Run 1 2 ∷ [] in
    let both : List (Event ℕ) = Run 1 2 ∷ Run 2 2 ∷ [] in
    (((two (one ++ raise numbers nat_le 2 (two one))).machine 1).level ≡ 1) × ((two (one ++ raise numbers nat_le 2 (two one))).said ≡ 1) × (((two (both ++ raise numbers nat_le 2 (two both))).machine 1).level ≡ 2) × (((two (both ++ raise numbers nat_le 2 (two both))).machine 2).level ≡ 2)

-- A computed run. Boat 1 promises 2, renews to 3 and only then tells 2: it is told. 3 it may not tell, and below 2 it may not go.
abbrev pub ShownTells : Type 0
ShownTells =
    let es : List (Event ℕ) = Run 1 2 ∷ MakePromise 1 2 ∷ Run 1 3 ∷ Tell 1 2 ∷ Tell 1 3 ∷ Run 1 1 ∷ [] in
    ((two es).notices ≡ Promise 1 2 ∷ []) × (((two es).machine 1).program ≡ 3) × (((two es).machine 1).floor ≡ 2)
