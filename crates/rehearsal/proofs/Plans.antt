-- What the loops make, step by step, that list the events for a level and play them.
-- Assumes nothing.
use Rattle.std.proofs.Common.{◌≡◌, ℕ, ◌+◌, ◌*◌, ◌<◌, ◌≤◌, Bool, true, ◌&&◌, ◌||◌, ltb, List, [], ◌∷◌, ◌++◌, map, length, get_or, take, drop, is_ok, Ok, Err, Result, sym, refl, ap, ◌∙◌, subst, append_assoc, append-nil, arith}
use Rattle.std.proofs.lemmas.List.{take_more, at_drop_more}
use Rattle.std.proofs.lemmas.Bool.{cond_both}
use Rattle.std.specs.List.{filter, list_any, range_with_len}
use Rattle.std.specs.Map.{keys_of, values_of}
use Rattle.levels.specs.declared.numbers.BoatId.{BoatId}
use Rattle.levels.specs.declared.numbers.Program.{Program}
use Rattle.ledger.specs.Entries.{Entry, entry_of}
use Rattle.levels.specs.Verdicts.{Verdict, Number, Bad, Memory, Due}
use Rattle.levels.specs.Standings.{first}
use Rattle.world.specs.declared.events.Event.{Event}
use Rattle.world.specs.declared.events.Event.TheVariants.{Announce, BringNotice}
use Rattle.world.specs.declared.messages.Notice.{Notice}
use Rattle.world.specs.Worlds.{World, play}
use Rattle.world.specs.Abstract.{boat_of}
use Rattle.world.specs.Promises.{after, plays}
use Rattle.world.specs.Rising.{vouching, behind, bringing, outdated, levels_notice, raising, can_raise, taken}
use Rattle.world.specs.Calls.{Halted}
use Rattle.world.proofs.Kept.{plays_push}
use Rattle.world.proofs.Rises.{rising_ok}

-- what the chains over the map make is what the list of the book asks for
pub behind_counts : (k : ℕ) (ps : List (BoatId × Program)) → behind k (map entry_of ps) ≡ length (filter (λ (p : Program). ltb p.0 k) (values_of ps))
behind_counts k [] = refl
behind_counts k (p ∷ ps) = let n = behind_counts k ps in cond_both (ltb p.1.0 k) (1 + behind k (map entry_of ps)) (behind k (map entry_of ps)) (λ m. m ≡ length (filter (λ (q : Program). ltb q.0 k) (values_of (p ∷ ps)))) (λ t. simp t (omega (arith, n))) (λ t. simp t n)

-- at most all are behind
pub behind_most : (k : ℕ) (es : List Entry) → behind k es ≤ length es
behind_most k [] = omega arith
behind_most k (e ∷ es) = let m = behind_most k es in cond_both (ltb e.floor.0 k) (1 + behind k es) (behind k es) (λ n. n ≤ length (e ∷ es)) (λ t. omega arith) (λ t. omega arith)

pub outdated_any : (w : World) (k : ℕ) (ps : List (BoatId × Program)) → outdated w k (map entry_of ps) ≡ list_any (λ (b : BoatId). ltb (boat_of w b.0).standing.program k) (keys_of ps)
outdated_any w k [] = refl
outdated_any w k (p ∷ ps) = ap (λ t. ltb (boat_of w p.0.0).standing.program k || t) (outdated_any w k ps)

pub bringing_numbers : (n : ℕ) (ps : List (BoatId × Program)) → bringing (map entry_of ps) n ≡ map (λ m. BringNotice m) (range_with_len n (length ps))
bringing_numbers n [] = refl
bringing_numbers n (p ∷ ps) = ap (λ es. BringNotice n ∷ es) (bringing_numbers (n + 1) ps)

-- a list that is made from its start: what is there, and what is left
pub pushed : (was now new rest left all : List Event) → now ≡ was ++ new → left ≡ new ++ rest → was ++ left ≡ all → now ++ rest ≡ all
pushed was now new rest left all p q r = ap (λ es. es ++ rest) p ∙ append_assoc was new rest ∙ sym (ap (λ es. was ++ es) q) ∙ r

pub finished : (now left all : List Event) → left ≡ [] → now ++ left ≡ all → now ≡ all
finished now left all q r = sym (append-nil now) ∙ sym (ap (λ es. now ++ es) q) ∙ r

-- a list that three pushes make
pub three : (a b c d : List Event) (v x y z : Event) → b ≡ a ++ v ∷ [] → v ≡ x → c ≡ b ++ y ∷ [] → d ≡ c ++ z ∷ [] → d ≡ a ++ x ∷ y ∷ z ∷ []
three a b c d v x y z p e q r =
    r ∙ ap (λ es. es ++ z ∷ []) (q ∙ ap (λ es. es ++ y ∷ []) (p ∙ ap (λ t. a ++ t ∷ []) e) ∙ append_assoc a (x ∷ []) (y ∷ [])) ∙ append_assoc a (x ∷ y ∷ []) (z ∷ [])

-- the parts of the list, one after the other
pub whole : (k : ℕ) (w : World) (list : List Entry) (ns : List Notice) (m : ℕ) (a b c d : List Event) → list ≡ w.harbour.list → ns ≡ w.notices → m ≡ behind k list → a ≡ [] → b ≡ a ++ vouching w k w.harbour.list (length w.notices) → c ≡ b ++ Announce (record { 0 = k }) ∷ [] → d ≡ c ++ bringing list (length ns + 2 * m) → d ≡ raising k w
whole k w list ns m a b c d same sent count p q r t =
    let vs : List Event = vouching w k w.harbour.list (length w.notices) in
    let C : List Entry → List Event = λ es. vs ++ Announce (record { 0 = k }) ∷ bringing es (length ns + 2 * m) in
    let D : ℕ → List Event = λ n. vs ++ Announce (record { 0 = k }) ∷ bringing w.harbour.list n in
    let n : length ns + 2 * m ≡ levels_notice k w = ap (λ x. length x + 2 * m) sent ∙ ap (λ x. length w.notices + 2 * x) (count ∙ ap (behind k) same) in
    t ∙ ap (λ es. es ++ bringing list (length ns + 2 * m)) (r ∙ ap (λ es. es ++ Announce (record { 0 = k }) ∷ []) (q ∙ ap (λ es. es ++ vs) p)) ∙ append_assoc vs (Announce (record { 0 = k }) ∷ []) (bringing list (length ns + 2 * m)) ∙ ap C same ∙ ap D n

-- events are played from their start
pub played_more : (first was now : World) (es : List Event) (i : ℕ) (d : Event) → i < length es → was ≡ plays first (take i es) → play was (get_or es i d) ≡ Ok now → now ≡ plays first (take (i + 1) es)
played_more first was now es i d l p t =
    sym (ap (plays first) (take_more es i d l) ∙ plays_push first (take i es) (get_or es i d) ∙ ap (λ (w : World). after w (play w (get_or es i d))) (sym p) ∙ ap (after was) t)

pub taken_next : (was : World) (es : List Event) (i : ℕ) (d : Event) → i < length es → taken was (drop i es) ≡ true → is_ok (play was (get_or es i d)) && taken (after was (play was (get_or es i d))) (drop (i + 1) es) ≡ true
taken_next was es i d l t = sym (at_drop_more (taken was) es i d l) ∙ t

pub taken_more : (was now : World) (es : List Event) (i : ℕ) (d : Event) → i < length es → taken was (drop i es) ≡ true → play was (get_or es i d) ≡ Ok now → taken now (drop (i + 1) es) ≡ true
taken_more was now es i d l t p =
    sym (ap (λ (x : Result World Verdict). is_ok x && taken (after was x) (drop (i + 1) es)) p) ∙ taken_next was es i d l t

-- what is taken is refused for want of memory only
pub only_memory : (x : Result World Verdict) (rest : Bool) (v : Verdict) → is_ok x && rest ≡ true → Due x v → v ≡ Memory
only_memory (Ok w) rest (Number n) t d = let z : ◌≡◌ {A = ℕ} 0 1 = cc in absurd (omega arith)
only_memory (Ok w) rest Bad t d = let z : ◌≡◌ {A = ℕ} 0 1 = cc in absurd (omega arith)
only_memory (Ok w) rest Memory t d = refl
only_memory (Err e) rest v t d = let z : ◌≡◌ {A = ℕ} 0 1 = cc in absurd (omega arith)

-- a refusal before anything is played
there_are : (k : ℕ) (w : World) → is_ok (can_raise k w) ≡ true → can_raise k w ≡ Ok (raising k w)
there_are k w = go (can_raise k w) refl
  where
    go : (x : Result (List Event) Verdict) → can_raise k w ≡ x → is_ok x ≡ true → x ≡ Ok (raising k w)
    go (Ok fs) e t = ap Ok (sym (rising_ok k w fs e).0)
    go (Err v) e t = let z : ◌≡◌ {A = ℕ} 0 1 = cc in absurd (omega arith)

pub halted_first : (k : ℕ) (w : World) (v : Verdict) → Due (can_raise k w) v → Halted k w w v
halted_first k w (Number n) d = (d, refl)
halted_first k w Bad d = (d, refl)
halted_first k w Memory d = (there_are k w d, (0, refl))

-- want of memory on the way
pub halted_later : (k : ℕ) (w v : World) (e : Verdict) (es fs : List Event) (i : ℕ) → can_raise k w ≡ Ok fs → es ≡ fs → e ≡ Memory → v ≡ plays w (take i es) → Halted k w v e
halted_later k w v e es fs i r s m p =
    let all : fs ≡ raising k w = sym (rising_ok k w fs r).0 in
    subst (Halted k w v) (sym m) (r ∙ ap Ok all, (i, p ∙ ap (λ (x : List Event). plays w (take i x)) (s ∙ all)))
