-- The fleet as a world of values, and what each event makes of it.
-- Assumes nothing.
use Rattle.std.specs.Prelude.{ℕ, ◌+◌, ◌-◌, Bool, false, cond, not, ◌&&◌, ◌||◌, List, [], ◌∷◌, ◌++◌, map, length, replicate, is_some, Some, None, Ok, Err, Option, Result, ◌==◌, nat_le, nat_lt, slice_index_or, slice_set}
use Rattle.levels.specs.Verdicts.{Verdict, Number, Bad}
use Rattle.levels.specs.Rules.{Boat, reads, say_form, keep_form}
use Rattle.levels.specs.Standings.{first, renewed, gone_back, promised, raised}
use Rattle.ledger.specs.Entries.{Entry, floor_of}
use Rattle.ledger.specs.Ledgers.{Book, blank, listing, hearing, saying}
use Rattle.forms.specs.Meaning.{Meaning, Uttered, first as first_form, form_of, put, get}
use Rattle.forms.specs.Said.{said}
use Rattle.logbooks.specs.Logs.{Log, empty, taking, fallen}
use Rattle.world.specs.declared.messages.Notice.{Notice}
use Rattle.world.specs.declared.messages.Notice.TheVariants.{Promised, Heard, Allowed, Taken}
use Rattle.world.specs.declared.events.Event.{Event}
use Rattle.world.specs.declared.events.Event.TheVariants.{Enlist, Renew, GoBack, Restart, Promise, Tick, Announce, Say, BringWord, BringNotice}

-- a boat: its standing, whether the harbour has answered its promise, and the numbers that it has used for its words
pub record BoatState : Type 0 where
  pub standing : Boat
  pub answered : Bool
  pub used : ℕ

-- a word that was sent: what was given to be said, and what was said
pub record Said : Type 0 where
  pub from : ℕ
  pub to : ℕ
  pub number : ℕ
  pub given : Meaning
  pub spoken : Uttered

-- boat number i stands at place i - 1, and so does what it keeps of the words that it took; the oldest word and the oldest notice come first
pub record World : Type 0 where
  pub boats : List BoatState
  pub logs : List Log
  pub harbour : Book
  pub words : List Said
  pub notices : List Notice

-- a program that begins: nothing is answered yet
abbrev pub begun : Boat → ℕ → BoatState
begun s n = record { standing = s; answered = false; used = n }

-- a boat at its start
abbrev pub fresh : BoatState
fresh = begun first 0

-- n boats at their start, nobody on the list, nothing sent
abbrev pub start : ℕ → World
start n = record { boats = replicate n fresh; logs = replicate n empty; harbour = blank; words = []; notices = [] }

-- the place of the boat with the number b, if there is one
abbrev pub place_of : World → ℕ → Option ℕ
place_of w b = cond (nat_le 1 b && nat_le b (length w.boats)) (Some (b - 1)) None

abbrev pub state_at : World → ℕ → BoatState
state_at w i = slice_index_or w.boats i fresh

abbrev pub log_at : World → ℕ → Log
log_at w i = slice_index_or w.logs i empty

-- what is asked of a boat that there is not makes no sense
abbrev pub at : Option ℕ → (ℕ → Result World Verdict) → Result World Verdict
at None f = Err Bad
at (Some i) f = f i

-- outcomes: a boat is another; what it keeps is another; a notice more was sent; the ledger is another; a word more was sent
abbrev pub moored : World → ℕ → BoatState → World
moored w i s = record { boats = slice_set w.boats i s; logs = w.logs; harbour = w.harbour; words = w.words; notices = w.notices }

abbrev pub logged : World → ℕ → Log → World
logged w i l = record { boats = w.boats; logs = slice_set w.logs i l; harbour = w.harbour; words = w.words; notices = w.notices }

abbrev pub noticed : World → Notice → World
noticed w n = record { boats = w.boats; logs = w.logs; harbour = w.harbour; words = w.words; notices = w.notices ++ n ∷ [] }

abbrev pub booked : World → Book → World
booked w x = record { boats = w.boats; logs = w.logs; harbour = x; words = w.words; notices = w.notices }

abbrev pub spoken : World → Said → World
spoken w x = record { boats = w.boats; logs = w.logs; harbour = w.harbour; words = w.words ++ x ∷ []; notices = w.notices }

-- what a boat tells of its floor
abbrev pub telling : ℕ → ℕ → Notice
telling b f = Promised (record { 0 = b }) (record { 0 = f })

-- a program begins on boat b, at place i, which is s from now on: what it has not written down is forgotten, and it tells a floor above 1
abbrev pub reopened : World → ℕ → BoatState → World
reopened w i s = logged (moored w i s) i (fallen (log_at w i))

abbrev pub opening : World → ℕ → ℕ → BoatState → World
opening w i b s = cond (nat_lt 1 s.standing.floor) (noticed (reopened w i s) (telling b s.standing.floor)) (reopened w i s)

abbrev pub opened : World → ℕ → ℕ → ℕ → Result Boat Verdict → Result World Verdict
opened w i b n (Ok s) = Ok (opening w i b (begun s n))
opened w i b n (Err v) = Err v

abbrev pub renewing : World → ℕ → ℕ → Result World Verdict
renewing w b to = at (place_of w b) (λ i. opened w i b (state_at w i).used (renewed (state_at w i).standing to))

abbrev pub going_back : World → ℕ → ℕ → Result World Verdict
going_back w b to = at (place_of w b) (λ i. opened w i b (state_at w i).used (gone_back (state_at w i).standing to))

abbrev pub restarting : World → ℕ → Result World Verdict
restarting w b = at (place_of w b) (λ i. Ok (opening w i b (begun (state_at w i).standing (state_at w i).used)))

-- the floor becomes the program's number; an answer counts on only where it was that already
abbrev pub vowed : BoatState → BoatState
vowed s = record { standing = promised s.standing; answered = s.answered && nat_le s.standing.program s.standing.floor; used = s.used }

abbrev pub promising : World → ℕ → Result World Verdict
promising w b = at (place_of w b) (λ i. Ok (noticed (moored w i (vowed (state_at w i))) (telling b (state_at w i).standing.program)))

-- a floor of 1 needs no telling, and one that is answered no more
abbrev pub tells : BoatState → Bool
tells s = nat_lt 1 s.standing.floor && not s.answered

abbrev pub ticking : World → ℕ → Result World Verdict
ticking w b = at (place_of w b) (λ i. Ok (cond (tells (state_at w i)) (noticed w (telling b (state_at w i).standing.floor)) w))

-- a level is told to each boat of the list
abbrev pub allowing : ℕ → Entry → Notice
allowing k e = Allowed e.boat (record { 0 = k })

abbrev pub to_each : ℕ → List Entry → List Notice
to_each k = map (allowing k)

abbrev pub told_each : World → ℕ → World
told_each w k = record { boats = w.boats; logs = w.logs; harbour = w.harbour; words = w.words; notices = w.notices ++ to_each k w.harbour.list }

abbrev pub announced : World → ℕ → Result Book Verdict → Result World Verdict
announced w k (Ok x) = Ok (told_each (booked w x) k)
announced w k (Err v) = Err v

abbrev pub announcing : World → ℕ → Result World Verdict
announcing w k = announced w k (saying w.harbour k)

-- only a boat that there is can be listed
abbrev pub enlisted : World → Result Book Verdict → Result World Verdict
enlisted w (Ok x) = Ok (booked w x)
enlisted w (Err v) = Err v

abbrev pub enlisting : World → ℕ → Result World Verdict
enlisting w b = at (place_of w b) (λ i. enlisted w (listing w.harbour b))

-- a word goes out in the form that the speaker's standing allows, with the next number
abbrev pub word_of : ℕ → ℕ → BoatState → Uttered → Said
word_of i j s u = record { from = i; to = j; number = s.used + 1; given = get u; spoken = put (say_form s.standing j) (get u) }

abbrev pub counted : BoatState → BoatState
counted s = record { standing = s.standing; answered = s.answered; used = s.used + 1 }

abbrev pub talked : World → ℕ → ℕ → ℕ → BoatState → Uttered → World
talked w p i j s u = moored (spoken w (word_of i j s u)) p (counted s)

-- one that was given in a form that the speaker's program doesn't know is refused, 1; the numbers are used up at 2^32, 6
abbrev pub talking : World → ℕ → ℕ → Uttered → Result World Verdict
talking w i j u =
    at (place_of w i) (λ p. cond (is_some (place_of w j) && not (j == i)) (cond (reads (state_at w p).standing.program (form_of u)) (cond (nat_le 4294967296 ((state_at w p).used + 1)) (Err (Number 6)) (Ok (talked w p i j (state_at w p) u))) (Err (Number 1))) (Err Bad))

-- a word comes: what the program doesn't read is turned away, 1; else it is for the boat to take or to pass over
abbrev pub kept_by : World → ℕ → Result Log Verdict → Result World Verdict
kept_by w i (Ok l) = Ok (logged w i l)
kept_by w i (Err v) = Err v

abbrev pub taken : World → ℕ → Boat → Said → Result Log Verdict
taken w i s x = cond (nat_lt i (length w.logs)) (taking (log_at w i) x.from x.number x.spoken (keep_form s (form_of x.spoken))) (Err Bad)

abbrev pub hearing_word : World → Said → Result World Verdict
hearing_word w x =
    at (place_of w x.to) (λ i. cond (reads (state_at w i).standing.program (form_of x.spoken)) (kept_by w i (taken w i (state_at w i).standing x)) (Err (Number 1)))

-- the harbour answers a promise with the highest that it has of that boat
abbrev pub confirmed : World → ℕ → Result (ℕ × Book) Verdict → Result World Verdict
confirmed w b (Ok p) = Ok (noticed (booked w p.1) (Heard (record { 0 = b }) (record { 0 = p.0 })))
confirmed w b (Err v) = Err v

-- an answer to the floor, or to more, is one
abbrev pub assured : BoatState → ℕ → BoatState
assured s f = record { standing = s.standing; answered = s.answered || nat_le s.standing.floor f; used = s.used }

-- a boat takes a level above its own, and answers with the one that it has then
abbrev pub learned : World → ℕ → ℕ → ℕ → World
learned w i b k =
    noticed (moored w i (record { standing = raised (state_at w i).standing k; answered = (state_at w i).answered; used = (state_at w i).used })) (Taken (record { 0 = b }) (record { 0 = (raised (state_at w i).standing k).level }))

-- that a level was taken changes nothing
abbrev pub acknowledging : World → ℕ → Result World Verdict
acknowledging w b = cond (is_some (floor_of b w.harbour.list)) (Ok w) (Err (Number 5))

-- a notice comes
abbrev pub hearing_notice : World → Notice → Result World Verdict
hearing_notice w (Promised b f) = confirmed w b.0 (hearing w.harbour b.0 f.0)
hearing_notice w (Heard b f) = at (place_of w b.0) (λ i. Ok (moored w i (assured (state_at w i) f.0)))
hearing_notice w (Allowed b k) = at (place_of w b.0) (λ i. Ok (learned w i b.0 k.0))
hearing_notice w (Taken b k) = acknowledging w b.0

abbrev pub no_word : Said
no_word = record { from = 0; to = 0; number = 0; given = record { ship = 0; lock = 0; before = 0; behind = 0; name = [] }; spoken = first_form 0 0 0 }

abbrev pub no_notice : Notice
no_notice = Taken (record { 0 = 0 }) (record { 0 = 0 })

-- what was never sent cannot come
abbrev pub bringing_word : World → ℕ → Result World Verdict
bringing_word w n = cond (nat_lt n (length w.words)) (hearing_word w (slice_index_or w.words n no_word)) (Err Bad)

abbrev pub bringing_notice : World → ℕ → Result World Verdict
bringing_notice w n = cond (nat_lt n (length w.notices)) (hearing_notice w (slice_index_or w.notices n no_notice)) (Err Bad)

abbrev pub play : World → Event → Result World Verdict
play w (Enlist b) = enlisting w b.0
play w (Renew b to) = renewing w b.0 to.0
play w (GoBack b to) = going_back w b.0 to.0
play w (Restart b) = restarting w b.0
play w (Promise b) = promising w b.0
play w (Tick b) = ticking w b.0
play w (Announce k) = announcing w k.0
play w (Say i j u) = talking w i.0 j.0 (said u)
play w (BringWord n) = bringing_word w n
play w (BringNotice n) = bringing_notice w n
