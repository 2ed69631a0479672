-- The fleet of records: every station with its file, and what each event, with its fate, makes of the world.
-- Assumes nothing.
use Rattle.std.specs.Prelude.{ℕ, ◌+◌, Bool, true, false, cond, ◌&&◌, List, [], ◌∷◌, ◌++◌, length, Some, None, Ok, Err, Option, Result, ◌==◌, nat_le, nat_lt, slice_index_or}
use Rattle.levels.specs.Verdicts.{Verdict, Number, Bad}
use Rattle.ledger.specs.Ledgers.{Book}
use Rattle.forms.specs.Meaning.{Meaning, Uttered, first, get, put}
use Rattle.forms.specs.Said.{said}
use Rattle.levels.specs.Rules.{say_form}
use Rattle.messages.specs.Messages.{word, has_it, Letter, notice}
use Rattle.records.specs.Records.{Written}
use Rattle.stations.specs.Journals.{floor}
use Rattle.stations.specs.Deeds.{Deed, deed, nothing}
use Rattle.stations.specs.Boats as boats
use Rattle.stations.specs.Boats.{Memory}
use Rattle.stations.specs.Harbours as harbours
use Rattle.runs.specs.declared.events.Event.{Event}
use Rattle.runs.specs.declared.events.Event.TheVariants.{Enlist, Renew, GoBack, Start, Rest, Promise, Tick, Announce, Say, BringWord, BringNotice}
use Rattle.runs.specs.declared.events.Fate.{Fate}
use Rattle.runs.specs.Disks.{Disk, file, blank, after, told, lives}

-- a boat: its file, the program that runs or ran last, and what that knows, while it runs
pub record Vessel : Type 0 where
  pub disk : Disk
  pub program : ℕ
  pub running : Option Memory

pub record Port : Type 0 where
  pub disk : Disk
  pub running : Option Book

-- a word that was sent: what was given to be said, and what was said
pub record Said : Type 0 where
  pub from : ℕ
  pub to : ℕ
  pub number : ℕ
  pub given : Meaning
  pub spoken : Uttered

-- boats are numbered from 1 to count; the oldest word and the oldest notice come first
pub record World : Type 0 where
  pub count : ℕ
  pub boat : ℕ → Vessel
  pub harbour : Port
  pub words : List Said
  pub notices : List Letter

-- a new boat runs program 1 over an empty file
abbrev pub fresh : Vessel
fresh = record { disk = blank; program = 1; running = Some (boats.recalled 1 []) }

abbrev pub new_port : Port
new_port = record { disk = blank; running = Some (harbours.recalled []) }

abbrev pub start : ℕ → World
start n = record { count = n; boat = λ b. fresh; harbour = new_port; words = []; notices = [] }

abbrev pub put_at : {A : Type 0} → ℕ → A → (ℕ → A) → ℕ → A
put_at i x f j = cond (j == i) x (f j)

-- does a step sync? One that writes does
abbrev pub writes : List Written → Bool
writes [] = false
writes (r ∷ rs) = true

-- what runs on
abbrev pub kept : {A : Type 0} → Bool → A → Option A
kept true m = Some m
kept false m = None

-- a boat after a step that leaves the memory m; s: the step syncs
abbrev pub vessel_after : Fate → Bool → List Written → Memory → Vessel → Vessel
vessel_after f s rs m v = record { disk = after f s rs v.disk; program = v.program; running = kept (lives f) m }

abbrev pub port_after : Fate → Bool → List Written → Book → Port → Port
port_after f s rs x p = record { disk = after f s rs p.disk; running = kept (lives f) x }

-- boat i, which is v, does something: it says notices
abbrev pub boat_does : World → ℕ → Vessel → Bool → Deed × Memory → Fate → World
boat_does w i v s d f = record { count = w.count; boat = put_at i (vessel_after f s d.0.records d.1 v) w.boat; harbour = w.harbour; words = w.words; notices = w.notices ++ told f s d.0.letters }

abbrev pub harbour_does : World → Bool → Deed × Book → Fate → World
harbour_does w s d f = record { count = w.count; boat = w.boat; harbour = port_after f s d.0.records d.1 w.harbour; words = w.words; notices = w.notices ++ told f s d.0.letters }

-- words are said
abbrev pub speaks : List Said → World → World
speaks xs w = record { count = w.count; boat = w.boat; harbour = w.harbour; words = w.words ++ xs; notices = w.notices }

-- is there a boat with the number b
abbrev pub there : World → ℕ → Bool
there w b = nat_le 1 b && nat_le b w.count

-- what is asked of a boat that there is not, or of a program that does not run, makes no sense
abbrev pub aboard : {A : Type 0} → Option A → (A → Result World Verdict) → Result World Verdict
aboard None k = Err Bad
aboard (Some m) k = k m

abbrev pub at : World → ℕ → (Memory → Result World Verdict) → Result World Verdict
at w b k = cond (there w b) (aboard (w.boat b).running k) (Err Bad)

-- a step that may be refused
abbrev pub what_boat : World → ℕ → Fate → Result (Deed × Memory) Verdict → Result World Verdict
what_boat w b f (Ok d) = Ok (boat_does w b (w.boat b) (writes d.0.records) d f)
what_boat w b f (Err e) = Err e

abbrev pub what_harbour : World → Fate → Result (Deed × Book) Verdict → Result World Verdict
what_harbour w f (Ok d) = Ok (harbour_does w (writes d.0.records) d f)
what_harbour w f (Err e) = Err e

-- program v begins over the file of boat b, all of which is synced before anything is sent; what ran ends
abbrev pub under : ℕ → Vessel → Vessel
under v x = record { disk = x.disk; program = v; running = None }

abbrev pub opened : World → ℕ → ℕ → Fate → Result (Deed × Memory) Verdict → Result World Verdict
opened w b v f (Ok d) = Ok (boat_does w b (under v (w.boat b)) true d f)
opened w b v f (Err e) = Err e

abbrev pub opening : World → ℕ → ℕ → Fate → Result World Verdict
opening w b v f = opened w b v f (boats.opening b v (file (w.boat b).disk))

abbrev pub reopened : World → Fate → Result Book Verdict → Result World Verdict
reopened w f (Ok x) = Ok (harbour_does w true (nothing, x) f)
reopened w f (Err e) = Err e

-- a program at least as new; only to an older one, and not below the floor that stands in the file: 3
abbrev pub renewing : World → ℕ → ℕ → Fate → Result World Verdict
renewing w b to f = cond (there w b && nat_le (w.boat b).program to) (opening w b to f) (Err Bad)

abbrev pub going_back : World → ℕ → ℕ → Fate → Result World Verdict
going_back w b to f =
    cond (there w b && nat_lt to (w.boat b).program) (cond (nat_le (floor (file (w.boat b).disk)) to) (opening w b to f) (Err (Number 3))) (Err Bad)

abbrev pub starting : World → ℕ → Fate → Result World Verdict
starting w b f =
    cond (b == 0) (reopened w f (harbours.opening (file w.harbour.disk))) (cond (there w b) (opening w b (w.boat b).program f) (Err Bad))

-- nothing is done; the fate alone counts
abbrev pub resting : World → ℕ → Fate → Result World Verdict
resting w b f =
    cond (b == 0) (aboard w.harbour.running (λ x. Ok (harbour_does w false (nothing, x) f))) (at w b (λ m. Ok (boat_does w b (w.boat b) false (nothing, m) f)))

abbrev pub promising : World → ℕ → Fate → Result World Verdict
promising w b f = at w b (λ m. what_boat w b f (Ok (boats.promising b m)))

abbrev pub ticking : World → ℕ → Fate → Result World Verdict
ticking w b f = at w b (λ m. what_boat w b f (Ok (boats.ticking b m, m)))

abbrev pub announcing : World → ℕ → Fate → Result World Verdict
announcing w k f = aboard w.harbour.running (λ x. what_harbour w f (harbours.announcing x k))

-- only a boat that there is can be listed
abbrev pub enlisting : World → ℕ → Fate → Result World Verdict
enlisting w b f = cond (there w b) (aboard w.harbour.running (λ x. what_harbour w f (harbours.listing x b))) (Err Bad)

-- a word goes out: beside it stands what was given to be said
abbrev pub word_of : ℕ → ℕ → Memory → Uttered → Said
word_of i j m u = record { from = i; to = j; number = m.used + 1; given = get u; spoken = put (say_form m.standing j) (get u) }

abbrev pub talked : World → ℕ → ℕ → Memory → Uttered → Fate → Result (Deed × Memory) Verdict → Result World Verdict
talked w i j m u f (Ok d) = Ok (speaks (told f true (word_of i j m u ∷ [])) (boat_does w i (w.boat i) true (deed d.0.records [], d.1) f))
talked w i j m u f (Err e) = Err e

abbrev pub talking : World → ℕ → ℕ → Uttered → Fate → Result World Verdict
talking w i j u f = cond (there w j) (at w i (λ m. talked w i j m u f (boats.talking i j m u))) (Err Bad)

-- a message comes to the station that it is for
abbrev pub arriving : World → Letter → Fate → Result World Verdict
arriving w l f =
    cond (l.to == 0) (aboard w.harbour.running (λ x. what_harbour w f (harbours.hearing x l))) (at w l.to (λ m. what_boat w l.to f (boats.hearing l.to m l)))

abbrev pub letter_of : Said → Letter
letter_of x = record { from = x.from; to = x.to; number = x.number; body = word x.spoken }

abbrev pub no_word : Said
no_word = record { from = 0; to = 0; number = 0; given = record { ship = 0; lock = 0; before = 0; behind = 0; name = [] }; spoken = first 0 0 0 }

abbrev pub no_notice : Letter
no_notice = notice 0 0 (has_it 0)

-- what was never sent cannot come
abbrev pub bringing_word : World → ℕ → Fate → Result World Verdict
bringing_word w n f = cond (nat_lt n (length w.words)) (arriving w (letter_of (slice_index_or w.words n no_word)) f) (Err Bad)

abbrev pub bringing_notice : World → ℕ → Fate → Result World Verdict
bringing_notice w n f = cond (nat_lt n (length w.notices)) (arriving w (slice_index_or w.notices n no_notice) f) (Err Bad)

abbrev pub play : World → Event → Fate → Result World Verdict
play w (Enlist b) f = enlisting w b.0 f
play w (Renew b to) f = renewing w b.0 to.0 f
play w (GoBack b to) f = going_back w b.0 to.0 f
play w (Start b) f = starting w b.0 f
play w (Rest b) f = resting w b.0 f
play w (Promise b) f = promising w b.0 f
play w (Tick b) f = ticking w b.0 f
play w (Announce k) f = announcing w k.0 f
play w (Say i j u) f = talking w i.0 j.0 (said u) f
play w (BringWord n) f = bringing_word w n f
play w (BringNotice n) f = bringing_notice w n f

-- the world after an event: what is refused changes nothing
abbrev pub outcome : World → Result World Verdict → World
outcome w (Ok v) = v
outcome w (Err e) = w

abbrev pub plays : World → List (Event × Fate) → World
plays w [] = w
plays w (e ∷ es) = plays (outcome w (play w e.0 e.1)) es

-- n boats, and any events with any fates
abbrev pub run : ℕ → List (Event × Fate) → World
run n es = plays (start n) es
