-- What is kept of one ship.
-- Assumes nothing.
use Rattle.std.specs.Prelude.{◌≡◌, ℕ, Bool, true, cond, not, ◌&&◌, ◌||◌, List, [], ◌∷◌, map, is_some, Some, None, Option, ◌==◌, nat_lt}
use Rattle.std.specs.List.{list_any}
use Rattle.std.specs.BTreeMap.{get, is_at}
use Rattle.std.specs.Global.{Box}
use Rattle.std.specs.Box.{with_value}
use Rattle.std.specs.Ordering.{nat_cmp}
use Rattle.logbooks.specs.declared.slot.Slot.{Slot}
use Rattle.logbooks.specs.declared.log.Ship.{Ship}
use Rattle.logbooks.specs.Slots.{Kept, kept, in_form}

abbrev pub slots_of : List (Box Ship) → List Slot
slots_of = map (λ s. s.value.slot)

-- the numbers of the ships that the slots are about
abbrev pub numbers_of : List (Box Ship) → List ℕ
numbers_of = map (λ s. s.value.slot.ship)

-- the ships' numbers rise
abbrev pub ship_above : ℕ → List Slot → Bool
ship_above n [] = true
ship_above n (s ∷ ss) = nat_lt n s.ship

abbrev pub rising : List Slot → Bool
rising [] = true
rising (s ∷ ss) = ship_above s.ship ss && rising ss

-- lists with the same numbers in them
abbrev pub Alike : List ℕ → List ℕ → Type 0
Alike ns ks = (n : ℕ) → list_any (is_at (nat_cmp n)) ks ≡ list_any (is_at (nat_cmp n)) ns

-- a slot with a newer form is about one of the ships that are listed
abbrev pub covered : List ℕ → Slot → Bool
covered ns s = not (is_some s.newer) || list_any (is_at (nat_cmp s.ship)) ns

abbrev pub covers : List ℕ → List (Box Ship) → Bool
covers ns [] = true
covers ns (s ∷ ss) = covered ns s.value.slot && covers ns ss

-- how many slots keep their word in form 0, which there is not, and in each form that there is
abbrev pub in_forms : List (Box Ship) → List ℕ
in_forms ss = map (λ k. in_form k (map kept (slots_of ss))) (0 ∷ 1 ∷ 2 ∷ 3 ∷ [])

-- a ship of which nothing newer than what is kept is known
abbrev pub bare : Box Ship → Box Ship
bare b = with_value b (record b.value { slot = record { ship = b.value.slot.ship; from = b.value.slot.from; number = b.value.slot.number; word = b.value.slot.word; newer = None } })

abbrev pub bare_all : List (ℕ × Box Ship) → List (ℕ × Box Ship)
bare_all = map (λ e. (e.0, bare e.1))

-- the slot, and the last number taken from each boat: the slot's, or another
abbrev pub seen : Ship → Kept × (ℕ → Option ℕ)
seen s = (kept s.slot, λ b. cond (b == s.slot.from.0) (Some s.last) (get (λ x y. nat_cmp x.0 y.0) s.others (record { 0 = b })))

-- a last number, of a ship that may be unknown
abbrev pub last_of : Option (Box Ship) → ℕ → Option ℕ
last_of None b = None
last_of (Some s) b = (seen s.value).1 b

-- a last number from one boat, and all else as before
abbrev pub noted_by : (ℕ → Option ℕ) → ℕ → ℕ → ℕ → Option ℕ
noted_by f b n c = cond (c == b) (Some n) (f c)
