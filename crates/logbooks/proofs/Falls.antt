-- What is left of the ships when the power goes.
-- Assumes nothing.
use Rattle.std.proofs.Common.{◌≡◌, ℕ, true, ◌&&◌, List, [], ◌∷◌, map, Some, None, Option, refl, ap, ◌∙◌, sym}
use mathlib.Core.Path.{fun_ext}
use Rattle.std.specs.BTreeMap.{BTreeMap, get, is_at, btree_map_len}
use Rattle.std.specs.Map.{values_of}
use Rattle.std.specs.Option.{option_map}
use Rattle.std.specs.Global.{Box}
use Rattle.std.specs.Ordering.{nat_cmp}
use Rattle.std.proofs.lemmas.List.{length-map}
use Rattle.std.proofs.lemmas.Map.Made.{lookup-map_values, keys_of-map_values}
use Rattle.logbooks.specs.declared.log.Ship.{Ship}
use Rattle.logbooks.specs.Slots.{Kept, kept, in_form, forgotten}
use Rattle.logbooks.specs.Ships.{numbers_of, slots_of, in_forms, ship_above, rising, bare, bare_all, last_of}
use Rattle.logbooks.specs.Logs.{Log, fallen}
use Rattle.logbooks.proofs.Ships.{Numbered, slots_in}
use Rattle.logbooks.proofs.Puts.{log_in}
use Rattle.logbooks.proofs.Counts.{in_forgotten, table}

numbers_bare : (es : List (ℕ × Box Ship)) → numbers_of (values_of (bare_all es)) ≡ numbers_of (values_of es)
numbers_bare [] = refl
numbers_bare (e ∷ es) = ap (λ l. e.1.value.slot.ship ∷ l) (numbers_bare es)

pub above_bare : (n : ℕ) (es : List (ℕ × Box Ship)) → ship_above n (slots_of (values_of (bare_all es))) ≡ ship_above n (slots_of (values_of es))
above_bare n [] = refl
above_bare n (e ∷ es) = refl

pub rising_bare : (es : List (ℕ × Box Ship)) → rising (slots_of (values_of (bare_all es))) ≡ rising (slots_of (values_of es))
rising_bare [] = refl
rising_bare (e ∷ es) = ap (λ t. t && rising (slots_of (values_of (bare_all es)))) (above_bare e.1.value.slot.ship es) ∙ ap (λ t. ship_above e.1.value.slot.ship (slots_of (values_of es)) && t) (rising_bare es)

pub slots_bare : (es : List (ℕ × Box Ship)) → slots_in (bare_all es) ≡ map forgotten (slots_in es)
slots_bare [] = refl
slots_bare (e ∷ es) = ap (λ l. forgotten (kept e.1.value.slot) ∷ l) (slots_bare es)

last_bare : (o : Option (Box Ship)) (b : ℕ) → last_of (option_map bare o) b ≡ last_of o b
last_bare None b = refl
last_bare (Some s) b = refl

module _ (m n : BTreeMap ℕ (Box Ship)) (e : n.entries ≡ bare_all m.entries) where
  pub numbered_bare : Numbered m.entries → Numbered n.entries
  numbered_bare h = rw e (numbers_bare m.entries ∙ h ∙ sym (keys_of-map_values bare m.entries))

  pub rises_bare : rising (slots_of (values_of m.entries)) ≡ true → rising (slots_of (values_of n.entries)) ≡ true
  rises_bare h = rw e (rising_bare m.entries ∙ h)

  pub length_bare : btree_map_len n ≡ btree_map_len m
  length_bare = rw e (length-map m.entries (λ (x : ℕ × Box Ship). (x.0, bare x.1)))

  pub log_bare : log_in n ≡ fallen (log_in m)
  log_bare =
      let F : List Kept → (ℕ → ℕ → Option ℕ) → Log = λ l f. record { slots = l; lasts = f } in
      let lasts : (log_in n).lasts ≡ (log_in m).lasts = fun_ext (λ b. fun_ext (λ s. rw e (ap (λ o. last_of o b) (lookup-map_values bare (is_at (nat_cmp s)) m.entries) ∙ last_bare (get nat_cmp m s) b))) in
      ap (λ l. F l (log_in n).lasts) (ap slots_in e ∙ slots_bare m.entries) ∙ ap (F (map forgotten (slots_in m.entries))) lasts

  pub counted_fallen : (xs : List ℕ) → xs ≡ in_forms (values_of m.entries) → xs ≡ in_forms (values_of n.entries)
  counted_fallen xs h =
      let k : (i : ℕ) → in_form i (slots_in m.entries) ≡ in_form i (slots_in n.entries) = λ i. sym (ap (λ es. in_form i (slots_in es)) e ∙ ap (in_form i) (slots_bare m.entries) ∙ in_forgotten i (slots_in m.entries)) in
      h ∙ ap table (fun_ext k)
