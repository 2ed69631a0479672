-- Laws of what a file is recovered to.
-- Assumes nothing.
use Rattle.std.proofs.Common.{◌≡◌, ℕ, zero, suc, ◌+◌, ◌-◌, ◌<◌, ◌≤◌, List, [], ◌∷◌, ◌++◌, length, take, drop, Ok, Err, Some, None, Option, sym, refl, ap, ◌∙◌, not-suc-le-zero, arith, length-drop}
use Rattle.std.specs.Option.{option_map}
use Rattle.std.proofs.lemmas.List.{append_assoc, append-nil, take_at, length-append, length-take-le, take-append-drop}
use Rattle.std.proofs.lemmas.Iterator.Adapters.{option_map_id}
use Rattle.files.specs.declared.front.Wrong.{Wrong}
use Rattle.files.specs.Fronts.{Front}
use Rattle.files.specs.Recovery.{front_case, scan, records, together, whole_part}

abbrev Chunks : Type 0
Chunks = Option (List (List ℕ))

-- what is whole is not empty, and is there
abbrev pub Within : (List ℕ → Front) → Type 0
Within front = (bs : List ℕ) (n : ℕ) → front bs ≡ Ok (Some n) → (0 < n) × (n ≤ length bs)

module _ (front : List ℕ → Front) (within : Within front) where
  -- two ways to go on that agree at the record that stands there
  by_front : (bs : List ℕ) (v : Front) (F G : ℕ → Chunks) → front bs ≡ v → ((n : ℕ) → front bs ≡ Ok (Some n) → F n ≡ G n) → front_case v F ≡ front_case v G
  by_front bs (Ok (Some n)) F G e h = h n e
  by_front bs (Ok None) F G e h = refl
  by_front bs (Err x) F G e h = refl

  -- any bound that suffices gives the same
  scan_enough : (f g : ℕ) (bs : List ℕ) → length bs ≤ f → length bs ≤ g → scan front f bs ≡ scan front g bs
  unfolding scan
  scan_enough zero zero bs h k = refl
  scan_enough zero (suc g) [] h k = refl
  scan_enough zero (suc g) (b ∷ bs) h k = absurd (not-suc-le-zero h)
  scan_enough (suc f) zero [] h k = refl
  scan_enough (suc f) zero (b ∷ bs) h k = absurd (not-suc-le-zero k)
  scan_enough (suc f) (suc g) [] h k = refl
  scan_enough (suc f) (suc g) (b ∷ bs) h k =
      by_front (b ∷ bs) (front (b ∷ bs)) _ _ refl
      (λ n e. let w = within (b ∷ bs) n e in ap (λ (o : Chunks). option_map (λ (rs : List (List ℕ)). take n (b ∷ bs) ∷ rs) o) (scan_enough f g (drop n (b ∷ bs)) (simp length-drop (omega arith)) (simp length-drop (omega arith))))

  -- one turn
  pub records_turn : (b : ℕ) (bs : List ℕ) → records front (b ∷ bs) ≡ front_case (front (b ∷ bs)) (λ n. option_map (λ (rs : List (List ℕ)). take n (b ∷ bs) ∷ rs) (records front (drop n (b ∷ bs))))
  unfolding records scan
  records_turn b bs =
      by_front (b ∷ bs) (front (b ∷ bs)) _ _ refl
      (λ n e. let w = within (b ∷ bs) n e in ap (λ (o : Chunks). option_map (λ (rs : List (List ℕ)). take n (b ∷ bs) ∷ rs) o) (scan_enough (length bs) (length (drop n (b ∷ bs))) (drop n (b ∷ bs)) (simp length-drop (omega arith)) (omega arith)))

  pub records_none : records front [] ≡ Some []
  unfolding records scan
  records_none = refl

  pub records_whole : (bs : List ℕ) (n : ℕ) → front bs ≡ Ok (Some n) → records front bs ≡ option_map (λ (rs : List (List ℕ)). take n bs ∷ rs) (records front (drop n bs))
  records_whole [] n e = let w = within [] n e in absurd (omega arith)
  records_whole (b ∷ bs) n e = rw (records_turn b bs, e) refl

  pub records_short : (bs : List ℕ) → front bs ≡ Ok None → records front bs ≡ Some []
  records_short [] e = records_none
  records_short (b ∷ bs) e = rw (records_turn b bs, e) refl

  records_wrong : (bs : List ℕ) (x : Wrong) → 0 < length bs → front bs ≡ Err x → records front bs ≡ None
  records_wrong [] x l e = absurd (not-suc-le-zero l)
  records_wrong (b ∷ bs) x l e = rw (records_turn b bs, e) refl

  -- the whole part goes on behind a whole record
  part_whole : (bs : List ℕ) (n : ℕ) → front bs ≡ Ok (Some n) → whole_part front bs ≡ option_map (λ (p : List ℕ). take n bs ++ p) (whole_part front (drop n bs))
  part_whole bs n e = rw (records_whole bs n e) (pull (records front (drop n bs)))
    where
      pull : (o : Option (List (List ℕ))) → option_map (λ (rs : List (List ℕ)). together rs) (option_map (λ (rs : List (List ℕ)). take n bs ∷ rs) o) ≡ option_map (λ (p : List ℕ). take n bs ++ p) (option_map (λ (rs : List (List ℕ)). together rs) o)
      pull None = refl
      pull (Some rs) = refl

  part_short : (bs : List ℕ) → front bs ≡ Ok None → whole_part front bs ≡ Some []
  part_short bs e = rw (records_short bs e) refl

  -- the whole part is the first `at` bytes
  abbrev pub WholeTo : List ℕ → ℕ → Type 0
  WholeTo bs at = (whole_part front bs ≡ Some (take at bs)) × (take at bs ++ drop (length (take at bs)) bs ≡ bs)

  -- A scan has come to where `rest` is left: what it passed, with the whole part of `rest`, is the whole part.
  abbrev pub Passed : List ℕ → List ℕ → Type 0
  Passed bs rest = (past : List ℕ) × (bs ≡ past ++ rest) × (option_map (λ (p : List ℕ). past ++ p) (whole_part front rest) ≡ whole_part front bs)

  pub passed_none : (bs : List ℕ) → Passed bs bs
  passed_none bs = ([], refl, option_map_id (whole_part front bs))

  pub passed_more : (bs rest : List ℕ) (n : ℕ) → Ok (Some n) ≡ front rest → Passed bs rest → Passed bs (drop n rest)
  passed_more bs rest n e h =
      (h.0 ++ take n rest, h.1 ∙ ap (λ (v : List ℕ). h.0 ++ v) (sym (take-append-drop n rest)) ∙ sym (append_assoc h.0 (take n rest) (drop n rest)), sym (both (whole_part front (drop n rest))) ∙ ap (λ (o : Option (List ℕ)). option_map (λ (p : List ℕ). h.0 ++ p) o) (sym (part_whole rest n (sym e))) ∙ h.2)
    where
      both : (o : Option (List ℕ)) → option_map (λ (p : List ℕ). h.0 ++ p) (option_map (λ (p : List ℕ). take n rest ++ p) o) ≡ option_map (λ (p : List ℕ). (h.0 ++ take n rest) ++ p) o
      both None = refl
      both (Some x) = ap Some (sym (append_assoc h.0 (take n rest) x))

  pub passed_wrong : (bs rest : List ℕ) (x : Wrong) → 0 < length rest → Err x ≡ front rest → Passed bs rest → whole_part front bs ≡ None
  passed_wrong bs rest x l e h =
      sym h.2 ∙ ap (λ (o : Chunks). option_map (λ (p : List ℕ). h.0 ++ p) (option_map (λ (rs : List (List ℕ)). together rs) o)) (records_wrong rest x l (sym e))

  -- it ends there
  passed_end : (bs rest : List ℕ) → whole_part front rest ≡ Some [] → Passed bs rest → WholeTo bs (length bs - length rest)
  passed_end bs rest e h =
      let l : length bs - length rest ≡ length h.0 = omega (arith, ap length h.1, length-append h.0 rest) in
      let t : take (length bs - length rest) bs ≡ h.0 = ap (take (length bs - length rest)) h.1 ∙ take_at h.0 rest _ (sym l) in
      let k : length (take (length bs - length rest) bs) ≡ length bs - length rest = ap length t ∙ sym l in
      (sym h.2 ∙ ap (λ (o : Option (List ℕ)). option_map (λ (p : List ℕ). h.0 ++ p) o) e ∙ ap Some (append-nil h.0 ∙ sym t), rw k (take-append-drop _ bs))

  pub passed_short : (bs rest : List ℕ) → Ok None ≡ front rest → Passed bs rest → WholeTo bs (length bs - length rest)
  passed_short bs rest e h = passed_end bs rest (part_short rest (sym e)) h

  pub passed_all : (bs rest : List ℕ) → length rest ≡ 0 → Passed bs rest → WholeTo bs (length bs - length rest)
  passed_all bs [] l h = passed_end bs [] (ap (option_map (λ (rs : List (List ℕ)). together rs)) records_none) h
  passed_all bs (x ∷ rest) l h = absurd (omega arith)

  -- what is handed back, as the checker reads it
  pub part_is : (bs : List ℕ) (at : ℕ) → at ≤ length bs → whole_part front bs ≡ Some (take at bs) → WholeTo bs at
  part_is bs at l h = let k : length (take at bs) ≡ at = length-take-le at bs l in (h, rw k (take-append-drop at bs))

  pub within_part : (bs : List ℕ) (at n : ℕ) → at ≤ length bs → front (drop at bs) ≡ Ok (Some n) → (at + n ≤ length bs) × (0 < n)
  within_part bs at n l e = let w = within (drop at bs) n e in let k = length-drop at bs in (omega arith, w.0)
