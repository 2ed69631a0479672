-- What a cut leaves of a file of records.
-- Assumes nothing.
use Rattle.std.proofs.Common.{◌≡◌, ℕ, ◌+◌, ◌-◌, ◌<◌, ◌≤◌, Bool, true, false, cond, eqb, leb, List, [], ◌∷◌, ◌++◌, length, take, drop, Some, Option, sym, refl, ap, ◌∙◌, ⊎_elim, arith, Ok, None}
use Rattle.std.proofs.Math.Seq.{take-nil, take-append-add}
use Rattle.std.specs.Option.{option_map}
use Rattle.std.proofs.lemmas.List.{append_assoc, append-nil, take_at, drop_at, take_all, take-append-le}
use Rattle.std.proofs.lemmas.List.Elements.{All-head, All-tail}
use Rattle.std.proofs.lemmas.Bool.Decides.{eqb_tells, leb_tells}
use Rattle.files.specs.Fronts.{Front}
use Rattle.files.specs.Recovery.{records, together, wholes, CutLast, CutAnywhere, CutsBack}
use Rattle.files.proofs.Scans.{Within, records_whole, records_short, records_none}

abbrev Chunks : Type 0
Chunks = Option (List (List ℕ))

module _ (front : List ℕ → Front) (known : List ℕ → Type 0) (within : Within front) (stays : (bs more : List ℕ) → known bs → front (bs ++ more) ≡ Ok (Some (length bs))) (short : (bs : List ℕ) (n : ℕ) → known bs → n < length bs → front (take n bs) ≡ Ok None) where
  -- behind a record the recovery goes on
  pub records_more : (r bs : List ℕ) → known r → records front (r ++ bs) ≡ option_map (λ (rs : List (List ℕ)). r ∷ rs) (records front bs)
  records_more r bs g =
      let t : take (length r) (r ++ bs) ≡ r = take_at r bs _ refl in
      let d : drop (length r) (r ++ bs) ≡ bs = drop_at r bs _ refl in
      records_whole front within (r ++ bs) (length r) (stays r bs g) ∙ (λ i. option_map (λ (rs : List (List ℕ)). t i ∷ rs) (records front (d i)))

  one : (r : List ℕ) → known r → (n : ℕ) → n ≤ length r → records front (take n r) ≡ Some (cond (eqb n (length r)) (r ∷ []) [])
  one r g n l = ⊎_elim whole cut (eqb_tells n (length r))
    where
      whole : (eqb n (length r) ≡ true) × (n ≡ length r) → records front (take n r) ≡ Some (cond (eqb n (length r)) (r ∷ []) [])
      whole h =
          let k : length r ≤ n = omega arith in
          let t : take n r ≡ r ++ [] = take_all n r k ∙ sym (append-nil r) in
          ap (records front) t ∙ records_more r [] g ∙ ap (λ (o : Chunks). option_map (λ (rs : List (List ℕ)). r ∷ rs) o) (records_none front within) ∙ ap (λ (b : Bool). Some (cond b (r ∷ []) [])) (sym h.0)

      cut : (eqb n (length r) ≡ false) × (n ≡ length r → ⊥) → records front (take n r) ≡ Some (cond (eqb n (length r)) (r ∷ []) [])
      cut h =
          let k : n < length r = omega (arith, h.1) in
          records_short front within (take n r) (short r n g k) ∙ ap (λ (b : Bool). Some (cond b (r ∷ []) [])) (sym h.0)

  push : (b : Bool) (x : List ℕ) (rs ss : List (List ℕ)) → option_map (λ (cs : List (List ℕ)). x ∷ cs) (Some (cond b rs ss)) ≡ Some (cond b (x ∷ rs) (x ∷ ss))
  push true x rs ss = refl
  push false x rs ss = refl

  pub cut_last : CutLast front known
  cut_last [] r a g n l = one r g n l
  cut_last (x ∷ rs) r a g n l =
      ap (records front) (append_assoc x (together rs) (take n r))
      ∙ records_more x (together rs ++ take n r) (All-head known x rs a)
      ∙ ap (λ (o : Chunks). option_map (λ (cs : List (List ℕ)). x ∷ cs) o) (cut_last rs r (All-tail known x rs a) g n l)
      ∙ push (eqb n (length r)) x (rs ++ r ∷ []) rs

  pub cut_anywhere : CutAnywhere front known
  cut_anywhere [] a n = ap (records front) (take-nil n) ∙ records_none front within
  cut_anywhere (r ∷ rs) a n = ⊎_elim (whole (cut_anywhere rs (All-tail known r rs a) (n - length r))) cut (leb_tells (length r) n)
    where
      whole : records front (take (n - length r) (together rs)) ≡ Some (wholes (n - length r) rs) → (leb (length r) n ≡ true) × (length r ≤ n) → records front (take n (r ++ together rs)) ≡ Some (cond (leb (length r) n) (r ∷ wholes (n - length r) rs) [])
      whole rest h =
          let k : length r ≤ n = h.1 in
          let e : n ≡ length r + (n - length r) = omega arith in
          ap (λ (j : ℕ). records front (take j (r ++ together rs))) e ∙ ap (records front) (take-append-add r (together rs) (n - length r)) ∙ records_more r _ (All-head known r rs a) ∙ ap (λ (o : Chunks). option_map (λ (cs : List (List ℕ)). r ∷ cs) o) rest ∙ ap (λ (b : Bool). Some (cond b (r ∷ wholes (n - length r) rs) [])) (sym h.0)

      cut : (leb (length r) n ≡ false) × (n < length r) → records front (take n (r ++ together rs)) ≡ Some (cond (leb (length r) n) (r ∷ wholes (n - length r) rs) [])
      cut h =
          let k : n < length r = h.1 in
          ap (records front) (take-append-le n r (together rs) (omega arith)) ∙ records_short front within (take n r) (short r n (All-head known r rs a) k) ∙ ap (λ (b : Bool). Some (cond b (r ∷ wholes (n - length r) rs) [])) (sym h.0)

  pub cuts_back : CutsBack front known
  cuts_back = record { last = cut_last; anywhere = cut_anywhere }
