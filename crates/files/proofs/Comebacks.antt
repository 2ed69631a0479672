-- What is recovered of a file of records after a step and any fall.
-- Assumes nothing.
use Rattle.std.proofs.Common.{◌≡◌, ℕ, suc, ◌+◌, ◌-◌, ◌<◌, ◌≤◌, Bool, true, false, cond, leb, List, [], ◌∷◌, ◌++◌, length, take, drop, IfOk, Some, None, Ok, Err, Option, Result, sym, refl, ap, ◌∙◌, subst, inl, inr, ⊎_elim, arith}
use Rattle.std.specs.Prelude.{All}
use Rattle.std.specs.Option.{option_map}
use Rattle.std.proofs.lemmas.List.{append_assoc, append-nil, take_at}
use Rattle.std.proofs.lemmas.List.Elements.{All-nil, All-head, All-tail, All-same, All-append, All-take}
use Rattle.std.proofs.lemmas.Grind.{flat_map-append}
use Rattle.std.proofs.lemmas.Iterator.Adapters.{option_map_id}
use Rattle.std.proofs.lemmas.Bool.{cond-true, cond-false, le-leb}
use Rattle.std.proofs.lemmas.Bool.Decides.{leb_tells}
use Rattle.std.proofs.Math.Seq.{take-nil, take-append-add}
use Rattle.files.specs.Fronts.{Front}
use Rattle.files.specs.Holdings.{Held, file, ended, cut_to}
use Rattle.files.specs.Recovery.{records, together, whole_part, wholes}
use Rattle.files.specs.Falls.{Finished, Settled, Fallen, Stepped, Opened}
use Rattle.files.specs.Comebacks.{Recovered, ComesBack, OpensAgain, Extends, Restores, Torn, FallsTorn, StepsTorn, OpensTorn}
use Rattle.files.proofs.Views.{part_of, ended_is_cut}
use Rattle.files.proofs.Scans.{Within, records_none}
use Rattle.files.proofs.CutsBack.{records_more, cut_anywhere}

abbrev Chunks : Type 0
Chunks = Option (List (List ℕ))

pub together_append : (rs qs : List (List ℕ)) → together (rs ++ qs) ≡ together rs ++ together qs
together_append rs qs = flat_map-append (λ r. r) rs qs

-- the whole ones are a first part
wholes_part : (n : ℕ) (rs : List (List ℕ)) → (i : ℕ) × (wholes n rs ≡ take i rs)
wholes_part n [] = (0, refl)
wholes_part n (r ∷ rs) = go (leb (length r) n) (wholes_part (n - length r) rs)
  where
    go : (b : Bool) → ((i : ℕ) × (wholes (n - length r) rs ≡ take i rs)) → (i : ℕ) × (cond b (r ∷ wholes (n - length r) rs) [] ≡ take i (r ∷ rs))
    go true p = (suc p.0, ap (λ (v : List (List ℕ)). r ∷ v) p.1)
    go false p = (0, refl)

-- with fewer bytes there is a first part of what is whole
wholes_fewer : (j m : ℕ) (rs : List (List ℕ)) → j ≤ m → (i : ℕ) × (wholes j rs ≡ take i (wholes m rs))
wholes_fewer j m [] l = (0, refl)
wholes_fewer j m (r ∷ rs) l = ⊎_elim (whole (wholes_fewer (j - length r) (m - length r) rs (omega arith))) (λ h. (0, cond-false _ _ _ h.0)) (leb_tells (length r) j)
  where
    whole : ((i : ℕ) × (wholes (j - length r) rs ≡ take i (wholes (m - length r) rs))) → (leb (length r) j ≡ true) × (length r ≤ j) → (i : ℕ) × (wholes j (r ∷ rs) ≡ take i (wholes m (r ∷ rs)))
    whole p h =
        let k : length r ≤ m = omega (arith, h.1) in
        (suc p.0, cond-true _ _ _ h.0 ∙ ap (λ (v : List (List ℕ)). r ∷ v) p.1 ∙ ap (take (suc p.0)) (sym (cond-true _ _ _ (le-leb (length r) m k))))

-- what is whole stands at the front
wholes_front : (m : ℕ) (rs : List (List ℕ)) → (t : List ℕ) × (take m (together rs) ≡ together (wholes m rs) ++ t)
wholes_front m [] = (take m [], refl)
wholes_front m (r ∷ rs) = ⊎_elim (whole (wholes_front (m - length r) rs)) (λ h. (take m (together (r ∷ rs)), ap (λ (v : List (List ℕ)). together v ++ take m (together (r ∷ rs))) (sym (cond-false _ _ _ h.0)))) (leb_tells (length r) m)
  where
    whole : ((t : List ℕ) × (take (m - length r) (together rs) ≡ together (wholes (m - length r) rs) ++ t)) → (leb (length r) m ≡ true) × (length r ≤ m) → (t : List ℕ) × (take m (together (r ∷ rs)) ≡ together (wholes m (r ∷ rs)) ++ t)
    whole p h =
        let k : length r ≤ m = h.1 in
        let e : m ≡ length r + (m - length r) = omega arith in
        (p.0, ap (λ (j : ℕ). take j (r ++ together rs)) e ∙ take-append-add r (together rs) (m - length r) ∙ ap (λ (v : List ℕ). r ++ v) p.1 ∙ sym (append_assoc r (together (wholes (m - length r) rs)) p.0) ∙ ap (λ (v : List (List ℕ)). together v ++ p.0) (sym (cond-true _ _ _ h.0)))

pub extends : {E : Type 0} (r : Result (Unit {0}) E) (h : Held) (b : List ℕ) (ms : List (List ℕ)) (k : Held) → IfOk r (λ _. Finished h b ms k) → Extends r h b k
extends (Ok x) h b ms k f rs bs l q e = let a = f.filed l in (a.0 ∙ (λ i. e i ++ q i) ∙ sym (together_append rs bs), a.1)
extends (Err x) h b ms k f rs bs l q e = tt

pub restores : {E : Type 0} (front : List ℕ → Front) (r : Result (Unit {0}) E) (h : Held) (n : ℕ) (ms : List (List ℕ)) (k : Held) → IfOk r (λ _. Settled h n ms k) → Restores front r h n k
restores front (Ok x) h n ms k f rs w e p q l =
    let y : whole_part front (file h) ≡ Some (together rs) = ap (λ (o : Chunks). option_map (λ (v : List (List ℕ)). together v) o) e in
    let z : w ≡ together rs = cc in
    (f.filed.0 ∙ ap (take n) (sym q) ∙ take_at w (drop (length w) (file h)) n (sym l) ∙ z, f.filed.1)
restores front (Err x) h n ms k f rs w e p q l = tt

-- a fall leaves a torn file torn
torn_cut : (known : List ℕ → Type 0) (rs : List (List ℕ)) (h : Held) (left : ℕ) → Torn known rs h → Torn known rs (cut_to left h)
torn_cut known rs h left t =
    let b = t.behind in
    let p = part_of left b.2.0 (together b.0) in
    record { all = t.all; safe = t.safe; behind = (b.0, b.1, (p.0, ap (take left) b.2.1 ∙ p.2)) }

torn_end : (known : List ℕ → Type 0) (rs : List (List ℕ)) (h : Held) → Torn known rs h → Torn known rs (ended h)
torn_end known rs h t = record { all = t.all; safe = t.safe; behind = t.behind }

pub falls_torn : (known : List ℕ → Type 0) → FallsTorn known
falls_torn known rs h t = (torn_end known rs h t, λ left. torn_cut known rs h left t)

-- all of it is whole
torn_whole : (known : List ℕ → Type 0) (rs : List (List ℕ)) (h : Held) → All known rs → h.synced ≡ together rs → h.pending ≡ [] → Torn known rs h
torn_whole known rs h a s p = record { all = a; safe = s; behind = ([], All-nil known, (0, p)) }

module _ (front : List ℕ → Front) (known : List ℕ → Type 0) (within : Within front) (stays : (bs more : List ℕ) → known bs → front (bs ++ more) ≡ Ok (Some (length bs))) (short : (bs : List ℕ) (n : ℕ) → known bs → n < length bs → front (take n bs) ≡ Ok None) where
  -- behind records the recovery goes on
  records_behind : (rs : List (List ℕ)) (bs : List ℕ) → All known rs → records front (together rs ++ bs) ≡ option_map (λ (qs : List (List ℕ)). rs ++ qs) (records front bs)
  records_behind [] bs a = sym (option_map_id (records front bs))
  records_behind (r ∷ rs) bs a =
      ap (records front) (append_assoc r (together rs) bs)
      ∙ records_more front known within stays short r (together rs ++ bs) (All-head known r rs a)
      ∙ ap (λ (o : Chunks). option_map (λ (qs : List (List ℕ)). r ∷ qs) o) (records_behind rs bs (All-tail known r rs a))
      ∙ both (records front bs)
    where
      both : (o : Chunks) → option_map (λ (qs : List (List ℕ)). r ∷ qs) (option_map (λ (qs : List (List ℕ)). rs ++ qs) o) ≡ option_map (λ (qs : List (List ℕ)). r ∷ (rs ++ qs)) o
      both None = refl
      both (Some x) = refl

  -- records, and records cut anywhere behind them
  pub records_cut : (rs qs : List (List ℕ)) (n : ℕ) → All known rs → All known qs → records front (together rs ++ take n (together qs)) ≡ Some (rs ++ wholes n qs)
  records_cut rs qs n a b =
      records_behind rs (take n (together qs)) a ∙ ap (λ (o : Chunks). option_map (λ (x : List (List ℕ)). rs ++ x) o) (cut_anywhere front known within stays short qs b n)

  pub records_all : (rs qs : List (List ℕ)) → All known rs → All known qs → records front (together rs ++ together qs) ≡ Some (rs ++ qs)
  records_all rs qs a b =
      records_behind rs (together qs) a
      ∙ ap (λ (o : Chunks). option_map (λ (x : List (List ℕ)). rs ++ x) o)
      (ap (records front) (sym (append-nil (together qs))) ∙ records_behind qs [] b ∙ ap (λ (o : Chunks). option_map (λ (x : List (List ℕ)). qs ++ x) o) (records_none front within) ∙ ap Some (append-nil qs))

  recovered : (rs ps bs : List (List ℕ)) (b : List ℕ) (h k : Held) (x : List ℕ) → All known rs → All known ps → All known bs → 0 < length b → b ≡ together bs → h.synced ≡ together rs → h.pending ≡ together ps → Fallen h b k x → Recovered front rs (ps ++ bs) h k x
  recovered rs ps bs b h k x a c g l q s p f =
      record { part = (w.0, ap (records front) is ∙ records_cut rs (ps ++ bs) f.part.0 a d ∙ ap (λ (v : List (List ℕ)). Some (rs ++ v)) w.1); told = ⊎_elim (λ e. inl e) (λ e. inr (ap (records front) (e ∙ all) ∙ records_all rs (ps ++ bs) a d)) (f.whole l) }
    where
      d : All known (ps ++ bs)
      d = All-append known ps bs c g

      rest : h.pending ++ b ≡ together (ps ++ bs)
      rest = (λ i. p i ++ q i) ∙ sym (together_append ps bs)

      is : x ≡ together rs ++ take f.part.0 (together (ps ++ bs))
      is = f.part.1 ∙ (λ i. s i ++ take f.part.0 (rest i))

      all : file h ++ b ≡ together rs ++ together (ps ++ bs)
      all = append_assoc h.synced h.pending b ∙ (λ i. s i ++ rest i)

      w : (i : ℕ) × (wholes f.part.0 (ps ++ bs) ≡ take i (ps ++ bs))
      w = wholes_part f.part.0 (ps ++ bs)

  pub comes_back : (h : Held) (b : List ℕ) (ms : List (List ℕ)) (k : Held) → Stepped h b ms k → ComesBack front known h b k
  comes_back h b ms k f rs ps bs a c g l q s p =
      (recovered rs ps bs b h k _ a c g l q s p f.killed, λ left. recovered rs ps bs b h k _ a c g l q s p (f.cut left))

  known_wholes : (m : ℕ) (rs : List (List ℕ)) → All known rs → All known (wholes m rs)
  known_wholes m rs a = let p = wholes_part m rs in All-same known _ _ p.1 (All-take known p.0 rs a)

  module _ (rs ps : List (List ℕ)) (m n : ℕ) (w : List ℕ) (h k : Held) (a : All known rs) (c : All known ps) (s : h.synced ≡ together rs) (p : h.pending ≡ take m (together ps)) (e : whole_part front (file h) ≡ Some w) (l : n ≡ length w) where
    before : records front (file h) ≡ Some (rs ++ wholes m ps)
    before = ap (records front) (λ i. s i ++ p i) ∙ records_cut rs ps m a c

    part_w : w ≡ together rs ++ together (wholes m ps)
    part_w =
        let q : whole_part front (file h) ≡ Some (together (rs ++ wholes m ps)) = ap (λ (o : Chunks). option_map (λ (x : List (List ℕ)). together x) o) before in
        let z : w ≡ together (rs ++ wholes m ps) = cc in
        z ∙ together_append rs (wholes m ps)

    -- the whole part is what the file is cut to
    cut_to_lem : take n (file h) ≡ together rs ++ together (wholes m ps)
    cut_to_lem =
        let t = wholes_front m ps in
        let f : file h ≡ (together rs ++ together (wholes m ps)) ++ t.0 = (λ i. s i ++ p i) ∙ ap (λ (v : List ℕ). together rs ++ v) t.1 ∙ sym (append_assoc (together rs) (together (wholes m ps)) t.0) in
        ap (take n) f ∙ take_at (together rs ++ together (wholes m ps)) t.0 n (ap length (sym part_w) ∙ sym l)

    opened_part : (x : List ℕ) (i : ℕ) → x ≡ h.synced ++ take i h.pending → (j : ℕ) × (records front x ≡ Some (rs ++ take j (wholes m ps)))
    opened_part x i q =
        let r = part_of i m (together ps) in
        let f = wholes_fewer r.0 m ps r.1 in
        (f.0, ap (records front) (q ∙ (λ u. s u ++ take i (p u)) ∙ ap (λ (v : List ℕ). together rs ++ v) r.2) ∙ records_cut rs ps r.0 a c ∙ ap (λ (v : List (List ℕ)). Some (rs ++ v)) f.1)

    opened_all : (left : ℕ) → (k.synced ≡ take n (file h)) × (k.pending ≡ []) → records front (file (cut_to left k)) ≡ Some (rs ++ wholes m ps)
    opened_all left q =
        ap (records front) (ap (λ (v : List ℕ). k.synced ++ take left v) q.1 ∙ ap (λ (v : List ℕ). k.synced ++ v) (take-nil left) ∙ append-nil k.synced ∙ q.0 ∙ cut_to_lem) ∙ records_all rs (wholes m ps) a (known_wholes m ps c)

    opened_at : (ms : List (List ℕ)) → Opened h n ms k → (left : ℕ) → Recovered front rs (wholes m ps) h k (file (cut_to left k))
    opened_at ms f left =
        record { part = opened_part _ (f.cut left).0 (f.cut left).1; told = ⊎_elim (λ q. inl q) (λ q. inr (opened_all left q)) f.backed }

    opened_end : (ms : List (List ℕ)) → Opened h n ms k → Recovered front rs (wholes m ps) h k (file (ended k))
    opened_end ms f =
        subst (λ (e : Held). Recovered front rs (wholes m ps) h k (file e)) (ended_is_cut k) (opened_at ms f (length k.pending))

  pub opens_again : (h : Held) (n : ℕ) (ms : List (List ℕ)) (k : Held) → Opened h n ms k → OpensAgain front known h n k
  opens_again h n ms k f rs ps m w a c s p e l =
      (before rs ps m n w h k a c s p e l, opened_end rs ps m n w h k a c s p e l ms f, opened_at rs ps m n w h k a c s p e l ms f)

  pub steps_torn : (h : Held) (b : List ℕ) (ms : List (List ℕ)) (k : Held) → Stepped h b ms k → StepsTorn known h b k
  steps_torn h b ms k f rs ps bs a c g q s p =
      ⊎_elim
      (λ e. inl (record { all = a; safe = e.0 ∙ s; behind = (ps ++ bs, d, (e.1.0, e.1.1 ∙ ap (take e.1.0) rest)) }))
      (λ e. inr (torn_whole known (rs ++ (ps ++ bs)) k (All-append known rs (ps ++ bs) a d) (e.0 ∙ append_assoc h.synced h.pending b ∙ (λ i. s i ++ rest i) ∙ sym (together_append rs (ps ++ bs))) e.1))
      f.parts
    where
      d : All known (ps ++ bs)
      d = All-append known ps bs c g

      rest : h.pending ++ b ≡ together (ps ++ bs)
      rest = (λ i. p i ++ q i) ∙ sym (together_append ps bs)

  pub opens_torn : (h : Held) (n : ℕ) (ms : List (List ℕ)) (k : Held) → Opened h n ms k → OpensTorn front known h n k
  opens_torn h n ms k f rs w t e l =
      ⊎_elim
      (λ q. let r = part_of q.1.0 m (together ps) in inl (record { all = a; safe = q.0 ∙ s; behind = (ps, c, (r.0, q.1.1 ∙ ap (take q.1.0) p ∙ r.2)) }))
      (λ q. inr (wholes m ps, before rs ps m n w h k a c s p e l, torn_whole known (rs ++ wholes m ps) k (All-append known rs (wholes m ps) a (known_wholes m ps c)) (q.0 ∙ cut_to_lem rs ps m n w h k a c s p e l ∙ sym (together_append rs (wholes m ps))) q.1))
      f.parts
    where
      ps : List (List ℕ)
      ps = t.behind.0

      m : ℕ
      m = t.behind.2.0

      a : All known rs
      a = t.all

      c : All known ps
      c = t.behind.1

      s : h.synced ≡ together rs
      s = t.safe

      p : h.pending ≡ take m (together ps)
      p = t.behind.2.1
