-- What a step and an opening leave, wherever they stop.
-- Assumes nothing.
use Rattle.std.proofs.Common.{◌≡◌, ℕ, zero, suc, ◌+◌, ◌-◌, ◌<◌, ◌≤◌, List, [], ◌∷◌, ◌++◌, map, length, take, IfOk, Ok, Err, vec_items, Result, Vec, sym, refl, ap, ◌∙◌, subst, inl, inr, ⊎_elim, suc-le-suc, zero-le, not-suc-le-zero, arith}
use Rattle.std.proofs.Math.Seq.{take-nil, take-length, take-append-add}
use Rattle.std.proofs.lemmas.List.{append-nil, append_assoc}
use Rattle.std.proofs.lemmas.Bool.{and_parts, leb-true, lt-ltb, cond-true}
use Rattle.files.specs.declared.disk.Disk.{Disk}
use Rattle.files.specs.Effects.{Effect, Append, Sync, Send, CutBack}
use Rattle.files.specs.Plans.{Done, Stopped, Performs, sends, stepping, opening}
use Rattle.files.specs.Holdings.{Held, file, after, Did, ran, Ran, ended, cut_to}
use Rattle.files.specs.Disks.{held, DiskDid}
use Rattle.files.specs.Falls.{Finished, Settled, Fallen, Stepped, Opened}
use Rattle.files.proofs.Views.{part_of, ended_is_cut}

-- from the disk to what it holds
lift_done : (es : List Effect) (s t : Disk) → Done DiskDid es s t → Done Did es (held s) (held t)
lift_done [] s t d = ap held d
lift_done (e ∷ es) s t d = (held d.0, d.1, lift_done es d.0 t d.2)

lift_stopped : (es : List Effect) (s t : Disk) → Stopped DiskDid es s t → Stopped Did es (held s) (held t)
lift_stopped [] s t d = absurd d
lift_stopped (e ∷ es) s t d = ⊎_elim (λ f. inl f.1) (λ f. inr (held f.0, f.1, lift_stopped es f.0 t f.2)) d

-- how far it came
ran_done : (es : List Effect) (h k : Held) → Done Did es h k → k ≡ ran es h
ran_done [] h k d = sym d
ran_done (e ∷ es) h k d = ran_done es d.0 k d.2 ∙ ap (ran es) d.1.1

ran_stopped : (es : List Effect) (h k : Held) → Stopped Did es h k → (n : ℕ) × (n < length es) × (k ≡ ran (take n es) h)
ran_stopped [] h k d = absurd d
ran_stopped (e ∷ es) h k d =
    ⊎_elim
    (λ f. (0, suc-le-suc zero-le, f))
    (λ f. let p = ran_stopped es f.0 k f.2 in (suc p.0, suc-le-suc p.1, p.2 ∙ ap (ran (take p.0 es)) f.1.1))
    d

pub came : {E : Type 0} (es : List Effect) (s t : Disk) (r : Result (Unit {0}) E) → Performs DiskDid es r s t → Ran es r (held s) (held t)
came es s t (Ok x) d = ran_done es (held s) (held t) (lift_done es s t d)
came es s t (Err e) d = ran_stopped es (held s) (held t) (lift_stopped es s t d)

-- the file stays, and some of the messages are sent
abbrev Said : Held → List (List ℕ) → Held → Type 0
Said h ms k = (k.synced ≡ h.synced) × (k.pending ≡ h.pending) × ((n : ℕ) × (k.sent ≡ h.sent ++ take n ms))

said_none : (h k : Held) (ms : List (List ℕ)) → k ≡ h → Said h ms k
said_none h k ms e = (ap (λ (v : Held). v.synced) e, ap (λ (v : Held). v.pending) e, (0, ap (λ (v : Held). v.sent) e ∙ sym (append-nil h.sent)))

said_more : (h u k : Held) (m : List ℕ) (ms : List (List ℕ)) → u ≡ after (Send m) h → Said u ms k → Said h (m ∷ ms) k
said_more h u k m ms e r =
    (r.0 ∙ ap (λ (v : Held). v.synced) e, r.1 ∙ ap (λ (v : Held). v.pending) e, (suc r.2.0, r.2.1 ∙ ap (λ (v : Held). v.sent ++ take r.2.0 ms) e ∙ append_assoc h.sent (m ∷ []) (take r.2.0 ms)))

said_done : {Z : Type 0} (ms : List (Vec ℕ Z)) (h k : Held) → Done Did (sends ms) h k → Said h (map (λ m. vec_items m) ms) k
said_done [] h k d = said_none h k [] (sym d)
said_done (m ∷ ms) h k d = said_more h d.0 k (vec_items m) _ d.1.1 (said_done ms d.0 k d.2)

said_stopped : {Z : Type 0} (ms : List (Vec ℕ Z)) (h k : Held) → Stopped Did (sends ms) h k → Said h (map (λ m. vec_items m) ms) k
said_stopped [] h k d = absurd d
said_stopped (m ∷ ms) h k d = ⊎_elim (λ f. said_none h k _ f) (λ f. said_more h f.0 k (vec_items m) _ f.1.1 (said_stopped ms f.0 k f.2)) d

-- a first part of xs is one of xs and more
part_in : (n : ℕ) (xs ys : List ℕ) → (m : ℕ) × (take n xs ≡ take m (xs ++ ys))
part_in zero xs ys = (0, refl)
part_in (suc n) [] ys = (0, refl)
part_in (suc n) (x ∷ xs) ys = let p = part_in n xs ys in (suc p.0, ap (λ (v : List ℕ). x ∷ v) p.1)

-- the end of the program is a cut that takes nothing
from_cut : (h k : Held) (b : List ℕ) → ((left : ℕ) → Fallen h b k (file (cut_to left k))) → Fallen h b k (file (ended k))
from_cut h k b f = subst (λ (e : Held). Fallen h b k (file e)) (ended_is_cut k) (f (length k.pending))

module _ (h k : Held) (b : List ℕ) (ms : List (List ℕ)) where
  -- the file stayed: nothing was sent, or there is no record
  stayed : Said h ms k → (0 < length b → k.sent ≡ h.sent) → Stepped h b ms k
  stayed r q =
      record { safe = ([], r.0 ∙ sym (append-nil h.synced)); grown = (0, (λ i. r.0 i ++ r.1 i) ∙ sym (append-nil (file h))); parts = inl (r.0, (kept_part.0, r.1 ∙ kept_part.1)); told = r.2; backed = λ l. inl (q l); still = λ _. (r.0, r.1); killed = from_cut h k b cut; cut = cut }
    where
      kept_part : (n : ℕ) × (h.pending ≡ take n (h.pending ++ b))
      kept_part = let p = part_in (length h.pending) h.pending b in (p.0, sym (take-length h.pending) ∙ p.1)

      cut : (left : ℕ) → Fallen h b k (file (cut_to left k))
      cut left =
          let p = part_in left h.pending b in
          record { part = (p.0, (λ i. r.0 i ++ take left (r.1 i)) ∙ ap (λ (v : List ℕ). h.synced ++ v) p.1); whole = λ l. inl (q l) }

  -- the record was appended and not synced
  appended : (b ≡ [] → ⊥) → k ≡ after (Append b) h → Stepped h b ms k
  appended ne e =
      record { safe = ([], s ∙ sym (append-nil h.synced)); grown = (length b, (λ i. s i ++ p i) ∙ sym (append_assoc h.synced h.pending b) ∙ ap (λ (v : List ℕ). file h ++ v) (sym (take-length b))); parts = inl (s, (length (h.pending ++ b), p ∙ sym (take-length (h.pending ++ b)))); told = (0, m ∙ sym (append-nil h.sent)); backed = λ _. inl m; still = λ z. absurd (ne z); killed = from_cut h k b cut; cut = cut }
    where
      s : k.synced ≡ h.synced
      s = ap (λ (v : Held). v.synced) e

      p : k.pending ≡ h.pending ++ b
      p = ap (λ (v : Held). v.pending) e

      m : k.sent ≡ h.sent
      m = ap (λ (v : Held). v.sent) e

      cut : (left : ℕ) → Fallen h b k (file (cut_to left k))
      cut left = record { part = (left, λ i. s i ++ take left (p i)); whole = λ _. inl m }

  -- the record was synced
  committed : (b ≡ [] → ⊥) → k.synced ≡ h.synced ++ (h.pending ++ b) → k.pending ≡ [] → ((n : ℕ) × (k.sent ≡ h.sent ++ take n ms)) → Stepped h b ms k
  committed ne s p t =
      record { safe = (h.pending ++ b, s); grown = (length b, (λ i. s i ++ p i) ∙ append-nil _ ∙ sym (append_assoc h.synced h.pending b) ∙ ap (λ (v : List ℕ). file h ++ v) (sym (take-length b))); parts = inr (all, p); told = t; backed = λ _. inr (all, p); still = λ z. absurd (ne z); killed = from_cut h k b cut; cut = cut }
    where
      all : k.synced ≡ file h ++ b
      all = s ∙ sym (append_assoc h.synced h.pending b)

      is : (left : ℕ) → file (cut_to left k) ≡ k.synced
      is left = ap (λ (v : List ℕ). k.synced ++ take left v) p ∙ ap (λ (v : List ℕ). k.synced ++ v) (take-nil left) ∙ append-nil k.synced

      cut : (left : ℕ) → Fallen h b k (file (cut_to left k))
      cut left =
          record { part = (length (h.pending ++ b), is left ∙ s ∙ ap (λ (v : List ℕ). h.synced ++ v) (sym (take-length (h.pending ++ b)))); whole = λ _. inr (is left ∙ all) }

  -- behind the sync
  synced_said : (u v : Held) → (b ≡ [] → ⊥) → u ≡ after (Append b) h → v ≡ after Sync u → Said v ms k → Stepped h b ms k
  synced_said u v ne e f r =
      committed ne (r.0 ∙ ap (λ (x : Held). x.synced) f ∙ ap file e) (r.1 ∙ ap (λ (x : Held). x.pending) f) (r.2.0, r.2.1 ∙ ap (λ (x : List (List ℕ)). x ++ take r.2.0 ms) (ap (λ (x : Held). x.sent) f ∙ ap (λ (x : Held). x.sent) e))

filled : (x : ℕ) (b : List ℕ) → x ∷ b ≡ [] → ⊥
filled x b e = let z : ◌≡◌ {A = ℕ} 0 1 = cc in omega arith

none_before : (h k : Held) (ms : List (List ℕ)) → Said h ms k → Stepped h [] ms k
none_before h k ms r = stayed h k [] ms r (λ l. absurd (not-suc-le-zero l))

writing : {Z : Type 0} (x : ℕ) (b : List ℕ) (ms : List (Vec ℕ Z)) → stepping (x ∷ b) ms ≡ Append (x ∷ b) ∷ Sync ∷ sends ms
writing x b ms = cond-true _ _ _ (lt-ltb 0 (suc (length b)) (omega arith))

stepped_done : {Z : Type 0} (b : List ℕ) (ms : List (Vec ℕ Z)) (h k : Held) → Done Did (stepping b ms) h k → Stepped h b (map (λ m. vec_items m) ms) k
stepped_done [] ms h k d = none_before h k _ (said_done ms h k d)
stepped_done (x ∷ b) ms h k d = go (subst (λ (es : List Effect). Done Did es h k) (writing x b ms) d)
  where
    go : Done Did (Append (x ∷ b) ∷ Sync ∷ sends ms) h k → Stepped h (x ∷ b) (map (λ m. vec_items m) ms) k
    go f = let y = f.2 in synced_said h k (x ∷ b) _ f.0 y.0 (filled x b) f.1.1 y.1.1 (said_done ms y.0 k y.2)

stepped_stopped : {Z : Type 0} (b : List ℕ) (ms : List (Vec ℕ Z)) (h k : Held) → Stopped Did (stepping b ms) h k → Stepped h b (map (λ m. vec_items m) ms) k
stepped_stopped [] ms h k d = none_before h k _ (said_stopped ms h k d)
stepped_stopped (x ∷ b) ms h k d = go (subst (λ (es : List Effect). Stopped Did es h k) (writing x b ms) d)
  where
    go : Stopped Did (Append (x ∷ b) ∷ Sync ∷ sends ms) h k → Stepped h (x ∷ b) (map (λ m. vec_items m) ms) k
    go d =
        ⊎_elim
        (λ f. stayed h k (x ∷ b) _ (said_none h k _ f) (λ _. ap (λ (v : Held). v.sent) f))
        (λ f.
        ⊎_elim
        (λ y. appended h k (x ∷ b) _ (filled x b) (y ∙ f.1.1))
        (λ y. synced_said h k (x ∷ b) _ f.0 y.0 (filled x b) f.1.1 y.1.1 (said_stopped ms y.0 k y.2))
        f.2)
        d

pub stepped : {Z E : Type 0} (b : List ℕ) (ms : List (Vec ℕ Z)) (s t : Disk) (r : Result (Unit {0}) E) → Performs DiskDid (stepping b ms) r s t → Stepped (held s) b (map (λ m. vec_items m) ms) (held t)
stepped b ms s t (Ok x) d = stepped_done b ms (held s) (held t) (lift_done (stepping b ms) s t d)
stepped b ms s t (Err e) d = stepped_stopped b ms (held s) (held t) (lift_stopped (stepping b ms) s t d)

-- a file cut behind what is synced
cut_file : (n : ℕ) (xs ys : List ℕ) → length xs ≤ n → xs ++ take (n - length xs) ys ≡ take n (xs ++ ys)
cut_file n xs ys l =
    let e : length xs + (n - length xs) ≡ n = omega arith in
    sym (take-append-add xs ys (n - length xs)) ∙ ap (λ (j : ℕ). take j (xs ++ ys)) e

module _ (h k : Held) (n : ℕ) (ms : List (List ℕ)) where
  abbrev Left : List ℕ → Type 0
  Left x = (i : ℕ) × (x ≡ h.synced ++ take i h.pending)

  left_ended : ((left : ℕ) → Left (file (cut_to left k))) → Left (file (ended k))
  left_ended f = subst (λ (e : Held). Left (file e)) (ended_is_cut k) (f (length k.pending))

  -- nothing was done
  unopened : k ≡ h → Opened h n ms k
  unopened e =
      record { safe = ([], s ∙ sym (append-nil h.synced)); kept = inl (ap file e); parts = inl (s, (length h.pending, ap (λ (v : Held). v.pending) e ∙ sym (take-length h.pending))); told = (0, m ∙ sym (append-nil h.sent)); backed = inl m; killed = left_ended cut; cut = cut }
    where
      s : k.synced ≡ h.synced
      s = ap (λ (v : Held). v.synced) e

      m : k.sent ≡ h.sent
      m = ap (λ (v : Held). v.sent) e

      cut : (left : ℕ) → Left (file (cut_to left k))
      cut left = (left, ap (λ (v : Held). v.synced ++ take left v.pending) e)

  -- it was cut back and not synced
  cut_only : length h.synced ≤ n → k ≡ after (CutBack n) h → Opened h n ms k
  cut_only l e =
      record { safe = ([], ap (λ (v : Held). v.synced) e ∙ sym (append-nil h.synced)); kept = inr (ap file e ∙ cut_file n h.synced h.pending l); parts = inl (ap (λ (v : Held). v.synced) e, (n - length h.synced, ap (λ (v : Held). v.pending) e)); told = (0, m ∙ sym (append-nil h.sent)); backed = inl m; killed = left_ended cut; cut = cut }
    where
      m : k.sent ≡ h.sent
      m = ap (λ (v : Held). v.sent) e

      cut : (left : ℕ) → Left (file (cut_to left k))
      cut left =
          let p = part_of left (n - length h.synced) h.pending in
          (p.0, ap (λ (v : Held). v.synced ++ take left v.pending) e ∙ ap (λ (v : List ℕ). h.synced ++ v) p.2)

  -- it was synced
  opened_said : (u v : Held) → length h.synced ≤ n → u ≡ after (CutBack n) h → v ≡ after Sync u → Said v ms k → Opened h n ms k
  opened_said u v l e f r =
      record { safe = (take (n - length h.synced) h.pending, s); kept = inr ((λ i. s i ++ p i) ∙ append-nil _ ∙ whole); parts = inr (s ∙ whole, p); told = (r.2.0, r.2.1 ∙ ap (λ (x : List (List ℕ)). x ++ take r.2.0 ms) (ap (λ (x : Held). x.sent) f ∙ ap (λ (x : Held). x.sent) e)); backed = inr (s ∙ whole, p); killed = left_ended cut; cut = cut }
    where
      s : k.synced ≡ h.synced ++ take (n - length h.synced) h.pending
      s = r.0 ∙ ap (λ (x : Held). x.synced) f ∙ ap file e

      p : k.pending ≡ []
      p = r.1 ∙ ap (λ (x : Held). x.pending) f

      whole : h.synced ++ take (n - length h.synced) h.pending ≡ take n (file h)
      whole = cut_file n h.synced h.pending l

      cut : (left : ℕ) → Left (file (cut_to left k))
      cut left =
          (n - length h.synced, ap (λ (v : List ℕ). k.synced ++ take left v) p ∙ ap (λ (v : List ℕ). k.synced ++ v) (take-nil left) ∙ append-nil k.synced ∙ s)

opened_done : {Z : Type 0} (n : ℕ) (ms : List (Vec ℕ Z)) (h k : Held) → Done Did (opening n ms) h k → Opened h n (map (λ m. vec_items m) ms) k
opened_done n ms h k d =
    let y = d.2 in
    opened_said h k n _ d.0 y.0 (leb-true _ _ (and_parts _ _ d.1.0).1) d.1.1 y.1.1 (said_done ms y.0 k y.2)

opened_stopped : {Z : Type 0} (n : ℕ) (ms : List (Vec ℕ Z)) (h k : Held) → Stopped Did (opening n ms) h k → Opened h n (map (λ m. vec_items m) ms) k
opened_stopped n ms h k d =
    ⊎_elim
    (λ f. unopened h k n _ f)
    (λ f.
    let l : length h.synced ≤ n = leb-true _ _ (and_parts _ _ f.1.0).1 in
    ⊎_elim
    (λ y. cut_only h k n _ l (y ∙ f.1.1))
    (λ y. opened_said h k n _ f.0 y.0 l f.1.1 y.1.1 (said_stopped ms y.0 k y.2))
    f.2)
    d

pub opened : {Z E : Type 0} (n : ℕ) (ms : List (Vec ℕ Z)) (s t : Disk) (r : Result (Unit {0}) E) → Performs DiskDid (opening n ms) r s t → Opened (held s) n (map (λ m. vec_items m) ms) (held t)
opened n ms s t (Ok x) d = opened_done n ms (held s) (held t) (lift_done (opening n ms) s t d)
opened n ms s t (Err e) d = opened_stopped n ms (held s) (held t) (lift_stopped (opening n ms) s t d)

-- all was done
all_said : {Z : Type 0} (ms : List (Vec ℕ Z)) (h k : Held) → Done Did (sends ms) h k → (k.synced ≡ h.synced) × (k.pending ≡ h.pending) × (k.sent ≡ h.sent ++ map (λ m. vec_items m) ms)
all_said [] h k d = (ap (λ (v : Held). v.synced) (sym d), ap (λ (v : Held). v.pending) (sym d), ap (λ (v : Held). v.sent) (sym d) ∙ sym (append-nil h.sent))
all_said (m ∷ ms) h k d =
    let r = all_said ms d.0 k d.2 in
    let e : d.0 ≡ after (Send (vec_items m)) h = d.1.1 in
    let rest : List (List ℕ) = map (λ v. vec_items v) ms in
    (r.0 ∙ ap (λ (v : Held). v.synced) e, r.1 ∙ ap (λ (v : Held). v.pending) e, r.2 ∙ ap (λ (v : Held). v.sent ++ rest) e ∙ append_assoc h.sent (vec_items m ∷ []) rest)

finished_done : {Z : Type 0} (b : List ℕ) (ms : List (Vec ℕ Z)) (h k : Held) → Done Did (stepping b ms) h k → Finished h b (map (λ m. vec_items m) ms) k
finished_done [] ms h k d = record { told = (all_said ms h k d).2; filed = λ l. absurd (not-suc-le-zero l) }
finished_done (x ∷ b) ms h k d = go (subst (λ (es : List Effect). Done Did es h k) (writing x b ms) d)
  where
    go : Done Did (Append (x ∷ b) ∷ Sync ∷ sends ms) h k → Finished h (x ∷ b) (map (λ m. vec_items m) ms) k
    go f =
        let y = f.2 in
        let r = all_said ms y.0 k y.2 in
        let e : f.0 ≡ after (Append (x ∷ b)) h = f.1.1 in
        let v : y.0 ≡ after Sync f.0 = y.1.1 in
        record { told = r.2 ∙ ap (λ (w : List (List ℕ)). w ++ map (λ m. vec_items m) ms) (ap (λ (w : Held). w.sent) v ∙ ap (λ (w : Held). w.sent) e); filed = λ _. (r.0 ∙ ap (λ (w : Held). w.synced) v ∙ ap file e ∙ sym (append_assoc h.synced h.pending (x ∷ b)), r.1 ∙ ap (λ (w : Held). w.pending) v) }

settled_done : {Z : Type 0} (n : ℕ) (ms : List (Vec ℕ Z)) (h k : Held) → Done Did (opening n ms) h k → Settled h n (map (λ m. vec_items m) ms) k
settled_done n ms h k f =
    let y = f.2 in
    let r = all_said ms y.0 k y.2 in
    let e : f.0 ≡ after (CutBack n) h = f.1.1 in
    let v : y.0 ≡ after Sync f.0 = y.1.1 in
    let l : length h.synced ≤ n = leb-true _ _ (and_parts _ _ f.1.0).1 in
    record { told = r.2 ∙ ap (λ (w : List (List ℕ)). w ++ map (λ m. vec_items m) ms) (ap (λ (w : Held). w.sent) v ∙ ap (λ (w : Held). w.sent) e); filed = (r.0 ∙ ap (λ (w : Held). w.synced) v ∙ ap file e ∙ cut_file n h.synced h.pending l, r.1 ∙ ap (λ (w : Held). w.pending) v) }

pub finished : {Z E : Type 0} (b : List ℕ) (ms : List (Vec ℕ Z)) (s t : Disk) (r : Result (Unit {0}) E) → Performs DiskDid (stepping b ms) r s t → IfOk r (λ _. Finished (held s) b (map (λ m. vec_items m) ms) (held t))
finished b ms s t (Ok x) d = finished_done b ms (held s) (held t) (lift_done (stepping b ms) s t d)
finished b ms s t (Err e) d = tt

pub settled : {Z E : Type 0} (n : ℕ) (ms : List (Vec ℕ Z)) (s t : Disk) (r : Result (Unit {0}) E) → Performs DiskDid (opening n ms) r s t → IfOk r (λ _. Settled (held s) n (map (λ m. vec_items m) ms) (held t))
settled n ms s t (Ok x) d = settled_done n ms (held s) (held t) (lift_done (opening n ms) s t d)
settled n ms s t (Err e) d = tt
