-- The harbour is a function of its journal.
-- Assumes nothing.
use Rattle.std.proofs.Common.{◌≡◌, ℕ, ◌≤◌, max, Bool, true, false, cond, eqb, ltb, leb, List, [], ◌∷◌, ◌++◌, length, is_some, Some, None, Ok, Err, Option, Result, unwrap_or, sym, refl, ap, ◌∙◌, subst, inl, inr, arith}
use Rattle.std.proofs.lemmas.Bool.{eq-eqb, ltb-false, cond-true, cond-false, cond_both, cases_Bool}
use Rattle.ledger.specs.Entries.{Entry, entry, floor_of, entered, admitted, heard}
use Rattle.ledger.specs.Ledgers as ledger
use Rattle.ledger.specs.Ledgers.{Book}
use Rattle.ledger.proofs.Books.{heard_lower}
use Rattle.levels.specs.Rules.{accepts}
use Rattle.levels.specs.Verdicts.{Verdict, Number, Bad}
use Rattle.messages.specs.Messages.{Telling, word, promise, level, has_it, Letter}
use Rattle.messages.specs.Messages as messages
use Rattle.records.specs.Records.{Written, level_is, boat_is}
use Rattle.stations.specs.Harbours.{recalled, listed, listing, confirmed, acknowledged, judging, hearing, announced, announcing}
use Rattle.stations.specs.Journals as journal
use Rattle.stations.specs.Deeds.{nothing}
use Rattle.stations.specs.Laws.{KeepsOn, HarbourRecalls}

-- a book by its parts
book_is : (es fs : List Entry) (n m : ℕ) → es ≡ fs → n ≡ m → ◌≡◌ {A = Book} (record { list = es; said = n }) (record { list = fs; said = m })
book_is es fs n m e f =
    let F : List Entry → ℕ → Book = λ l k. record { list = l; said = k } in
    ap (λ l. F l n) e ∙ ap (F fs) f

-- of a boat that came on the list a promise of 1 says nothing new
heard_entered : (b : ℕ) (es : List Entry) → is_some (floor_of b es) ≡ false → heard b 1 (entered b es) ≡ entered b es
heard_entered b [] h = cond-true (eqb b b) (entry b 1 ∷ []) (entry b 1 ∷ []) (eq-eqb b b refl)
heard_entered b (e ∷ es) h = go (ltb e.boat.0 b) (eqb e.boat.0 b) refl h (heard_entered b es)
  where
    go : (p q : Bool) → eqb e.boat.0 b ≡ q → is_some (cond q (Some e.floor.0) (floor_of b es)) ≡ false → (is_some (floor_of b es) ≡ false → heard b 1 (entered b es) ≡ entered b es) → heard b 1 (cond p (e ∷ entered b es) (entry b 1 ∷ e ∷ es)) ≡ cond p (e ∷ entered b es) (entry b 1 ∷ e ∷ es)
    go p true g h k = absurd cc
    go true false g h k = cond-false (eqb e.boat.0 b) (entry e.boat.0 (max e.floor.0 1) ∷ entered b es) (e ∷ heard b 1 (entered b es)) g ∙ ap (λ l. e ∷ l) (k h)
    go false false g h k = cond-true (eqb b b) (entry b 1 ∷ e ∷ es) (entry b 1 ∷ heard b 1 (e ∷ es)) (eq-eqb b b refl)

module _ (rs : List Written) where
  abbrev es : List Entry
  es = journal.boats rs

  abbrev k₀ : ℕ
  k₀ = journal.level rs

  -- one record more for a boat of the list
  boat_more : (b f : ℕ) (fs : List Entry) → fs ≡ heard b f (admitted b es) → ◌≡◌ {A = Book} (record { list = fs; said = k₀ }) (recalled (boat_is b f ∷ rs))
  boat_more b f fs e = book_is fs (heard b f (admitted b es)) k₀ (max 0 k₀) e (omega arith)

  lists : (b : ℕ) → KeepsOn rs (listing (recalled rs) b)
  lists b =
      cond_both (eqb b 0) (Err Bad) (cond (is_some (floor_of b es)) (Ok (recalled rs)) (cond (ltb 1 k₀) (Err (Number 4)) (cond (leb 4096 (length es)) (Err (Number 6)) (Ok (record { list = entered b es; said = k₀ }))))) P (λ e. tt) (λ e.
      cond_both (is_some (floor_of b es)) (Ok (recalled rs)) (cond (ltb 1 k₀) (Err (Number 4)) (cond (leb 4096 (length es)) (Err (Number 6)) (Ok (record { list = entered b es; said = k₀ })))) P (λ h. ap (λ t. recalled (cond t [] (boat_is b 1 ∷ []) ++ rs)) (sym h)) (λ h.
      cond_both (ltb 1 k₀) (Err (Number 4)) (cond (leb 4096 (length es)) (Err (Number 6)) (Ok (record { list = entered b es; said = k₀ }))) P (λ e. tt) (λ e.
      cond_both (leb 4096 (length es)) (Err (Number 6)) (Ok (record { list = entered b es; said = k₀ })) P (λ e. tt) (λ e. new h))))
    where
      P : Result Book Verdict → Type 0
      P r = KeepsOn rs (listed (recalled rs) b r)

      new : is_some (floor_of b es) ≡ false → record { list = entered b es; said = k₀ } ≡ recalled (cond (is_some (floor_of b es)) [] (boat_is b 1 ∷ []) ++ rs)
      new h =
          boat_more b 1 (entered b es) (sym (ap (heard b 1) (cond-false (is_some (floor_of b es)) es (entered b es) h) ∙ heard_entered b es h)) ∙ ap (λ t. recalled (cond t [] (boat_is b 1 ∷ []) ++ rs)) (sym h)

  confirms : (b f : ℕ) → KeepsOn rs (confirmed (recalled rs) b f (ledger.hearing (recalled rs) b f))
  confirms b f = go (floor_of b es) refl
    where
      go : (o : Option ℕ) → floor_of b es ≡ o → KeepsOn rs (confirmed (recalled rs) b f (ledger.answering (recalled rs) b f o))
      go None e = tt
      go (Some g) e = elim (cases_Bool (ltb (unwrap_or (floor_of b es) 0) f)) [
        | inl t ↦ boat_more b f (heard b f es) (sym (ap (heard b f) (cond-true (is_some (floor_of b es)) es (entered b es) (ap is_some e)))) ∙ ap (λ t. recalled (cond t (boat_is b f ∷ []) [] ++ rs)) (sym t)
        | inr t ↦ book_is (heard b f es) es k₀ k₀ (heard_lower b f g es e (lower g e t)) refl ∙ ap (λ t. recalled (cond t (boat_is b f ∷ []) [] ++ rs)) (sym t)
      ]
        where
          lower : (g : ℕ) → floor_of b es ≡ Some g → ltb (unwrap_or (floor_of b es) 0) f ≡ false → f ≤ g
          lower g e t = ltb-false g f (ap (λ o. ltb (unwrap_or o 0) f) (sym e) ∙ t)

  judges : (from : ℕ) (t : Telling) → KeepsOn rs (judging (recalled rs) from t)
  judges from (word u) = tt
  judges from (promise f) = cond_both (eqb from 0) (Err (Number 1)) (confirmed (recalled rs) from f (ledger.hearing (recalled rs) from f)) (KeepsOn rs) (λ e. tt) (λ e. confirms from f)
  judges from (messages.heard f) = tt
  judges from (level k) = tt
  judges from (has_it k) =
      cond_both (eqb from 0) (Err (Number 1)) (acknowledged (recalled rs) from) (KeepsOn rs) (λ e. tt) (λ e. cond_both (is_some (floor_of from es)) (Ok (nothing, recalled rs)) (Err (Number 5)) (KeepsOn rs) (λ e. refl) (λ e. tt))

  hears : (l : Letter) → KeepsOn rs (hearing (recalled rs) l)
  hears l = cond_both (accepts 0 l.to) (judging (recalled rs) l.from l.body) (Err (Number 0)) (KeepsOn rs) (λ e. judges l.from l.body) (λ e. tt)

  announces : (k : ℕ) → KeepsOn rs (announcing (recalled rs) k)
  announces k =
      cond_both (eqb k 0) (Err Bad) (cond (ledger.unpromised k es) (Err (Number 4)) (Ok (ledger.levelled (recalled rs) k))) P (λ e. tt) (λ e. cond_both (ledger.unpromised k es) (Err (Number 4)) (Ok (ledger.levelled (recalled rs) k)) P (λ e. tt) (λ e. said))
    where
      P : Result Book Verdict → Type 0
      P r = KeepsOn rs (announced (recalled rs) k r)

      said : ledger.levelled (recalled rs) k ≡ recalled (cond (ltb k₀ k) (level_is k ∷ []) [] ++ rs)
      said = elim (cases_Bool (ltb k₀ k)) [
        | inl t ↦ book_is es es (max k₀ k) (max k k₀) refl (omega arith) ∙ ap (λ t. recalled (cond t (level_is k ∷ []) [] ++ rs)) (sym t)
        | inr t ↦ book_is es es (max k₀ k) k₀ refl (let h : k ≤ k₀ = ltb-false k₀ k t in omega arith) ∙ ap (λ t. recalled (cond t (level_is k ∷ []) [] ++ rs)) (sym t)
      ]

pub harbour_recalls : HarbourRecalls
harbour_recalls =
    record { lists = λ rs x b e. subst (λ (y : Book). KeepsOn rs (listing y b)) (sym e) (lists rs b); hears = λ rs x l e. subst (λ (y : Book). KeepsOn rs (hearing y l)) (sym e) (hears rs l); announces = λ rs x k e. subst (λ (y : Book). KeepsOn rs (announcing y k)) (sym e) (announces rs k) }
