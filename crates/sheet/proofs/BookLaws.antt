-- The laws of books. Assumes nothing.
use Rattle.std.proofs.Common.{◌≡◌, ℕ, ◌+◌, true, false, cond, not, List, [], ◌∷◌, ◌++◌, length, get_or, is_some, Some, None, Option, unwrap_or, sym, refl, ap, ◌∙◌, subst, ⊎_elim, arith}
use Rattle.std.proofs.lemmas.List.Elements.{filter-append}
use Rattle.std.proofs.lemmas.List.{append-nil, get_or_append_left}
use Rattle.std.proofs.lemmas.Bool.{cases_Bool, cond_both, cond-true, cond-false, not_from_true}
use Rattle.sheet.specs.Books.{Book, SamePair, row_at, with_rows}
use Rattle.sheet.specs.Calls.{Call, notes, strikes, confines, accepted, count_causes, next, pair_causes, refusal, row_causes}
use Rattle.sheet.specs.Causes.{◌if◌, first_cause}
use Rattle.sheet.specs.Laws.{GrownSound, NoteMovesNone, NoteRaises, NoteSparesOthers, OrderStays, Other, RefusedLeaves, StrikeClears, StrikeSparesOthers, StrikeUndoesFirstNote}
use Rattle.sheet.specs.Rows.{blank, is_of, lookup, noted, raise_at, row, without}
use Rattle.sheet.specs.declared.fault.Fault.TheVariants.{NoRow}
use Rattle.sheet.specs.declared.row.Row.{Row}
use Rattle.sheet.proofs.Books.{raised_pair, sound_after, sound_new}
use Rattle.sheet.proofs.Causes.{first_cause_append, first_cause_past}
use Rattle.sheet.proofs.Rows.{absent_from_lookup, is_of_from, is_of_one, without_absent}

-- what an accepted call leaves, and what a refused one does
next_accepted : (b : Book) (c : Call) → refusal b c ≡ None → next b c ≡ accepted b c
next_accepted b c e = cond-false (is_some (refusal b c)) _ _ (ap is_some e)

pub refused_leaves : RefusedLeaves
refused_leaves b c f e = cond-true (is_some (refusal b c)) _ _ (ap is_some e)

-- what holds of the book and of the book that an accepted call leaves, holds of the next
next_both : (b : Book) (c : Call) (P : Book → Type 0) → P b → P (accepted b c) → P (next b c)
next_both b c P p q = cond_both (is_some (refusal b c)) b (accepted b c) P (λ _. p) (λ _. q)

pub grown_sound : GrownSound
grown_sound cs = sound_after _ sound_new cs

-- rows, one at a time
module _ (u v : ℕ) where
  by_pair : (r : Row) {P : Type 0} → (is_of u v r ≡ true → P) → (is_of u v r ≡ false → P) → P
  by_pair r p q = ⊎_elim p q (cases_Bool (is_of u v r))

  lookup_raised : (c : ℕ) (rs : List Row) (m : ℕ) → lookup u v rs ≡ Some m → lookup u v (raise_at u v c rs) ≡ Some (m + c)
  lookup_raised c [] m e = let z : ◌≡◌ {A = ℕ} 0 1 = cc in absurd (omega arith)
  lookup_raised c (r ∷ rs) m e =
      by_pair r
      (λ t. let q : r.count ≡ m = grind arith in simp t (ap (λ n. Some (n + c)) q))
      (λ t. simp t (lookup_raised c rs m (simp t at e)))

  lookup_pushed : (c : ℕ) (rs : List Row) → lookup u v rs ≡ None → lookup u v (rs ++ row u v c ∷ []) ≡ Some c
  lookup_pushed c [] e = cond-true (is_of u v (row u v c)) _ _ (is_of_from u v (row u v c) refl refl)
  lookup_pushed c (r ∷ rs) e =
      let q : (is_of u v r ≡ false) × (lookup u v rs ≡ None) = grind arith in
      cond-false (is_of u v r) _ _ q.0 ∙ lookup_pushed c rs q.1

  lookup_without : (rs : List Row) → lookup u v (without u v rs) ≡ None
  lookup_without [] = refl
  lookup_without (r ∷ rs) = by_pair r (λ t. simp t (lookup_without rs)) (λ t. simp t (lookup_without rs))

  without_raised : (c : ℕ) (rs : List Row) → without u v (raise_at u v c rs) ≡ without u v rs
  without_raised c [] = refl
  without_raised c (r ∷ rs) = by_pair r (λ t. simp t (without_raised c rs)) (λ t. simp t (ap (λ xs. r ∷ xs) (without_raised c rs)))

  without_twice : (rs : List Row) → without u v (without u v rs) ≡ without u v rs
  without_twice [] = refl
  without_twice (r ∷ rs) = by_pair r (λ t. simp t (without_twice rs)) (λ t. simp t (ap (λ xs. r ∷ xs) (without_twice rs)))

  module _ (x y : ℕ) (other : Other u v x y) where
    spared_raised : (c : ℕ) (rs : List Row) → lookup x y (raise_at u v c rs) ≡ lookup x y rs
    spared_raised c [] = refl
    spared_raised c (r ∷ rs) =
        by_pair r
        (λ t. let o = is_of_one u v x y r other t in simp (t, o) (spared_raised c rs))
        (λ t. simp t (ap (cond (is_of x y r) (Some r.count)) (spared_raised c rs)))

    spared_pushed : (c : ℕ) (rs : List Row) → lookup x y (rs ++ row u v c ∷ []) ≡ lookup x y rs
    spared_pushed c [] = cond-false (is_of x y (row u v c)) _ _ (is_of_one u v x y (row u v c) other (is_of_from u v (row u v c) refl refl))
    spared_pushed c (r ∷ rs) = ap (cond (is_of x y r) (Some r.count)) (spared_pushed c rs)

    spared_without : (rs : List Row) → lookup x y (without u v rs) ≡ lookup x y rs
    spared_without [] = refl
    spared_without (r ∷ rs) =
        by_pair r
        (λ t. let o = is_of_one u v x y r other t in simp (t, o) (spared_without rs))
        (λ t. simp t (ap (cond (is_of x y r) (Some r.count)) (spared_without rs)))

    spared_noted : (c : ℕ) (rs : List Row) → lookup x y (noted u v c rs) ≡ lookup x y rs
    spared_noted c rs =
        cond_both (is_some (lookup u v rs)) (raise_at u v c rs) (rs ++ row u v c ∷ []) (λ xs. lookup x y xs ≡ lookup x y rs)
        (λ _. spared_raised c rs) (λ _. spared_pushed c rs)

  count_noted : (c : ℕ) (rs : List Row) (o : Option ℕ) → lookup u v rs ≡ o → unwrap_or (lookup u v (noted u v c rs)) 0 ≡ unwrap_or o 0 + c
  count_noted c rs (Some m) e =
      ap (λ xs. unwrap_or (lookup u v xs) 0) (cond-true (is_some (lookup u v rs)) _ _ (ap is_some e)) ∙ ap (λ o. unwrap_or o 0) (lookup_raised c rs m e)
  count_noted c rs None e =
      ap (λ xs. unwrap_or (lookup u v xs) 0) (cond-false (is_some (lookup u v rs)) _ _ (ap is_some e)) ∙ ap (λ o. unwrap_or o 0) (lookup_pushed c rs e) ∙ omega arith

  without_pushed : (c : ℕ) (rs : List Row) → without u v (rs ++ row u v c ∷ []) ≡ without u v rs
  without_pushed c rs =
      filter-append (λ r. not (is_of u v r)) rs (row u v c ∷ [])
      ∙ ap (λ xs. without u v rs ++ xs) (cond-false (not (is_of u v (row u v c))) _ _ (not_from_true _ (is_of_from u v (row u v c) refl refl)))
      ∙ append-nil (without u v rs)

  without_noted : (c : ℕ) (rs : List Row) → without u v (noted u v c rs) ≡ without u v rs
  without_noted c rs =
      cond_both (is_some (lookup u v rs)) (raise_at u v c rs) (rs ++ row u v c ∷ []) (λ xs. without u v xs ≡ without u v rs)
      (λ _. without_raised c rs) (λ _. without_pushed c rs)

pub note_raises : NoteRaises
note_raises b u v c e = ap (λ b'. unwrap_or (lookup u v b'.rows) 0) (next_accepted b (notes u v c) e) ∙ count_noted u v c b.rows (lookup u v b.rows) refl

pub note_spares_others : NoteSparesOthers
note_spares_others b u v c x y other = next_both b (notes u v c) (λ b'. lookup x y b'.rows ≡ lookup x y b.rows) refl (spared_noted u v x y other c b.rows)

pub strike_clears : StrikeClears
strike_clears b u v e = ap (λ b'. lookup u v b'.rows) (next_accepted b (strikes u v) e) ∙ lookup_without u v b.rows

pub strike_spares_others : StrikeSparesOthers
strike_spares_others b u v x y other = next_both b (strikes u v) (λ b'. lookup x y b'.rows ≡ lookup x y b.rows) refl (spared_without u v x y other b.rows)

pub strike_undoes_first_note : StrikeUndoesFirstNote
strike_undoes_first_note b u v c none e =
    let b' = with_rows b (b.rows ++ row u v c ∷ []) in
    let noted_is : next b (notes u v c) ≡ b' =
    next_accepted b (notes u v c) e ∙ ap (with_rows b) (cond-false (is_some (lookup u v b.rows)) _ _ (ap is_some none)) in
    let pair = (first_cause_append (pair_causes b u v) (count_causes c ++ row_causes (lookup u v b.rows) (length b.rows) c) e).0 in
    let struck_is : refusal b' (strikes u v) ≡ None =
    first_cause_past (pair_causes b' u v) ((NoRow if not (is_some (lookup u v b'.rows))) ∷ []) pair
    ∙ ap (λ o. first_cause ((NoRow if not (is_some o)) ∷ [])) (lookup_pushed u v c b.rows none) in
    ap (λ q. next q (strikes u v)) noted_is ∙ next_accepted b' (strikes u v) struck_is
    ∙ ap (with_rows b) (without_pushed u v c b.rows ∙ without_absent u v b.rows (absent_from_lookup u v b.rows none))

pub order_stays : OrderStays
order_stays = record {
  note = λ b u v c. next_both b (notes u v c) (λ b'. without u v b'.rows ≡ without u v b.rows) refl (without_noted u v c b.rows);
  strike = λ b u v. next_both b (strikes u v) (λ b'. without u v b'.rows ≡ without u v b.rows) refl (without_twice u v b.rows);
  confine = λ b k. next_both b (confines k) (λ b'. b'.rows ≡ b.rows) refl refl;
}

pub note_moves_none : NoteMovesNone
note_moves_none b u v c i h =
    let P : Row → Type 0 = λ r. SamePair r (row_at b i) in
    next_both b (notes u v c) (λ b'. P (row_at b' i)) (refl, refl)
    (cond_both (is_some (lookup u v b.rows)) (raise_at u v c b.rows) (b.rows ++ row u v c ∷ []) (λ rs. P (get_or rs i blank))
    (λ _. raised_pair b u v c i h)
    (λ _. subst P (sym (get_or_append_left b.rows (row u v c ∷ []) blank i h)) (refl, refl)))
