-- How look-up, raising and removal act on lists of rows. Assumes nothing.
use Rattle.std.proofs.Common.{◌≡◌, ℕ, zero, suc, ◌<◌, ◌≤◌, true, false, not, ◌≢◌, List, [], ◌∷◌, length, get_or, set, Some, None, refl, ap, ◌∙◌, arith}
use Rattle.std.specs.List.{position, position_or_len, remove}
use Rattle.std.proofs.lemmas.List.Sums.{fails_before_first}
use Rattle.std.proofs.lemmas.Bool.{cond-true, cond-false, not_from_true, not_from_false}
use Rattle.std.proofs.lemmas.Bool.Decides.{nat_tests}
use Rattle.sheet.specs.Rows.{blank, is_of, lookup, raise_at, raised, without}
use Rattle.sheet.specs.declared.row.Row.{Row}

pub is_of_parts : (u v : ℕ) (r : Row) → is_of u v r ≡ true → (r.first ≡ u) × (r.second ≡ v)
is_of_parts u v r h = grind (arith, nat_tests)

pub is_of_from : (u v : ℕ) (r : Row) → r.first ≡ u → r.second ≡ v → is_of u v r ≡ true
is_of_from u v r p q = grind (arith, nat_tests)

-- a row of one pair is of no other
pub is_of_one : (u v x y : ℕ) (r : Row) → (x ≡ u → y ≡ v → ⊥) → is_of u v r ≡ true → is_of x y r ≡ false
is_of_one u v x y r other h = grind (arith, nat_tests)

-- None of the rows is the pair's.
abbrev pub Absent : ℕ → ℕ → List Row → Type 0
Absent u v rs = (i : ℕ) → i < length rs → is_of u v (get_or rs i blank) ≡ false

-- The row at i is the pair's, and no other is.
pub record Only (u v : ℕ) (rs : List Row) (i : ℕ) : Type 0 where
  pub within : i < length rs
  pub here : is_of u v (get_or rs i blank) ≡ true
  pub others : (k : ℕ) → k < length rs → k ≢ i → is_of u v (get_or rs k blank) ≡ false

module _ (u v : ℕ) where
  absent_tail : (r : Row) (rs : List Row) → Absent u v (r ∷ rs) → Absent u v rs
  absent_tail r rs away k h = away (suc k) (omega arith)

  -- past a first row that is not the pair's
  only_tail : (r : Row) (rs : List Row) (i : ℕ) → Only u v (r ∷ rs) (suc i) → Only u v rs i
  only_tail r rs i o = record { within = omega (arith, o.within); here = o.here; others = λ k h ne. o.others (suc k) (omega arith) (omega arith) }

  first_other : (r : Row) (rs : List Row) (i : ℕ) → Only u v (r ∷ rs) (suc i) → is_of u v r ≡ false
  first_other r rs i o = o.others 0 (omega arith) (omega arith)

  first_only : (r : Row) (rs : List Row) → Only u v (r ∷ rs) zero → Absent u v rs
  first_only r rs o k h = o.others (suc k) (omega arith) (omega arith)

  pub lookup_absent : (rs : List Row) → Absent u v rs → lookup u v rs ≡ None
  lookup_absent [] away = refl
  lookup_absent (r ∷ rs) away = cond-false (is_of u v r) _ _ (away 0 (omega arith)) ∙ lookup_absent rs (absent_tail r rs away)

  pub absent_from_lookup : (rs : List Row) → lookup u v rs ≡ None → Absent u v rs
  absent_from_lookup [] e k h = absurd (omega arith)
  absent_from_lookup (r ∷ rs) e zero h = grind (arith, nat_tests)
  absent_from_lookup (r ∷ rs) e (suc k) h = absent_from_lookup rs (grind (arith, nat_tests)) k (omega arith)

  pub lookup_only : (rs : List Row) (i : ℕ) → Only u v rs i → lookup u v rs ≡ Some (get_or rs i blank).count
  lookup_only [] i o = absurd (omega (arith, o.within))
  lookup_only (r ∷ rs) zero o = cond-true (is_of u v r) _ _ o.here
  lookup_only (r ∷ rs) (suc i) o = cond-false (is_of u v r) _ _ (first_other r rs i o) ∙ lookup_only rs i (only_tail r rs i o)

  pub raise_absent : (c : ℕ) (rs : List Row) → Absent u v rs → raise_at u v c rs ≡ rs
  raise_absent c [] away = refl
  raise_absent c (r ∷ rs) away =
      ap (λ x. x ∷ raise_at u v c rs) (cond-false (is_of u v r) _ _ (away 0 (omega arith))) ∙ ap (λ xs. r ∷ xs) (raise_absent c rs (absent_tail r rs away))

  pub raise_only : (c : ℕ) (rs : List Row) (i : ℕ) → Only u v rs i → raise_at u v c rs ≡ set rs i (raised c (get_or rs i blank))
  raise_only c [] i o = absurd (omega (arith, o.within))
  raise_only c (r ∷ rs) zero o =
      ap (λ x. x ∷ raise_at u v c rs) (cond-true (is_of u v r) _ _ o.here) ∙ ap (λ xs. raised c r ∷ xs) (raise_absent c rs (first_only r rs o))
  raise_only c (r ∷ rs) (suc i) o =
      ap (λ x. x ∷ raise_at u v c rs) (cond-false (is_of u v r) _ _ (first_other r rs i o)) ∙ ap (λ xs. r ∷ xs) (raise_only c rs i (only_tail r rs i o))

  keeps : (r : Row) (rs : List Row) → is_of u v r ≡ false → without u v (r ∷ rs) ≡ r ∷ without u v rs
  keeps r rs away = cond-true (not (is_of u v r)) _ _ (not_from_false (is_of u v r) away)

  drops : (r : Row) (rs : List Row) → is_of u v r ≡ true → without u v (r ∷ rs) ≡ without u v rs
  drops r rs h = cond-false (not (is_of u v r)) _ _ (not_from_true (is_of u v r) h)

  pub without_absent : (rs : List Row) → Absent u v rs → without u v rs ≡ rs
  without_absent [] away = refl
  without_absent (r ∷ rs) away = keeps r rs (away 0 (omega arith)) ∙ ap (λ xs. r ∷ xs) (without_absent rs (absent_tail r rs away))

  pub without_only : (rs : List Row) (i : ℕ) → Only u v rs i → without u v rs ≡ remove rs i
  without_only [] i o = absurd (omega (arith, o.within))
  without_only (r ∷ rs) zero o = drops r rs o.here ∙ without_absent rs (first_only r rs o)
  without_only (r ∷ rs) (suc i) o = keeps r rs (first_other r rs i o) ∙ ap (λ xs. r ∷ xs) (without_only rs i (only_tail r rs i o))

  -- where a search finds none of the pair's rows, the pair has none
  pub lookup_none : (rs : List Row) → position (is_of u v) rs ≡ None → lookup u v rs ≡ None
  lookup_none rs e =
      let past : length rs ≤ position_or_len (is_of u v) rs = grind (arith, nat_tests) in
      lookup_absent rs (λ k h. fails_before_first (is_of u v) rs k blank (omega arith))
