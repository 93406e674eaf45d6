-- What it says that no cause applies, or that a check passed. Assumes nothing.
use Rattle.std.proofs.Common.{◌≡◌, ℕ, ◌+◌, ◌<◌, ◌≤◌, false, List, [], ◌∷◌, ◌++◌, Some, None, Ok, Option, refl, ◌∙◌, arith}
use Rattle.std.proofs.lemmas.Bool.{cond-false}
use Rattle.std.proofs.lemmas.Bool.Decides.{nat_tests}
use Rattle.sheet.specs.Books.{Book, max_alarms, max_limit, max_rows}
use Rattle.sheet.specs.Calls.{opens, count_causes, limit_causes, pair_causes, refusal, row_causes}
use Rattle.sheet.specs.Causes.{Cause, checked, first_cause}
use Rattle.sheet.specs.Rows.{max_count}

-- where none of two lists applies, none of either does
pub first_cause_append : {F : Type 0} (xs ys : List (Cause F)) → first_cause (xs ++ ys) ≡ None → (first_cause xs ≡ None) × (first_cause ys ≡ None)
first_cause_append [] ys e = (refl, e)
first_cause_append (x ∷ xs) ys e =
    let r : (x.applies ≡ false) × (first_cause (xs ++ ys) ≡ None) = grind arith in
    let s = first_cause_append xs ys r.1 in
    (cond-false x.applies _ _ r.0 ∙ s.0, s.1)

-- causes that do not apply leave the answer to the next
pub first_cause_past : {F : Type 0} (xs ys : List (Cause F)) → first_cause xs ≡ None → first_cause (xs ++ ys) ≡ first_cause ys
first_cause_past [] ys e = refl
first_cause_past (x ∷ xs) ys e =
    let r : (x.applies ≡ false) × (first_cause xs ≡ None) = grind arith in
    cond-false x.applies _ _ r.0 ∙ first_cause_past xs ys r.1

-- a check that passed: nothing refused it, and it answers its value
pub checked_free : {F X : Type 0} (o : Option F) (x y : X) → checked o x ≡ Ok y → o ≡ None
checked_free None x y e = refl
checked_free (Some f) x y e = let z : ◌≡◌ {A = ℕ} 0 1 = cc in absurd (omega arith)

pub checked_value : {F X : Type 0} (o : Option F) (x y : X) → checked o x ≡ Ok y → x ≡ y
checked_value None x y e = cc
checked_value (Some f) x y e = let z : ◌≡◌ {A = ℕ} 0 1 = cc in absurd (omega arith)

pub pair_ok : (b : Book) (u v : ℕ) → first_cause (pair_causes b u v) ≡ None → (u < b.n) × (v < b.n) × (u ≡ v → ⊥)
pair_ok b u v e = grind (arith, nat_tests)

pub count_ok : (c : ℕ) → first_cause (count_causes c) ≡ None → (1 ≤ c) × (c ≤ max_count)
count_ok c e = grind (arith, nat_tests)

pub limit_ok : (k : ℕ) → first_cause (limit_causes k) ≡ None → (1 ≤ k) × (k ≤ max_limit)
limit_ok k e = grind (arith, nat_tests)

pub raise_ok : (c m size : ℕ) → first_cause (row_causes (Some m) size c) ≡ None → m + c ≤ max_count
raise_ok c m size e = grind (arith, nat_tests)

pub append_ok : (c size : ℕ) → first_cause (row_causes None size c) ≡ None → size < max_rows
append_ok c size e = grind (arith, nat_tests)

pub open_ok : (b : Book) (n k : ℕ) → refusal b (opens n k) ≡ None → ((1 ≤ n) × (n ≤ max_alarms)) × ((1 ≤ k) × (k ≤ max_limit))
open_ok b n k e = grind (arith, nat_tests)
