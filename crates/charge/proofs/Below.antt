-- What a test over the numbers below a bound decides, and a sum over them. Assumes nothing.
use Rattle.std.proofs.Common.{◌≡◌, ℕ, zero, suc, ◌+◌, ◌<◌, ◌≤◌, ◌↔◌, Bool, true, false, IsTrue, ◌⊎◌, inl, inr, nat_le, map, slice_index, sum, refl, ap, subst, arith}
use Rattle.std.specs.List.{list_all, range_with_len}
use Rattle.std.proofs.lemmas.Bool.{leb-true, le-leb}
use Rattle.std.proofs.lemmas.Bool.Decides.{not_from_Decides}
use Rattle.std.proofs.lemmas.List.Elements.{All-from_get_or}
use Rattle.std.proofs.lemmas.List.FromFn.{get_or-range_with_len, length-range_with_len, sum_by-map-range_with_len_more}
use Rattle.std.proofs.lemmas.List.Sums.{AllPass-from_list_all, list_all-from_AllPass}

pub is_le : (a b : ℕ) → IsTrue (nat_le a b) ↔ (a ≤ b)
is_le a b = (leb-true a b, le-leb a b)

-- a test with what it tells, for `grind`
pub tells : {P : Type 0} (t : Bool) → (IsTrue t ↔ P) → ((t ≡ true) × P) ⊎ ((t ≡ false) × ¬ P)
tells true decides = inl (refl, decides.0 refl)
tells false decides = inr (refl, not_from_Decides false decides refl)

pub list_all_below : (n : ℕ) (test : ℕ → Bool) (P : ℕ → Type 0) → ((i : ℕ) → IsTrue (test i) ↔ P i) → IsTrue (list_all test (range_with_len 0 n)) ↔ ((i : ℕ) → i < n → P i)
list_all_below n test P each =
    let at : (i : ℕ) → i < n → slice_index (range_with_len 0 n) i ≡ i = λ i h. omega (arith, get_or-range_with_len 0 n i 0 h) in (
      λ t i h. (each i).0 (subst (λ j. IsTrue (test j)) (at i h) (AllPass-from_list_all test (range_with_len 0 n) t i 0 (omega (arith, length-range_with_len 0 n)))),
      λ all.
          list_all-from_AllPass test (range_with_len 0 n)
          (All-from_get_or (λ j. IsTrue (test j)) (range_with_len 0 n) 0
          (λ i h. let l : i < n = omega (arith, length-range_with_len 0 n) in (each (slice_index (range_with_len 0 n) i)).1 (all (slice_index (range_with_len 0 n) i) (omega (arith, at i l))))),
    )

-- f(0) to f(n − 1), added up
abbrev pub sum_below : ℕ → (ℕ → ℕ) → ℕ
sum_below zero f = 0
sum_below (suc n) f = sum_below n f + f n

pub sum_below_is : (n : ℕ) (f : ℕ → ℕ) → sum_below n f ≡ sum (map f (range_with_len 0 n))
sum_below_is zero f = refl
sum_below_is (suc n) f =
    let more : n + 1 ≡ suc n = omega arith in
    omega (arith, sum_below_is n f, sum_by-map-range_with_len_more (λ x. x) f 0 n n (omega arith), ap (λ m. sum (map f (range_with_len 0 m))) more)
