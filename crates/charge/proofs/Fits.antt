-- The tests of a fit decide what they test. Assumes nothing.
use Rattle.std.proofs.Common.{◌≡◌, ℕ, ◌+◌, ◌*◌, ◌≤◌, ◌↔◌, Bool, IsTrue, nat_le, true, false, ◌⊎◌, List, slice_index}
use Rattle.std.proofs.lemmas.Bool.Decides.{Decides-and, same_from_decides}
use Rattle.charge.specs.Charges.{Convex, Small, distances, max_charge}
use Rattle.charge.specs.Fits.{convex, small}
use Rattle.charge.proofs.Below.{is_le, list_all_below, tells}

pub small_decides : (p : List ℕ) → IsTrue (small p) ↔ Small p
small_decides p = list_all_below distances (λ d. nat_le (slice_index p d) max_charge) (λ d. slice_index p d ≤ max_charge) (λ d. is_le (slice_index p d) max_charge)

-- another test that decides the same has the same answer
pub small_is : (p : List ℕ) (r : Bool) → (IsTrue r ↔ Small p) → small p ≡ r
small_is p r h = same_from_decides (small p) r (small_decides p) h

pub convex_decides : (p : List ℕ) → IsTrue (convex p) ↔ Convex p
convex_decides p =
    Decides-and _ _ (is_le (2 * slice_index p 0) (slice_index p 1))
    (list_all_below 6 (λ j. nat_le (2 * slice_index p (j + 1)) (slice_index p (j + 2) + slice_index p j)) (λ j. 2 * slice_index p (j + 1) ≤ slice_index p (j + 2) + slice_index p j)
    (λ j. is_le (2 * slice_index p (j + 1)) (slice_index p (j + 2) + slice_index p j)))

-- the tests with what they tell, for `grind`
pub small_tells : (p : List ℕ) → ((small p ≡ true) × Small p) ⊎ ((small p ≡ false) × ¬ Small p)
small_tells p = tells (small p) (small_decides p)

pub convex_tells : (p : List ℕ) → ((convex p ≡ true) × Convex p) ⊎ ((convex p ≡ false) × ¬ Convex p)
convex_tells p = tells (convex p) (convex_decides p)
