-- Which numbers a fit takes for the works' own row.
use Rattle.std.specs.Prelude.{ℕ, ◌+◌, ◌*◌, Bool, not, ◌&&◌, List, [], ◌∷◌, length, ◌==◌, nat_le, slice_index}
use Rattle.std.specs.List.{list_all, range_with_len}
use Rattle.sheet.specs.Causes.{Cause, ◌if◌}
use Rattle.sheet.specs.declared.fault.Fault.{Fault}
use Rattle.sheet.specs.declared.fault.Fault.TheVariants.{ChargeLength, ChargeTooLarge, NotConvex}
use Rattle.charge.specs.Charges.{distances, max_charge}

-- the test of Small: at each of the distances 0 to 7
abbrev pub small : List ℕ → Bool
small p = list_all (λ d. nat_le (slice_index p d) max_charge) (range_with_len 0 distances)

-- the test of Convex: at the start, and for j from 0 to 5
abbrev pub convex : List ℕ → Bool
convex p =
    nat_le (2 * slice_index p 0) (slice_index p 1)
    && list_all (λ j. nat_le (2 * slice_index p (j + 1)) (slice_index p (j + 2) + slice_index p j)) (range_with_len 0 6)

-- the causes to refuse numbers, in the order in which they win
abbrev pub fit_causes : List ℕ → List (Cause Fault)
fit_causes p = (ChargeLength if not (length p == distances)) ∷ (ChargeTooLarge if not (small p)) ∷ (NotConvex if not (convex p)) ∷ []
