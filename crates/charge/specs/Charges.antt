-- Charges: what it costs that a first alarm stands d levels below its second.
use Rattle.std.specs.Prelude.{◌≡◌, ℕ, ◌+◌, ◌*◌, ◌/◌, ◌^◌, ◌<◌, ◌≤◌, min, List, map, length, slice_index}
use Rattle.std.specs.List.{range_with_len}

-- A charge is a list p(0) to p(7) of whole numbers, one for each distance.
abbrev pub distances : ℕ
distances = 8

abbrev pub max_distance : ℕ
max_distance = 7

abbrev pub max_charge : ℕ
max_charge = 200

-- what the charge p answers for the distance d: p(d), and above 7 as for 7
abbrev pub charge_at : List ℕ → ℕ → ℕ
charge_at p d = slice_index p (min d max_distance)

-- p(d) is at most 200 for each d
abbrev pub Small : List ℕ → Type 0
Small p = (d : ℕ) → d < distances → slice_index p d ≤ max_charge

-- p(1) ≥ 2·p(0), and p(j + 2) + p(j) ≥ 2·p(j + 1) for j from 0 to 5
abbrev pub Convex : List ℕ → Type 0
Convex p = (2 * slice_index p 0 ≤ slice_index p 1) × ((j : ℕ) → j < 6 → 2 * slice_index p (j + 1) ≤ slice_index p (j + 2) + slice_index p j)

-- what whoever supplies a charge has to show
pub record Fair (p : List ℕ) : Type 0 where
  pub long : length p ≡ distances
  pub small : Small p
  pub convex : Convex p

-- the list p(0) to p(7) of a formula
abbrev pub by_formula : (ℕ → ℕ) → List ℕ
by_formula p = map p (range_with_len 0 distances)

abbrev pub plain : List ℕ
plain = by_formula (λ d. d + 1)

abbrev pub doubling : List ℕ
doubling = by_formula (λ d. 2 ^ d)

abbrev pub steep : List ℕ
steep = by_formula (λ d. (d + 1) * (d + 2) / 2)
