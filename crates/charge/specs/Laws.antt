-- Laws of charges, costs and best placements, in the subject's words.
use Rattle.std.specs.Prelude.{◌≡◌, ℕ, ◌+◌, ◌-◌, ◌*◌, ◌<◌, ◌≤◌, ◌↔◌, List, map, length, take, sum, sum_by, IsTrue}
use Rattle.std.specs.List.{range_with_len}
use Rattle.sheet.specs.Books.{AlarmsKnown, Book, Sound, max_rows}
use Rattle.sheet.specs.Rows.{max_count}
use Rattle.charge.specs.Best.{Best}
use Rattle.charge.specs.Charges.{Convex, Fair, Small, charge_at, distances, max_charge, plain}
use Rattle.charge.specs.Costs.{Levels, Placement, cost}
use Rattle.charge.specs.Fits.{convex, small}
use Rattle.charge.specs.OwnRows.{row_of}
use Rattle.charge.specs.Prices.{placed, priced}
use Rattle.charge.specs.Strands.{back, second_difference}
use Rattle.charge.specs.declared.own_row.OwnRow.{OwnRow}

-- Every own row that can exist has eight numbers of at most 200 and is convex.
abbrev pub OwnRowsFair : Type 0
OwnRowsFair = (own : OwnRow) → Fair (row_of own)

-- A charge never falls as the distance grows.
abbrev pub NonDecreasing : Type 0
NonDecreasing = (p : List ℕ) → Fair p → (c d : ℕ) → c ≤ d → charge_at p c ≤ charge_at p d

-- A second difference of a charge is a whole number: no subtraction in it stops at 0.
abbrev pub DifferencesWhole : Type 0
DifferencesWhole = (p : List ℕ) → Fair p → (j : ℕ) → j < distances → second_difference p j + 2 * back p j 1 ≡ charge_at p j + back p j 2

-- The charge of a distance is the sum of its strands: p(d) = Σ over j < k of (p(j) − 2·p(j−1) + p(j−2)) · ((d + 1) ∸ j), where ∸ stops at 0.
abbrev pub StrandsAddUp : Type 0
StrandsAddUp =
    (p : List ℕ) → Fair p → (k d : ℕ) → d < k → k ≤ distances → charge_at p d ≡ sum (map (λ j. second_difference p j * ((d + 1) - j)) (range_with_len 0 k))

-- The tests in the causes of fit decide what they are named after.
pub record TestsDecide : Type 0 where
  pub small : (p : List ℕ) → IsTrue (small p) ↔ Small p
  pub convex : (p : List ℕ) → IsTrue (convex p) ↔ Convex p

-- The test in the causes of price decides what a placement is.
abbrev pub PlacedDecides : Type 0
PlacedDecides = (b : Book) (l : Levels) → IsTrue (placed b l) ↔ Placement b l

-- Levels that are all equal cost p(0) times the sum of the counts.
abbrev pub EqualLevelsCost : Type 0
EqualLevelsCost =
    (b : Book) (p : List ℕ) (l : Levels) (x : ℕ) → AlarmsKnown b → ((v : ℕ) → v < b.n → l v ≡ x) → cost b p l ≡ charge_at p 0 * sum_by (λ r. r.count) b.rows

-- Under the plain charge the cost of a placement is its weighted agony: each row counts its count for each level that its first alarm
-- stands too low, where it should stand one above its second.
abbrev pub PlainIsAgony : Type 0
PlainIsAgony =
    (b : Book) (l : Levels) → Sound b → Placement b l → cost b plain l ≡ sum_by (λ r. r.count * ((l r.first + 1) - l r.second)) b.rows

-- Only the levels of the n alarms matter,
abbrev pub OthersIgnored : Type 0
OthersIgnored = (b : Book) (p : List ℕ) (l m : Levels) → AlarmsKnown b → ((v : ℕ) → v < b.n → l v ≡ m v) → cost b p l ≡ cost b p m

-- and so price ignores what a buffer holds behind the first n entries.
abbrev pub RestIgnored : Type 0
RestIgnored =
    (b : Book) (p ls ms : List ℕ) → AlarmsKnown b → b.n ≤ length ls → b.n ≤ length ms → take b.n ls ≡ take b.n ms → priced b p ls ≡ priced b p ms

-- No cost is above 512 · 32766 · 200, which fits 32 bits.
abbrev pub CostBounded : Type 0
CostBounded = (b : Book) (p : List ℕ) (l : Levels) → Sound b → Fair p → cost b p l ≤ max_rows * max_count * max_charge

-- There is at most one best placement: two give each alarm the same level.
abbrev pub BestUnique : Type 0
BestUnique = (b : Book) (p : List ℕ) (l m : Levels) → Best b p l → Best b p m → (v : ℕ) → v < b.n → l v ≡ m v
