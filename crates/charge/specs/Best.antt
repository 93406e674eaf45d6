-- Which placement is the best: the least of the cheapest.
use Rattle.std.specs.Prelude.{◌≡◌, ℕ, ◌<◌, ◌≤◌, List}
use Rattle.sheet.specs.Books.{Book}
use Rattle.charge.specs.Costs.{Levels, Placement, cost}

-- no placement within the limit costs less
abbrev pub Cheapest : Book → List ℕ → Levels → Type 0
Cheapest b p l = (q : Levels) → Placement b q → cost b p l ≤ cost b p q

-- every placement of the same cost gives each alarm the same or a higher number
abbrev pub Least : Book → List ℕ → Levels → Type 0
Least b p l = (q : Levels) → Placement b q → cost b p q ≡ cost b p l → (v : ℕ) → v < b.n → l v ≤ q v

-- a cheapest placement in which each alarm stands as high as in any other of that cost
pub record Best (b : Book) (p : List ℕ) (l : Levels) : Type 0 where
  pub placed : Placement b l
  pub cheapest : Cheapest b p l
  pub least : Least b p l
