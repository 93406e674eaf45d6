-- The worked examples: which levels are best for some small sheets, and what they cost.
use Rattle.std.specs.Prelude.{◌≡◌, ℕ, List, [], ◌∷◌, map}
use Rattle.sheet.specs.Books.{Book, new_book}
use Rattle.sheet.specs.Calls.{Call, after, notes, opens}
use Rattle.sheet.specs.Rows.{row}
use Rattle.sheet.specs.declared.row.Row.{Row}
use Rattle.charge.specs.Best.{Best}
use Rattle.charge.specs.Charges.{doubling, plain, steep}
use Rattle.charge.specs.Costs.{cost, listed}

-- the calls that enter a book into a sheet: an open, and a note for each row
abbrev pub entry : Book → List Call
entry b = opens b.n b.k ∷ map (λ r. notes r.first r.second r.count) b.rows

-- For the book b and the charge p, the levels ls are the best placement, and cost c.
pub record Gives (b : Book) (p ls : List ℕ) (c : ℕ) : Type 0 where
  -- the book is one that a sheet can have: entered by calls, none of which is refused
  pub entered : after new_book (entry b) ≡ b
  pub best : Best b p (listed ls)
  pub costs : cost b p (listed ls) ≡ c

-- n alarms, the limit k and these rows
abbrev pub book : ℕ → ℕ → List Row → Book
book n k rs = record { n = n; k = k; rows = rs }

-- the ring 0→1 counted 5, 1→2 counted 4, and 2→0 counted c
abbrev pub ring_closed_by : ℕ → List Row
ring_closed_by c = row 0 1 5 ∷ row 1 2 4 ∷ row 2 0 c ∷ []

abbrev pub ring : List Row
ring = ring_closed_by 1

pub record WorkedExamples : Type 0 where
  pub ring_in_three : Gives (book 3 3 ring) plain (0 ∷ 1 ∷ 2 ∷ []) 3
  pub ring_in_two : Gives (book 3 2 ring) plain (0 ∷ 1 ∷ 1 ∷ []) 6
  pub ring_in_one : Gives (book 3 1 ring) plain (0 ∷ 0 ∷ 0 ∷ []) 10
  pub ring_steep : Gives (book 3 3 ring) steep (0 ∷ 1 ∷ 2 ∷ []) 6
  pub ring_doubling : Gives (book 3 3 ring) doubling (0 ∷ 1 ∷ 2 ∷ []) 4
  pub heavier_ring : Gives (book 3 3 (ring_closed_by 4)) plain (0 ∷ 1 ∷ 0 ∷ []) 12
  pub chain_in_two : Gives (book 3 2 (row 0 1 1 ∷ row 1 2 9 ∷ [])) plain (0 ∷ 0 ∷ 1 ∷ []) 1
  pub no_rows : Gives (book 2 4 []) plain (0 ∷ 0 ∷ []) 0
  pub both_ways : Gives (book 2 8 (row 0 1 7 ∷ row 1 0 7 ∷ [])) plain (0 ∷ 0 ∷ []) 14
