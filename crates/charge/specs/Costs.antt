-- Placements, and what they cost.
use Rattle.std.specs.Prelude.{ℕ, ◌-◌, ◌*◌, ◌<◌, List, sum_by, if◌then◌else◌, nat_le, slice_index}
use Rattle.sheet.specs.Books.{Book}
use Rattle.sheet.specs.declared.row.Row.{Row}
use Rattle.charge.specs.Charges.{charge_at}

-- The level of each alarm; level 0 is the top.
abbrev pub Levels : Type 0
Levels = ℕ → ℕ

-- the levels that a buffer holds: its entry v is the level of the alarm v (0 behind its end, which no call reads)
abbrev pub listed : List ℕ → Levels
listed ls v = slice_index ls v

-- a placement gives each of the n alarms a level below k
abbrev pub Placement : Book → Levels → Type 0
Placement b l = (v : ℕ) → v < b.n → l v < b.k

-- For a row from u to v let d = l(u) − l(v): the row costs count × p(d) where d ≥ 0, and nothing otherwise.
abbrev pub row_cost : List ℕ → Levels → Row → ℕ
row_cost p l r = if nat_le (l r.second) (l r.first) then r.count * charge_at p (l r.first - l r.second) else 0

-- The cost is the sum over all rows.
abbrev pub cost : Book → List ℕ → Levels → ℕ
cost b p l = sum_by (row_cost p l) b.rows
