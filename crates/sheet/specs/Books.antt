-- The book: what a sheet stands for, and what holds of each book that can come about.
use Rattle.std.specs.Prelude.{◌≡◌, ◌≢◌, ℕ, ◌<◌, ◌≤◌, List, [], length, slice_index_or, All, AllPairs}
use Rattle.sheet.specs.Rows.{blank, max_count}
use Rattle.sheet.specs.declared.row.Row.{Row}

-- n alarms, numbered from 0, the level limit k, and the rows
pub record Book : Type 0 where
  pub n : ℕ
  pub k : ℕ
  pub rows : List Row

-- the book of a newly made sheet
abbrev pub new_book : Book
new_book = record { n = 1; k = 1; rows = [] }

-- the book with another limit
abbrev pub with_limit : Book → ℕ → Book
with_limit b k = record { n = b.n; k = k; rows = b.rows }

-- the book with other rows
abbrev pub with_rows : Book → List Row → Book
with_rows b rs = record { n = b.n; k = b.k; rows = rs }

-- the most alarms, levels and rows
abbrev pub max_alarms : ℕ
max_alarms = 64

abbrev pub max_limit : ℕ
max_limit = 8

abbrev pub max_rows : ℕ
max_rows = 512

-- the row at place i, counted from 0
abbrev pub row_at : Book → ℕ → Row
row_at b i = slice_index_or b.rows i blank

-- two different alarms of the n
abbrev pub Known : ℕ → Row → Type 0
Known n r = (r.first < n) × (r.second < n) × (r.first ≢ r.second)

-- a count that the runtime's counter can truly have shown
abbrev pub TrueCount : Row → Type 0
TrueCount r = (1 ≤ r.count) × (r.count ≤ max_count)

abbrev pub SamePair : Row → Row → Type 0
SamePair r s = (r.first ≡ s.first) × (r.second ≡ s.second)

abbrev pub AlarmsInRange : Book → Type 0
AlarmsInRange b = (1 ≤ b.n) × (b.n ≤ max_alarms)

abbrev pub LimitInRange : Book → Type 0
LimitInRange b = (1 ≤ b.k) × (b.k ≤ max_limit)

abbrev pub RowsFit : Book → Type 0
RowsFit b = length b.rows ≤ max_rows

-- each row names two different alarms below n
abbrev pub AlarmsKnown : Book → Type 0
AlarmsKnown b = All (Known b.n) b.rows

-- each row has a true count
abbrev pub CountsTrue : Book → Type 0
CountsTrue b = All TrueCount b.rows

-- no pair has two rows
abbrev pub PairsOnce : Book → Type 0
PairsOnce b = AllPairs (λ r s. ¬ SamePair r s) b.rows

-- what holds of every sheet's book
pub record Sound (b : Book) : Type 0 where
  pub alarms : AlarmsInRange b
  pub limit : LimitInRange b
  pub fit : RowsFit b
  pub known : AlarmsKnown b
  pub counts : CountsTrue b
  pub once : PairsOnce b
