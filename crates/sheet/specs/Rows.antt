-- Rows: how often one alarm came up shortly before another.
use Rattle.std.specs.Prelude.{ℕ, ◌+◌, Bool, if◌then◌else◌, not, ◌&&◌, List, [], ◌∷◌, ◌++◌, map, is_some, Some, None, sum_by, filter, Option, ◌==◌}
use Rattle.sheet.specs.declared.row.Row.{Row}

-- the largest true count: the runtime's counter stops at the next number
abbrev pub max_count : ℕ
max_count = 32766

-- the row of the pair u→v with the count c
abbrev pub row : ℕ → ℕ → ℕ → Row
row u v c = record { first = u; second = v; count = c }

-- what stands where no row does
abbrev pub blank : Row
blank = row 0 0 0

-- the row is that of the pair u→v
abbrev pub is_of : ℕ → ℕ → Row → Bool
is_of u v r = r.first == u && r.second == v

-- the row with c more
abbrev pub raised : ℕ → Row → Row
raised c r = row r.first r.second (r.count + c)

-- the count in the pair's row, if it has one
abbrev pub lookup : ℕ → ℕ → List Row → Option ℕ
lookup u v [] = None
lookup u v (r ∷ rs) = if is_of u v r then (Some r.count) else (lookup u v rs)

-- the rows with c more at the pair's
abbrev pub raise_at : ℕ → ℕ → ℕ → List Row → List Row
raise_at u v c rs = map (λ r. if is_of u v r then (raised c r) else r) rs

-- the rows with c more for the pair: at its row, or at a new one at the end
abbrev pub noted : ℕ → ℕ → ℕ → List Row → List Row
noted u v c rs = if is_some (lookup u v rs) then (raise_at u v c rs) else (rs ++ row u v c ∷ [])

-- the rows but the pair's, in their order
abbrev pub without : ℕ → ℕ → List Row → List Row
without u v rs = filter (λ r. not (is_of u v r)) rs

-- the counts of the rows that have the alarm on a side, added up
abbrev pub total_at : (side : Row → ℕ) → ℕ → List Row → ℕ
total_at side u rs = sum_by (λ r. if side r == u then r.count else 0) rs

-- where it comes first,
abbrev pub total_first : ℕ → List Row → ℕ
total_first u rs = total_at (λ r. r.first) u rs

-- and where it comes second
abbrev pub total_second : ℕ → List Row → ℕ
total_second u rs = total_at (λ r. r.second) u rs
