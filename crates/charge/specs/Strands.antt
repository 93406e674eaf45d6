-- A charge as a sum of strands. A row has a strand j for each level j below the limit, and what a strand can carry, its room, is
-- the row's count times the second difference of the charge at j.
use Rattle.std.specs.Prelude.{ℕ, ◌+◌, ◌-◌, ◌*◌, List, if◌then◌else◌, nat_le}
use Rattle.charge.specs.Charges.{charge_at}

-- p(j − i), and 0 where i is above j: p(−1) = p(−2) = 0
abbrev pub back : List ℕ → ℕ → ℕ → ℕ
back p j i = if nat_le i j then charge_at p (j - i) else 0

-- p(j) − 2·p(j−1) + p(j−2)
abbrev pub second_difference : List ℕ → ℕ → ℕ
second_difference p j = (charge_at p j + back p j 2) - 2 * back p j 1
