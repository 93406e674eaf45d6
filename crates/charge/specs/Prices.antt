-- What price answers.
use Rattle.std.specs.Prelude.{ℕ, Bool, not, List, [], ◌∷◌, length, Result, nat_lt}
use Rattle.std.specs.List.{list_all, range_with_len}
use Rattle.sheet.specs.Books.{Book}
use Rattle.sheet.specs.Causes.{Cause, ◌if◌, checked, first_cause}
use Rattle.sheet.specs.declared.fault.Fault.{Fault}
use Rattle.sheet.specs.declared.fault.Fault.TheVariants.{ShortLevels, LevelBeyondLimit}
use Rattle.charge.specs.Costs.{Levels, cost, listed}

-- the test of Placement: for each of the alarms 0 to n − 1
abbrev pub placed : Book → Levels → Bool
placed b l = list_all (λ v. nat_lt (l v) b.k) (range_with_len 0 b.n)

-- the causes to refuse a buffer of levels, in the order in which they win
abbrev pub price_causes : Book → List ℕ → List (Cause Fault)
price_causes b ls = (ShortLevels if nat_lt (length ls) b.n) ∷ (LevelBeyondLimit if not (placed b (listed ls))) ∷ []

-- the cost of the placement in the buffer, or the refusal
abbrev pub priced : Book → List ℕ → List ℕ → Result ℕ Fault
priced b p ls = checked (first_cause (price_causes b ls)) (cost b p (listed ls))
