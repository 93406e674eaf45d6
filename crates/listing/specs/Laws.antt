-- What a number in decimal is, in the subject's words.
use Rattle.std.specs.Prelude.{◌≡◌, ℕ, ◌+◌, ◌-◌, ◌*◌, ◌^◌, ◌<◌, List, [], ◌∷◌, decimal, ◌≢◌, slice_index, IsTrue}
use Rattle.std.specs.Str.{all_ascii_digits}

-- the number that digits write behind the number n
abbrev pub read_digits : ℕ → List ℕ → ℕ
read_digits n [] = n
read_digits n (d ∷ ds) = read_digits (10 * n + (d - 48)) ds

-- digits that write n, without leading zeros
pub record WritesNumber (n : ℕ) (ds : List ℕ) : Type 0 where
  pub digits : IsTrue (all_ascii_digits ds)
  pub value : read_digits 0 ds ≡ n
  -- 0 is one digit, and any other number does not begin with it
  pub zero : n ≡ 0 → ds ≡ 48 ∷ []
  pub leading : 0 < n → slice_index ds 0 ≢ 48

-- The decimal of each number that fits 64 bits is such.
abbrev pub DecimalsRight : Type 0
DecimalsRight = (n : ℕ) → n < 2 ^ 64 → WritesNumber n (decimal n)
