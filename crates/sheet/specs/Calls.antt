-- What each call does to a book: which refusal it meets, or which book it leaves.
use Rattle.std.specs.Prelude.{◌≡◌, ℕ, ◌+◌, Bool, false, if◌then◌else◌, not, ◌&&◌, ◌||◌, List, [], ◌∷◌, ◌++◌, length, is_some, Some, None, Option, Result, ◌==◌, nat_le, nat_lt}
use Rattle.sheet.specs.Causes.{Cause, ◌if◌, beyond, checked, first_cause}
use Rattle.sheet.specs.Rows.{lookup, noted, without, max_count, total_first, total_second}
use Rattle.sheet.specs.Books.{Book, with_limit, with_rows, max_alarms, max_limit, max_rows}
use Rattle.sheet.specs.declared.fault.Fault.{Fault}
use Rattle.sheet.specs.declared.fault.Fault.TheVariants.{Alarms, Limit, UnknownAlarm, SameAlarm, ZeroCount, PinnedCount, NoRow, CountOverflow, Full}

-- a call that may change the book, with its arguments
pub data Call : Type 0 where
  opens : (n k : ℕ) → Call
  notes : (first second count : ℕ) → Call
  strikes : (first second : ℕ) → Call
  confines : (k : ℕ) → Call

-- the alarm is not below n
abbrev pub unknown : Book → ℕ → Bool
unknown b u = nat_le b.n u

-- a row's count, raised by c, would pass the largest true count
abbrev pub overflows : ℕ → Option ℕ → Bool
overflows c (Some m) = nat_lt max_count (m + c)
overflows c None = false

-- what can be wrong with a limit,
abbrev pub limit_causes : ℕ → List (Cause Fault)
limit_causes k = (Limit if beyond max_limit k) ∷ []

-- with a pair,
abbrev pub pair_causes : Book → ℕ → ℕ → List (Cause Fault)
pair_causes b u v = (UnknownAlarm if unknown b u || unknown b v) ∷ (SameAlarm if u == v) ∷ []

-- with a count,
abbrev pub count_causes : ℕ → List (Cause Fault)
count_causes c = (ZeroCount if c == 0) ∷ (PinnedCount if nat_lt max_count c) ∷ []

-- and with c more for a pair, by the count in its row, if it has one, and the number of rows that stand
abbrev pub row_causes : Option ℕ → ℕ → ℕ → List (Cause Fault)
row_causes o size c = (CountOverflow if overflows c o) ∷ (Full if not (is_some o) && nat_le max_rows size) ∷ []

-- the causes to refuse a call, in the order in which they win
abbrev pub causes : Book → Call → List (Cause Fault)
causes b (opens n k) = (Alarms if beyond max_alarms n) ∷ limit_causes k
causes b (notes u v c) = pair_causes b u v ++ (count_causes c ++ row_causes (lookup u v b.rows) (length b.rows) c)
causes b (strikes u v) = pair_causes b u v ++ ((NoRow if not (is_some (lookup u v b.rows))) ∷ [])
causes b (confines k) = limit_causes k

-- the fault that refuses a call, if any does
abbrev pub refusal : Book → Call → Option Fault
refusal b c = first_cause (causes b c)

-- the book after a call that is accepted
abbrev pub accepted : Book → Call → Book
accepted b (opens n k) = record { n = n; k = k; rows = [] }
accepted b (notes u v c) = with_rows b (noted u v c b.rows)
accepted b (strikes u v) = with_rows b (without u v b.rows)
accepted b (confines k) = with_limit b k

-- a refused call leaves the book alone
abbrev pub next : Book → Call → Book
next b c = if is_some (refusal b c) then b else (accepted b c)

-- the book after some calls in turn
abbrev pub after : Book → List Call → Book
after b [] = b
after b (c ∷ cs) = after (next b c) cs

-- one call at the book b: its answer, and the book after it
pub record Does (b : Book) (c : Call) (r : Result (Unit {0}) Fault) (b' : Book) : Type 0 where
  -- accepted, or refused for the first cause that applies
  pub answered : r ≡ checked (refusal b c) tt
  -- the book that the call leaves, or the same where it is refused
  pub leaves : b' ≡ next b c

-- the two totals of an alarm, or the refusal
abbrev pub standing_of : Book → ℕ → Result (ℕ × ℕ) Fault
standing_of b u = checked (first_cause ((UnknownAlarm if unknown b u) ∷ [])) (total_first u b.rows, total_second u b.rows)
