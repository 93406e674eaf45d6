-- Causes to refuse a call, and which of them wins.
use Rattle.std.specs.Prelude.{ℕ, Bool, if◌then◌else◌, ◌||◌, List, [], ◌∷◌, Some, None, Ok, Err, Option, Result, ◌==◌, nat_lt}

-- a fault, and whether it applies
pub record Cause (F : Type 0) : Type 0 where
  pub fault : F
  pub applies : Bool

module _ {F : Type 0} where
  infix 20 ◌if◌
  -- the fault f, which applies where t holds
  abbrev pub ◌if◌ : F → Bool → Cause F
  f if t = record { fault = f; applies = t }

  -- of several causes that apply, the earlier wins
  abbrev pub first_cause : List (Cause F) → Option F
  first_cause [] = None
  first_cause (c ∷ cs) = if c.applies then (Some c.fault) else (first_cause cs)

  -- the answer x, unless something refuses it
  abbrev pub checked : {X : Type 0} → Option F → X → Result X F
  checked None x = Ok x
  checked (Some f) x = Err f

  -- refused with f where t holds, and else accepted
  abbrev pub refused_if : F → Bool → Result (Unit {0}) F
  refused_if f t = checked (first_cause ((f if t) ∷ [])) tt

  -- the causes in turn, and where none of them applies the answer r
  abbrev pub past : {X : Type 0} → List (Cause F) → Result X F → Result X F
  past [] r = r
  past (c ∷ cs) r = if c.applies then (Err c.fault) else (past cs r)

-- x is not from 1 to most
abbrev pub beyond : ℕ → ℕ → Bool
beyond most x = x == 0 || nat_lt most x
