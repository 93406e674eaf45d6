-- What it is to put a text at a place of a buffer. No contract cites this file.
use Rattle.std.specs.Prelude.{◌≡◌, ℕ, ◌+◌, ◌≤◌, List, ◌++◌, length, take, drop}

-- The text stands from `at` on, and what lay before and behind it is as it was.
pub record Puts (text : List ℕ) (at : ℕ) (before : List ℕ) (r : ℕ) (after : List ℕ) : Type 0 where
  -- the place behind the text
  pub next : r ≡ at + length text
  pub within : r ≤ length before
  pub left : after ≡ take at before ++ (text ++ drop r before)
