-- Names: which bytes they have, and when two are the same.
use Rattle.std.specs.Prelude.{◌≡◌, ℕ, ◌<◌, ◌≤◌, Bool, ◌&&◌, List, [], length, nat_le, slice_index_or, All}
use Rattle.std.specs.List.{list_all, list_any}
use Rattle.std.specs.Str.{bytes_eq}

-- the most bytes of a name
abbrev pub max_name : ℕ
max_name = 16

-- a byte that a name may have: 32 to 126
abbrev pub Printable : ℕ → Type 0
Printable b = (32 ≤ b) × (b ≤ 126)

-- 1 to 16 bytes that a name may have
pub record Name (v : List ℕ) : Type 0 where
  pub some : 1 ≤ length v
  pub few : length v ≤ max_name
  pub bytes : All Printable v

-- two names are the same when they have the same bytes
abbrev pub IsSameName : List ℕ → List ℕ → Type 0
IsSameName a b = a ≡ b

-- no two of the names are the same
abbrev pub Apart : List (List ℕ) → Type 0
Apart names = (i j : ℕ) → i < j → j < length names → IsSameName (slice_index_or names i []) (slice_index_or names j []) → ⊥

-- The tests of these. A name may have the byte,
abbrev pub name_byte : ℕ → Bool
name_byte b = nat_le 32 b && nat_le b 126

-- it may have all of the bytes,
abbrev pub printable : List ℕ → Bool
printable bs = list_all name_byte bs

-- two names are the same,
abbrev pub same_name : List ℕ → List ℕ → Bool
same_name a b = bytes_eq a b

-- and a name is among those given before.
abbrev pub given : List ℕ → List (List ℕ) → Bool
given v names = list_any (λ name. same_name name v) names
