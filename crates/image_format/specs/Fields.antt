-- Fields, the bytes that encode them, and how an image falls into fields.
use Rattle.std.specs.Prelude.{ℕ, zero, suc, ◌+◌, ◌*◌, ◌/◌, ◌%◌, ◌<◌, if◌then◌else◌, List, [], ◌∷◌, length, take, drop, nat_le, slice_index}
use Rattle.std.specs.List.{flat_map}

-- the most bytes of an image
abbrev pub max_image : ℕ
max_image = 16384

pub record Field : Type 0 where
  pub tag : ℕ
  pub value : List ℕ

-- the tag, the value's length in two bytes, the more significant first, and the value
abbrev pub bytes_of : Field → List ℕ
bytes_of f = f.tag ∷ (length f.value / 256) ∷ (length f.value % 256) ∷ f.value

-- each number is a byte
abbrev pub Bytes : List ℕ → Type 0
Bytes bs = (i : ℕ) → slice_index bs i < 256

-- fields one behind another
abbrev pub encoding : List Field → List ℕ
encoding fs = flat_map bytes_of fs

-- what begins at a byte: a whole field, or one that is cut short
pub data Item : Type 0 where
  whole : (tag : ℕ) (value : List ℕ) → Item
  short : Item

-- the length that the second and third byte of a field tell
abbrev pub size : List ℕ → ℕ
size bs = slice_index bs 1 * 256 + slice_index bs 2

-- what bytes begin with; a header or a value that runs past the end is cut short
abbrev pub item : List ℕ → Item
item bs = if nat_le (3 + size bs) (length bs) then whole (slice_index bs 0) (take (size bs) (drop 3 bs)) else short

-- all that begins in the bytes, after the first `skip` of them; nothing is read behind a field that is cut short
abbrev pub items : (skip : ℕ) → List ℕ → List Item
items skip [] = []
items (suc skip) (b ∷ bs) = items skip bs
items zero (b ∷ bs) = elim (item (b ∷ bs)) [ whole t v ↦ whole t v ∷ items (2 + length v) bs | short ↦ short ∷ [] ]

-- the value of what begins at a byte, empty where it is cut short
abbrev pub value_of : Item → List ℕ
value_of (whole t v) = v
value_of short = []
