-- Why a field is refused, by the fields that stand before it. Nothing here speaks of reading.
use Rattle.std.specs.Prelude.{◌≡◌, ℕ, Bool, if◌then◌else◌, not, ◌&&◌, ◌||◌, List, [], ◌∷◌, ◌++◌, map, length, Ok, Result, ◌==◌, nat_le, nat_lt, slice_index, slice_index_or}
use Rattle.std.specs.Result.{result_map_both}
use Rattle.sheet.specs.Books.{Book, new_book, max_alarms, max_limit}
use Rattle.sheet.specs.Calls.{after, opens, refusal}
use Rattle.sheet.specs.Causes.{◌if◌, beyond, checked, past}
use Rattle.sheet.specs.declared.fault.Fault.TheVariants.{Alarms, Limit}
use Rattle.image_format.specs.declared.fault.ImageCause.{ImageCause}
use Rattle.image_format.specs.declared.fault.ImageCause.TheVariants.{Sheet, Tag, Length, NameByte, SameName}
use Rattle.image_format.specs.Counts.{note_in}
use Rattle.image_format.specs.Fields.{Field}
use Rattle.image_format.specs.Names.{given, max_name, printable}

-- the values of the fields with a tag, in their order
abbrev pub tagged : ℕ → List Field → List (List ℕ)
tagged t [] = []
tagged t (f ∷ fs) = if f.tag == t then f.value ∷ tagged t fs else tagged t fs

-- the limit that the field of tag 1 tells
abbrev pub limit_in : List Field → ℕ
limit_in fs = slice_index (slice_index_or (tagged 1 fs) 0 []) 0

-- the book that an open with the number of names and the limit leaves, and then a note for each field of tag 3
abbrev pub book_in : List Field → Book
book_in fs = after new_book (opens (length (tagged 2 fs)) (limit_in fs) ∷ map note_in (tagged 3 fs))

-- a tag that may follow the fields: 1 where there is none yet, 2 where there is one and no note, 3 where there is a name
abbrev pub may_follow : List Field → ℕ → Bool
may_follow fs t =
    (t == 1 && nat_le (length fs) 0)
    || ((t == 2 && (nat_lt 0 (length fs) && nat_le (length (tagged 3 fs)) 0)) || (t == 3 && nat_lt 0 (length (tagged 2 fs))))

-- a length that goes with a tag
abbrev pub right_length : (tag length : ℕ) → Bool
right_length t n = if t == 1 then n == 1 else (if t == 2 then nat_le 1 n && nat_le n max_name else n == 4)

-- what is wrong with a value behind the fields: with a limit; with a name, by the names before; with a note, what the sheet
-- says to it at the book so far
abbrev pub value_checked : List Field → (tag : ℕ) → List ℕ → Result (Unit {0}) ImageCause
value_checked fs t v =
    if t == 1 then past ((Sheet Limit if beyond max_limit (slice_index v 0)) ∷ []) (Ok tt)
    else (if t == 2 then
    past ((Sheet Alarms if nat_le max_alarms (length (tagged 2 fs))) ∷ (NameByte if not (printable v)) ∷ (SameName if given v (tagged 2 fs)) ∷ []) (Ok tt)
    else result_map_both (λ x. x) Sheet (checked (refusal (book_in fs) (note_in v)) tt))

-- what is said to a field behind others: it is checked for its tag, then its length, then its value
abbrev pub said_to : List Field → Field → Result (Unit {0}) ImageCause
said_to fs g =
    past ((Tag if not (may_follow fs g.tag)) ∷ (Length if not (right_length g.tag (length g.value))) ∷ [])
    (value_checked fs g.tag g.value)

-- nothing is wrong with any of the fields, each behind those before it
abbrev pub FineFrom : List Field → List Field → Type 0
FineFrom before [] = Unit {0}
FineFrom before (f ∷ fs) = (said_to before f ≡ Ok tt) × FineFrom (before ++ f ∷ []) fs

abbrev pub Fine : List Field → Type 0
Fine fs = FineFrom [] fs
