-- Which images are acceptable, by what they hold. Nothing here speaks of reading.
use Rattle.std.specs.Prelude.{◌≡◌, ℕ, ◌/◌, ◌%◌, ◌≤◌, List, [], ◌∷◌, ◌++◌, map, length, None, All}
use Rattle.sheet.specs.Books.{Book, new_book}
use Rattle.sheet.specs.Calls.{Call, opens, notes, after, next, refusal}
use Rattle.image_format.specs.Fields.{Field, encoding, max_image}
use Rattle.image_format.specs.Names.{Name, Apart}

-- how often the first alarm came up shortly before the second
pub record Note : Type 0 where
  pub first : ℕ
  pub second : ℕ
  pub count : ℕ

-- what an image tells: the limit, the names from alarm 0 on, and the notes
pub record Content : Type 0 where
  pub limit : ℕ
  pub names : List (List ℕ)
  pub notes : List Note

abbrev pub limit_field : ℕ → Field
limit_field k = record { tag = 1; value = k ∷ [] }

abbrev pub name_field : List ℕ → Field
name_field v = record { tag = 2; value = v }

abbrev pub note_field : Note → Field
note_field x = record { tag = 3; value = x.first ∷ x.second ∷ (x.count / 256) ∷ (x.count % 256) ∷ [] }

-- one field for the limit, one for each name, one for each note
abbrev pub fields : Content → List Field
fields c = limit_field c.limit ∷ (map name_field c.names ++ map note_field c.notes)

abbrev pub note_call : Note → Call
note_call x = notes x.first x.second x.count

-- an open with the number of names and the limit, and a note for each note
abbrev pub calls : Content → List Call
calls c = opens (length c.names) c.limit ∷ map note_call c.notes

-- the book that these calls leave
abbrev pub described : Content → Book
described c = after new_book (calls c)

-- none of the calls is refused, each at the book that those before it left
abbrev pub AllAccepted : Book → List Call → Type 0
AllAccepted b [] = Unit {0}
AllAccepted b (c ∷ cs) = (refusal b c ≡ None) × AllAccepted (next b c) cs

-- what a content must be like. That there are 1 to 64 names and that the limit is 1 to 8 is part of an accepted open.
pub record Acceptable (c : Content) : Type 0 where
  pub names : All Name c.names
  pub apart : Apart c.names
  pub accepted : AllAccepted new_book (calls c)

-- the image is the encoding of an acceptable content
pub record Holds (image : List ℕ) (c : Content) : Type 0 where
  pub bytes : image ≡ encoding (fields c)
  pub size : length image ≤ max_image
  pub acceptable : Acceptable c
