-- What comes of an image: the book that its fields describe, or what is wrong first, and where.
use Rattle.std.specs.Prelude.{ℕ, ◌+◌, Bool, if◌then◌else◌, not, ◌&&◌, ◌||◌, List, [], ◌∷◌, ◌++◌, length, Ok, Err, Result, ◌==◌, nat_le, nat_lt, slice_index}
use Rattle.std.specs.Result.{result_map_both}
use Rattle.sheet.specs.Books.{Book, new_book, max_alarms, max_limit}
use Rattle.sheet.specs.Calls.{accepted, opens}
use Rattle.sheet.specs.Causes.{◌if◌, beyond, past}
use Rattle.sheet.specs.declared.fault.Fault.{Fault}
use Rattle.sheet.specs.declared.fault.Fault.TheVariants.{Alarms, Limit}
use Rattle.image_format.specs.declared.fault.ImageCause.{ImageCause}
use Rattle.image_format.specs.declared.fault.ImageCause.TheVariants.{Sheet, TooLong, CutShort, Tag, Length, NameByte, SameName, NoName}
use Rattle.image_format.specs.declared.fault.ImageFault.{ImageFault}
use Rattle.image_format.specs.Fields.{Item, whole, short, items, max_image}
use Rattle.image_format.specs.Names.{max_name, printable, given}

-- A kind of image, by the fields behind its names: their tag, the length of their values, and what such a value makes of
-- the book. S is what has to be kept from one such field to the next.
pub record Kind (S : Type 0) : Type 0 where
  pub tag : ℕ
  pub size : ℕ
  pub taken : S → Book → List ℕ → Result (S × Book) Fault

-- what the fields so far have told: nothing yet; the limit k and some names; or the book, and how many fields behind the
-- names went into it
pub data State (S : Type 0) : Type 0 where
  start : S → State S
  naming : S → (k : ℕ) (names : List (List ℕ)) → State S
  noting : S → Book → (fields : ℕ) → State S

-- the book that an accepted open leaves
abbrev pub opened : (n k : ℕ) → Book
opened n k = accepted new_book (opens n k)

-- the book that an image describes, and how many fields stand behind its names
pub record Described : Type 0 where
  pub book : Book
  pub fields : ℕ

abbrev pub refused_at : ImageCause → (place : ℕ) → Result Described ImageFault
refused_at c p = Err (record { cause = c; place = p })

abbrev pub describes : Book → (fields : ℕ) → Result Described ImageFault
describes b m = Ok (record { book = b; fields = m })

module _ {S : Type 0} where
  -- a limit is from 1 to 8
  abbrev pub limited : S → ℕ → Result (State S) ImageCause
  limited s k = past ((Sheet Limit if beyond max_limit k) ∷ []) (Ok (naming s k []))

  -- a name: no 65th, no byte outside 32 to 126, none given before
  abbrev pub named : S → ℕ → List (List ℕ) → List ℕ → Result (State S) ImageCause
  named s k names v =
      past ((Sheet Alarms if nat_le max_alarms (length names)) ∷ (NameByte if not (printable v)) ∷ (SameName if given v names) ∷ [])
      (Ok (naming s k (names ++ v ∷ [])))

  -- a field behind the names, where m stand before it: what the sheet refuses, the image is refused for
  abbrev pub noted : (m : ℕ) → Result (S × Book) Fault → Result (State S) ImageCause
  noted m r = result_map_both (λ x. noting x.0 x.1 (m + 1)) Sheet r

  -- the end of the image, at a place: there must be a name
  abbrev pub finished : State S → ℕ → Result Described ImageFault
  finished (start s) p = refused_at NoName p
  finished (naming s k names) p = if nat_lt 0 (length names) then describes (opened (length names) k) 0 else refused_at NoName p
  finished (noting s b m) p = describes b m

module _ {S : Type 0} (K : Kind S) where
  -- a tag that may come next: 1 first, then 2, and the kind's own once there is a name
  abbrev pub in_order : State S → ℕ → Bool
  in_order (start s) t = t == 1
  in_order (naming s k names) t = t == 2 || (nat_lt 0 (length names) && t == K.tag)
  in_order (noting s b m) t = t == K.tag

  -- a length that goes with a tag
  abbrev pub fits : (tag length : ℕ) → Bool
  fits t n = if t == 1 then n == 1 else (if t == 2 then nat_le 1 n && nat_le n max_name else n == K.size)

  -- what a value of the right length leads to
  abbrev pub by_value : State S → (tag : ℕ) → List ℕ → Result (State S) ImageCause
  by_value (start s) t v = limited s (slice_index v 0)
  by_value (naming s k names) t v = if t == 2 then named s k names v else noted 0 (K.taken s (opened (length names) k) v)
  by_value (noting s b m) t v = noted m (K.taken s b v)

  -- what a field leads to: it is checked for its tag, then its length, then its value
  abbrev pub step : State S → (tag : ℕ) → List ℕ → Result (State S) ImageCause
  step s t v = past ((Tag if not (in_order s t)) ∷ (Length if not (fits t (length v))) ∷ []) (by_value s t v)

  -- the fields in turn, the first of them at a place
  abbrev pub read_on : State S → (place : ℕ) → List Item → Result Described ImageFault
  read_on s p [] = finished s p
  read_on s p (short ∷ is) = refused_at CutShort p
  read_on s p (whole t v ∷ is) = elim (step s t v) [ Ok s' ↦ read_on s' (p + (3 + length v)) is | Err c ↦ refused_at c p ]

  -- the whole image
  abbrev pub read : S → List ℕ → Result Described ImageFault
  read s image = if nat_lt max_image (length image) then refused_at TooLong max_image else read_on (start s) 0 (items 0 image)
