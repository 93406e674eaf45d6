-- The fields of the code as those of the image. No public contract cites this file.
use Rattle.std.specs.Prelude.{◌≡◌, ℕ, ◌+◌, ◌==◌, List, [], ◌∷◌, length, drop, if◌then◌else◌, Some, None, Option, Ok, Err, Result, MatchOption, option_and_then, slice_get}
use Rattle.std.specs.Borrow.{Bor}
use Rattle.std.specs.Result.{result_map_both}
use Rattle.image_format.specs.declared.fault.ImageCause.TheVariants.{CutShort}
use Rattle.image_format.specs.declared.fault.ImageFault.{ImageFault}
use Rattle.image_format.specs.Fields.{Item, whole, short, item, items}
use Rattle.image.specs.declared.field.Field.{Field}
use Rattle.image.specs.declared.field.Fields.{Fields}
use Rattle.image.specs.Namings.{Part}

-- a field, and where it begins
pub record Placed : Type 0 where
  pub place : ℕ
  pub tag : ℕ
  pub value : List ℕ

-- what begins in an image, the first of it at a place: fields, and why the image is refused where one is cut short
abbrev pub placed : (place : ℕ) → List Item → List (Result Placed ImageFault)
placed p [] = []
placed p (short ∷ is) = Err (record { cause = CutShort; place = p }) ∷ []
placed p (whole t v ∷ is) = Ok (record { place = p; tag = t; value = v }) ∷ placed (p + (3 + length v)) is

-- a field of the code, or the refusal in its place
abbrev pub shown : Result Field ImageFault → Result Placed ImageFault
shown r = result_map_both (λ f. record { place = f.place; tag = f.tag; value = f.value.now }) (λ f. f) r

-- what an iterator over fields still has to give
abbrev pub fields_left : Fields → List (Result Placed ImageFault)
fields_left s = placed s.place (items 0 s.rest.now)

-- the bytes begin with a field of this tag and value, behind which they go on, or with one that is cut short
abbrev pub SplitsFirst : List ℕ → Option (ℕ × Bor (List ℕ) × Bor (List ℕ)) → Type 0
SplitsFirst bytes r =
    MatchOption r (item bytes ≡ short)
    (λ x. (item bytes ≡ whole x.0 x.1.now) × (x.2.now ≡ drop (3 + length x.1.now) bytes) × (3 + length x.1.now + length x.2.now ≡ length bytes))

-- the part that a name's field holds
abbrev pub name_part_in : Result Placed ImageFault → Option Part
name_part_in (Err f) = None
name_part_in (Ok x) = if x.tag == 2 then Some (record { bytes = x.value; place = x.place + 3 }) else None

-- the name in the field of an index, if that is a name's
abbrev pub name_at : List ℕ → (index : ℕ) → Option Part
name_at image i = option_and_then name_part_in (slice_get (placed 0 (items 0 image)) i)
