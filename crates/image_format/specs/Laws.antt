-- Laws of the format, in the subject's words: what the definition by reading comes to.
use Rattle.std.specs.Prelude.{◌≡◌, ℕ, ◌<◌, ◌≤◌, List, [], ◌++◌, length, Ok, Err}
use Rattle.image_format.specs.declared.fault.ImageCause.{ImageCause}
use Rattle.image_format.specs.declared.fault.ImageCause.TheVariants.{TooLong, CutShort, NoName}
use Rattle.image_format.specs.declared.fault.ImageFault.{ImageFault}
use Rattle.image_format.specs.Fields.{Field, Bytes, short, bytes_of, encoding, item, max_image}
use Rattle.image_format.specs.Images.{Described, refused_at}
use Rattle.image_format.specs.Counts.{outcome}
use Rattle.image_format.specs.Contents.{Content, Holds, described}
use Rattle.image_format.specs.Refusals.{Fine, said_to, tagged}

-- the image holds a content that has this book and this number of notes
pub record ComesTo (image : List ℕ) (x : Described) : Type 0 where
  pub content : Content
  pub holds : Holds image content
  pub book : x.book ≡ described content
  pub fields : x.fields ≡ length content.notes

-- An image that is accepted is the encoding of an acceptable content, with the book and the number of notes that come of it,
abbrev pub AcceptedHolds : Type 0
AcceptedHolds = (image : List ℕ) (x : Described) → Bytes image → outcome image ≡ Ok x → ComesTo image x

-- and an image that is the encoding of an acceptable content is accepted.
abbrev pub HoldingAccepted : Type 0
HoldingAccepted = (image : List ℕ) (x : Described) → ComesTo image x → outcome image ≡ Ok x

-- An image holds at most one content.
abbrev pub ContentUnique : Type 0
ContentUnique = (image : List ℕ) (c d : Content) → Holds image c → Holds image d → c ≡ d

-- whole fields stand before the place, and at least a byte from there on
pub record Begins (image : List ℕ) (place : ℕ) : Type 0 where
  pub before : List Field
  pub rest : List ℕ
  pub bytes : image ≡ encoding before ++ rest
  pub length_is : place ≡ length (encoding before)
  pub some : 1 ≤ length rest

-- where a refusal stands: at the largest length, where the image is above it; at the end, where there is no name; or where
-- a field begins
pub data Stands (image : List ℕ) (f : ImageFault) : Type 0 where
  too_long : max_image < length image → f ≡ record { cause = TooLong; place = max_image } → Stands image f
  at_end : f ≡ record { cause = NoName; place = length image } → Stands image f
  at_field : Begins image f.place → Stands image f

-- Each refusal stands at one of these.
abbrev pub RefusalStands : Type 0
RefusalStands = (image : List ℕ) (f : ImageFault) → Bytes image → outcome image ≡ Err f → Stands image f

-- A refusal at a whole field is for the first thing wrong with that field, behind the fields before it, in which nothing is
-- wrong,
abbrev pub RefusedFor : Type 0
RefusedFor =
    (before : List Field) (field : Field) (rest : List ℕ) (c : ImageCause)
    → length (encoding before ++ (bytes_of field ++ rest)) ≤ max_image
    → outcome (encoding before ++ (bytes_of field ++ rest)) ≡ refused_at c (length (encoding before))
    → Fine before × (said_to before field ≡ Err c)

-- and wherever nothing is wrong with the fields before and something with a field, the image is refused for that at that field.
abbrev pub WrongRefused : Type 0
WrongRefused =
    (before : List Field) (field : Field) (rest : List ℕ) (c : ImageCause)
    → length (encoding before ++ (bytes_of field ++ rest)) ≤ max_image
    → Fine before
    → said_to before field ≡ Err c
    → outcome (encoding before ++ (bytes_of field ++ rest)) ≡ refused_at c (length (encoding before))

-- Behind fields in which nothing is wrong, a field that is cut short is refused for that,
abbrev pub CutRefused : Type 0
CutRefused =
    (before : List Field) (rest : List ℕ)
    → length (encoding before ++ rest) ≤ max_image
    → Fine before
    → 1 ≤ length rest
    → item rest ≡ short
    → outcome (encoding before ++ rest) ≡ refused_at CutShort (length (encoding before))

-- and an image that ends there without a name is refused for that.
abbrev pub NamelessRefused : Type 0
NamelessRefused =
    (before : List Field)
    → length (encoding before) ≤ max_image
    → Fine before
    → tagged 2 before ≡ []
    → outcome (encoding before) ≡ refused_at NoName (length (encoding before))

-- What follows the field at fault does not matter: with anything else behind it, the image is refused for the same at the
-- same place.
abbrev pub RestIgnored : Type 0
RestIgnored =
    (before : List Field) (field : Field) (rest other : List ℕ) (c : ImageCause)
    → outcome (encoding before ++ (bytes_of field ++ rest)) ≡ refused_at c (length (encoding before))
    → length (encoding before ++ (bytes_of field ++ other)) ≤ max_image
    → outcome (encoding before ++ (bytes_of field ++ other)) ≡ refused_at c (length (encoding before))
