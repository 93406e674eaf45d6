-- What a load does.
use Rattle.std.specs.Prelude.{◌≡◌, ℕ, List, Ok, Err, Result}
use Rattle.std.specs.Result.{result_map_both}
use Rattle.sheet.specs.Books.{Book}
use Rattle.image_format.specs.declared.fault.ImageFault.{ImageFault}
use Rattle.image_format.specs.Contents.{Content, Holds}
use Rattle.image_format.specs.Counts.{outcome}
use Rattle.image_format.specs.Images.{Described}
use Rattle.image_format.specs.Laws.{ComesTo}

-- the book that a load leaves: the described one, or the old one where the image is refused
abbrev pub book_after : Book → Result Described ImageFault → Book
book_after old (Ok x) = x.book
book_after old (Err f) = old

-- one load at the book b: its answer, and the book after it
pub record Loads (image : List ℕ) (b : Book) (r : Result ℕ ImageFault) (b' : Book) : Type 0 where
  -- how many notes there are, or the first thing wrong and its place
  pub answered : r ≡ result_map_both (λ x. x.fields) (λ f. f) (outcome image)
  -- the book that the image describes, or the same where it is refused
  pub leaves : b' ≡ book_after b (outcome image)
  -- accepted, the image is the encoding of an acceptable content with this book and this number of notes
  pub holds : (m : ℕ) → r ≡ Ok m → ComesTo image (record { book = b'; fields = m })
  -- refused, it is the encoding of none
  pub refuses : (f : ImageFault) → r ≡ Err f → (c : Content) → Holds image c → ⊥
