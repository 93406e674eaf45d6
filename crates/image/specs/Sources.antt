-- What a call of a source says of a field's value. No public contract cites this file.
use Rattle.std.specs.Prelude.{ℕ, ◌==◌, List, [], ◌∷◌, length, not, Ok, Err, Result}
use Rattle.std.specs.Result.{result_map_both}
use Rattle.sheet.specs.Books.{Book}
use Rattle.sheet.specs.Causes.{◌if◌, past}
use Rattle.image_format.specs.declared.fault.ImageCause.{ImageCause}
use Rattle.image_format.specs.declared.fault.ImageCause.TheVariants.{Length, Sheet}
use Rattle.image_format.specs.Images.{Kind}

-- the source and the book that a call leaves, or its refusal
abbrev pub took : {S : Type 0} → Result (Unit {0}) ImageCause → S → Book → Result (S × Book) ImageCause
took (Ok u) s b = Ok (s, b)
took (Err c) s b = Err c

-- what a value makes of a book, whatever its length
abbrev pub value_taken : {S : Type 0} → Kind S → S → Book → List ℕ → Result (S × Book) ImageCause
value_taken K s b v = past ((Length if not (length v == K.size)) ∷ []) (result_map_both (λ x. x) Sheet (K.taken s b v))
