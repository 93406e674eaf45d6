-- The fields of an image that is accepted, for any kind of image: a limit, names, and values that the kind takes.
use Rattle.std.proofs.Common.{◌≡◌, ℕ, ◌≤◌, List, [], ◌∷◌, ◌++◌, map, length, All, Ok}
use Rattle.sheet.specs.Books.{Book, max_alarms, max_limit}
use Rattle.image_format.specs.Fields.{Field}
use Rattle.image_format.specs.Names.{Name, Apart}
use Rattle.image_format.specs.Images.{Kind, Described, opened}
use Rattle.image_format.specs.Contents.{limit_field, name_field}

-- names that may stand in one image
abbrev pub Good : List (List ℕ) → Type 0
Good names = (length names ≤ max_alarms) × All Name names × Apart names

module _ {S : Type 0} (K : Kind S) where
  abbrev pub value_field : List ℕ → Field
  value_field v = record { tag = K.tag; value = v }

  -- the values in turn, each of the kind's length and accepted, lead from one book to another
  abbrev pub Fed : S → Book → List (List ℕ) → Book → Type 0
  Fed s b [] b' = b ≡ b'
  Fed s b (v ∷ vs) b' = (length v ≡ K.size) × ((p : S × Book) × (K.taken s b v ≡ Ok p) × Fed p.0 p.1 vs b')

  pub record Shaped (s : S) (fs : List Field) (x : Described) : Type 0 where
    pub limit : ℕ
    pub names : List (List ℕ)
    pub values : List (List ℕ)
    pub same : fs ≡ limit_field limit ∷ (map name_field names ++ map value_field values)
    pub low : 1 ≤ limit
    pub high : limit ≤ max_limit
    pub some : 1 ≤ length names
    pub good : Good names
    pub fed : Fed s (opened (length names) limit) values x.book
    pub count : length values ≡ x.fields
