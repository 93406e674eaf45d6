-- The field at a place of an image, by the image's own bytes. Assumes nothing.
use Rattle.std.proofs.Common.{◌≡◌, ℕ, zero, suc, ◌+◌, ◌<◌, ◌≤◌, List, [], ◌∷◌, length, drop, refl, ap, arith, rules}
use Rattle.std.proofs.lemmas.List.{drop-drop, drop_more, get_or-drop, length-drop, length-take}
use Rattle.std.proofs.lemmas.Grind.{common_steps}
use Rattle.std.proofs.lemmas.Bool.Decides.{nat_tests}
use Rattle.image_format.specs.Fields.{Item, Bytes, whole, short, item, items, value_of}

pub items_skip : (k : ℕ) (bs : List ℕ) → items k bs ≡ items 0 (drop k bs)
items_skip zero bs = refl
items_skip (suc k) [] = refl
items_skip (suc k) (b ∷ bs) = items_skip k bs

-- what begins at a byte is a whole field or cut short
pub by_item : {P : Type 0} (i : Item) → ((t : ℕ) (v : List ℕ) → i ≡ whole t v → P) → (i ≡ short → P) → P
by_item (whole t v) all cut = all t v refl
by_item short all cut = cut refl

front : (bs : List ℕ) (i : Item) → List Item
front bs i = elim i [ whole t v ↦ whole t v ∷ items (2 + length v) bs | short ↦ short ∷ [] ]

pub items_first : (b : ℕ) (bs : List ℕ) (t : ℕ) (v : List ℕ) → item (b ∷ bs) ≡ whole t v → items 0 (b ∷ bs) ≡ whole t v ∷ items (2 + length v) bs
unfolding front
items_first b bs t v e = ap (front bs) e

pub items_cut : (b : ℕ) (bs : List ℕ) → item (b ∷ bs) ≡ short → items 0 (b ∷ bs) ≡ short ∷ []
unfolding front
items_cut b bs e = ap (front bs) e

-- the fields from a place on, by the one that begins there
pub items_short : (image : List ℕ) (at : ℕ) → at < length image → short ≡ item (drop at image) → items 0 (drop at image) ≡ short ∷ []
items_short image at l e = grind (arith, nat_tests, common_steps)

pub items_whole : (image : List ℕ) (at t : ℕ) (v : List ℕ) → at < length image → whole t v ≡ item (drop at image) → items 0 (drop at image) ≡ whole t v ∷ items 0 (drop (at + (3 + length v)) image)
items_whole image at t v l e = grind (arith, common_steps, drop_more, items_first, items_skip, drop-drop)

pub item_fits : (t : ℕ) (v bs : List ℕ) → whole t v ≡ item bs → 3 + length v ≤ length bs
item_fits t v bs e = search rules

-- two bytes tell the length of a value
pub item_small : (image : List ℕ) (at : ℕ) → Bytes image → length (value_of (item (drop at image))) < 65536
item_small image at small = grind (arith, nat_tests, get_or-drop, length-take, length-drop)
