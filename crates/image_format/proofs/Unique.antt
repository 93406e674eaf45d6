-- An image holds at most one content. Assumes nothing.
use Rattle.std.proofs.Common.{◌≡◌, ℕ, List, [], ◌∷◌, ◌++◌, map, sym, refl, ap, ◌∙◌, arith}
use Rattle.std.proofs.lemmas.Bool.Decides.{nat_tests}
use Rattle.image_format.specs.Contents.{Note, Content, Holds, name_field, note_field}
use Rattle.image_format.specs.Fields.{Field, Item, whole, short, encoding, items}
use Rattle.image_format.proofs.Whole.{item_of, items_of}

field_of : Item → Field
field_of (whole t v) = record { tag = t; value = v }
field_of short = record { tag = 0; value = [] }

same_fields : (fs gs : List Field) → map item_of fs ≡ map item_of gs → fs ≡ gs
unfolding field_of
same_fields [] [] e = refl
same_fields [] (g ∷ gs) e = absurd cc
same_fields (f ∷ fs) [] e = absurd cc
same_fields (f ∷ fs) (g ∷ gs) e =
    let first : item_of f ≡ item_of g = cc in
    let rest : map item_of fs ≡ map item_of gs = cc in
    ap (λ i. field_of i ∷ fs) first ∙ ap (λ hs. g ∷ hs) (same_fields fs gs rest)

-- fields encode to bytes in one way only
pub same_encoding : (fs gs : List Field) → encoding fs ≡ encoding gs → fs ≡ gs
same_encoding fs gs e = same_fields fs gs (sym (items_of fs) ∙ ap (items 0) e ∙ items_of gs)

same_note : (x y : Note) → note_field x ≡ note_field y → x ≡ y
same_note x y e = grind (arith, nat_tests)

same_notes : (xs ys : List Note) → map note_field xs ≡ map note_field ys → xs ≡ ys
same_notes [] [] e = refl
same_notes [] (y ∷ ys) e = absurd cc
same_notes (x ∷ xs) [] e = absurd cc
same_notes (x ∷ xs) (y ∷ ys) e =
    let first : note_field x ≡ note_field y = cc in
    let rest : map note_field xs ≡ map note_field ys = cc in
    ap (λ a. a ∷ xs) (same_note x y first) ∙ ap (λ bs. y ∷ bs) (same_notes xs ys rest)

-- so the names end where the first note stands
same_names : (vs ws : List (List ℕ)) (xs ys : List Note) → map name_field vs ++ map note_field xs ≡ map name_field ws ++ map note_field ys → (vs ≡ ws) × (xs ≡ ys)
same_names [] [] xs ys e = (refl, same_notes xs ys e)
same_names [] (w ∷ ws) [] ys e = absurd cc
same_names [] (w ∷ ws) (x ∷ xs) ys e = grind (arith, nat_tests)
same_names (v ∷ vs) [] xs [] e = absurd cc
same_names (v ∷ vs) [] xs (y ∷ ys) e = grind (arith, nat_tests)
same_names (v ∷ vs) (w ∷ ws) xs ys e =
    let head : name_field v ≡ name_field w = cc in
    let rest : map name_field vs ++ map note_field xs ≡ map name_field ws ++ map note_field ys = cc in
    let r = same_names vs ws xs ys rest in
    (ap (λ (f : Field). f.value ∷ vs) head ∙ ap (λ us. w ∷ us) r.0, r.1)

pub content_unique : (image : List ℕ) (c d : Content) → Holds image c → Holds image d → c ≡ d
content_unique image c d h g = grind (arith, same_encoding, same_names)
