-- The fields of an image in turn. Assumes nothing.
use Rattle.std.proofs.Common.{◌≡◌, ℕ, ◌+◌, List, ◌∷◌, length, drop, Ok, sym, ap, ◌∙◌, zero-add, arith}
use Rattle.image_format.specs.Fields.{whole, item, items}
use Rattle.image_format.proofs.Items.{item_fits, items_whole}
use Rattle.image.specs.Shown.{placed}

pub placed_whole : (p t : ℕ) (v bs rest : List ℕ) → item bs ≡ whole t v → rest ≡ drop (3 + length v) bs
    → placed p (items 0 bs) ≡ Ok (record { place = p; tag = t; value = v }) ∷ placed (p + (3 + length v)) (items 0 rest)
placed_whole p t v bs rest e same =
    let fits = item_fits t v bs (sym e) in
    let left : drop (0 + (3 + length v)) bs ≡ rest = simp zero-add (sym same) in
    ap (placed p) (items_whole bs 0 t v (omega arith) (sym e) ∙ ap (λ r. whole t v ∷ items 0 r) left)
