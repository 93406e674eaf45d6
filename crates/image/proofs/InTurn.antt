-- Reading an image field by field. Assumes nothing.
use Rattle.std.proofs.Common.{◌≡◌, ℕ, zero, suc, ◌+◌, ◌≤◌, List, [], ◌∷◌, length, Ok, Err, Result, refl, ap, arith}
use Rattle.std.proofs.lemmas.Bool.Decides.{nat_tests}
use Rattle.image_format.specs.declared.fault.ImageCause.{ImageCause}
use Rattle.image_format.specs.declared.fault.ImageFault.{ImageFault}
use Rattle.image_format.specs.Fields.{Item, whole, short, item, items, max_image}
use Rattle.image_format.specs.Images.{Kind, State, Described, finished, start, read, read_on, refused_at, step}
use Rattle.image_format.proofs.Items.{item_fits}
use Rattle.image.specs.Shown.{Placed, placed}

module _ {S : Type 0} (K : Kind S) where
  -- the fields in turn, where the image ends at a place
  abbrev pub read_fields : State S → (end : ℕ) → List (Result Placed ImageFault) → Result Described ImageFault
  read_fields s n [] = finished s n
  read_fields s n (Err f ∷ fs) = Err f
  read_fields s n (Ok x ∷ fs) = elim (step K s x.tag x.value) [ Ok s' ↦ read_fields s' n fs | Err c ↦ refused_at c x.place ]

  module _ (b : ℕ) (bs : List ℕ) (s : State S) (p n : ℕ)
      (rest : (k : ℕ) (s' : State S) (p' : ℕ) → k ≤ length bs → n + k ≡ p' + length bs → read_fields s' n (placed p' (items k bs)) ≡ read_on K s' p' (items k bs))
      (end : n ≡ p + length (b ∷ bs)) where
    stepped : (v : List ℕ) → 3 + length v ≤ length (b ∷ bs) → (o : Result (State S) ImageCause)
        → ◌≡◌ {A = Result Described ImageFault} (elim o [ Ok s' ↦ read_fields s' n (placed (p + (3 + length v)) (items (2 + length v) bs)) | Err c ↦ refused_at c p ])
        (elim o [ Ok s' ↦ read_on K s' (p + (3 + length v)) (items (2 + length v) bs) | Err c ↦ refused_at c p ])
    stepped v fit (Err c) = refl
    stepped v fit (Ok s') = rest (2 + length v) s' (p + (3 + length v)) (omega arith) (omega arith)

    begun : (i : Item) → i ≡ item (b ∷ bs)
        → read_fields s n (placed p (elim i [ whole t v ↦ whole t v ∷ items (2 + length v) bs | short ↦ short ∷ [] ])) ≡ read_on K s p (elim i [ whole t v ↦ whole t v ∷ items (2 + length v) bs | short ↦ short ∷ [] ])
    begun short e = refl
    begun (whole t v) e = stepped v (item_fits t v (b ∷ bs) e) (step K s t v)

  -- they are what begins in the bytes, of which some are passed over
  read_items : (bs : List ℕ) (skip : ℕ) (s : State S) (p n : ℕ) → skip ≤ length bs → n + skip ≡ p + length bs → read_fields s n (placed p (items skip bs)) ≡ read_on K s p (items skip bs)
  read_items [] skip s p n few end = let same : n ≡ p = omega arith in ap (finished s) same
  read_items (b ∷ bs) (suc k) s p n few end = read_items bs k s p n (omega arith) (omega arith)
  read_items (b ∷ bs) zero s p n few end = begun b bs s p n (λ k s' p' m e. read_items bs k s' p' n m e) (omega arith) (item (b ∷ bs)) refl

  -- so the image is read field by field
  pub read_image : (u : S) (image : List ℕ) → length image ≤ max_image → read_fields (start u) (length image) (placed 0 (items 0 image)) ≡ read K u image
  read_image u image few =
      let e = read_items image 0 (start u) 0 (length image) (omega arith) (omega arith) in
      grind (arith, nat_tests)
