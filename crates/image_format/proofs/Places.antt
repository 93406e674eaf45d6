-- Where a refusal stands, and that nothing behind the field at fault matters, for any kind of image. Assumes nothing.
use Rattle.std.proofs.Common.{◌≡◌, ℕ, zero, suc, ◌+◌, ◌≤◌, ◌⊎◌, List, [], ◌∷◌, ◌++◌, length, drop, Err, Result, sym, ap, ◌∙◌, inl, inr, arith}
use Rattle.std.proofs.lemmas.List.{append_assoc, length-append}
use Rattle.std.proofs.lemmas.Bool.Decides.{nat_tests}
use Rattle.std.proofs.lemmas.Grind.{common_steps}
use Rattle.image_format.specs.declared.fault.ImageCause.{ImageCause}
use Rattle.image_format.specs.declared.fault.ImageCause.TheVariants.{NoName}
use Rattle.image_format.specs.declared.fault.ImageFault.{ImageFault}
use Rattle.image_format.specs.Fields.{Field, Bytes, Item, whole, short, bytes_of, encoding, item, items, max_image}
use Rattle.image_format.specs.Images.{Kind, State, read, read_on, refused_at, step}
use Rattle.image_format.specs.Laws.{Begins, Stands}
use Rattle.image_format.proofs.Items.{by_item, items_cut, items_first}
use Rattle.image_format.proofs.Rules.{by_answer}
use Rattle.image_format.proofs.Whole.{item_bytes, item_of, items_cons, reads_on, refuses}

pub same_err : {A B : Type 0} {x y : B} → ◌≡◌ {A = Result A B} (Err x) (Err y) → x ≡ y
same_err e = cc

module _ {S : Type 0} (K : Kind S) where
  -- no refusal stands before the place where reading goes on
  pub not_before : (is : List Item) (s : State S) (p : ℕ) (f : ImageFault) → read_on K s p is ≡ Err f → p ≤ f.place
  not_before [] s p f h = grind (arith, nat_tests)
  not_before (short ∷ is) s p f h = grind (arith, nat_tests)
  not_before (whole t v ∷ is) s p f h =
      by_answer (step K s t v)
      (λ s' e. omega (arith, not_before is s' (p + (3 + length v)) f (sym (reads_on K s p t v is s' e) ∙ h)))
      (λ c e. omega (arith, ap (λ (x : ImageFault). x.place) (same_err (sym (refuses K s p t v is c e) ∙ h))))

  -- the bytes from a place p on: the refusal is at their end, or where a field of them begins
  abbrev From : List ℕ → ℕ → ImageFault → Type 0
  From bs p f = (f ≡ record { cause = NoName; place = p + length bs }) ⊎ ((q : ℕ) × Begins bs q × (f.place ≡ p + q))

  here : (b : ℕ) (bs : List ℕ) (p : ℕ) (f : ImageFault) → f.place ≡ p → From (b ∷ bs) p f
  here b bs p f e = grind (arith, nat_tests)

  -- behind a field that was taken
  behind : (t : ℕ) (v bs rest : List ℕ) (p : ℕ) (f : ImageFault) → bs ≡ bytes_of (record { tag = t; value = v }) ++ rest → From rest (p + (3 + length v)) f → From bs p f
  behind t v bs rest p f e (inl x) =
      let n = ap length e ∙ length-append (bytes_of (record { tag = t; value = v })) rest in
      let m : p + (3 + length v) + length rest ≡ p + length bs = omega arith in
      inl (x ∙ ap (λ q. record { cause = NoName; place = q }) m)
  behind t v bs rest p f e (inr x) =
      let q = x.0 in let b = x.1 in
      let g : Field = record { tag = t; value = v } in
      let n = length-append (bytes_of g) (encoding b.before) in
      inr (
        3 + length v + q,
        record {
          before = g ∷ b.before;
          rest = b.rest;
          bytes = e ∙ ap (λ w. bytes_of g ++ w) b.bytes ∙ sym (append_assoc (bytes_of g) (encoding b.before) b.rest);
          length_is = omega (arith, b.length_is, n);
          some = b.some;
        },
        omega (arith, x.2),
      )

  stands_from : (bs : List ℕ) (skip : ℕ) (s : State S) (p : ℕ) (f : ImageFault) → Bytes bs → read_on K s p (items skip bs) ≡ Err f → From (drop skip bs) p f
  stands_from [] skip s p f small h = grind (arith, nat_tests, common_steps)
  stands_from (b ∷ bs) (suc k) s p f small h = stands_from bs k s p f (λ i. small (suc i)) h
  stands_from (b ∷ bs) zero s p f small h =
      by_item (item (b ∷ bs))
      (λ t v e.
      let is = items (2 + length v) bs in
      let first = sym (ap (read_on K s p) (items_first b bs t v e)) ∙ h in
      by_answer (step K s t v)
      (λ s' w.
      let n : 3 + length v ≡ suc (2 + length v) = omega arith in
      let g : Field = record { tag = t; value = v } in
      behind t v (b ∷ bs) (drop (2 + length v) bs) p f (item_bytes t v (b ∷ bs) small (sym e) ∙ ap (λ k. bytes_of g ++ drop k (b ∷ bs)) n)
      (stands_from bs (2 + length v) s' (p + (3 + length v)) f (λ i. small (suc i)) (sym (reads_on K s p t v is s' w) ∙ first)))
      (λ c w. here b bs p f (sym (ap (λ (x : ImageFault). x.place) (same_err (sym (refuses K s p t v is c w) ∙ first))))))
      (λ e. here b bs p f (sym (ap (λ (x : ImageFault). x.place) (same_err (sym (ap (read_on K s p) (items_cut b bs e)) ∙ h)))))

  at_start : (image : List ℕ) (f : ImageFault) → From image 0 f → Stands image f
  at_start image f (inl x) = grind (arith, nat_tests)
  at_start image f (inr x) = grind (arith, nat_tests)

  pub stands : (u : S) (image : List ℕ) (f : ImageFault) → Bytes image → read K u image ≡ Err f → Stands image f
  stands u image f small h = grind (arith, nat_tests, at_start, stands_from)

  -- the first of some fields, and what stands behind it
  pub cons : (f : Field) (before : List Field) (bs : List ℕ) (s : State S) (p : ℕ) → read_on K s p (items 0 (encoding (f ∷ before) ++ bs)) ≡ read_on K s p (item_of f ∷ items 0 (encoding before ++ bs))
  cons f before bs s p = simp (append_assoc, items_cons)

  module _ (g : Field) (rest other : List ℕ) (c : ImageCause) where
    ignored : (before : List Field) (s : State S) (p : ℕ)
        → read_on K s p (items 0 (encoding before ++ (bytes_of g ++ rest))) ≡ refused_at c (p + length (encoding before))
        → read_on K s p (items 0 (encoding before ++ (bytes_of g ++ other))) ≡ refused_at c (p + length (encoding before))
    ignored [] s p h =
        let is = items 0 rest in
        let first = sym (ap (read_on K s p) (items_cons g rest)) ∙ h in
        ap (read_on K s p) (items_cons g other)
        ∙ by_answer (step K s g.tag g.value)
        (λ s' e. absurd (omega (arith, not_before is s' (p + (3 + length g.value)) (record { cause = c; place = p + 0 }) (sym (reads_on K s p g.tag g.value is s' e) ∙ first))))
        (λ d e. refuses K s p g.tag g.value (items 0 other) d e ∙ sym (refuses K s p g.tag g.value is d e) ∙ first)
    ignored (f ∷ before) s p h =
        let first = sym (cons f before (bytes_of g ++ rest) s p) ∙ h in
        let one = items 0 (encoding before ++ (bytes_of g ++ rest)) in let two = items 0 (encoding before ++ (bytes_of g ++ other)) in
        cons f before (bytes_of g ++ other) s p
        ∙ by_answer (step K s f.tag f.value)
        (λ s' e.
        let l = length-append (bytes_of f) (encoding before) in
        let n : p + length (encoding (f ∷ before)) ≡ p + (3 + length f.value) + length (encoding before) = omega arith in
        reads_on K s p f.tag f.value two s' e
        ∙ ignored before s' (p + (3 + length f.value)) (sym (reads_on K s p f.tag f.value one s' e) ∙ first ∙ ap (refused_at c) n)
        ∙ ap (refused_at c) (sym n))
        (λ d e. refuses K s p f.tag f.value two d e ∙ sym (refuses K s p f.tag f.value one d e) ∙ first)

    pub rest_ignored : (u : S) (before : List Field)
        → read K u (encoding before ++ (bytes_of g ++ rest)) ≡ refused_at c (length (encoding before))
        → length (encoding before ++ (bytes_of g ++ other)) ≤ max_image
        → read K u (encoding before ++ (bytes_of g ++ other)) ≡ refused_at c (length (encoding before))
    rest_ignored u before h few = grind (arith, nat_tests, length-append, ignored)
