-- An image is accepted exactly when it is the encoding of fields of the right shape, for any kind of image. Assumes nothing.
use Rattle.std.proofs.Common.{◌≡◌, ℕ, ◌≤◌, ltb, List, length, Ok, ap, ◌∙◌, arith}
use Rattle.std.proofs.lemmas.Bool.{cond-false, le-ltb}
use Rattle.std.proofs.lemmas.Bool.Decides.{nat_tests}
use Rattle.image_format.specs.declared.fault.ImageCause.TheVariants.{TooLong}
use Rattle.image_format.specs.Fields.{Field, Bytes, encoding, items, max_image}
use Rattle.image_format.specs.Images.{Kind, Described, start, read, read_on}
use Rattle.image_format.proofs.Rules.{guard}
use Rattle.image_format.proofs.Shapes.{Shaped}
use Rattle.image_format.proofs.Whole.{through, items_of, read_run}
use Rattle.image_format.proofs.Accepts.{shaped}
use Rattle.image_format.proofs.Encodes.{run_through}

module _ {S : Type 0} (K : Kind S) (three : 3 ≤ K.tag) (u : S) (image : List ℕ) where
  pub record Right (x : Described) : Type 0 where
    pub fields : List Field
    pub bytes : image ≡ encoding fields
    pub size : length image ≤ max_image
    pub shape : Shaped K u fields x

  pub accepted_right : Bytes image → (x : Described) → read K u image ≡ Ok x → Right x
  accepted_right small x h =
      let g = guard (ltb max_image (length image)) (read_on K (start u) 0 (items 0 image)) (record { cause = TooLong; place = max_image }) x h in
      let w = through K x image 0 (start u) 0 small g.1 in
      let long : length image ≤ max_image = grind (arith, nat_tests, g.0) in
      record { fields = w.fields; bytes = w.bytes; size = long; shape = shaped K three u w.fields w.last w.place x w.run w.ends }

  pub right_accepted : (x : Described) → Right x → read K u image ≡ Ok x
  right_accepted x h =
      let fs = h.fields in
      let run = run_through K three u fs x h.shape in
      let whole = read_run K run.0 fs (start u) 0 run.1 in
      cond-false (ltb max_image (length image)) _ _ (le-ltb _ _ h.size)
      ∙ ap (λ w. read_on K (start u) 0 (items 0 w)) h.bytes
      ∙ ap (read_on K (start u) 0) (items_of fs)
      ∙ whole.1
      ∙ run.2 whole.0
