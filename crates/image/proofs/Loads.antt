-- From what is read to what a load says. Assumes nothing.
use Rattle.std.proofs.Common.{◌≡◌, ℕ, List, length, slice_index, Fits, w8, Ok, Err, Result, sym, refl, ap, ◌∙◌, subst, arith}
use Rattle.std.specs.Result.{result_map_both}
use Rattle.sheet.specs.Books.{Book}
use Rattle.image_format.specs.declared.fault.ImageFault.{ImageFault}
use Rattle.image_format.specs.Contents.{Content, Holds, described}
use Rattle.image_format.specs.Counts.{outcome}
use Rattle.image_format.specs.Fields.{Bytes}
use Rattle.image_format.specs.Images.{Described}
use Rattle.image_format.specs.Laws.{ComesTo}
use Rattle.image_format.proofs.Tellings.{accepted_holds, holding_accepted}
use Rattle.image.specs.Loads.{Loads, book_after}

abbrev fields_of : Result Described ImageFault → Result ℕ ImageFault
fields_of o = result_map_both (λ x. x.fields) (λ f. f) o

-- an image that holds a content comes to its book and its number of notes
content_outcome : (image : List ℕ) (c : Content) → Holds image c → outcome image ≡ Ok (record { book = described c; fields = length c.notes })
content_outcome image c h = holding_accepted image _ (record { content = c; holds = h; book = refl; fields = refl })

module _ (image : List ℕ) (b b' : Book) (r : Result ℕ ImageFault) where
  pub loads : ((i : ℕ) → Fits w8 (slice_index image i)) → r ≡ fields_of (outcome image) → b' ≡ book_after b (outcome image) → Loads image b r b'
  loads fits told left = go (outcome image) refl told left
    where
      small : Bytes image
      small i = let f = (fits i).fits in omega arith

      go : (o : Result Described ImageFault) → outcome image ≡ o → r ≡ fields_of o → b' ≡ book_after b o → Loads image b r b'
      go (Ok x) e t l = record {
        answered = told;
        leaves = left;
        holds = λ m h.
            let n : x.fields ≡ m = cc in
            subst (ComesTo image) (ap (λ y. record { book = y; fields = x.fields }) (sym l) ∙ ap (λ k. record { book = b'; fields = k }) n) (accepted_holds image x small e);
        refuses = λ f h c w. cc;
      }
      go (Err f) e t l = record {
        answered = told;
        leaves = left;
        holds = λ m h. cc;
        refuses = λ g h c w. let same : ◌≡◌ {A = Result Described ImageFault} (Err f) (Ok (record { book = described c; fields = length c.notes })) = sym e ∙ content_outcome image c w in cc;
      }

  module _ (l : Loads image b r b') where
    -- an image that holds a content is loaded with its book, and answers its number of notes
    pub loaded : (c : Content) → Holds image c → (b' ≡ described c) × (r ≡ Ok (length c.notes))
    loaded c h = let e = content_outcome image c h in (l.leaves ∙ ap (book_after b) e, l.answered ∙ ap fields_of e)

    -- a load is refused for what its image is
    pub refused_is : (f : ImageFault) → outcome image ≡ Err f → r ≡ Err f
    refused_is f o = l.answered ∙ ap fields_of o
