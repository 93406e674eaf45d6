-- The field of a name, in an image that holds a content. Assumes nothing.
use Rattle.std.proofs.Common.{◌≡◌, ℕ, zero, suc, ◌+◌, ◌<◌, ◌≤◌, Bool, true, false, nat_le, ◌==◌, if◌then◌else◌, List, [], ◌∷◌, ◌++◌, map, length, take, drop, slice_get, slice_index_or, is_some, option_map, option_and_then, Some, None, Ok, Err, Option, Result, sym, refl, ap, ◌∙◌, subst, zero-add, ⊎_elim, arith}
use Rattle.std.proofs.lemmas.List.{length-append, take_at}
use Rattle.std.proofs.lemmas.Bool.{cases_lt}
use Rattle.std.proofs.lemmas.Bool.Decides.{nat_tests}
use Rattle.std.proofs.Math.Seq.{drop-append-add}
use Rattle.std.specs.Option.{ok_or}
use Rattle.std.specs.Result.{result_map_both}
use Rattle.sheet.specs.Books.{Book, new_book}
use Rattle.sheet.specs.Calls.{opens, accepted, after, next, refusal}
use Rattle.sheet.specs.declared.fault.Fault.{Fault}
use Rattle.image_format.specs.declared.fault.ImageFault.{ImageFault}
use Rattle.image_format.specs.Contents.{Content, Holds, Note, described, fields, limit_field, name_field, note_call, note_field}
use Rattle.image_format.specs.Fields.{Field, bytes_of, encoding, items}
use Rattle.image_format.proofs.Tellings.{next_accepted}
use Rattle.image_format.proofs.Whole.{item_of, items_of}
use Rattle.image.specs.Loads.{Loads}
use Rattle.image.specs.Namings.{Names, Part, name_part, part_of, unknown_alarm}
use Rattle.image.specs.Shown.{Placed, name_at, name_part_in, placed}
use Rattle.image.specs.declared.names.Name.{Name}
use Rattle.image.proofs.Loads.{refused_is}

-- a note leaves the alarms alone
note_alarms : (b : Book) (x : Note) (o : Option Fault) → (if is_some o then b else accepted b (note_call x)).n ≡ b.n
note_alarms b x None = refl
note_alarms b x (Some f) = refl

notes_alarms : (notes : List Note) (b : Book) → (after b (map note_call notes)).n ≡ b.n
notes_alarms [] b = refl
notes_alarms (x ∷ xs) b = notes_alarms xs (next b (note_call x)) ∙ note_alarms b x (refusal b (note_call x))

-- the described book has an alarm for each name
pub described_alarms : (image : List ℕ) (c : Content) → Holds image c → (described c).n ≡ length c.names
described_alarms image c h =
    let call = opens (length c.names) c.limit in
    notes_alarms c.notes (next new_book call) ∙ ap (λ (b : Book). b.n) (next_accepted new_book call h.acceptable.accepted.0)

-- a field that begins at a place
abbrev at : ℕ → Field → Result Placed ImageFault
at p f = Ok (record { place = p; tag = f.tag; value = f.value })

placed_get : (fs : List Field) (p i : ℕ) → slice_get (placed p (map item_of fs)) i ≡ option_map (at (p + length (encoding (take i fs)))) (slice_get fs i)
placed_get [] p i = refl
placed_get (f ∷ fs) p zero = let n : p + 0 ≡ p = omega arith in ap (λ k. Some (at k f)) (sym n)
placed_get (f ∷ fs) p (suc i) =
    let long = length-append (bytes_of f) (encoding (take i fs)) in
    let n : p + (3 + length f.value) + length (encoding (take i fs)) ≡ p + length (bytes_of f ++ encoding (take i fs)) = omega arith in
    placed_get fs (p + (3 + length f.value)) i ∙ ap (λ k. option_map (at k) (slice_get fs i)) n

-- a value lies behind its field's header
value_lies : (fs : List Field) (i : ℕ) (f : Field) → slice_get fs i ≡ Some f → f.value ≡ take (length f.value) (drop (length (encoding (take i fs)) + 3) (encoding fs))
value_lies [] i f e = cc
value_lies (g ∷ fs) zero f e =
    let same : f.value ≡ g.value = cc in
    same ∙ sym (take_at g.value (encoding fs) (length f.value) (ap length (sym same)))
value_lies (g ∷ fs) (suc i) f e =
    let k = length (encoding (take i fs)) + 3 in
    let n : length (bytes_of g ++ encoding (take i fs)) + 3 ≡ length (bytes_of g) + k = omega (arith, length-append (bytes_of g) (encoding (take i fs))) in
    value_lies fs i f e ∙ ap (take (length f.value)) (sym (ap (λ m. drop m (bytes_of g ++ encoding fs)) n ∙ drop-append-add (bytes_of g) (encoding fs) k))

module _ (image : List ℕ) (fs : List Field) (bytes : image ≡ encoding fs) (i : ℕ) where
  name_in : Option Field → Option Part
  name_in o = option_and_then name_part_in (option_map (at (length (encoding (take i fs)))) o)

  name_at_field : name_at image i ≡ name_in (slice_get fs i)
  unfolding name_in
  name_at_field =
      ap (λ is. option_and_then name_part_in (slice_get (placed 0 is) i)) (ap (items 0) bytes ∙ items_of fs)
      ∙ ap (option_and_then name_part_in) (placed_get fs 0 i ∙ ap (λ k. option_map (at k) (slice_get fs i)) (zero-add _))

  module _ (n : Part) where
    tagged : (f : Field) → slice_get fs i ≡ Some f → (t : Bool) → ◌≡◌ {A = Option Part} (if t then Some (record { bytes = f.value; place = length (encoding (take i fs)) + 3 }) else None) (Some n)
        → n.bytes ≡ take (length n.bytes) (drop n.place image)
    tagged f g true e =
        let same : record { bytes = f.value; place = length (encoding (take i fs)) + 3 } ≡ n = cc in
        subst (λ (m : Part). m.bytes ≡ take (length m.bytes) (drop m.place image)) same
        (value_lies fs i f g ∙ ap (λ bs. take (length f.value) (drop (length (encoding (take i fs)) + 3) bs)) (sym bytes))
    tagged f g false e = cc

    found : (o : Option Field) → slice_get fs i ≡ o → name_in o ≡ Some n → n.bytes ≡ take (length n.bytes) (drop n.place image)
    unfolding name_in
    found None g e = cc
    found (Some f) g e = tagged f g (f.tag == 2) e

    name_lies : name_at image i ≡ Some n → n.bytes ≡ take (length n.bytes) (drop n.place image)
    name_lies e = found (slice_get fs i) refl (sym name_at_field ∙ e)

-- the fields of the names, and what stands behind them
name_get : (names : List (List ℕ)) (rest : List Field) (a : ℕ) → a < length names
    → (slice_get (map name_field names ++ rest) a ≡ Some (name_field (slice_index_or names a []))) × (take a (map name_field names ++ rest) ≡ map name_field (take a names))
name_get [] rest a l = absurd (omega arith)
name_get (v ∷ vs) rest zero l = (refl, refl)
name_get (v ∷ vs) rest (suc a) l = let r = name_get vs rest a (omega arith) in (r.0, ap (λ fs. name_field v ∷ fs) r.1)

note_get : (notes : List Note) (a p : ℕ) → option_and_then name_part_in (option_map (at p) (slice_get (map note_field notes) a)) ≡ None
note_get [] a p = refl
note_get (x ∷ xs) zero p = refl
note_get (x ∷ xs) (suc a) p = note_get xs a p

none_get : (names : List (List ℕ)) (notes : List Note) (a p : ℕ) → length names ≤ a → option_and_then name_part_in (option_map (at p) (slice_get (map name_field names ++ map note_field notes) a)) ≡ None
none_get [] notes a p l = note_get notes a p
none_get (v ∷ vs) notes zero p l = absurd (omega arith)
none_get (v ∷ vs) notes (suc a) p l = none_get vs notes a p (omega arith)

name_is : (image : List ℕ) (c : Content) → Holds image c → (a : ℕ) → name_at image (suc a) ≡ (if nat_le (length c.names) a then None else Some (name_part c a))
unfolding name_in
name_is image c h a =
    let field = name_at_field image (fields c) h.bytes (suc a) in
    ⊎_elim
    (λ l.
    let r = name_get c.names (map note_field c.notes) a l in
    let e : name_at image (suc a) ≡ Some (name_part c a) =
    field ∙ ap (name_in image (fields c) h.bytes (suc a)) r.0
    ∙ ap (λ fs. Some (record { bytes = slice_index_or c.names a []; place = length (encoding (limit_field c.limit ∷ fs)) + 3 })) r.1 in
    grind (arith, nat_tests))
    (λ l.
    let e : name_at image (suc a) ≡ None = field ∙ none_get c.names c.notes a (length (encoding (take (suc a) (fields c)))) l in
    grind (arith, nat_tests))
    (cases_lt a (length c.names))

ok_or_ok : (o : Option Name) (f : ImageFault) (x : Name) → ok_or o f ≡ Ok x → o ≡ Some x
ok_or_ok None f x e = cc
ok_or_ok (Some y) f x e = cc

-- what is told of the name that was found, or of none
found_told : (t : Bool) (found : Option Name) (p : Part) → option_map part_of found ≡ (if t then None else Some p) → result_map_both part_of (λ f. f) (ok_or found unknown_alarm) ≡ (if t then Err unknown_alarm else Ok p)
found_told true None p e = refl
found_told true (Some n) p e = cc
found_told false None p e = cc
found_told false (Some n) p e = cc

module _ (image : List ℕ) (b b' : Book) (r : Result ℕ ImageFault) (l : Loads image b r b') (a : ℕ) where
  pub refused_name : (f : ImageFault) → r ≡ Err f → Names image a (Err f)
  refused_name f e = record {
    refused = λ g o. let same : ◌≡◌ {A = Result ℕ ImageFault} (Err f) (Err g) = sym e ∙ refused_is image b b' r l g o in cc;
    told = λ c h. absurd (l.refuses f e c h);
    part = λ n w. cc;
  }

  pub found_name : (m : ℕ) → r ≡ Ok m → (found : Option Name) → option_map part_of found ≡ name_at image (suc a) → Names image a (ok_or found unknown_alarm)
  found_name m e found n = record {
    refused = λ f o. let same : ◌≡◌ {A = Result ℕ ImageFault} (Ok m) (Err f) = sym e ∙ refused_is image b b' r l f o in cc;
    told = λ c h. found_told (nat_le (length c.names) a) found (name_part c a) (n ∙ name_is image c h a);
    part = λ x w.
        let held = l.holds m e in
        name_lies image (fields held.content) held.holds.bytes (suc a) (part_of x) (sym n ∙ ap (option_map part_of) (ok_or_ok found unknown_alarm x w));
  }
