-- The image of counts: its values are notes, and its notes are values. Assumes nothing.
use Rattle.std.proofs.Common.{◌≡◌, ℕ, zero, suc, ◌+◌, ◌*◌, ◌/◌, ◌%◌, ◌≤◌, List, [], ◌∷◌, ◌++◌, map, length, get_or, None, Ok, Option, sym, refl, ap, ◌∙◌, subst, arith}
use Rattle.std.specs.List.{AllByRecursion}
use Rattle.std.proofs.lemmas.List.{length-map}
use Rattle.std.proofs.lemmas.Bool.Decides.{nat_tests}
use Rattle.sheet.specs.Books.{Book, new_book, max_alarms, max_limit}
use Rattle.sheet.specs.Calls.{Call, opens, accepted, after, next, refusal}
use Rattle.sheet.specs.Causes.{checked}
use Rattle.sheet.specs.declared.fault.Fault.{Fault}
use Rattle.sheet.proofs.Causes.{checked_free, checked_value, open_ok}
use Rattle.image_format.specs.declared.kinds.Counts.{Counts}
use Rattle.image_format.specs.Fields.{Field, Bytes, encoding}
use Rattle.image_format.specs.Images.{Described, opened}
use Rattle.image_format.specs.Counts.{counts, note_in, outcome}
use Rattle.image_format.specs.Contents.{Note, AllAccepted, fields, limit_field, name_field, note_call, note_field}
use Rattle.image_format.specs.Laws.{ComesTo}
use Rattle.image_format.proofs.Shapes.{Fed, value_field}
use Rattle.image_format.proofs.Exactly.{accepted_right, right_accepted}

bytes_left : (xs ys : List ℕ) → Bytes (xs ++ ys) → Bytes xs
bytes_left [] ys h i = omega arith
bytes_left (x ∷ xs) ys h zero = h 0
bytes_left (x ∷ xs) ys h (suc i) = bytes_left xs ys (λ j. h (suc j)) i

bytes_right : (xs ys : List ℕ) → Bytes (xs ++ ys) → Bytes ys
bytes_right [] ys h = h
bytes_right (x ∷ xs) ys h = bytes_right xs ys (λ j. h (suc j))

-- the values of an image's fields are bytes
abbrev ByteValues : List Field → Type 0
ByteValues fs = AllByRecursion (λ f. Bytes f.value) fs

byte_values : (fs : List Field) → Bytes (encoding fs) → ByteValues fs
byte_values [] h = tt
byte_values (f ∷ fs) h =
    let rest : Bytes (f.value ++ encoding fs) = λ i. h (suc (suc (suc i))) in
    (bytes_left f.value (encoding fs) rest, byte_values fs (bytes_right f.value (encoding fs) rest))

behind_names : (names : List (List ℕ)) (fs : List Field) → ByteValues (map name_field names ++ fs) → ByteValues fs
behind_names [] fs h = h
behind_names (v ∷ vs) fs h = behind_names vs fs h.1

pub next_accepted : (b : Book) (c : Call) → refusal b c ≡ None → next b c ≡ accepted b c
next_accepted b c e = cc

-- the note in a value
abbrev note_of : List ℕ → Note
note_of v = record { first = get_or v 0 0; second = get_or v 1 0; count = get_or v 2 0 * 256 + get_or v 3 0 }

note_again : (v : List ℕ) → length v ≡ 4 → Bytes v → value_field counts v ≡ note_field (note_of v)
note_again [] n h = absurd (omega arith)
note_again (a ∷ []) n h = absurd (omega arith)
note_again (a ∷ b ∷ []) n h = absurd (omega arith)
note_again (a ∷ b ∷ c ∷ []) n h = absurd (omega arith)
note_again (a ∷ b ∷ c ∷ d ∷ e ∷ v) n h = absurd (omega arith)
note_again (a ∷ b ∷ c ∷ d ∷ []) n h =
    let high : (c * 256 + d) / 256 ≡ c = omega (arith, h 3) in
    let low : (c * 256 + d) % 256 ≡ d = omega (arith, h 3) in
    sym (ap (λ x. record { tag = 3; value = a ∷ b ∷ x ∷ ((c * 256 + d) % 256) ∷ [] }) high ∙ ap (λ x. record { tag = 3; value = a ∷ b ∷ c ∷ x ∷ [] }) low)

-- values that are taken in turn are notes that are accepted in turn
record NotesIn (b : Book) (values : List (List ℕ)) (b' : Book) : Type 0 where
  notes : List Note
  same : map (value_field counts) values ≡ map note_field notes
  accepted : AllAccepted b (map note_call notes)
  left : b' ≡ after b (map note_call notes)
  count : length notes ≡ length values

notes_in : (values : List (List ℕ)) (s : Counts) (b b' : Book) → ByteValues (map (value_field counts) values) → Fed counts s b values b' → NotesIn b values b'
notes_in [] s b b' small h = grind (arith, nat_tests)
notes_in (v ∷ vs) s b b' small h =
    let p = h.1.0 in let call = note_in v in
    let free = checked_free (refusal b call) (s, accepted b call) p h.1.1 in
    let book : p.1 ≡ next b call = sym (ap (λ (q : Counts × Book). q.1) (checked_value (refusal b call) (s, accepted b call) p h.1.1)) ∙ sym (next_accepted b call free) in
    let r = notes_in vs p.0 p.1 b' small.1 h.1.2 in
    record {
      notes = note_of v ∷ r.notes;
      same = ap (λ f. f ∷ map (value_field counts) vs) (note_again v h.0 small.0) ∙ ap (λ fs. note_field (note_of v) ∷ fs) r.same;
      accepted = (free, subst (λ x. AllAccepted x (map note_call r.notes)) book r.accepted);
      left = r.left ∙ ap (λ x. after x (map note_call r.notes)) book;
      count = omega (arith, r.count);
    }

pub open_free : (n k : ℕ) → 1 ≤ n → n ≤ max_alarms → 1 ≤ k → k ≤ max_limit → refusal new_book (opens n k) ≡ None
open_free n k a b c d = grind (arith, nat_tests)

pub accepted_holds : (image : List ℕ) (x : Described) → Bytes image → outcome image ≡ Ok x → ComesTo image x
accepted_holds image x small h =
    let r = accepted_right counts (omega arith) (record {}) image small x h in
    let s = r.shape in
    let each = subst ByteValues s.same (byte_values r.fields (subst Bytes r.bytes small)) in
    let n = notes_in s.values (record {}) (opened (length s.names) s.limit) x.book (behind_names s.names _ each.1) s.fed in
    let opens_free = open_free (length s.names) s.limit s.some s.good.0 s.low s.high in
    let book = next_accepted new_book (opens (length s.names) s.limit) opens_free in
    record {
      content = record { limit = s.limit; names = s.names; notes = n.notes };
      holds = record {
        bytes = r.bytes ∙ ap encoding (s.same ∙ ap (λ fs. limit_field s.limit ∷ (map name_field s.names ++ fs)) n.same);
        size = r.size;
        acceptable = record {
          names = s.good.1;
          apart = s.good.2;
          accepted = (opens_free, subst (λ b. AllAccepted b (map note_call n.notes)) (sym book) n.accepted);
        };
      };
      book = n.left ∙ ap (λ b. after b (map note_call n.notes)) (sym book);
      fields = omega (arith, n.count, s.count);
    }

-- the value of a note
abbrev value_in : Note → List ℕ
value_in x = (note_field x).value

fed_notes : (notes : List Note) (s : Counts) (b : Book) → AllAccepted b (map note_call notes) → Fed counts s b (map value_in notes) (after b (map note_call notes))
fed_notes [] s b h = refl
fed_notes (x ∷ xs) s b h =
    let n : x.count / 256 * 256 + x.count % 256 ≡ x.count = omega arith in
    let same : note_in (value_in x) ≡ note_call x = ap (λ c. Call.notes x.first x.second c) n in
    let call = note_in (value_in x) in
    let free : refusal b call ≡ None = ap (refusal b) same ∙ h.0 in
    let book : accepted b call ≡ next b (note_call x) = ap (accepted b) same ∙ sym (next_accepted b (note_call x) h.0) in (
      refl,
      (
        (s, accepted b call),
        ap (λ (o : Option Fault). checked o (s, accepted b call)) free,
        subst (λ y. Fed counts s y (map value_in xs) (after (next b (note_call x)) (map note_call xs))) (sym book) (fed_notes xs s (next b (note_call x)) h.1),
      ),
    )

values_of : (notes : List Note) → map note_field notes ≡ map (value_field counts) (map value_in notes)
values_of [] = refl
values_of (x ∷ xs) = ap (λ fs. note_field x ∷ fs) (values_of xs)

pub holding_accepted : (image : List ℕ) (x : Described) → ComesTo image x → outcome image ≡ Ok x
holding_accepted image x h =
    let c = h.content in let a = h.holds.acceptable in
    let n = length c.names in let k = c.limit in
    let ranges = open_ok new_book n k a.accepted.0 in
    let book = next_accepted new_book (opens n k) a.accepted.0 in
    let fed = fed_notes c.notes (record {}) (next new_book (opens n k)) a.accepted.1 in
    right_accepted counts (omega arith) (record {}) image x (record {
      fields = fields c;
      bytes = h.holds.bytes;
      size = h.holds.size;
      shape = record {
        limit = k;
        names = c.names;
        values = map value_in c.notes;
        same = ap (λ fs. limit_field k ∷ (map name_field c.names ++ fs)) (values_of c.notes);
        low = ranges.1.0;
        high = ranges.1.1;
        some = ranges.0.0;
        good = (ranges.0.1, a.names, a.apart);
        fed = subst (λ b. Fed counts (record {}) b (map value_in c.notes) x.book) book (subst (λ b'. Fed counts (record {}) (next new_book (opens n k)) (map value_in c.notes) b') (sym h.book) fed);
        count = length-map c.notes value_in ∙ sym h.fields;
      };
    })
