-- From what a change does to the rows to what the call does to the book. Assumes nothing.
use Rattle.std.proofs.Common.{◌≡◌, ℕ, ◌+◌, not, nat_lt, nat_le, [], ◌∷◌, ◌++◌, length, set, is_some, if◌then◌else◌, Some, None, Ok, Err, Option, Result, OnOk, OnErr, IfSome, IfNone, sym, refl, ap, ◌∙◌, subst}
use Rattle.std.proofs.Props.{props}
use mathlib.Core.HLevel.{is_prop→PathP}
use Rattle.std.specs.List.{remove, position}
use Rattle.std.proofs.lemmas.Bool.{cond-true, cond-false}
use Rattle.std.proofs.lemmas.List.Quantifiers.{position-Some}
use Rattle.sheet.specs.Books.{Book, PairsOnce, Sound, row_at, with_rows}
use Rattle.sheet.specs.Calls.{Call, Does, notes, strikes, accepted, count_causes, pair_causes, refusal, row_causes}
use Rattle.sheet.specs.Causes.{checked, first_cause, ◌if◌, refused_if}
use Rattle.sheet.specs.Rows.{blank, is_of, lookup, raised, row}
use Rattle.sheet.specs.Sheets.{book_of}
use Rattle.sheet.specs.Tables.{table_book}
use Rattle.sheet.specs.declared.fault.Fault.{Fault}
use Rattle.sheet.specs.declared.fault.Fault.TheVariants.{CountOverflow, Full, NoRow}
use Rattle.sheet.specs.declared.sheet.Sheet.{Sheet}
use Rattle.sheet.specs.declared.table.Table.{Table}
use Rattle.sheet.proofs.Books.{only_here, sound_next}
use Rattle.sheet.proofs.Causes.{checked_free, checked_value, first_cause_past}
use Rattle.sheet.proofs.Rows.{Only, lookup_none, lookup_only, raise_only, without_only}

-- A sheet is its table: the fact that it carries has but one proof.
pub same_sheet : (s s' : Sheet) → s.table ≡ s'.table → s ≡ s'
same_sheet s s' e = λ i. record {
  table = e i;
  sound = is_prop→PathP (λ j. Sound (table_book (e j))) (λ j. hlevel props) s.sound s'.sound i;
}

-- After a call the book is sound again.
pub sound_does : (s : Sheet) (c : Call) (r : Result (Unit {0}) Fault) (b : Book) → Does (book_of s) c r b → Sound b
sound_does s c r b does = subst Sound (sym does.leaves) (sound_next (book_of s) s.sound c)

-- After a call the table is again one of a sheet.
pub facts_after : (s : Sheet) (c : Call) (r : Result (Unit {0}) Fault) (u : Table) → Does (table_book s.table) c r (table_book u) → Sound (table_book u)
facts_after s c r u does = sound_does s c r (table_book u) does

-- A change that is refused for the call's cause, and else leaves the accepted book, does what the call does.
module _ (b b' : Book) (c : Call) (r : Result (Unit {0}) Fault) where
  leaves_at : (o : Option Fault) → refusal b c ≡ o → r ≡ checked o tt → OnOk r (b' ≡ accepted b c) → OnErr r (b' ≡ b)
      → b' ≡ (if is_some o then b else (accepted b c))
  leaves_at None e told taken kept = subst (λ q. OnOk q (b' ≡ accepted b c)) told taken
  leaves_at (Some f) e told taken kept = subst (λ q. OnErr q (b' ≡ b)) told kept

  does_by : r ≡ checked (refusal b c) tt → OnOk r (b' ≡ accepted b c) → OnErr r (b' ≡ b) → Does b c r b'
  does_by told taken kept = record { answered = told; leaves = leaves_at (refusal b c) refl told taken kept }

-- a call for a pair of known and different alarms
module _ (b : Book) (once : PairsOnce b) (u v : ℕ) (pair : checked {X = Unit {0}} (first_cause (pair_causes b u v)) tt ≡ Ok tt) where
  free : first_cause (pair_causes b u v) ≡ None
  free = checked_free _ _ _ pair

  -- the row at the place that a search for the pair gives
  placed : (i : ℕ) → position (is_of u v) b.rows ≡ Some i → Only u v b.rows i
  placed i e = let p = position-Some (is_of u v) b.rows i blank e in only_here b u v i once p.0 p.1

  -- a note of the count m, which passed as c
  module _ (m c : ℕ) (counted : checked (first_cause (count_causes m)) m ≡ Ok c) where
    same : m ≡ c
    same = checked_value _ m c counted

    note_refusal : (o : Option ℕ) → lookup u v b.rows ≡ o → refusal b (notes u v m) ≡ first_cause (row_causes o (length b.rows) c)
    note_refusal o is =
        first_cause_past (pair_causes b u v) (count_causes m ++ row_causes (lookup u v b.rows) (length b.rows) m) free
        ∙ first_cause_past (count_causes m) (row_causes (lookup u v b.rows) (length b.rows) m) (checked_free _ m c counted)
        ∙ ap (λ q. first_cause (row_causes q (length b.rows) m)) is
        ∙ ap (λ x. first_cause (row_causes o (length b.rows) x)) same

    module _ (b' : Book) (r : Result (Unit {0}) Fault) where
      -- the pair's row is at i
      pub note_raises_row : (i : ℕ) → position (is_of u v) b.rows ≡ Some i
          → r ≡ refused_if CountOverflow (nat_lt 32766 ((row_at b i).count + c))
          → OnOk r (b' ≡ with_rows b (set b.rows i (raised c (row_at b i)))) → OnErr r (b' ≡ b)
          → Does b (notes u v m) r b'
      note_raises_row i place told taken kept =
          let only = placed i place in
          let is = lookup_only u v b.rows i only in
          let rows : (accepted b (notes u v m)).rows ≡ set b.rows i (raised c (row_at b i)) =
          cond-true (is_some (lookup u v b.rows)) _ _ (ap is_some is) ∙ raise_only u v m b.rows i only ∙ ap (λ x. set b.rows i (raised x (row_at b i))) same in
          does_by b b' (notes u v m) r
          (told ∙ ap (λ o. checked o tt) (sym (note_refusal _ is)))
          (subst (λ rs. OnOk r (b' ≡ with_rows b rs)) (sym rows) taken)
          kept

      -- the pair has no row
      pub note_adds_row : position (is_of u v) b.rows ≡ None
          → r ≡ refused_if Full (nat_le 512 (length b.rows))
          → OnOk r (b' ≡ with_rows b (b.rows ++ row u v c ∷ [])) → OnErr r (b' ≡ b)
          → Does b (notes u v m) r b'
      note_adds_row none told taken kept =
          let is = lookup_none u v b.rows none in
          let rows : (accepted b (notes u v m)).rows ≡ b.rows ++ row u v c ∷ [] =
          cond-false (is_some (lookup u v b.rows)) _ _ (ap is_some is) ∙ ap (λ x. b.rows ++ row u v x ∷ []) same in
          does_by b b' (notes u v m) r
          (told ∙ ap (λ o. checked o tt) (sym (note_refusal _ is)))
          (subst (λ rs. OnOk r (b' ≡ with_rows b rs)) (sym rows) taken)
          kept

  strike_refusal : (o : Option ℕ) → lookup u v b.rows ≡ o → refusal b (strikes u v) ≡ first_cause ((NoRow if not (is_some o)) ∷ [])
  strike_refusal o is =
      first_cause_past (pair_causes b u v) ((NoRow if not (is_some (lookup u v b.rows))) ∷ []) free
      ∙ ap (λ q. first_cause ((NoRow if not (is_some q)) ∷ [])) is

  module _ (b' : Book) where
    strikes_row : (i : ℕ) → position (is_of u v) b.rows ≡ Some i → b' ≡ with_rows b (remove b.rows i) → Does b (strikes u v) (Ok tt) b'
    strikes_row i place e =
        let only = placed i place in
        does_by b b' (strikes u v) (Ok tt)
        (ap (λ o. checked o tt) (sym (strike_refusal _ (lookup_only u v b.rows i only))))
        (e ∙ ap (with_rows b) (sym (without_only u v b.rows i only)))
        tt

    strikes_none : position (is_of u v) b.rows ≡ None → b' ≡ b → Does b (strikes u v) (Err NoRow) b'
    strikes_none none e =
        does_by b b' (strikes u v) (Err NoRow) (ap (λ o. checked o tt) (sym (strike_refusal _ (lookup_none u v b.rows none)))) tt e

    -- the row is taken out at the place that a search gives, if it gives any
    pub strikes_found : (o : Option ℕ) (r : Result (Unit {0}) Fault) → o ≡ position (is_of u v) b.rows
        → IfSome o (λ i. (r ≡ Ok tt) × (b' ≡ with_rows b (remove b.rows i))) → IfNone o ((r ≡ Err NoRow) × (b' ≡ b))
        → Does b (strikes u v) r b'
    strikes_found None r e some none = subst (λ q. Does b (strikes u v) q b') (sym none.0) (strikes_none (sym e) none.1)
    strikes_found (Some i) r e some none = subst (λ q. Does b (strikes u v) q b') (sym some.0) (strikes_row i (sym e) some.1)
