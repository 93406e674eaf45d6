-- Laws of books, in the subject's words: what the calls' definitions come to.
use Rattle.std.specs.Prelude.{◌≡◌, ℕ, ◌+◌, ◌<◌, List, length, Some, None, ◌≢◌}
use Rattle.std.specs.Option.{unwrap_or}
use Rattle.sheet.specs.Books.{Book, SamePair, Sound, new_book, row_at}
use Rattle.sheet.specs.Calls.{Call, notes, strikes, confines, after, next, refusal}
use Rattle.sheet.specs.Rows.{lookup, without}
use Rattle.sheet.specs.declared.fault.Fault.{Fault}

-- the count noted for the pair, 0 where it has no row
abbrev pub count_of : ℕ → ℕ → Book → ℕ
count_of u v b = unwrap_or (lookup u v b.rows) 0

-- nothing refuses the call
abbrev pub Accepts : Book → Call → Type 0
Accepts b c = refusal b c ≡ None

-- x→y is another pair than u→v
abbrev pub Other : ℕ → ℕ → ℕ → ℕ → Type 0
Other u v x y = x ≡ u → y ≢ v

-- An accepted note raises its pair's count by exactly the count given,
abbrev pub NoteRaises : Type 0
NoteRaises = (b : Book) (u v c : ℕ) → Accepts b (notes u v c) → count_of u v (next b (notes u v c)) ≡ count_of u v b + c

-- and changes no other pair's row.
abbrev pub NoteSparesOthers : Type 0
NoteSparesOthers = (b : Book) (u v c x y : ℕ) → Other u v x y → lookup x y (next b (notes u v c)).rows ≡ lookup x y b.rows

-- After an accepted strike the pair has no row,
abbrev pub StrikeClears : Type 0
StrikeClears = (b : Book) (u v : ℕ) → Accepts b (strikes u v) → lookup u v (next b (strikes u v)).rows ≡ None

-- and every other pair's row is as it was.
abbrev pub StrikeSparesOthers : Type 0
StrikeSparesOthers = (b : Book) (u v x y : ℕ) → Other u v x y → lookup x y (next b (strikes u v)).rows ≡ lookup x y b.rows

-- To note a pair for the first time and then to strike it gives the book back.
abbrev pub StrikeUndoesFirstNote : Type 0
StrikeUndoesFirstNote =
    (b : Book) (u v c : ℕ) → lookup u v b.rows ≡ None → Accepts b (notes u v c) → next (next b (notes u v c)) (strikes u v) ≡ b

-- The order of the other rows never changes: a note and a strike keep all rows but the pair's as a list, and to confine keeps all.
pub record OrderStays : Type 0 where
  pub note : (b : Book) (u v c : ℕ) → without u v (next b (notes u v c)).rows ≡ without u v b.rows
  pub strike : (b : Book) (u v : ℕ) → without u v (next b (strikes u v)).rows ≡ without u v b.rows
  pub confine : (b : Book) (k : ℕ) → (next b (confines k)).rows ≡ b.rows

-- A note moves no row: each place that had a pair's row has that pair's row again.
abbrev pub NoteMovesNone : Type 0
NoteMovesNone = (b : Book) (u v c i : ℕ) → i < length b.rows → SamePair (row_at (next b (notes u v c)) i) (row_at b i)

-- A refused call leaves the book alone.
abbrev pub RefusedLeaves : Type 0
RefusedLeaves = (b : Book) (c : Call) (f : Fault) → refusal b c ≡ Some f → next b c ≡ b

-- A book that grew from a new one by any calls has no unknown alarm, no pair twice and no count but a true one.
abbrev pub GrownSound : Type 0
GrownSound = (cs : List Call) → Sound (after new_book cs)
