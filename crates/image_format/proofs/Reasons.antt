-- What the fields so far have told, by the fields themselves; and so why a field is refused. Assumes nothing.
use Rattle.std.proofs.Common.{◌≡◌, ℕ, ◌≤◌, Bool, true, false, cond, eqb, List, [], ◌∷◌, ◌++◌, length, Result, refl, ap, arith, rules}
use Rattle.std.specs.Result.{result_map_both}
use Rattle.std.proofs.lemmas.List.{map_push}
use Rattle.std.proofs.lemmas.Bool.Decides.{nat_tests}
use Rattle.sheet.specs.Books.{Book, max_alarms, max_limit}
use Rattle.sheet.specs.Calls.{Call, after, next}
use Rattle.image_format.specs.declared.fault.ImageCause.{ImageCause}
use Rattle.image_format.specs.declared.kinds.Counts.{Counts}
use Rattle.image_format.specs.Counts.{counts, note_in}
use Rattle.image_format.specs.Fields.{Field}
use Rattle.image_format.specs.Images.{State, start, naming, noting, opened, step}
use Rattle.image_format.specs.Refusals.{book_in, limit_in, said_to, tagged}

-- an answer, without its value
abbrev pub plainly : {X : Type 0} → Result X ImageCause → Result (Unit {0}) ImageCause
plainly r = result_map_both (λ x. tt) (λ c. c) r

-- one field more
pub tagged_more : (t : ℕ) (fs : List Field) (g : Field) → g.tag ≡ t → tagged t (fs ++ g ∷ []) ≡ tagged t fs ++ g.value ∷ []
tagged_more t [] g e = grind (arith, nat_tests)
tagged_more t (f ∷ fs) g e = go (eqb f.tag t) (tagged_more t fs g e)
  where
    go : (b : Bool) → tagged t (fs ++ g ∷ []) ≡ tagged t fs ++ g.value ∷ []
        → cond b (f.value ∷ tagged t (fs ++ g ∷ [])) (tagged t (fs ++ g ∷ [])) ≡ cond b (f.value ∷ tagged t fs) (tagged t fs) ++ g.value ∷ []
    go true h = ap (λ vs. f.value ∷ vs) h
    go false h = h

pub tagged_other : (t : ℕ) (fs : List Field) (g : Field) → (g.tag ≡ t → ⊥) → tagged t (fs ++ g ∷ []) ≡ tagged t fs
tagged_other t [] g n = grind (arith, nat_tests)
tagged_other t (f ∷ fs) g n = go (eqb f.tag t) (tagged_other t fs g n)
  where
    go : (b : Bool) → tagged t (fs ++ g ∷ []) ≡ tagged t fs → cond b (f.value ∷ tagged t (fs ++ g ∷ [])) (tagged t (fs ++ g ∷ [])) ≡ cond b (f.value ∷ tagged t fs) (tagged t fs)
    go true h = ap (λ vs. f.value ∷ vs) h
    go false h = h

after_more : (cs : List Call) (b : Book) (c : Call) → after b (cs ++ c ∷ []) ≡ next (after b cs) c
after_more [] b c = refl
after_more (d ∷ cs) b c = after_more cs (next b d) c

-- a note more
pub book_more : (fs : List Field) (g : Field) → g.tag ≡ 3 → book_in (fs ++ g ∷ []) ≡ next (book_in fs) (note_in g.value)
book_more fs g e = search (rules, tagged_other, tagged_more, map_push, after_more)

-- the limit and the names, and no note yet
pub record Naming (fs : List Field) (k : ℕ) (names : List (List ℕ)) : Type 0 where
  pub some : 1 ≤ length fs
  pub limit : limit_in fs ≡ k
  pub low : 1 ≤ k
  pub high : k ≤ max_limit
  pub names_are : tagged 2 fs ≡ names
  pub few : length names ≤ max_alarms
  pub none : tagged 3 fs ≡ []

-- a name, and the book of the notes so far
pub record Noting (fs : List Field) (b : Book) : Type 0 where
  pub some : 1 ≤ length fs
  pub named : 1 ≤ length (tagged 2 fs)
  pub noted : 1 ≤ length (tagged 3 fs)
  pub book : book_in fs ≡ b

-- the state that fields lead to
abbrev pub Told : List Field → State Counts → Type 0
Told fs (start u) = fs ≡ []
Told fs (naming u k names) = Naming fs k names
Told fs (noting u b m) = Noting fs b

-- the book of a sheet just opened
pub book_opened : (fs : List Field) (k : ℕ) (names : List (List ℕ)) → Naming fs k names → 1 ≤ length names → book_in fs ≡ opened (length names) k
book_opened fs k names t some = grind (arith, nat_tests)

-- a step says what is to be said to the field
pub step_said : (fs : List Field) (s : State Counts) (g : Field) → Told fs s → plainly (step counts s g.tag g.value) ≡ said_to fs g
step_said fs (start u) g e = grind (arith, nat_tests)
step_said fs (naming u k names) g n = search rules
step_said fs (noting u b m) g n = grind (arith, nat_tests)
