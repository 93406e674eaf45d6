-- The rules on names, by tests and in words. Assumes nothing.
use Rattle.std.proofs.Common.{◌≡◌, ℕ, zero, suc, ◌<◌, Bool, true, false, cond, not, if◌then◌else◌, List, [], ◌∷◌, ◌++◌, length, get_or, All, Ok, Err, Result, sym, refl, ◌∙◌, ⊎_elim, arith, rules}
use Rattle.std.specs.Str.{bytes_eq}
use Rattle.std.proofs.lemmas.List.Sums.{AllPass-from_list_all, list_all-from_AllPass}
use Rattle.std.proofs.lemmas.List.{length_push, get_or_push, get_or_append_left, get_or_at, length-append}
use Rattle.std.proofs.lemmas.Slice.Eq.{bytes_eq-Decides}
use Rattle.std.proofs.lemmas.Bool.{or_parts, or_from, cases_Bool}
use Rattle.image_format.specs.Names.{Apart, Printable, printable, given}

-- an answer is a value or a fault
pub by_answer : {A E P : Type 0} (r : Result A E) → ((x : A) → r ≡ Ok x → P) → ((c : E) → r ≡ Err c → P) → P
by_answer (Ok x) at_ok at_err = at_ok x refl
by_answer (Err c) at_ok at_err = at_err c refl

-- a check that is passed
pub guard : {A E : Type 0} (b : Bool) (o : Result A E) (c : E) (x : A) → cond b (Err c) o ≡ Ok x → (b ≡ false) × (o ≡ Ok x)
guard b o c x h = grind arith

-- and so leaves the answer to the next
pub pass_not : {A : Type 0} (b : Bool) (x y : A) → b ≡ true → (if not b then x else y) ≡ y
pass_not b x y h = grind arith

pub all_printable : (v : List ℕ) → printable v ≡ true → All Printable v
all_printable v h = search (rules, AllPass-from_list_all)

pub printable_all : (v : List ℕ) → All Printable v → printable v ≡ true
printable_all v h = search (rules, list_all-from_AllPass)

pub not_given : (v : List ℕ) (names : List (List ℕ)) → given v names ≡ false → (i : ℕ) → i < length names → get_or names i [] ≡ v → ⊥
not_given v [] g i l e = omega arith
not_given v (n ∷ ns) g zero l e = search rules
not_given v (n ∷ ns) g (suc i) l e = not_given v ns (or_parts (bytes_eq n v) (given v ns) g).1 i (omega arith) e

pub given_not : (v : List ℕ) (names : List (List ℕ)) → ((i : ℕ) → i < length names → get_or names i [] ≡ v → ⊥) → given v names ≡ false
given_not v [] h = refl
given_not v (n ∷ ns) h =
    or_from (bytes_eq n v) (given v ns)
    (⊎_elim {C = bytes_eq n v ≡ false} (λ y. absurd (h 0 (omega arith) ((bytes_eq-Decides n v).0 y))) (λ y. y) (cases_Bool (bytes_eq n v)))
    (given_not v ns (λ i l e. h (suc i) (omega arith) e))

pub apart_push : (v : List ℕ) (names : List (List ℕ)) → Apart names → given v names ≡ false → Apart (names ++ v ∷ [])
apart_push v names a g i j l h e = grind (arith, length_push, get_or_append_left, not_given, get_or_push)

pub apart_here : (v : List ℕ) (names more : List (List ℕ)) → Apart (names ++ v ∷ more) → given v names ≡ false
apart_here v names more a =
    given_not v names (λ i l e.
    a i (length names) l (omega (arith, length-append names (v ∷ more)))
    (get_or_append_left names (v ∷ more) [] i l ∙ e ∙ sym (get_or_at names v more [] (length names) refl)))
