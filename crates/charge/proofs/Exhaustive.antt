-- A small sheet's best placement, by trying every placement. Assumes nothing.
use Rattle.std.proofs.Common.{◌≡◌, ℕ, zero, suc, ◌<◌, ◌≤◌, ◌↔◌, Bool, true, IsTrue, ◌&&◌, ◌||◌, ◌==◌, nat_lt, nat_le, ◌⊎◌, List, [], ◌∷◌, map, length, All, ◌∙◌, subst, inl, inr, ⊎_elim, arith}
use Rattle.std.specs.List.{list_all, range_with_len}
use Rattle.std.proofs.lemmas.List.FromFn.{get_or-map-range_with_len, length-map-range_with_len}
use Rattle.std.proofs.lemmas.List.Elements.{All-from_get_or, All-head, All-tail}
use Rattle.std.proofs.lemmas.Bool.{and_parts, eqb-true}
use Rattle.std.proofs.lemmas.Bool.Decides.{Decides-and, Decides-eqb, Decides-ltb, Decides-or}
use Rattle.sheet.specs.Books.{AlarmsKnown, Book, new_book}
use Rattle.sheet.specs.Calls.{after}
use Rattle.sheet.proofs.BookLaws.{grown_sound}
use Rattle.charge.specs.Costs.{Levels, Placement, cost, listed}
use Rattle.charge.specs.Examples.{Gives, entry}
use Rattle.charge.specs.Prices.{placed}
use Rattle.charge.proofs.Below.{list_all_below, is_le}
use Rattle.charge.proofs.Costs.{others_ignored, placed_decides}

-- the test passes at every list of n levels below k
abbrev all_lists : ℕ → ℕ → (List ℕ → Bool) → Bool
all_lists zero k test = test []
all_lists (suc n) k test = list_all (λ x. all_lists n k (λ xs. test (x ∷ xs))) (range_with_len 0 k)

all_lists_at : (n k : ℕ) (test : List ℕ → Bool) → all_lists n k test ≡ true → (xs : List ℕ) → length xs ≡ n → All (λ x. x < k) xs → test xs ≡ true
all_lists_at zero k test h [] e low = h
all_lists_at zero k test h (x ∷ xs) e low = absurd (omega arith)
all_lists_at (suc n) k test h [] e low = absurd (omega arith)
all_lists_at (suc n) k test h (x ∷ xs) e low =
    let P : ℕ → Type 0 = λ y. all_lists n k (λ ys. test (y ∷ ys)) ≡ true in
    let each = list_all_below k (λ y. all_lists n k (λ ys. test (y ∷ ys))) P (λ y. ((λ t. t), (λ t. t))) in
    all_lists_at n k (λ ys. test (x ∷ ys)) (each.0 h x (All-head (λ y. y < k) x xs low)) xs (omega arith) (All-tail (λ y. y < k) x xs low)

-- the levels of n alarms as a list
abbrev cut : ℕ → Levels → List ℕ
cut n q = map q (range_with_len 0 n)

cut_at : (n : ℕ) (q : Levels) (v : ℕ) → v < n → listed (cut n q) v ≡ q v
cut_at n q v h = get_or-map-range_with_len q 0 n v v 0 h (omega arith)

-- ls costs less than ms, or the same and has no higher number at any alarm
abbrev no_better : Book → List ℕ → List ℕ → List ℕ → Bool
no_better b p ls ms =
    nat_lt (cost b p (listed ls)) (cost b p (listed ms))
    || (cost b p (listed ls) == cost b p (listed ms) && list_all (λ v. nat_le (listed ls v) (listed ms v)) (range_with_len 0 b.n))

abbrev NoBetter : Book → List ℕ → List ℕ → Levels → Type 0
NoBetter b p ls q = (cost b p (listed ls) < cost b p q) ⊎ ((cost b p (listed ls) ≡ cost b p q) × ((v : ℕ) → v < b.n → listed ls v ≤ q v))

no_better_decides : (b : Book) (p ls ms : List ℕ) → IsTrue (no_better b p ls ms) ↔ NoBetter b p ls (listed ms)
no_better_decides b p ls ms =
    Decides-or _ _ (Decides-ltb (cost b p (listed ls)) (cost b p (listed ms)))
    (Decides-and _ _ (Decides-eqb (cost b p (listed ls)) (cost b p (listed ms)))
    (list_all_below b.n (λ v. nat_le (listed ls v) (listed ms v)) (λ v. listed ls v ≤ listed ms v) (λ v. is_le (listed ls v) (listed ms v))))

-- the test that the levels ls are best and cost c
abbrev pub tried : Book → List ℕ → List ℕ → ℕ → Bool
tried b p ls c = placed b (listed ls) && (cost b p (listed ls) == c && all_lists b.n b.k (no_better b p ls))

module _ (b : Book) (p ls : List ℕ) (known : AlarmsKnown b) (every : all_lists b.n b.k (no_better b p ls) ≡ true) (q : Levels) (low : Placement b q) where
  passes : no_better b p ls (cut b.n q) ≡ true
  passes =
      all_lists_at b.n b.k (no_better b p ls) every (cut b.n q) (length-map-range_with_len q 0 b.n)
      (All-from_get_or (λ x. x < b.k) (cut b.n q) 0
      (λ v h. let l : v < b.n = omega (arith, length-map-range_with_len q 0 b.n) in omega (arith, cut_at b.n q v l, low v l)))

  same_cost : cost b p (listed (cut b.n q)) ≡ cost b p q
  same_cost = others_ignored b p (listed (cut b.n q)) q known (cut_at b.n q)

  beats : NoBetter b p ls q
  beats =
      ⊎_elim (λ h. inl (omega (arith, same_cost))) (λ h. inr (h.0 ∙ same_cost, λ v l. omega (arith, h.1 v l, cut_at b.n q v l)))
      ((no_better_decides b p ls (cut b.n q)).0 passes)

-- What passes the test is best. That the book was entered by calls gives that its rows name known alarms.
pub gives : (b : Book) (p ls : List ℕ) (c : ℕ) → after new_book (entry b) ≡ b → tried b p ls c ≡ true → Gives b p ls c
gives b p ls c entered t =
    let known = subst AlarmsKnown entered (grown_sound (entry b)).known in
    let one = and_parts (placed b (listed ls)) (cost b p (listed ls) == c && all_lists b.n b.k (no_better b p ls)) t in
    let two = and_parts (cost b p (listed ls) == c) (all_lists b.n b.k (no_better b p ls)) one.1 in
    let try = beats b p ls known two.1 in
    record {
      entered = entered;
      best = record {
        placed = (placed_decides b (listed ls)).0 one.0;
        cheapest = λ q low. ⊎_elim (λ h. omega arith) (λ h. omega (arith, h.0)) (try q low);
        least = λ q low same. ⊎_elim (λ h. absurd (omega arith)) (λ h. h.1) (try q low);
      };
      costs = eqb-true (cost b p (listed ls)) c two.0;
    }
