-- How large a cost can be, what it depends on, and that there is one best placement. Assumes nothing.
use Rattle.std.proofs.Common.{◌≡◌, ℕ, ◌+◌, ◌-◌, ◌*◌, ◌^◌, ◌<◌, ◌≤◌, ◌↔◌, Bool, IsTrue, true, false, nat_lt, nat_le, ◌⊎◌, List, [], ◌∷◌, length, slice_index, All, sum_by, sym, ap, ◌∙◌, mul_comm, mul-add, arith}
use Rattle.std.proofs.lemmas.Nat.{mul-le}
use Rattle.std.proofs.lemmas.List.{get_or-take}
use Rattle.std.proofs.lemmas.List.Elements.{All-head, All-tail, All-weaker}
use Rattle.std.proofs.lemmas.List.Sums.{sum_by-cons, sum_by-le}
use Rattle.std.proofs.lemmas.Bool.{cond_both, cond-true, le-leb, le-ltb, leb-false, leb-true}
use Rattle.std.proofs.lemmas.Bool.Decides.{Decides-like, Decides-ltb, same_from_decides}
use Rattle.sheet.specs.Books.{Book, Known, TrueCount, max_rows}
use Rattle.sheet.specs.Rows.{max_count}
use Rattle.sheet.specs.Sheets.{book_of}
use Rattle.sheet.specs.declared.row.Row.{Row}
use Rattle.sheet.specs.declared.sheet.Sheet.{Sheet}
use Rattle.charge.specs.Charges.{Fair, charge_at, max_charge, max_distance, plain}
use Rattle.charge.specs.Costs.{Levels, Placement, cost, listed, row_cost}
use Rattle.charge.specs.Laws.{BestUnique, CostBounded, EqualLevelsCost, OthersIgnored, PlacedDecides, PlainIsAgony, RestIgnored}
use Rattle.charge.specs.Prices.{placed}
use Rattle.charge.proofs.Below.{list_all_below, tells}
use Rattle.charge.proofs.Rising.{charge_small, formula_at}

pub row_cost_small : (p : List ℕ) → Fair p → (l : Levels) (r : Row) → r.count ≤ max_count → row_cost p l r ≤ max_count * max_charge
row_cost_small p fair l r small =
    cond_both (nat_le (l r.second) (l r.first)) _ 0 (λ c. c ≤ max_count * max_charge)
    (λ _. mul-le r.count (charge_at p (l r.first - l r.second)) max_count max_charge small (charge_small p fair _))
    (λ _. omega arith)

pub placed_decides : PlacedDecides
placed_decides b l = list_all_below b.n (λ v. nat_lt (l v) b.k) (λ v. l v < b.k) (λ v. Decides-ltb (l v) b.k)

-- another test that decides the same has the same answer
pub placed_is : (b : Book) (l : Levels) (r : Bool) → (IsTrue r ↔ Placement b l) → placed b l ≡ r
placed_is b l r h = same_from_decides (placed b l) r (placed_decides b l) h

-- sums of which each term of one is c times that of the other
scaled : {X : Type 0} (f g : X → ℕ) (c : ℕ) (xs : List X) → All (λ x. f x ≡ c * g x) xs → sum_by f xs ≡ c * sum_by g xs
scaled f g c [] h = omega arith
scaled f g c (x ∷ xs) h =
    let here = All-head (λ x. f x ≡ c * g x) x xs h in
    let rest = scaled f g c xs (All-tail (λ x. f x ≡ c * g x) x xs h) in
    omega (arith, sum_by-cons f x xs, sum_by-cons g x xs, mul-add c (g x) (sum_by g xs), ap (λ s. c * s) (sum_by-cons g x xs))

-- sums of which each term is the same
same_sum : {X : Type 0} (f g : X → ℕ) (xs : List X) → All (λ x. f x ≡ g x) xs → sum_by f xs ≡ sum_by g xs
same_sum f g xs same = omega (arith, scaled f g 1 xs (All-weaker (λ x. f x ≡ g x) (λ x. f x ≡ 1 * g x) (λ x e. omega arith) xs same))

pub others_ignored : OthersIgnored
others_ignored b p l m known same =
    same_sum (row_cost p l) (row_cost p m) b.rows
    (All-weaker (Known b.n) (λ r. row_cost p l r ≡ row_cost p m r) (λ r k. let first = same r.first k.0 in let second = same r.second k.1 in cc) b.rows known)

pub rest_ignored : RestIgnored
rest_ignored b p ls ms known long long' e =
    let same : (v : ℕ) → v < b.n → listed ls v ≡ listed ms v =
    λ v h. sym (get_or-take b.n ls v 0 h) ∙ ap (λ xs. slice_index xs v) e ∙ get_or-take b.n ms v 0 h in
    let places : placed b (listed ls) ≡ placed b (listed ms) =
    placed_is b (listed ls) (placed b (listed ms))
    (Decides-like (placed b (listed ms)) (λ low v h. omega (arith, same v h, low v h)) (λ low v h. omega (arith, same v h, low v h)) (placed_decides b (listed ms))) in
    let costs = others_ignored b p (listed ls) (listed ms) known same in
    let short = le-ltb (length ls) b.n long in
    let short' = le-ltb (length ms) b.n long' in
    cc

pub plain_is_agony : PlainIsAgony
plain_is_agony b l sound low =
    let short : Row → ℕ = λ r. (l r.first + 1) - l r.second in
    same_sum (row_cost plain l) (λ r. r.count * short r) b.rows
    (All-weaker (Known b.n) (λ r. row_cost plain l r ≡ r.count * short r)
    (λ r k.
    let d = l r.first - l r.second in
    let near : d ≤ max_distance = omega (arith, low r.first k.0, sound.limit.1) in
    cond_both (nat_le (l r.second) (l r.first)) (r.count * charge_at plain d) 0 (λ c. c ≡ r.count * short r)
    (λ t.
    let e : charge_at plain d ≡ short r = omega (arith, formula_at (λ x. x + 1) d near, leb-true (l r.second) (l r.first) t) in
    ap (λ x. r.count * x) e)
    (λ t.
    let e : short r ≡ 0 = omega (arith, leb-false (l r.second) (l r.first) t) in
    omega (arith, ap (λ x. r.count * x) e)))
    b.rows sound.known)

pub equal_levels_cost : EqualLevelsCost
equal_levels_cost b p l x known same =
    scaled (row_cost p l) (λ r. r.count) (charge_at p 0) b.rows
    (All-weaker (Known b.n) (λ r. row_cost p l r ≡ charge_at p 0 * r.count)
    (λ r k.
    let first = same r.first k.0 in
    let second = same r.second k.1 in
    let level : l r.first - l r.second ≡ 0 = omega arith in
    cond-true (nat_le (l r.second) (l r.first)) _ 0 (le-leb _ _ (omega arith)) ∙ ap (λ d. r.count * charge_at p d) level ∙ mul_comm r.count (charge_at p 0))
    b.rows known)

pub cost_bounded : CostBounded
cost_bounded b p l sound fair =
    let all = All-weaker TrueCount (λ r. row_cost p l r ≤ max_count * max_charge) (λ r t. row_cost_small p fair l r t.1) b.rows sound.counts in
    omega (arith, sum_by-le (row_cost p l) (max_count * max_charge) b.rows all, mul-le (length b.rows) (max_count * max_charge) max_rows (max_count * max_charge) sound.fit (omega arith))

-- the test of a buffer with what it tells, for `grind`
pub placed_tells : (s : Sheet) (ls : List ℕ) → ((placed (book_of s) (listed ls) ≡ true) × Placement (book_of s) (listed ls)) ⊎ ((placed (book_of s) (listed ls) ≡ false) × ¬ Placement (book_of s) (listed ls))
placed_tells s ls = tells (placed (book_of s) (listed ls)) (placed_decides (book_of s) (listed ls))

pub cost_fits : (s : Sheet) (p : List ℕ) (l : Levels) → Fair p → cost (book_of s) p l < 2 ^ 32
cost_fits s p l fair = omega (arith, cost_bounded (book_of s) p l s.sound fair)

pub best_unique : BestUnique
best_unique b p l m one two v h =
    let same : cost b p m ≡ cost b p l = omega (arith, one.cheapest m two.placed, two.cheapest l one.placed) in
    omega (arith, one.least m two.placed same v h, two.least l one.placed (sym same) v h)
