-- A charge is small and never falls. Assumes nothing.
use Rattle.std.proofs.Common.{◌≡◌, ℕ, zero, suc, ◌+◌, ◌*◌, ◌<◌, ◌≤◌, min, List, slice_index, ap, ◌∙◌, ⊎_elim, arith}
use Rattle.std.proofs.lemmas.List.FromFn.{get_or-map-range_with_len}
use Rattle.std.proofs.lemmas.Nat.{mul-le}
use Rattle.std.proofs.lemmas.Bool.{cases_lt}
use Rattle.charge.specs.Charges.{Fair, by_formula, charge_at, distances, max_charge, max_distance}
use Rattle.charge.specs.Laws.{NonDecreasing}

pub charge_small : (p : List ℕ) → Fair p → (d : ℕ) → charge_at p d ≤ max_charge
charge_small p fair d = fair.small (min d 7) (omega arith)

pub product_small : (m n : ℕ) → m ≤ 8 → n ≤ 9 → m * n ≤ 72
product_small m n few some = mul-le m n 8 9 few some

-- up to 7 a charge answers its own entry, and from there on the last
pub within_row : (p : List ℕ) (d : ℕ) → d ≤ max_distance → charge_at p d ≡ slice_index p d
within_row p d h = let e : min d 7 ≡ d = omega arith in ap (λ i. slice_index p i) e

pub formula_at : (f : ℕ → ℕ) (d : ℕ) → d ≤ max_distance → charge_at (by_formula f) d ≡ f d
formula_at f d h = within_row (by_formula f) d h ∙ get_or-map-range_with_len f 0 distances d d 0 (omega arith) (omega arith)

past_row : (p : List ℕ) (d : ℕ) → 7 ≤ d → charge_at p d ≡ slice_index p 7
past_row p d h = let e : min d 7 ≡ 7 = omega arith in ap (λ i. slice_index p i) e

-- each step is at least p(0), since the steps grow and the first does
step_grows : (p : List ℕ) → Fair p → (d : ℕ) → d < 7 → slice_index p d + slice_index p 0 ≤ slice_index p (suc d)
step_grows p fair zero h = omega (arith, fair.convex.0)
step_grows p fair (suc d) h =
    let here : d + 1 ≡ suc d = omega arith in
    let there : d + 2 ≡ suc (suc d) = omega arith in
    omega (arith, step_grows p fair d (omega arith), fair.convex.1 d (omega arith), ap (λ i. slice_index p i) here, ap (λ i. slice_index p i) there)

one_further : (p : List ℕ) → Fair p → (d : ℕ) → charge_at p d ≤ charge_at p (suc d)
one_further p fair d =
    ⊎_elim (λ h. omega (arith, within_row p d (omega arith), within_row p (suc d) (omega arith), step_grows p fair d h))
    (λ h. omega (arith, past_row p d h, past_row p (suc d) (omega arith)))
    (cases_lt d 7)

pub non_decreasing : NonDecreasing
non_decreasing p fair zero zero h = omega arith
non_decreasing p fair (suc c) zero h = absurd (omega arith)
non_decreasing p fair c (suc d) h =
    ⊎_elim (λ l. omega (arith, non_decreasing p fair c d (omega arith), one_further p fair d)) (λ g. let e : c ≡ suc d = omega arith in omega (arith, ap (charge_at p) e)) (cases_lt c (suc d))
