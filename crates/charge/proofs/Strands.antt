-- A charge is the sum of its strands: summation by parts, twice. Assumes nothing.
use Rattle.std.proofs.Common.{◌≡◌, ℕ, zero, suc, ◌+◌, ◌-◌, ◌*◌, ◌<◌, ◌≤◌, leb, List, slice_index, sym, ap, ◌∙◌, ⊎_elim, mul-add, arith}
use Rattle.std.proofs.lemmas.Bool.{cases_lt, cond-true, le-leb}
use Rattle.charge.specs.Charges.{charge_at, distances}
use Rattle.charge.specs.Laws.{DifferencesWhole, StrandsAddUp}
use Rattle.charge.specs.Strands.{back, second_difference}
use Rattle.charge.proofs.Below.{sum_below, sum_below_is}
use Rattle.charge.proofs.Rising.{within_row}

back_at : (p : List ℕ) (m i j : ℕ) → j + i ≡ m → back p m i ≡ charge_at p j
back_at p m i j e =
    let there : m - i ≡ j = omega arith in
    cond-true (leb i m) _ 0 (le-leb i m (omega arith)) ∙ ap (charge_at p) there

pub differences_whole : DifferencesWhole
differences_whole p fair zero h = omega arith
differences_whole p fair (suc zero) h = omega (arith, fair.convex.0)
differences_whole p fair (suc (suc j)) h =
    let one : j + 1 ≡ suc j = omega arith in
    let two : j + 2 ≡ suc (suc j) = omega arith in
    omega (
      arith,
      fair.convex.1 j (omega arith),
      back_at p (suc (suc j)) 1 (suc j) (omega arith),
      back_at p (suc (suc j)) 2 j (omega arith),
      within_row p j (omega arith),
      within_row p (suc j) (omega arith),
      within_row p (suc (suc j)) (omega arith),
      ap (λ i. slice_index p i) one,
      ap (λ i. slice_index p i) two,
    )

module _ (f s : ℕ → ℕ) (top : ℕ)
    (start : s 0 ≡ f 0)
    (next : s 1 + 2 * f 0 ≡ f 1)
    (rest : (j : ℕ) → j + 2 < top → s (suc (suc j)) + 2 * f (suc j) ≡ f (suc (suc j)) + f j) where
  -- the strands up to d add up to the step to f(d)
  step : (d : ℕ) → suc d < top → sum_below (suc (suc d)) s + f d ≡ f (suc d)
  step zero h = omega arith
  step (suc d) h = omega (arith, step d (omega arith), rest d (omega arith))

  -- one further, each strand below counts once more
  further : (d n : ℕ) → n ≤ suc (suc d) → sum_below n (λ j. s j * (suc (suc d) - j)) ≡ sum_below n (λ j. s j * (suc d - j)) + sum_below n s
  further d zero h = omega arith
  further d (suc n) h =
      let e : suc (suc d) - n ≡ (suc d - n) + 1 = omega arith in
      omega (arith, further d n (omega arith), ap (λ x. s n * x) e, mul-add (s n) (suc d - n) 1)

  -- strands above the distance do not count
  past : (d n : ℕ) → suc d ≤ n → sum_below n (λ j. s j * (suc d - j)) ≡ sum_below (suc d) (λ j. s j * (suc d - j))
  past d zero h = absurd (omega arith)
  past d (suc n) h =
      ⊎_elim (λ l. let e : suc d - n ≡ 0 = omega arith in omega (arith, past d n l, ap (λ x. s n * x) e))
      (λ g. let e : n ≡ d = omega arith in ap (λ m. sum_below (suc m) (λ j. s j * (suc d - j))) e)
      (cases_lt d n)

  adds_up : (d : ℕ) → d < top → sum_below (suc d) (λ j. s j * (suc d - j)) ≡ f d
  adds_up zero h = omega arith
  adds_up (suc d) h = omega (arith, further d (suc (suc d)) (omega arith), past d (suc (suc d)) (omega arith), adds_up d (omega arith), step d h)

pub strands_add_up : StrandsAddUp
strands_add_up p fair k d h few =
    let f = charge_at p in
    let s = second_difference p in
    let next : s 1 + 2 * f 0 ≡ f 1 = omega (arith, differences_whole p fair 1 (omega arith)) in
    let rest : (j : ℕ) → j + 2 < distances → s (suc (suc j)) + 2 * f (suc j) ≡ f (suc (suc j)) + f j =
    λ j l. omega (arith, differences_whole p fair (suc (suc j)) (omega arith), back_at p (suc (suc j)) 1 (suc j) (omega arith), back_at p (suc (suc j)) 2 j (omega arith)) in
    let one : suc d ≡ d + 1 = omega arith in
    sym (adds_up f s distances (omega arith) next rest d (omega arith)) ∙ sym (past f s distances (omega arith) next rest d k h)
    ∙ ap (λ m. sum_below k (λ j. s j * (m - j))) one ∙ sum_below_is k (λ j. s j * ((d + 1) - j))
