-- What stands at the front of an array of rows after one of them is set, and after one is taken out. Assumes nothing.
use Rattle.std.proofs.Common.{◌≡◌, ℕ, ◌+◌, ◌-◌, ◌<◌, ◌≤◌, List, ◌++◌, length, get_or, take, drop, set, sym, ap, ◌∙◌, add-one, arith}
use lib.Seq.{paste, take-set-lt}
use Rattle.std.specs.List.{remove, between}
use Rattle.std.proofs.lemmas.List.{length-take-le, get_or-take, take-take, length-drop}
use Rattle.std.proofs.lemmas.List.Edits.{take-paste}
use Rattle.std.proofs.lemmas.Slice.{between_is}
use Rattle.sheet.specs.Rows.{blank}
use Rattle.sheet.specs.declared.row.Row.{Row}

-- the rows rs are the first n of the array xs, and i is the place of one of them
module _ (n : ℕ) (xs rs : List Row) (front : take n xs ≡ rs) (fits : n ≤ length xs) (i : ℕ) (here : i < length rs) where
  pub in_use : i < n
  in_use = omega (arith, length-take-le n xs fits, ap length front)

  pub row_here : get_or xs i blank ≡ get_or rs i blank
  row_here = sym (get_or-take n xs i blank in_use) ∙ ap (λ ys. get_or ys i blank) front

  pub front_set : (v : Row) → take n (set xs i v) ≡ set rs i v
  front_set v = take-set-lt n xs i v in_use ∙ ap (λ ys. set ys i v) front

  pub front_without : (ys : List Row) → ys ≡ paste xs i (drop (i + 1) xs) (n - (i + 1)) → take (n - 1) ys ≡ remove rs i
  front_without ys e =
      let used = in_use in
      let m = n - (i + 1) in
      let le : m ≤ length (drop (i + 1) xs) = simp length-drop (omega (arith, fits)) in
      let there : n - 1 ≡ i + m = omega (arith, used) in
      ap (λ k. take k ys) there ∙ ap (take (i + m)) e
      ∙ take-paste xs i (drop (i + 1) xs) m (omega (arith, used, fits)) le
      ∙ ap (λ zs. zs ++ between (i + 1) n xs) (sym (take-take i n xs (omega (arith, used))))
      ∙ ap (λ zs. take i (take n xs) ++ zs) (between_is xs (i + 1) n ∙ ap (λ k. drop k (take n xs)) (add-one i))
      ∙ ap (λ zs. remove zs i) front
