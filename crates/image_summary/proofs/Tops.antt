-- All alarms on level 0, and what is told of a loaded image. Assumes nothing.
use Rattle.std.proofs.Common.{◌≡◌, ℕ, ◌≤◌, true, List, length, get_or, replicate, is_ok, Ok, Err, ◌↔◌, Option, Result, sym, ap, ◌∙◌, arith}
use Rattle.std.specs.Prelude.{IsOk}
use Rattle.std.specs.Result.{result_unwrap_or}
use Rattle.std.proofs.lemmas.Grind.{common_steps}
use Rattle.sheet.specs.Books.{Book, max_alarms}
use Rattle.sheet.specs.Causes.{checked, first_cause}
use Rattle.sheet.specs.declared.fault.Fault.{Fault}
use Rattle.charge.specs.Charges.{plain}
use Rattle.charge.specs.Costs.{cost, listed}
use Rattle.charge.specs.Prices.{priced, price_causes}
use Rattle.image_format.specs.declared.fault.ImageFault.{ImageFault}
use Rattle.image_format.specs.Contents.{described}
use Rattle.image.specs.Loads.{Loads}
use Rattle.image.proofs.Loads.{loaded, refused_is}
use Rattle.image.proofs.Namings.{described_alarms}
use Rattle.image_summary.specs.Summaries.{FitsTop, SumsUp, all_on_top, top_cost}

zero_at : (n v : ℕ) → get_or (replicate {A = ℕ} n 0) v 0 ≡ 0
zero_at n v = grind (arith, common_steps)

-- the value of a check that passed
passed : (r : Result ℕ Fault) (o : Option Fault) (x : ℕ) → is_ok r ≡ true → r ≡ checked o x → result_unwrap_or r 0 ≡ x
passed r o x ok e = grind arith

pub top_priced : (b : Book) (r : Result ℕ Fault) → 1 ≤ b.k → b.n ≤ max_alarms → r ≡ priced b plain all_on_top → (IsOk r ↔ FitsTop b) → result_unwrap_or r 0 ≡ top_cost b
top_priced b r some few e placed =
    let ok = placed.1 (few, λ v l. omega (arith, zero_at max_alarms v)) in
    passed r (first_cause (price_causes b all_on_top)) (cost b plain (listed all_on_top)) ok e ∙ ap (cost b plain) (λ i v. zero_at max_alarms v i)

-- a loaded image is summed up by its content
pub sums_up : (image : List ℕ) (b b' : Book) (r : Result ℕ ImageFault) → Loads image b r b' → (m : ℕ) → r ≡ Ok m
    → SumsUp image (Ok (record { alarms = b'.n; rows = length b'.rows; notes = m; cost = top_cost b' }))
sums_up image b b' r l m e = record {
  refused = λ f o. let w : ◌≡◌ {A = Result ℕ ImageFault} (Ok m) (Err f) = sym e ∙ refused_is image b b' r l f o in absurd cc;
  told = λ c h.
      let book = (loaded image b b' r l c h).0 in
      let same : ◌≡◌ {A = Result ℕ ImageFault} (Ok m) (Ok (length c.notes)) = sym e ∙ (loaded image b b' r l c h).1 in
      let n : m ≡ length c.notes = cc in
      ap (λ k. Ok (record { alarms = b'.n; rows = length b'.rows; notes = k; cost = top_cost b' })) n
      ∙ ap (λ (x : Book). Ok (record { alarms = x.n; rows = length x.rows; notes = length c.notes; cost = top_cost x })) book
      ∙ ap (λ k. Ok (record { alarms = k; rows = length (described c).rows; notes = length c.notes; cost = top_cost (described c) })) (described_alarms image c h);
}

pub sums_up_none : (image : List ℕ) (b b' : Book) (r : Result ℕ ImageFault) → Loads image b r b' → (f : ImageFault) → r ≡ Err f → SumsUp image (Err f)
sums_up_none image b b' r l f e = record {
  refused = λ g o. let w : ◌≡◌ {A = Result ℕ ImageFault} (Err f) (Err g) = sym e ∙ refused_is image b b' r l g o in cc;
  told = λ c h. absurd (l.refuses f e c h);
}
