-- What a field leads to. Assumes nothing.
use Rattle.std.proofs.Common.{◌≡◌, ℕ, ◌≤◌, List, arith}
use Rattle.std.proofs.lemmas.Bool.Decides.{nat_tests}
use Rattle.image_format.specs.Images.{Kind, State, start, naming, noting, step}
use Rattle.image.specs.Readings.{behind, note_told}

-- behind the names
pub step_behind : {S : Type 0} (K : Kind S) → 3 ≤ K.tag → (s : State S) (t : ℕ) (v : List ℕ) → t ≡ K.tag → note_told K (behind s) v ≡ step K s t v
step_behind K three (start u) t v same = grind (arith, nat_tests)
step_behind K three (naming u k names) t v same = grind (arith, nat_tests)
step_behind K three (noting u b m) t v same = grind (arith, nat_tests)
