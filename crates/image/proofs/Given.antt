-- Whether a name was given, by the slices that the names are kept as. Assumes nothing.
use Rattle.std.proofs.Common.{◌≡◌, List, ℕ, [], ◌∷◌, ◌||◌, map, Bor, refl, ap}
use Rattle.std.specs.List.{list_any}
use Rattle.image_format.specs.Names.{given, same_name}

pub given_map : (v : List ℕ) (names : List (Bor (List ℕ))) → given v (map (λ x. x.now) names) ≡ list_any (λ x. same_name x.now v) names
given_map v [] = refl
given_map v (n ∷ ns) = ap (λ t. same_name n.now v || t) (given_map v ns)
