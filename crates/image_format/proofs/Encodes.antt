-- Fields with the shape of an accepted image run through. Assumes nothing.
use Rattle.std.proofs.Common.{◌≡◌, ℕ, ◌+◌, ◌<◌, ◌≤◌, true, false, eqb, ltb, List, [], ◌∷◌, ◌++◌, map, length, All, Ok, sym, refl, ap, ◌∙◌, subst, arith, rules}
use Rattle.std.proofs.lemmas.List.Elements.{All-head, All-tail}
use Rattle.std.proofs.lemmas.List.{append_assoc, length-append}
use Rattle.std.proofs.lemmas.Bool.{cond-true, cond-false, lt-ltb, ne_eqb}
use Rattle.std.proofs.lemmas.Bool.Decides.{nat_tests}
use Rattle.sheet.specs.Books.{Book, max_alarms, max_limit}
use Rattle.sheet.specs.Causes.{beyond}
use Rattle.image_format.specs.Fields.{Field}
use Rattle.image_format.specs.Names.{Name, Apart, given}
use Rattle.image_format.specs.Images.{Kind, State, start, naming, noting, Described, in_order, fits, noted, opened, step, describes, finished}
use Rattle.image_format.specs.Contents.{limit_field, name_field}
use Rattle.image_format.proofs.Rules.{printable_all, apart_here}
use Rattle.image_format.proofs.Shapes.{value_field, Fed, Shaped}
use Rattle.image_format.proofs.Whole.{runs}
use Rattle.image_format.proofs.Accepts.{cons_run, step_taken}

module _ {S : Type 0} (K : Kind S) (three : 3 ≤ K.tag) where
  name_taken : (u : S) (k : ℕ) (names : List (List ℕ)) (v : List ℕ) → Name v → length names < max_alarms → given v names ≡ false → step K (naming u k names) 2 v ≡ Ok (naming u k (names ++ v ∷ []))
  name_taken u k names v name room new = grind (arith, nat_tests, step_taken, printable_all)

  names_taken : (rest : List Field) (last : State S) (u : S) (k : ℕ) (more names : List (List ℕ)) → length (names ++ more) ≤ max_alarms → All Name more → Apart (names ++ more) → runs K (naming u k (names ++ more)) rest ≡ Ok last → runs K (naming u k names) (map name_field more ++ rest) ≡ Ok last
  names_taken rest last u k [] names few good apart h = search rules
  names_taken rest last u k (v ∷ more) names few good apart h =
      let e = append_assoc names (v ∷ []) more in
      cons_run K three (naming u k names) (naming u k (names ++ v ∷ [])) last (name_field v) (map name_field more ++ rest)
      (name_taken u k names v (All-head Name v more good) (omega (arith, length-append names (v ∷ more))) (apart_here v names more apart))
      (names_taken rest last u k more (names ++ v ∷ []) (omega (arith, ap length e)) (All-tail Name v more good) (subst Apart (sym e) apart) (ap (λ ns. runs K (naming u k ns) rest) e ∙ h))

  fits_own : (n : ℕ) → n ≡ K.size → fits K K.tag n ≡ true
  fits_own n h = grind (arith, nat_tests)

  value_taken : (u : S) (b : Book) (p : S × Book) (m : ℕ) (v : List ℕ) → length v ≡ K.size → K.taken u b v ≡ Ok p → step K (noting u b m) K.tag v ≡ Ok (noting p.0 p.1 (m + 1))
  value_taken u b p m v f h = grind (arith, nat_tests)

  -- the values in turn, and what is then kept
  values_taken : (vs : List (List ℕ)) (u : S) (b b' : Book) (m : ℕ) → Fed K u b vs b' → (w : S) × (runs K (noting u b m) (map (value_field K) vs) ≡ Ok (noting w b' (m + length vs)))
  values_taken [] u b b' m h = let z : m ≡ m + 0 = omega arith in (u, ap (λ x. Ok (noting u x m)) h ∙ ap (λ x. Ok (noting u b' x)) z)
  values_taken (v ∷ vs) u b b' m h =
      let z : m + 1 + length vs ≡ m + length (v ∷ vs) = omega arith in
      let p = h.1.0 in
      let next = values_taken vs p.0 p.1 b' (m + 1) h.1.2 in (
        next.0,
        cons_run K three (noting u b m) (noting p.0 p.1 (m + 1)) (noting next.0 b' (m + length (v ∷ vs))) (value_field K v) (map (value_field K) vs) (value_taken u b p m v h.0 h.1.1)
            (next.1 ∙ ap (λ x. Ok (noting next.0 b' x)) z),
      )

  -- where the names end, the values go on from the book of the sheet just opened
  after_names : (u : S) (k : ℕ) (names : List (List ℕ)) → 1 ≤ length names → (vs : List (List ℕ)) (b : Book) → Fed K u (opened (length names) k) vs b
      → (last : State S) × (runs K (naming u k names) (map (value_field K) vs) ≡ Ok last) × ((q : ℕ) → finished last q ≡ describes b (length vs))
  after_names u k names some [] b h =
      (naming u k names, refl, λ q. cond-true (ltb 0 (length names)) _ _ (lt-ltb _ _ some) ∙ ap (λ x. describes x 0) h)
  after_names u k names some (v ∷ vs) b h =
      let o : in_order K (naming u k names) K.tag ≡ true = grind (arith, nat_tests) in
      let p = h.1.0 in
      let first : step K (naming u k names) K.tag v ≡ Ok (noting p.0 p.1 1) =
      step_taken K three (naming u k names) K.tag v o (fits_own (length v) h.0)
      ∙ cond-false (eqb K.tag 2) _ _ (ne_eqb _ _ (λ x. omega arith)) ∙ ap (noted 0) h.1.1 in
      let z : 1 + length vs ≡ length (v ∷ vs) = omega arith in
      let next = values_taken vs p.0 p.1 b 1 h.1.2 in (
        noting next.0 b (length (v ∷ vs)),
        cons_run K three (naming u k names) (noting p.0 p.1 1) (noting next.0 b (length (v ∷ vs))) (value_field K v) (map (value_field K) vs) first
            (next.1 ∙ ap (λ x. Ok (noting next.0 b x)) z),
        λ q. refl,
      )

  pub run_through : (u : S) (fs : List Field) (x : Described) → Shaped K u fs x → (last : State S) × (runs K (start u) fs ≡ Ok last) × ((q : ℕ) → finished last q ≡ Ok x)
  run_through u fs x h =
      let k = h.limit in let names = h.names in let vs = h.values in
      let tail = after_names u k names h.some vs x.book h.fed in
      let first : step K (start u) 1 (k ∷ []) ≡ Ok (naming u k []) = cond-false (beyond max_limit k) _ _ (grind (arith, nat_tests, h.low, h.high)) in
      let run = cons_run K three (start u) (naming u k []) tail.0 (limit_field k) (map name_field names ++ map (value_field K) vs) first
      (names_taken (map (value_field K) vs) tail.0 u k names [] h.good.0 h.good.1 h.good.2 tail.1) in
      (tail.0, ap (runs K (start u)) h.same ∙ run, λ q. tail.2 q ∙ ap (describes x.book) h.count)
