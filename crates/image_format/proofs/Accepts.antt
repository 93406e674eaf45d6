-- Fields that run through have the shape of an accepted image. Assumes nothing.
use Rattle.std.proofs.Common.{◌≡◌, ℕ, ◌+◌, ◌<◌, ◌≤◌, true, false, eqb, ltb, ◌⊎◌, List, [], ◌∷◌, ◌++◌, map, length, get_or, Ok, Err, Result, sym, refl, ap, ◌∙◌, ⊎_elim, arith, rules}
use Rattle.std.proofs.lemmas.List.{append-nil, append_assoc, length_push}
use Rattle.std.proofs.lemmas.List.Elements.{All-nil, All-push}
use Rattle.std.proofs.lemmas.Bool.{eqb-true, cond-true}
use Rattle.std.proofs.lemmas.Bool.Decides.{nat_tests}
use Rattle.std.proofs.lemmas.Grind.{common_steps}
use Rattle.sheet.specs.Books.{Book, max_alarms, max_limit}
use Rattle.sheet.specs.declared.fault.Fault.{Fault}
use Rattle.image_format.specs.Fields.{Field}
use Rattle.image_format.specs.Names.{Name, given}
use Rattle.image_format.specs.Images.{Kind, State, start, naming, noting, Described, in_order, fits, noted, opened, step, by_value, describes, finished}
use Rattle.image_format.specs.Contents.{limit_field, name_field}
use Rattle.image_format.proofs.Rules.{by_answer, apart_push}
use Rattle.image_format.proofs.Shapes.{Good, value_field, Fed, Shaped}
use Rattle.image_format.proofs.Whole.{runs, run_ends, runs_on, same_ok}

module _ {S : Type 0} (K : Kind S) (three : 3 ≤ K.tag) where
  -- a run of at least one field
  pub run_cons : (s last : State S) (f : Field) (fs : List Field) → runs K s (f ∷ fs) ≡ Ok last → (s' : State S) × (step K s f.tag f.value ≡ Ok s') × (runs K s' fs ≡ Ok last)
  run_cons s last f fs h =
      by_answer (step K s f.tag f.value) (λ s' e. (s', e, sym (runs_on K s s' f fs e) ∙ h)) (λ c e. let no = sym (run_ends K s f fs c e) ∙ h in absurd cc)

  pub cons_run : (s s' last : State S) (f : Field) (fs : List Field) → step K s f.tag f.value ≡ Ok s' → runs K s' fs ≡ Ok last → runs K s (f ∷ fs) ≡ Ok last
  cons_run s s' last f fs e h = runs_on K s s' f fs e ∙ h

  -- a field that is taken is in order, its length fits, and its value is taken
  pub step_parts : (s s' : State S) (t : ℕ) (v : List ℕ) → step K s t v ≡ Ok s' → (in_order K s t ≡ true) × (fits K t (length v) ≡ true) × (by_value K s t v ≡ Ok s')
  step_parts s s' t v h = grind (arith, nat_tests)

  pub step_taken : (s : State S) (t : ℕ) (v : List ℕ) → in_order K s t ≡ true → fits K t (length v) ≡ true → step K s t v ≡ by_value K s t v
  step_taken s t v o f = cc

  noted_left : (m : ℕ) (o : Result (S × Book) Fault) (s : State S) → noted m o ≡ Ok s → (p : S × Book) × (o ≡ Ok p) × (noting p.0 p.1 (m + 1) ≡ s)
  noted_left m (Err c) s h = absurd cc
  noted_left m (Ok p) s h = (p, refl, same_ok K h)

  pub fits_value : (t n : ℕ) → t ≡ K.tag → fits K t n ≡ eqb n K.size
  fits_value t n same = grind (arith, nat_tests)

  pub noting_step : (u : S) (b : Book) (m t : ℕ) (v : List ℕ) (s : State S) → step K (noting u b m) t v ≡ Ok s
      → (t ≡ K.tag) × (length v ≡ K.size) × ((p : S × Book) × (K.taken u b v ≡ Ok p) × (noting p.0 p.1 (m + 1) ≡ s))
  noting_step u b m t v s h =
      let p = step_parts (noting u b m) s t v h in
      let same = eqb-true t K.tag p.0 in
      (same, eqb-true (length v) K.size (sym (fits_value t (length v) same) ∙ p.1), noted_left m (K.taken u b v) s p.2)

  -- the fields behind the names
  record ValuesRun (u : S) (b : Book) (m : ℕ) (fs : List Field) (x : Described) : Type 0 where
    values : List (List ℕ)
    same : fs ≡ map (value_field K) values
    fed : Fed K u b values x.book
    count : m + length values ≡ x.fields

  values_run : (fs : List Field) (u : S) (b : Book) (m : ℕ) (last : State S) (q : ℕ) (x : Described) → runs K (noting u b m) fs ≡ Ok last → finished last q ≡ Ok x → ValuesRun u b m fs x
  values_run [] u b m last q x h e = grind (arith, nat_tests)
  values_run (f ∷ fs) u b m last q x h e =
      let r = run_cons (noting u b m) last f fs h in
      let n = noting_step u b m f.tag f.value r.0 r.1 in
      let p = n.2.0 in
      let next = values_run fs p.0 p.1 (m + 1) last q x (ap (λ s. runs K s fs) n.2.2 ∙ r.2) e in
      record {
        values = f.value ∷ next.values;
        same = ap (λ t. record { tag = t; value = f.value } ∷ fs) n.0 ∙ ap (λ w. value_field K f.value ∷ w) next.same;
        fed = (n.1, (p, n.2.1, next.fed));
        count = omega (arith, next.count);
      }

  good_push : (v : List ℕ) (names : List (List ℕ)) → Good names → Name v → length names < max_alarms → given v names ≡ false → Good (names ++ v ∷ [])
  good_push v names good name room new = search (rules, length_push, All-push, apart_push)

  abbrev pub NextName : S → ℕ → List (List ℕ) → ℕ → List ℕ → State S → Type 0
  NextName u k names t v s = (t ≡ 2) × Name v × (length names < max_alarms) × (given v names ≡ false) × (naming u k (names ++ v ∷ []) ≡ s)

  abbrev pub FirstValue : S → ℕ → List (List ℕ) → ℕ → List ℕ → State S → Type 0
  FirstValue u k names t v s = (1 ≤ length names) × (step K (noting u (opened (length names) k) 0) t v ≡ Ok s)

  pub naming_step : (u : S) (k : ℕ) (names : List (List ℕ)) (t : ℕ) (v : List ℕ) (s : State S) → step K (naming u k names) t v ≡ Ok s → NextName u k names t v s ⊎ FirstValue u k names t v s
  naming_step u k names t v s h = grind (arith, nat_tests, common_steps)

  -- the fields behind the limit, where some names are there already
  record NamesRun (u : S) (k : ℕ) (names : List (List ℕ)) (fs : List Field) (x : Described) : Type 0 where
    more : List (List ℕ)
    all : List (List ℕ)
    split : all ≡ names ++ more
    values : List (List ℕ)
    same : fs ≡ map name_field more ++ map (value_field K) values
    good : Good all
    some : 1 ≤ length all
    fed : Fed K u (opened (length all) k) values x.book
    count : length values ≡ x.fields

  from_values : (u : S) (k : ℕ) (names : List (List ℕ)) (fs : List Field) (x : Described) → Good names → 1 ≤ length names → ValuesRun u (opened (length names) k) 0 fs x → NamesRun u k names fs x
  from_values u k names fs x good some r =
      record { more = []; all = names; split = sym (append-nil names); values = r.values; same = r.same; good = good; some = some; fed = r.fed; count = omega (arith, r.count) }

  names_run : (fs : List Field) (u : S) (k : ℕ) (names : List (List ℕ)) (last : State S) (q : ℕ) (x : Described) → Good names → runs K (naming u k names) fs ≡ Ok last → finished last q ≡ Ok x → NamesRun u k names fs x
  names_run [] u k names last q x good h e =
      let w : finished (naming u k names) q ≡ Ok x = ap (λ s. finished s q) (same_ok K h) ∙ e in
      let g = named_end u k names q x w in
      let y : record { book = opened (length names) k; fields = 0 } ≡ x = let g1 = g.1 in cc in
      from_values u k names [] x good g.0 (record { values = []; same = refl; fed = ap (λ (z : Described). z.book) y; count = omega (arith, ap (λ (z : Described). z.fields) y) })
    where
      named_end : (u : S) (k : ℕ) (names : List (List ℕ)) (q : ℕ) (x : Described) → finished (naming u k names) q ≡ Ok x → (1 ≤ length names) × (describes (opened (length names) k) 0 ≡ Ok x)
      named_end u k [] q x h = absurd cc
      named_end u k (n ∷ ns) q x h = (omega arith, sym (cond-true (ltb 0 (length (n ∷ ns))) _ _ (grind (arith, nat_tests))) ∙ h)
  names_run (f ∷ fs) u k names last q x good h e =
      let r = run_cons (naming u k names) last f fs h in
      let t = f.tag in let v = f.value in
      ⊎_elim
      (λ n.
      let next = names_run fs u k (names ++ v ∷ []) last q x (good_push v names good n.1 n.2 n.3) (ap (λ s. runs K s fs) n.4 ∙ r.2) e in
      record {
        more = v ∷ next.more;
        all = next.all;
        split = next.split ∙ append_assoc names (v ∷ []) next.more;
        values = next.values;
        same = ap (λ u. record { tag = u; value = v } ∷ fs) n.0 ∙ ap (λ w. name_field v ∷ w) next.same;
        good = next.good;
        some = next.some;
        fed = next.fed;
        count = next.count;
      })
      (λ n. from_values u k names (f ∷ fs) x good n.0 (values_run (f ∷ fs) u (opened (length names) k) 0 last q x (cons_run (noting u (opened (length names) k) 0) r.0 last f fs n.1 r.2) e))
      (naming_step u k names t v r.0 r.1)

  pub limit_step : (u : S) (f : Field) (s : State S) → step K (start u) f.tag f.value ≡ Ok s → (f ≡ limit_field (get_or f.value 0 0)) × (1 ≤ get_or f.value 0 0) × (get_or f.value 0 0 ≤ max_limit) × (naming u (get_or f.value 0 0) [] ≡ s)
  limit_step u f s h = grind (arith, nat_tests, common_steps)

  pub shaped : (u : S) (fs : List Field) (last : State S) (q : ℕ) (x : Described) → runs K (start u) fs ≡ Ok last → finished last q ≡ Ok x → Shaped K u fs x
  shaped u [] last q x h e = cc
  shaped u (f ∷ fs) last q x h e =
      let r = run_cons (start u) last f fs h in
      let l = limit_step u f r.0 r.1 in
      let k = get_or f.value 0 0 in
      let n = names_run fs u k [] last q x (omega arith, All-nil Name, λ i j a b. absurd (omega arith)) (ap (λ s. runs K s fs) l.3 ∙ r.2) e in
      record {
        limit = k;
        names = n.all;
        values = n.values;
        same = ap (λ g. g ∷ fs) l.0 ∙ ap (λ w. limit_field k ∷ w) (n.same ∙ ap (λ ns. map name_field ns ++ map (value_field K) n.values) (sym n.split));
        low = l.1;
        high = l.2;
        some = n.some;
        good = n.good;
        fed = n.fed;
        count = n.count;
      }
