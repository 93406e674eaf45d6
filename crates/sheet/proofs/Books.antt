-- Every call keeps a sound book sound. Assumes nothing.
use Rattle.std.proofs.Common.{◌≡◌, ℕ, get_or, ◌+◌, ◌^◌, ◌<◌, ◌≤◌, Bool, if◌then◌else◌, All, sum_by, true, false, cond, not, List, [], ◌∷◌, ◌++◌, length, is_some, Some, None, Option, sym, refl, ap, ◌∙◌, subst, ⊎_elim, arith}
use Rattle.std.proofs.lemmas.List.{length-map, get_or-map, get_or_default, length_push}
use Rattle.std.proofs.lemmas.List.Elements.{All-filter, All-map, All-nil, All-push}
use Rattle.std.proofs.lemmas.List.Kept.{AllPairs-filter}
use Rattle.std.proofs.lemmas.List.Quantifiers.{all_pairs_push}
use Rattle.std.proofs.lemmas.List.Sums.{length-filter, count_by-le-length, sum_by-le}
use Rattle.std.proofs.lemmas.Bool.{cases_Bool, cases_order, cond_both, cond-false, cond-true, both_ways}
use Rattle.sheet.specs.Books.{Book, Known, PairsOnce, SamePair, Sound, TrueCount, new_book, row_at, with_rows}
use Rattle.sheet.specs.Calls.{Call, opens, notes, strikes, confines, accepted, after, count_causes, next, pair_causes, refusal, row_causes}
use Rattle.sheet.specs.Causes.{first_cause}
use Rattle.sheet.specs.Rows.{blank, is_of, lookup, noted, raise_at, raised, row, without}
use Rattle.sheet.specs.declared.fault.Fault.{Fault}
use Rattle.sheet.specs.declared.row.Row.{Row}
use Rattle.sheet.proofs.Causes.{append_ok, count_ok, first_cause_append, limit_ok, open_ok, pair_ok, raise_ok}
use Rattle.sheet.proofs.Rows.{Absent, Only, absent_from_lookup, is_of_from, is_of_parts, lookup_only}

-- The pair's row stands nowhere else.
pub only_here : (b : Book) (u v i : ℕ) → PairsOnce b → i < length b.rows → is_of u v (row_at b i) ≡ true → Only u v b.rows i
only_here b u v i once l y = record {
  within = l;
  here = y;
  others = λ k h ne.
      ⊎_elim
      (λ z.
      let p = is_of_parts u v (row_at b i) y in
      let q = is_of_parts u v (row_at b k) z in
      ⊎_elim (λ e. absurd (ne e)) (⊎_elim
      (λ lt. absurd (once k i blank lt l (q.0 ∙ sym p.0, q.1 ∙ sym p.1)))
      (λ gt. absurd (once i k blank gt h (p.0 ∙ sym q.0, p.1 ∙ sym q.1))))
      (cases_order k i))
      (λ z. z)
      (cases_Bool (is_of u v (row_at b k)));
}

-- Rows of the same pairs are as known and as different.
known_like : (n : ℕ) (r s : Row) → SamePair r s → Known n s → Known n r
known_like n r s p h = (omega (arith, p.0, h.0), omega (arith, p.1, h.1), λ e. h.2 (sym p.0 ∙ e ∙ p.1))

pair_like : (r r' s s' : Row) → SamePair r r' → SamePair s s' → SamePair r s → SamePair r' s'
pair_like r r' s s' p q e = (sym p.0 ∙ e.0 ∙ q.0, sym p.1 ∙ e.1 ∙ q.1)

-- what raising the pair's count makes of one row
abbrev raise_row : ℕ → ℕ → ℕ → Row → Row
raise_row u v c r = cond (is_of u v r) (raised c r) r

raise_row_pair : (u v c : ℕ) (r : Row) → SamePair (raise_row u v c r) r
raise_row_pair u v c r = cond_both (is_of u v r) (raised c r) r (λ s. SamePair s r) (λ _. (refl, refl)) (λ _. (refl, refl))

raised_row : (b : Book) (u v c i : ℕ) → i < length b.rows → row_at (with_rows b (raise_at u v c b.rows)) i ≡ raise_row u v c (row_at b i)
raised_row b u v c i h = get_or-map (raise_row u v c) b.rows i blank blank h

pub raised_pair : (b : Book) (u v c i : ℕ) → i < length b.rows → SamePair (row_at (with_rows b (raise_at u v c b.rows)) i) (row_at b i)
raised_pair b u v c i h = subst (λ r. SamePair r (row_at b i)) (sym (raised_row b u v c i h)) (raise_row_pair u v c (row_at b i))

sound_empty : (n k : ℕ) → (1 ≤ n) × (n ≤ 64) → (1 ≤ k) × (k ≤ 8) → Sound (record { n = n; k = k; rows = [] })
sound_empty n k p q = record {
  alarms = p;
  limit = q;
  fit = omega arith;
  known = All-nil (Known n);
  counts = All-nil TrueCount;
  once = λ i j d lt h same. absurd (omega arith);
}

module _ (b : Book) (sound : Sound b) where
  sound_raised : (u v c m : ℕ) → lookup u v b.rows ≡ Some m → m + c ≤ 32766 → Sound (with_rows b (raise_at u v c b.rows))
  sound_raised u v c m is small =
      let raise = raise_row u v c in
      let raised_rows = raise_at u v c b.rows in
      let long : length raised_rows ≡ length b.rows = length-map b.rows raise in
      record {
        alarms = sound.alarms;
        limit = sound.limit;
        fit = omega (arith, long, sound.fit);
        known = All-map (Known b.n) raise b.rows
            (λ k d h. let r = get_or b.rows k d in known_like b.n (raise r) r (raise_row_pair u v c r) (sound.known k d h));
        counts = All-map TrueCount raise b.rows (λ k d h.
            let r = get_or b.rows k d in
            let old = sound.counts k d h in
            cond_both (is_of u v r) (raised c r) r TrueCount
            (λ y.
            let here = get_or_default b.rows k d blank h in
            let e : m ≡ r.count =
            let q = lookup_only u v b.rows k (only_here b u v k sound.once h (subst (λ x. is_of u v x ≡ true) here y)) in
            let w = ap (λ (x : Row). x.count) here in cc in
            (omega (arith, old.0), omega arith))
            (λ _. old));
        once = λ i j d lt h same.
            let l : j < length b.rows = omega (arith, long) in
            let at : (k : ℕ) → k < length b.rows → SamePair (get_or raised_rows k d) (get_or b.rows k d) =
            λ k near. subst (λ r. SamePair r (get_or b.rows k d)) (sym (get_or-map raise b.rows k d d near)) (raise_row_pair u v c (get_or b.rows k d)) in
            sound.once i j d lt l (pair_like (get_or raised_rows i d) (get_or b.rows i d) (get_or raised_rows j d) (get_or b.rows j d) (at i (omega arith)) (at j l) same);
      }

  sound_appended : (r : Row) → Known b.n r → TrueCount r → Absent r.first r.second b.rows → length b.rows < 512
      → Sound (with_rows b (b.rows ++ r ∷ []))
  sound_appended r known counts none room = record {
    alarms = sound.alarms;
    limit = sound.limit;
    fit = omega (arith, length_push b.rows r);
    known = All-push (Known b.n) b.rows r sound.known known;
    counts = All-push TrueCount b.rows r sound.counts counts;
    once = all_pairs_push (λ x y. ¬ SamePair x y) b.rows r sound.once (λ k d h same.
        let p = subst (λ x. SamePair x r) (get_or_default b.rows k d blank h) same in
        both_ways (is_of r.first r.second (row_at b k)) (none k h) (is_of_from r.first r.second (row_at b k) p.0 p.1));
  }

  sound_without : (u v : ℕ) → Sound (with_rows b (without u v b.rows))
  sound_without u v =
      let p : Row → Bool = λ r. not (is_of u v r) in
      record {
        alarms = sound.alarms;
        limit = sound.limit;
        fit = omega (arith, length-filter p b.rows, count_by-le-length p b.rows, sound.fit);
        known = All-filter p (Known b.n) b.rows sound.known;
        counts = All-filter p TrueCount b.rows sound.counts;
        once = AllPairs-filter (λ x y. ¬ SamePair x y) p b.rows sound.once;
      }

  -- where no cause applies
  sound_noted : (u v c : ℕ) → (u < b.n) × (v < b.n) × (u ≡ v → ⊥) → (1 ≤ c) × (c ≤ 32766) → (o : Option ℕ) → lookup u v b.rows ≡ o
      → first_cause (row_causes (lookup u v b.rows) (length b.rows) c) ≡ None → Sound (with_rows b (noted u v c b.rows))
  sound_noted u v c pair count (Some m) is free =
      let e : is_some (lookup u v b.rows) ≡ true = ap is_some is in
      let small : m + c ≤ 32766 = raise_ok c m (length b.rows) (subst (λ o. first_cause (row_causes o (length b.rows) c) ≡ None) is free) in
      subst (λ rs. Sound (with_rows b rs)) (sym (cond-true (is_some (lookup u v b.rows)) _ _ e)) (sound_raised u v c m is small)
  sound_noted u v c pair count None is free =
      let e : is_some (lookup u v b.rows) ≡ false = ap is_some is in
      let room : length b.rows < 512 = append_ok c (length b.rows) (subst (λ o. first_cause (row_causes o (length b.rows) c) ≡ None) is free) in
      subst (λ rs. Sound (with_rows b rs)) (sym (cond-false (is_some (lookup u v b.rows)) _ _ e))
      (sound_appended (row u v c) pair count (absent_from_lookup u v b.rows is) room)

  sound_accepted : (c : Call) → refusal b c ≡ None → Sound (accepted b c)
  sound_accepted (opens n k) e = let r = open_ok b n k e in sound_empty n k r.0 r.1
  sound_accepted (notes u v c) e =
      let p = first_cause_append (pair_causes b u v) (count_causes c ++ row_causes (lookup u v b.rows) (length b.rows) c) e in
      let q = first_cause_append (count_causes c) (row_causes (lookup u v b.rows) (length b.rows) c) p.1 in
      sound_noted u v c (pair_ok b u v p.0) (count_ok c q.0) (lookup u v b.rows) refl q.1
  sound_accepted (strikes u v) e = sound_without u v
  sound_accepted (confines k) e = record { alarms = sound.alarms; limit = limit_ok k e; fit = sound.fit; known = sound.known; counts = sound.counts; once = sound.once }

  sound_unless : (c : Call) (o : Option Fault) → refusal b c ≡ o → Sound (cond (is_some o) b (accepted b c))
  sound_unless c None e = sound_accepted c e
  sound_unless c (Some f) e = sound

  pub sound_next : (c : Call) → Sound (next b c)
  sound_next c = sound_unless c (refusal b c) refl

pub sound_new : Sound new_book
sound_new = sound_empty 1 1 (omega arith, omega arith) (omega arith, omega arith)

pub sound_after : (b : Book) → Sound b → (cs : List Call) → Sound (after b cs)
sound_after b sound [] = sound
sound_after b sound (c ∷ cs) = sound_after (next b c) (sound_next b sound c) cs

-- A sum over the rows, to which each row adds its count or nothing, fits 32 bits.
pub counts_fit : (b : Book) → Sound b → (wanted : Row → Bool) → sum_by (λ r. if wanted r then r.count else 0) b.rows < 2 ^ 32
counts_fit b sound wanted =
    let each : All (λ (r : Row). (if wanted r then r.count else 0) ≤ 32766) b.rows =
    λ k d h.
    let r = get_or b.rows k d in
    cond_both (wanted r) r.count 0 (λ n. n ≤ 32766) (λ _. (sound.counts k d h).1) (λ _. omega arith) in
    omega (arith, sum_by-le (λ (r : Row). if wanted r then r.count else 0) 32766 b.rows each, sound.fit)
