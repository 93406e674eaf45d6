-- A refusal is for the first thing wrong, by the fields that stand before. Assumes nothing.
use Rattle.std.proofs.Common.{◌≡◌, ℕ, ◌+◌, ◌≤◌, List, [], ◌∷◌, ◌++◌, length, Ok, Err, Result, sym, refl, ap, ◌∙◌, subst, ⊎_elim, arith, rules}
use Rattle.std.proofs.lemmas.List.{append_assoc, append-nil, length-append, length_push}
use Rattle.std.proofs.lemmas.Bool.Decides.{nat_tests}
use Rattle.sheet.specs.Books.{Book}
use Rattle.sheet.proofs.Causes.{checked_free, checked_value}
use Rattle.image_format.specs.declared.fault.ImageCause.{ImageCause}
use Rattle.image_format.specs.declared.fault.ImageCause.TheVariants.{CutShort, NoName}
use Rattle.image_format.specs.declared.fault.ImageFault.{ImageFault}
use Rattle.image_format.specs.declared.kinds.Counts.{Counts}
use Rattle.image_format.specs.Counts.{counts, outcome}
use Rattle.image_format.specs.Fields.{Field, short, bytes_of, encoding, item, items, max_image}
use Rattle.image_format.specs.Images.{State, start, naming, noting, Described, finished, opened, read_on, refused_at, step}
use Rattle.image_format.specs.Refusals.{Fine, FineFrom, book_in, said_to, tagged}
use Rattle.image_format.proofs.Accepts.{NextName, naming_step, noting_step}
use Rattle.image_format.proofs.Places.{cons, not_before, same_err}
use Rattle.image_format.proofs.Reasons.{Naming, Told, book_more, book_opened, plainly, step_said, tagged_more, tagged_other}
use Rattle.image_format.proofs.Tellings.{next_accepted}
use Rattle.image_format.proofs.Items.{items_short}
use Rattle.image_format.proofs.Rules.{by_answer}
use Rattle.image_format.proofs.Whole.{items_cons, reads_on, refuses}

three : 3 ≤ counts.tag
three = omega arith

-- a note that is taken
told_note : (fs : List Field) (g : Field) (u : Counts) (b : Book) (m : ℕ) (s' : State Counts) → 1 ≤ length fs → 1 ≤ length (tagged 2 fs) → book_in fs ≡ b
    → step counts (noting u b m) g.tag g.value ≡ Ok s' → Told (fs ++ g ∷ []) s'
told_note fs g u b m s' some name book h = grind (arith, nat_tests, noting_step, checked_free, checked_value, length_push, tagged_other, tagged_more, book_more, next_accepted)

-- a name that is taken
told_name : (fs : List Field) (g : Field) (u : Counts) (k : ℕ) (names : List (List ℕ)) (s' : State Counts) → Naming fs k names → NextName counts three u k names g.tag g.value s' → Told (fs ++ g ∷ []) s'
told_name fs g u k names s' t n = grind (arith, tagged_other, length_push, tagged_more)

told_next : (fs : List Field) (s s' : State Counts) (g : Field) → Told fs s → step counts s g.tag g.value ≡ Ok s' → Told (fs ++ g ∷ []) s'
told_next fs (start u) s' g e h = grind (arith, nat_tests)
told_next fs (naming u k names) s' g t h =
    ⊎_elim {C = Told (fs ++ g ∷ []) s'}
    (λ n. told_name fs g u k names s' t n)
    (λ n. told_note fs g u (opened (length names) k) 0 s' t.some (omega (arith, n.0, ap length t.names_are)) (book_opened fs k names t n.0) n.1)
    (naming_step counts three u k names g.tag g.value s' h)
told_next fs (noting u b m) s' g t h = told_note fs g u b m s' t.some t.named t.book h

-- an answer without its value, told by the answer
said_ok : (fs : List Field) (s s' : State Counts) (g : Field) → Told fs s → step counts s g.tag g.value ≡ Ok s' → said_to fs g ≡ Ok tt
said_ok fs s s' g t e = search rules

said_err : (fs : List Field) (s : State Counts) (g : Field) (c : ImageCause) → Told fs s → step counts s g.tag g.value ≡ Err c → said_to fs g ≡ Err c
said_err fs s g c t e = sym (step_said fs s g t) ∙ ap plainly e

-- and the answer, told without its value
plainly_err : {X : Type 0} (r : Result X ImageCause) (c : ImageCause) → plainly r ≡ Err c → r ≡ Err c
plainly_err (Ok x) c e = absurd cc
plainly_err (Err d) c e = ap Err (same_err e)

plainly_ok : {X : Type 0} (r : Result X ImageCause) → plainly r ≡ Ok tt → (x : X) × (r ≡ Ok x)
plainly_ok (Ok x) e = (x, refl)
plainly_ok (Err d) e = absurd cc

module _ (g : Field) (rest : List ℕ) (c : ImageCause) where
  -- what is read from the fields on, and behind them from g on
  abbrev from : List Field → State Counts → ℕ → Result Described ImageFault
  from before s p = read_on counts s p (items 0 (encoding before ++ (bytes_of g ++ rest)))

  abbrev Reason : List Field → List Field → Type 0
  Reason done before = FineFrom done before × (said_to (done ++ before) g ≡ Err c)

  reason : (before done : List Field) (s : State Counts) (p : ℕ) → Told done s → from before s p ≡ refused_at c (p + length (encoding before)) → Reason done before
  reason [] done s p t h =
      let is = items 0 rest in
      let first = sym (ap (read_on counts s p) (items_cons g rest)) ∙ h in
      by_answer (step counts s g.tag g.value)
      (λ s' e. absurd (omega (arith, not_before counts is s' (p + (3 + length g.value)) (record { cause = c; place = p + 0 }) (sym (reads_on counts s p g.tag g.value is s' e) ∙ first))))
      (λ d e.
      let same : d ≡ c = ap (λ (f : ImageFault). f.cause) (same_err (sym (refuses counts s p g.tag g.value is d e) ∙ first)) in
      (tt, ap (λ fs. said_to fs g) (append-nil done) ∙ said_err done s g d t e ∙ ap Err same))
  reason (f ∷ before) done s p t h =
      let is = items 0 (encoding before ++ (bytes_of g ++ rest)) in
      let first = sym (cons counts f before (bytes_of g ++ rest) s p) ∙ h in
      let l = length-append (bytes_of f) (encoding before) in
      by_answer (step counts s f.tag f.value)
      (λ s' e.
      let n : p + length (encoding (f ∷ before)) ≡ p + (3 + length f.value) + length (encoding before) = omega arith in
      let r = reason before (done ++ f ∷ []) s' (p + (3 + length f.value)) (told_next done s s' f t e) (sym (reads_on counts s p f.tag f.value is s' e) ∙ first ∙ ap (refused_at c) n) in
      ((said_ok done s s' f t e, r.0), ap (λ fs. said_to fs g) (sym (append_assoc done (f ∷ []) before)) ∙ r.1))
      (λ d e. absurd (omega (arith, ap (λ (x : ImageFault). x.place) (same_err (sym (refuses counts s p f.tag f.value is d e) ∙ first)))))

-- fields in which nothing is wrong are read to their end
through_fine : (bs : List ℕ) (before done : List Field) (s : State Counts) (p : ℕ) → Told done s → FineFrom done before
    → (s' : State Counts) × Told (done ++ before) s' × (read_on counts s p (items 0 (encoding before ++ bs)) ≡ read_on counts s' (p + length (encoding before)) (items 0 bs))
through_fine bs [] done s p t f =
    let n : p ≡ p + 0 = omega arith in
    (s, subst (λ fs. Told fs s) (sym (append-nil done)) t, ap (λ q. read_on counts s q (items 0 bs)) n)
through_fine bs (f ∷ before) done s p t r =
    let x = plainly_ok (step counts s f.tag f.value) (step_said done s f t ∙ r.0) in
    let w = through_fine bs before (done ++ f ∷ []) x.0 (p + (3 + length f.value)) (told_next done s x.0 f t x.1) r.1 in
    let l = length-append (bytes_of f) (encoding before) in
    let n : p + (3 + length f.value) + length (encoding before) ≡ p + length (encoding (f ∷ before)) = omega arith in (
      w.0,
      subst (λ fs. Told fs w.0) (append_assoc done (f ∷ []) before) w.1,
      cons counts f before bs s p
          ∙ reads_on counts s p f.tag f.value (items 0 (encoding before ++ bs)) x.0 x.1
          ∙ w.2
          ∙ ap (λ q. read_on counts w.0 q (items 0 bs)) n,
    )

module _ (before : List Field) (bs : List ℕ) (few : length (encoding before ++ bs) ≤ max_image) where
  within : outcome (encoding before ++ bs) ≡ read_on counts (start (record {})) 0 (items 0 (encoding before ++ bs))
  within = grind (arith, nat_tests)

  -- what comes of the image, from the bytes behind the fields on
  behind : Fine before → (s : State Counts) × Told before s × (outcome (encoding before ++ bs) ≡ read_on counts s (length (encoding before)) (items 0 bs))
  behind fine =
      let w = through_fine bs before [] (start (record {})) 0 refl fine in
      let n : 0 + length (encoding before) ≡ length (encoding before) = omega arith in
      (w.0, w.1, within ∙ w.2 ∙ ap (λ q. read_on counts w.0 q (items 0 bs)) n)

  pub cut_refused : Fine before → 1 ≤ length bs → item bs ≡ short → outcome (encoding before ++ bs) ≡ refused_at CutShort (length (encoding before))
  cut_refused fine some cut = grind (arith, behind, items_short)

module _ (before : List Field) (g : Field) (rest : List ℕ) (c : ImageCause) (few : length (encoding before ++ (bytes_of g ++ rest)) ≤ max_image) where
  pub refused_for : outcome (encoding before ++ (bytes_of g ++ rest)) ≡ refused_at c (length (encoding before)) → Fine before × (said_to before g ≡ Err c)
  refused_for h =
      let n : length (encoding before) ≡ 0 + length (encoding before) = omega arith in
      reason g rest c before [] (start (record {})) 0 refl (sym (within before (bytes_of g ++ rest) few) ∙ h ∙ ap (refused_at c) n)

  pub wrong_refused : Fine before → said_to before g ≡ Err c → outcome (encoding before ++ (bytes_of g ++ rest)) ≡ refused_at c (length (encoding before))
  wrong_refused fine said =
      let w = behind before (bytes_of g ++ rest) few fine in
      let s = w.0 in let p = length (encoding before) in
      w.2
      ∙ ap (read_on counts s p) (items_cons g rest)
      ∙ refuses counts s p g.tag g.value (items 0 rest) c (plainly_err (step counts s g.tag g.value) c (step_said before s g w.1 ∙ said))

-- an end without a name
nameless : (fs : List Field) (s : State Counts) (p : ℕ) → Told fs s → tagged 2 fs ≡ [] → finished s p ≡ refused_at NoName p
nameless fs (start u) p t none = refl
nameless fs (naming u k names) p t none = cc
nameless fs (noting u b m) p t none = grind (arith, nat_tests)

pub nameless_refused : (before : List Field) → length (encoding before) ≤ max_image → Fine before → tagged 2 before ≡ [] → outcome (encoding before) ≡ refused_at NoName (length (encoding before))
nameless_refused before few fine none =
    let e = append-nil (encoding before) in
    let w = behind before [] (omega (arith, ap length e)) fine in
    ap outcome (sym e) ∙ w.2 ∙ nameless before w.0 (length (encoding before)) w.1 none
