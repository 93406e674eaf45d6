-- An image that is read to its end is its fields, one behind another, and they run through. Assumes nothing.
use Rattle.std.proofs.Common.{◌≡◌, ℕ, zero, suc, ◌+◌, ◌*◌, ◌/◌, ◌%◌, ◌<◌, leb, List, [], ◌∷◌, ◌++◌, map, length, take, drop, Ok, Err, Result, sym, refl, ap, ◌∙◌, ⊎_elim, arith}
use Rattle.std.proofs.lemmas.List.{drop_all, take-append-drop, length-take, drop-drop, drop_at}
use Rattle.std.proofs.lemmas.Bool.{cond-true, cond-false, leb-true, cases_Bool}
use Rattle.std.proofs.lemmas.Grind.{common_steps}
use Rattle.std.proofs.lemmas.Bool.Decides.{nat_tests}
use Rattle.image_format.specs.declared.fault.ImageCause.{ImageCause}
use Rattle.image_format.specs.declared.fault.ImageFault.{ImageFault}
use Rattle.image_format.specs.Fields.{Field, Bytes, bytes_of, encoding, Item, whole, short, item, items, value_of}
use Rattle.image_format.specs.Images.{Kind, State, Described, step, refused_at, finished, read_on}
use Rattle.image_format.proofs.Items.{by_item, items_cut, items_first, items_skip}
use Rattle.image_format.proofs.Rules.{by_answer}

abbrev pub item_of : Field → Item
item_of f = whole f.tag f.value

pub high_byte : (h l : ℕ) → l < 256 → (h * 256 + l) / 256 ≡ h
high_byte h l b = omega arith

pub low_byte : (h l : ℕ) → l < 256 → (h * 256 + l) % 256 ≡ l
low_byte h l b = omega arith

tag_of : Item → ℕ
tag_of (whole t v) = t
tag_of short = 0

-- bytes that begin with a whole field are that field and the rest
pub item_bytes : (t : ℕ) (v bs : List ℕ) → Bytes bs → whole t v ≡ item bs → bs ≡ bytes_of (record { tag = t; value = v }) ++ drop (3 + length v) bs
unfolding tag_of
item_bytes t v [] b e = cc
item_bytes t v (a ∷ []) b e = cc
item_bytes t v (a ∷ h ∷ []) b e = grind (arith, nat_tests)
item_bytes t v (a ∷ h ∷ l ∷ bs) b e =
    ⊎_elim
    (λ y.
    let w = e ∙ cond-true (leb (3 + (h * 256 + l)) (length (a ∷ h ∷ l ∷ bs))) (whole a (take (h * 256 + l) bs)) short y in
    let long = leb-true _ _ y in
    let same : v ≡ take (h * 256 + l) bs = ap value_of w in
    let n : length v ≡ h * 256 + l = omega (arith, ap length same ∙ length-take (h * 256 + l) bs) in
    let e1 : t ≡ a = ap tag_of w in
    let e2 : length v / 256 ≡ h = ap (λ k. k / 256) n ∙ high_byte h l (b 2) in
    let e3 : length v % 256 ≡ l = ap (λ k. k % 256) n ∙ low_byte h l (b 2) in
    let e4 : v ++ drop (3 + length v) (a ∷ h ∷ l ∷ bs) ≡ bs =
    ap (λ d. v ++ d) (sym (drop-drop (length v) 3 (a ∷ h ∷ l ∷ bs)) ∙ ap (λ k. drop k bs) n) ∙ ap (λ u. u ++ drop (h * 256 + l) bs) same ∙ take-append-drop (h * 256 + l) bs in
    cc)
    (λ y.
    let w : whole t v ≡ short = e ∙ cond-false (leb (3 + (h * 256 + l)) (length (a ∷ h ∷ l ∷ bs))) _ _ y in
    absurd cc)
    (cases_Bool (leb (3 + (h * 256 + l)) (length (a ∷ h ∷ l ∷ bs))))

-- fields that stand one behind another are read as they are
pub whole_item : (t : ℕ) (v bs : List ℕ) → item (bytes_of (record { tag = t; value = v }) ++ bs) ≡ whole t v
whole_item t v bs = grind (arith, nat_tests, common_steps)

pub items_cons : (f : Field) (bs : List ℕ) → items 0 (bytes_of f ++ bs) ≡ item_of f ∷ items 0 bs
items_cons f bs = grind (arith, whole_item, items_skip, drop-drop, drop_at)

pub items_of : (fs : List Field) → items 0 (encoding fs) ≡ map item_of fs
items_of [] = refl
items_of (f ∷ fs) = items_cons f (encoding fs) ∙ ap (λ is. item_of f ∷ is) (items_of fs)

module _ {S : Type 0} (K : Kind S) where
  -- the fields in turn
  abbrev pub runs : State S → List Field → Result (State S) ImageCause
  runs s [] = Ok s
  runs s (f ∷ fs) = elim (step K s f.tag f.value) [ Ok s' ↦ runs s' fs | Err c ↦ Err c ]

  -- a field that is taken, in such a run and in a reading
  pub runs_on : (s s' : State S) (f : Field) (fs : List Field) → step K s f.tag f.value ≡ Ok s' → runs s (f ∷ fs) ≡ runs s' fs
  runs_on s s' f fs e = cc

  pub run_ends : (s : State S) (f : Field) (fs : List Field) (c : ImageCause) → step K s f.tag f.value ≡ Err c → runs s (f ∷ fs) ≡ Err c
  run_ends s f fs c e = cc

  module _ (s : State S) (p t : ℕ) (v : List ℕ) (is : List Item) where
    answer : Result (State S) ImageCause → Result Described ImageFault
    answer o = elim o [ Ok s' ↦ read_on K s' (p + (3 + length v)) is | Err c ↦ refused_at c p ]

    pub reads_on : (s' : State S) → step K s t v ≡ Ok s' → read_on K s p (whole t v ∷ is) ≡ read_on K s' (p + (3 + length v)) is
    unfolding answer
    reads_on s' e = ap answer e

    -- and one that is refused
    pub refuses : (c : ImageCause) → step K s t v ≡ Err c → read_on K s p (whole t v ∷ is) ≡ refused_at c p
    unfolding answer
    refuses c e = ap answer e

  -- the bytes are fields that run through, to an end that makes x
  pub record Through (s : State S) (bs : List ℕ) (x : Described) : Type 0 where
    pub fields : List Field
    pub bytes : bs ≡ encoding fields
    pub last : State S
    pub run : runs s fields ≡ Ok last
    pub place : ℕ
    pub ends : finished last place ≡ Ok x

  pub through : (x : Described) (bs : List ℕ) (skip : ℕ) (s : State S) (p : ℕ) → Bytes bs → read_on K s p (items skip bs) ≡ Ok x → Through s (drop skip bs) x
  through x [] skip s p small h = record { fields = []; bytes = drop_all skip [] (omega arith); last = s; run = refl; place = p; ends = h }
  through x (b ∷ bs) (suc k) s p small h = through x bs k s p (λ i. small (suc i)) h
  through x (b ∷ bs) zero s p small h =
      by_item (item (b ∷ bs))
      (λ t v e.
      let is = items (2 + length v) bs in
      let first = sym (ap (read_on K s p) (items_first b bs t v e)) ∙ h in
      by_answer (step K s t v)
      (λ s' w.
      let r = through x bs (2 + length v) s' (p + (3 + length v)) (λ i. small (suc i)) (sym (reads_on s p t v is s' w) ∙ first) in
      let f : Field = record { tag = t; value = v } in
      let n : 3 + length v ≡ suc (2 + length v) = omega arith in
      record {
        fields = f ∷ r.fields;
        bytes = item_bytes t v (b ∷ bs) small (sym e) ∙ ap (λ d. bytes_of f ++ d) (ap (λ k. drop k (b ∷ bs)) n ∙ r.bytes);
        last = r.last;
        run = runs_on s s' f r.fields w ∙ r.run;
        place = r.place;
        ends = r.ends;
      })
      (λ c w. let no = sym (refuses s p t v is c w) ∙ first in absurd cc))
      (λ e. let no = sym (ap (read_on K s p) (items_cut b bs e)) ∙ h in absurd cc)

  pub same_ok : {s u : State S} → ◌≡◌ {A = Result (State S) ImageCause} (Ok s) (Ok u) → s ≡ u
  same_ok e = cc

  pub read_run : (last : State S) (fs : List Field) (s : State S) (p : ℕ) → runs s fs ≡ Ok last → (q : ℕ) × (read_on K s p (map item_of fs) ≡ finished last q)
  read_run last [] s p h = (p, ap (λ u. finished u p) (same_ok h))
  read_run last (f ∷ fs) s p h =
      by_answer (step K s f.tag f.value)
      (λ s' w.
      let r = read_run last fs s' (p + (3 + length f.value)) (sym (runs_on s s' f fs w) ∙ h) in
      (r.0, reads_on s p f.tag f.value (map item_of fs) s' w ∙ r.1))
      (λ c w. let no = sym (run_ends s f fs c w) ∙ h in absurd cc)
