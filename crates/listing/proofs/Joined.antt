-- Texts that are put one behind the other are one text, and a text that is put at the front is written. Assumes nothing.
use Rattle.std.proofs.Common.{◌≡◌, ℕ, List, ◌++◌, length, take, drop, Ok, sym, ap, ◌∙◌, subst, append_assoc, arith, length-append, length-drop}
use Rattle.std.proofs.lemmas.List.{length-take-le, take_at, drop_at, drop-drop}
use Rattle.std.proofs.lemmas.Bool.Decides.{nat_tests}
use Rattle.listing.specs.Puts.{Puts}
use Rattle.listing.specs.Writes.{Writes}

module _ {s t : List ℕ} {at m r : ℕ} {b x y : List ℕ} (one : Puts s at b m x) (two : Puts t m x r y) where
  -- what the first leaves up to its end
  front : List ℕ
  front = take at b ++ s

  front_long : length front ≡ m
  unfolding front
  front_long = omega (arith, length-append (take at b) s, length-take-le at b (omega (arith, one.next, one.within)), one.next)

  parts : x ≡ front ++ drop m b
  unfolding front
  parts = one.left ∙ sym (append_assoc (take at b) s (drop m b))

  same_long : length x ≡ length b
  same_long = omega (arith, ap length parts, length-append front (drop m b), length-drop m b, front_long, one.within)

  front_is : take m x ≡ front
  front_is = ap (take m) parts ∙ take_at front (drop m b) m front_long

  rest_is : drop r x ≡ drop r b
  rest_is =
      let k = length t in
      let behind : (l : List ℕ) → drop r l ≡ drop k (drop m l) = λ l. ap (λ n. drop n l) two.next ∙ sym (drop-drop k m l) in
      behind x ∙ ap (drop k) (ap (drop m) parts ∙ drop_at front (drop m b) m front_long) ∙ sym (behind b)

  pub joined : Puts (s ++ t) at b r y
  unfolding front
  joined = record {
    next = omega (arith, length-append s t, one.next, two.next);
    within = omega (arith, two.within, same_long);
    left = two.left ∙ ap (λ l. l ++ (t ++ drop r x)) front_is ∙ ap (λ l. (take at b ++ s) ++ (t ++ l)) rest_is ∙ simp append_assoc;
  }

pub same_text : {s t : List ℕ} {at r : ℕ} {b y : List ℕ} → s ≡ t → Puts s at b r y → Puts t at b r y
same_text {at = at} {r = r} {b = b} {y = y} e p = subst (λ l. Puts l at b r y) e p

pub written_whole : {text before after : List ℕ} {r : ℕ} → Puts text 0 before r after → Writes text before (Ok r) after
written_whole {text = text} {before = before} {after = after} {r = r} p =
    let long : r ≡ length text = omega (arith, p.next) in
    record {
      answered = grind (arith, nat_tests, p.within);
      written = p.left ∙ ap (λ n. text ++ drop n before) long;
      kept = tt;
    }
