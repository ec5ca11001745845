-- Fronts of what is written.
use Rattle.vc_base.proofs.Common.{◌≡◌, ℕ, ◌+◌, ◌<◌, List, ◌++◌, length, take, drop, get_or, IfSome, Some, None, Option, sym, refl, ap, ap₂, ◌∙◌, subst, inl, inr, arith, append_assoc, take_all, take_at, drop_at, take-add, take-append-le, take-append-drop, drop_more, cases_lt}
use Rattle.std.proofs.lemmas.Grind.{flat_map-append}
use Rattle.vc_seg.specs.Segment.{Bytes}
use Rattle.vc_image.specs.Save.{image_body}

-- a front of a list is one of a longer list
front-longer : (xs ys : List ℕ) (k : ℕ) → (n : ℕ) × (take k xs ≡ take n (xs ++ ys))
front-longer xs ys k = elim (cases_lt k (length xs)) as (λ _. (n : ℕ) × (take k xs ≡ take n (xs ++ ys))) [
  | inl lt ↦ (k, sym (take-append-le k xs ys (omega (arith, lt))))
  | inr ge ↦ (length xs, take_all k xs (omega (arith, ge)) ∙ sym (take_at xs ys (length xs) refl))
]

-- a list with a front of what is behind it
front-behind : (a xs : List ℕ) (k : ℕ) → a ++ take k xs ≡ take (length a + k) (a ++ xs)
front-behind a xs k =
    sym (take-add (length a) k (a ++ xs)
    ∙ ap₂ (λ (x y : List ℕ). x ++ y) (take_at a xs (length a) refl) (ap (take k) (drop_at a xs (length a) refl)))

-- a part is written, and then a front of the next one
pub front-written : (before now after : Option (List ℕ)) (a piece rest whole : List ℕ) → whole ≡ a ++ (piece ++ rest) → IfSome before (λ w. now ≡ Some (w ++ a)) → IfSome now (λ w. (k : ℕ) × (after ≡ Some (w ++ take k piece))) → IfSome before (λ w. (k : ℕ) × (after ≡ Some (w ++ take k whole)))
front-written None now after a piece rest whole e so_far one = tt
front-written (Some w) now after a piece rest whole e so_far one =
    let p : (k : ℕ) × (after ≡ Some ((w ++ a) ++ take k piece)) = subst (λ (o : Option (List ℕ)). IfSome o (λ v. (k : ℕ) × (after ≡ Some (v ++ take k piece)))) so_far one in
    let f = front-longer piece rest p.0 in (
      length a + f.0,
      p.1 ∙ ap (λ (z : List ℕ). Some ((w ++ a) ++ z)) f.1
          ∙ ap (λ (z : List ℕ). Some z) (append_assoc w a (take f.0 (piece ++ rest)) ∙ ap (λ (z : List ℕ). w ++ z) (front-behind a (piece ++ rest) f.0 ∙ ap (take (length a + f.0)) (sym e))),
    )

-- the first part alone
pub front-first : (before after : Option (List ℕ)) (piece rest : List ℕ) → IfSome before (λ w. (k : ℕ) × (after ≡ Some (w ++ take k piece))) → IfSome before (λ w. (k : ℕ) × (after ≡ Some (w ++ take k (piece ++ rest))))
front-first None after piece rest one = tt
front-first (Some w) after piece rest one = let f = front-longer piece rest one.0 in (f.0, one.1 ∙ ap (λ (z : List ℕ). Some (w ++ z)) f.1)

-- two parts, one after the other
pub both-written : (before now after : Option (List ℕ)) (a b : List ℕ) → IfSome before (λ w. now ≡ Some (w ++ a)) → IfSome now (λ w. after ≡ Some (w ++ b)) → IfSome before (λ w. after ≡ Some (w ++ (a ++ b)))
both-written None now after a b one two = tt
both-written (Some w) now after a b one two =
    let e : after ≡ Some ((w ++ a) ++ b) = subst (λ (o : Option (List ℕ)). IfSome o (λ v. after ≡ Some (v ++ b))) one two in
    e ∙ ap (λ (z : List ℕ). Some z) (append_assoc w a b)

-- the bytes of segments, with those of the one at a place
pub body-at : (segs : List Bytes) (i : ℕ) (s : Bytes) → i < length segs → image_body segs ≡ image_body (take i segs) ++ ((get_or segs i s).bytes ++ image_body (drop (i + 1) segs))
body-at segs i s lt =
    let f : Bytes → List ℕ = λ x. x.bytes in
    ap image_body (sym (take-append-drop i segs))
    ∙ flat_map-append f (take i segs) (drop i segs)
    ∙ ap (λ (z : List Bytes). image_body (take i segs) ++ image_body z) (drop_more segs i s lt)

-- all bytes of a segment
pub whole-bytes : (b : List ℕ) (n : ℕ) → n ≡ length b → take n (drop 0 b) ≡ b
whole-bytes b n e = take_all n b (omega (arith, e))
