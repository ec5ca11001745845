-- A walk along the holders of a dictionary, which tells their objects.
use Rattle.vc_base.proofs.Common.{◌≡◌, ℕ, ◌<◌, true, List, [], ◌∷◌, ◌++◌, map, length, Some, None, Option, sym, refl, ap, ◌∙◌, subst, append_assoc, append-nil, arith, length-append, length-map, map-append, none-some, same_Some, Blocks, AreDistinct, contains, first_in, next_in}
use Rattle.vc_base.proofs.Members.{first-apart, next_in-split, within-head, within-rest}
use Rattle.vc_dtdisc.specs.Finds.{object_at}
use Rattle.vc_dtdisc.specs.Objects.{bytes_of}
use Rattle.vc_objects.specs.Parts.{object_of}

module _ (b : Blocks) (hs : List ℕ) where
  -- the objects of those in front are told, and the first of the others is next
  pub record Walked (next : Option ℕ) (items : List (List ℕ)) : Type 0 where
    pub front : List ℕ
    pub left : List ℕ
    pub split : hs ≡ front ++ left
    pub first : next ≡ first_in left
    pub told : items ≡ map (object_at b) front

  pub walked-start : (next : Option ℕ) (items : List (List ℕ)) → next ≡ first_in hs → items ≡ [] → Walked next items
  walked-start next items first none = record { front = []; left = hs; split = refl; first = first; told = none }

  -- this one is next
  pub record IsHere (x : ℕ) (items : List (List ℕ)) : Type 0 where
    pub front : List ℕ
    pub rest : List ℕ
    pub split : hs ≡ front ++ x ∷ rest
    pub told : items ≡ map (object_at b) front

  here-of : (x : ℕ) (items : List (List ℕ)) (front left : List ℕ) → hs ≡ front ++ left → Some x ≡ first_in left → items ≡ map (object_at b) front → IsHere x items
  here-of x items front [] split first told = absurd (none-some x (sym first))
  here-of x items front (y ∷ rest) split first told =
      record { front = front; rest = rest; split = split ∙ ap (λ z. front ++ z ∷ rest) (same_Some y x (sym first)); told = told }

  pub here : (x : ℕ) (items : List (List ℕ)) → Walked (Some x) items → IsHere x items
  here x items w = here-of x items w.front w.left w.split w.first w.told

  module _ (x : ℕ) (items : List (List ℕ)) (h : IsHere x items) where
    pub here-within : contains hs x ≡ true
    here-within = subst (λ z. contains z x ≡ true) (sym h.split) (within-rest h.front (x ∷ h.rest) x (within-head x h.rest))

    pub here-fewer : length items < length hs
    here-fewer =
        let told = ap length h.told ∙ length-map h.front (object_at b) in
        let all = ap length h.split ∙ length-append h.front (x ∷ h.rest) in
        omega (arith, told, all)

    -- it is told
    pub walked-next : (next : Option ℕ) (more : List (List ℕ)) → AreDistinct hs → next ≡ next_in x hs → more ≡ items ++ object_at b x ∷ [] → Walked next more
    walked-next next more distinct is put =
        let apart = first-apart h.front x h.rest (subst AreDistinct h.split distinct) in
        record {
          front = h.front ++ x ∷ [];
          left = h.rest;
          split = h.split ∙ sym (append_assoc h.front (x ∷ []) h.rest);
          first = is ∙ ap (next_in x) h.split ∙ next_in-split h.front x h.rest apart;
          told = put ∙ ap (λ z. z ++ object_at b x ∷ []) h.told ∙ sym (map-append (object_at b) h.front (x ∷ []));
        }

  none-left : (left : List ℕ) → None ≡ first_in left → left ≡ []
  none-left [] e = refl
  none-left (y ∷ ys) e = absurd (none-some y e)

  each-bytes : (xs : List ℕ) → map bytes_of (map (object_of b) xs) ≡ map (object_at b) xs
  each-bytes [] = refl
  each-bytes (x ∷ xs) = ap (λ z. object_at b x ∷ z) (each-bytes xs)

  -- at the end all are told
  pub walked-end : (items : List (List ℕ)) → Walked None items → items ≡ map bytes_of (map (object_of b) hs)
  walked-end items w =
      w.told
      ∙ ap (map (object_at b)) (sym (append-nil w.front) ∙ ap (λ z. w.front ++ z) (sym (none-left w.left w.first)) ∙ sym w.split)
      ∙ sym (each-bytes hs)
