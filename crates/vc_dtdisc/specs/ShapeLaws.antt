-- The rules of each shape keep the laws of a kind.
use Rattle.std.proofs.Common.{◌≡◌, ℕ, ◌≤◌, List, IsTrue, refl, sym, ap, ◌∙◌, arith, map, take}
use Rattle.std.specs.Cmp.{IsTotalOrder}
use Rattle.std.specs.Ordering.{is_eq}
use Rattle.std.specs.declared.cmp.Ordering.TheVariants.{Equal}
use Rattle.std.proofs.lemmas.Cmp.{nat_list_cmp_total, on_total, back_total, tied_itself}
use Rattle.std.proofs.lemmas.Slice.Eq.{bytes_eq-Decides}
use Rattle.std.proofs.lemmas.Map.Text.{is_eq-slice_cmp}
use Rattle.std.proofs.lemmas.Bool.{leb-true}
use Rattle.std.proofs.lemmas.List.{length-take}
use Rattle.std.proofs.lemmas.Grind.{common_steps}
use Rattle.vc_dtdisc.specs.declared.shape.Shape.{Shape}
use Rattle.vc_dtdisc.specs.declared.shape.Shape.TheVariants.{Whole, Field, Text, Fold, Reverse, Clip}
use Rattle.vc_dtdisc.specs.Shapes.{BuiltInKind, is_shape, by_bytes, lower_case, hash_of, order_of, shape_hash, rules_of, key_in_shape, made_of}
use Rattle.vc_dtdisc.specs.Rules.{AreLawful, IsObject}

pub order-total : (shape : Shape) → IsTotalOrder (order_of shape)
order-total Whole = nat_list_cmp_total
order-total (Field off size) = nat_list_cmp_total
order-total (Text off) = nat_list_cmp_total
order-total Fold = on_total (map lower_case) nat_list_cmp_total
order-total Reverse = back_total nat_list_cmp_total
order-total (Clip n) = nat_list_cmp_total

-- lists that compare equal are equal
pub equal_lists : (a b : List ℕ) → by_bytes a b ≡ Equal → a ≡ b
equal_lists a b e = (bytes_eq-Decides a b).0 (sym (is_eq-slice_cmp a b) ∙ ap is_eq e)

pub equal_hashes : (shape : Shape) (a b : List ℕ) → order_of shape a b ≡ Equal → shape_hash shape a ≡ shape_hash shape b
equal_hashes Whole a b e = ap hash_of (equal_lists a b e)
equal_hashes (Field off size) a b e = ap hash_of (equal_lists a b e)
equal_hashes (Text off) a b e = ap hash_of (equal_lists a b e)
equal_hashes Fold a b e = ap hash_of (equal_lists (map lower_case a) (map lower_case b) e)
equal_hashes Reverse a b e = ap hash_of (sym (equal_lists b a e))
equal_hashes (Clip n) a b e = ap hash_of (equal_lists a b e)

take_again : (n : ℕ) (obj : List ℕ) → take n (take n obj) ≡ take n obj
take_again n obj = grind (arith, common_steps)

pub made_key : (shape : Shape) (obj : List ℕ) → key_in_shape shape (made_of shape obj) ≡ key_in_shape shape obj
made_key Whole obj = refl
made_key (Field off size) obj = refl
made_key (Text off) obj = refl
made_key Fold obj = refl
made_key Reverse obj = refl
made_key (Clip n) obj = take_again n obj

pub made-IsObject : (shape : Shape) → IsTrue (is_shape shape) → (obj : List ℕ) → IsObject obj → IsObject (made_of shape obj)
made-IsObject Whole legal obj o = o
made-IsObject (Field off size) legal obj o = o
made-IsObject (Text off) legal obj o = o
made-IsObject Fold legal obj o = o
made-IsObject Reverse legal obj o = o
made-IsObject (Clip n) legal obj o = let l : 1 ≤ n = leb-true 1 n legal in record {
  least = rw (length-take n obj) (omega arith);
  most = rw (length-take n obj) (omega arith);
}

pub rules-lawful : (kind : BuiltInKind) → AreLawful (rules_of kind.shape)
rules-lawful kind = record {
  order = order-total kind.shape;
  hashes = equal_hashes kind.shape;
  made_matches = λ obj. rw (made_key kind.shape obj) (tied_itself (order-total kind.shape) (key_in_shape kind.shape obj));
  made_is_object = made-IsObject kind.shape kind.legal;
}
