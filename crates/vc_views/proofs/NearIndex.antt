-- A name that stands at an index of a map has that index, and its value.
use Rattle.vc_base.proofs.Common.{◌≡◌, ℕ, true, List, Some, slice_get, position, bytes_eq, sym, subst, IsDistinct, keys_of, lookup, values_of}
use Rattle.std.proofs.lemmas.Slice.Eq.{bytes_eq-Decides}
use Rattle.std.specs.Cmp.Lexicographic.{nat_list_eq_equiv}
use Rattle.indexmap.proofs.MapLemmas.{Found-position, index-first}
use Rattle.indexmap.proofs.RemoveLemmas.{own_first}

module _ {V : Type 0} (es : List (List ℕ × V)) (i : ℕ) (key : List ℕ) (v : V) (unique : IsDistinct bytes_eq (keys_of es)) (at : Some (key, v) ≡ slice_get es i) (name : List ℕ) (same : bytes_eq key name ≡ true) where
  pub near-index : position (bytes_eq name) (keys_of es) ≡ Some i
  near-index =
      subst (λ k. position (bytes_eq k) (keys_of es) ≡ Some i) ((bytes_eq-Decides key name).0 same)
      (index-first (bytes_eq key) es i (own_first bytes_eq nat_list_eq_equiv es i key v unique (sym at)))

  pub near-value : lookup (bytes_eq name) es ≡ slice_get (values_of es) i
  near-value = (Found-position (bytes_eq name) es i near-index).value
