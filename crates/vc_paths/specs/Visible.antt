-- Which objects are seen through a view path, and in which order.
use Rattle.std.specs.Prelude.{ℕ, Bool, not, List, [], ◌∷◌, ◌++◌, if◌then◌else◌}
use Rattle.std.specs.List.{filter, list_any}
use Rattle.vc_base.specs.declared.dict_method.DictMethod.{DictMethod}
use Rattle.vc_base.specs.Methods.{is_ordered}
use Rattle.vc_dtdisc.specs.Objects.{is_match, placed_each}
use Rattle.vc_dtdisc.specs.Rules.{Rules}

-- an object on a path: its dictionary, the address of its holder there, and its bytes
pub record Seen (N : Type 0) : Type 0 where
  pub dict : N
  pub at : ℕ
  pub bytes : List ℕ

-- it, under another name for its dictionary
abbrev pub rename : {N M : Type 0} → (N → M) → Seen N → Seen M
rename r o = record { dict = r o.dict; at = o.at; bytes = o.bytes }

-- what it is
abbrev pub seen_bytes : {N : Type 0} → Seen N → List ℕ
seen_bytes o = o.bytes

-- an object is hidden where one of the layers above it has a match
abbrev pub is_hidden : {N : Type 0} → Rules → List (Seen N) → Seen N → Bool
is_hidden rules above o = list_any (λ u. is_match rules o.bytes u.bytes) above

-- the layers one after another, each without the objects that are hidden by those above it
abbrev pub stacked_objects : {N : Type 0} → Rules → List (Seen N) → List (List (Seen N)) → List (Seen N)
stacked_objects rules above [] = []
stacked_objects rules above (layer ∷ lower) =
    filter (λ o. not (is_hidden rules above o)) layer ++ stacked_objects rules (above ++ layer) lower

-- what is seen through a path, whose layers stand from the uppermost on; objects that match keep their order
abbrev pub visible_objects : {N : Type 0} → DictMethod → Rules → List (List (Seen N)) → List (Seen N)
visible_objects method rules layers =
    if is_ordered method then placed_each seen_bytes rules [] (stacked_objects rules [] layers) else stacked_objects rules [] layers
