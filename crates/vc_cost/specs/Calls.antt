-- What lists of calls make of an ordered set or bag, by its holders over some blocks.
use Rattle.std.specs.Prelude.{◌≡◌, ℕ, ◌+◌, false, All, List, [], ◌∷◌, ◌++◌, length, max, Bool, Option, Some, None, is_some, if◌then◌else◌}
use Rattle.std.specs.List.{find}
use Rattle.vc_base.specs.declared.dict_method.DictMethod.TheVariants.{DtObag}
use Rattle.vc_base.specs.Cells.{Blocks, IsHolder}
use Rattle.vc_base.specs.Holders.{AreDistinct, contains, without}
use Rattle.vc_dtdisc.specs.Finds.{find_key, object_at}
use Rattle.vc_dtdisc.specs.Objects.{inserted_among}
use Rattle.vc_dtdisc.specs.Rules.{Rules}
use Rattle.vc_dtlist.specs.Sought.{stands_so}
use Rattle.vc_dtlist.specs.declared.sought.Sought.TheVariants.{NotLess}
use Rattle.vc_cost.specs.declared.ord_call.OrdCall.{OrdCall}
use Rattle.vc_cost.specs.declared.ord_call.OrdCall.TheVariants.{Link, Take, Find, AtLeast}

-- without the one that was found
abbrev pub without_found : Option ℕ → List ℕ → List ℕ
without_found None holders = holders
without_found (Some at) holders = without at holders

-- the holders after a call: one that is linked goes where `insert` puts it in an ordered bag, and what is taken is the
-- first whose object has the key
abbrev pub after_call : Rules → Blocks → OrdCall → List ℕ → List ℕ
after_call rules blocks (Link at) holders = inserted_among (λ a. a) (object_at blocks) DtObag rules None at.0 holders
after_call rules blocks (Take key) holders = without_found (find_key rules blocks key holders) holders
after_call rules blocks (Find key) holders = holders
after_call rules blocks (AtLeast key) holders = holders

-- and after each of a list
abbrev pub after_calls : Rules → Blocks → List OrdCall → List ℕ → List ℕ
after_calls rules blocks [] holders = holders
after_calls rules blocks (call ∷ calls) holders = after_calls rules blocks calls (after_call rules blocks call holders)

-- the greatest number of holders after any of these calls, 0 with no call
abbrev pub greatest_count : Rules → Blocks → List OrdCall → List ℕ → ℕ
greatest_count rules blocks [] holders = 0
greatest_count rules blocks (call ∷ calls) holders =
    max (length (after_call rules blocks call holders)) (greatest_count rules blocks calls (after_call rules blocks call holders))

-- whether it is a search that finds an object
abbrev pub finds : Rules → Blocks → OrdCall → List ℕ → Bool
finds rules blocks (Link at) holders = false
finds rules blocks (Take key) holders = false
finds rules blocks (Find key) holders = is_some (find_key rules blocks key holders)
finds rules blocks (AtLeast key) holders = is_some (find (stands_so NotLess rules blocks key) holders)

-- how many of these calls are searches that find an object
abbrev pub found_count : Rules → Blocks → List OrdCall → List ℕ → ℕ
found_count rules blocks [] holders = 0
found_count rules blocks (call ∷ calls) holders =
    (if finds rules blocks call holders then 1 else 0) + found_count rules blocks calls (after_call rules blocks call holders)

-- how many calls one counts as: to take is to find and to unlink
abbrev pub weight : OrdCall → ℕ
weight (Link at) = 1
weight (Take key) = 2
weight (Find key) = 1
weight (AtLeast key) = 1

-- and a list of them
abbrev pub calls_made : List OrdCall → ℕ
calls_made [] = 0
calls_made (call ∷ calls) = weight call + calls_made calls

-- the holders that a call links, and those that the calls of a list link
abbrev pub linked_by : OrdCall → List ℕ
linked_by (Link at) = at.0 ∷ []
linked_by (Take key) = []
linked_by (Find key) = []
linked_by (AtLeast key) = []

abbrev pub linked : List OrdCall → List ℕ
linked [] = []
linked (call ∷ calls) = linked_by call ++ linked calls

-- holders stand at these addresses, and none of them is there twice
pub record AreDistinctHolders (blocks : Blocks) (addresses : List ℕ) : Type 0 where
  pub distinct : AreDistinct addresses
  pub holders : All (IsHolder blocks) addresses

-- a call can be made: what it links is a holder that isn't in the list
abbrev pub CanCall : Blocks → OrdCall → List ℕ → Type 0
CanCall blocks (Link at) holders = (contains holders at.0 ≡ false) × IsHolder blocks at.0
CanCall blocks (Take key) holders = Unit {0}
CanCall blocks (Find key) holders = Unit {0}
CanCall blocks (AtLeast key) holders = Unit {0}
