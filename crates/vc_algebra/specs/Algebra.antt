-- What a range shows of a list of objects, and what a union, a meet and a difference show of two.
use Rattle.std.specs.Prelude.{ℕ, Bool, false, not, List, Option, Some, None, ◌&&◌, if◌then◌else◌}
use Rattle.std.specs.List.{filter}
use Rattle.std.specs.Ordering.{is_gt, is_lt}
use Rattle.vc_dtdisc.specs.Finding.{first_of}
use Rattle.vc_dtdisc.specs.Objects.{Object, placed_each}
use Rattle.vc_dtdisc.specs.Rules.{Rules}
use Rattle.vc_paths.specs.Layers.{place_in}
use Rattle.vc_paths.specs.Visible.{Seen, is_hidden, seen_bytes}
use Rattle.vc_algebra.specs.declared.op.Op.{Op}
use Rattle.vc_algebra.specs.declared.op.Op.TheVariants.{Union, Meet, Minus}

-- whether an object's key is less than a bound, where there is one
abbrev pub is_under : Rules → Option (List ℕ) → Seen ℕ → Bool
is_under rules None o = false
is_under rules (Some low) o = is_lt (rules.compare (rules.key o.bytes) low)

-- whether it is greater than a bound, where there is one
abbrev pub is_over : Rules → Option (List ℕ) → Seen ℕ → Bool
is_over rules None o = false
is_over rules (Some high) o = is_gt (rules.compare (rules.key o.bytes) high)

-- whether it isn't less than a bound
abbrev pub is_from : Rules → Option (List ℕ) → Seen ℕ → Bool
is_from rules low o = not (is_under rules low o)

-- those whose key is neither less than the low bound nor greater than the high one
abbrev pub range : Rules → Option (List ℕ) → Option (List ℕ) → List (Seen ℕ) → List (Seen ℕ)
range rules low high xs = filter (λ o. is_from rules low o && not (is_over rules high o)) xs

-- an object where its key isn't greater than a bound
abbrev pub if_upto : Rules → Option (List ℕ) → Option (Seen ℕ) → Option (Seen ℕ)
if_upto rules high None = None
if_upto rules high (Some o) = if is_over rules high o then None else Some o

-- the place of the first object whose key isn't less than a key
abbrev pub place_at_least : Rules → List ℕ → List Object → Option ℕ
place_at_least rules key objects = place_in (first_of (filter (λ o. not (is_lt (rules.compare (rules.key o.bytes) key))) objects))

-- those of the first that match something of the second
abbrev pub meet : Rules → List (Seen ℕ) → List (Seen ℕ) → List (Seen ℕ)
meet rules xs ys = filter (is_hidden rules ys) xs

-- those of the first that match nothing of the second
abbrev pub minus : Rules → List (Seen ℕ) → List (Seen ℕ) → List (Seen ℕ)
minus rules xs ys = filter (λ o. not (is_hidden rules ys o)) xs

-- the first, and those of the second that match nothing of it, each behind all that it isn't less than
abbrev pub union : Rules → List (Seen ℕ) → List (Seen ℕ) → List (Seen ℕ)
union rules xs ys = placed_each seen_bytes rules xs (minus rules ys xs)

-- what an operation makes of two lists
abbrev pub by_op : Op → Rules → List (Seen ℕ) → List (Seen ℕ) → List (Seen ℕ)
by_op Union rules xs ys = union rules xs ys
by_op Meet rules xs ys = meet rules xs ys
by_op Minus rules xs ys = minus rules xs ys
