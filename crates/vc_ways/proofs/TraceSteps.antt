-- What a command leaves of a trace.
use Rattle.vc_base.proofs.Common.{◌≡◌, ℕ, ◌+◌, ◌-◌, List, Option, Some, None, bytes_eq, lookup, option_map, unwrap_or, refl, sym, ap, ◌∙◌, subst, arith}
use Rattle.std.proofs.lemmas.Map.Made.{lookup-map_values}
use Rattle.indexmap.specs.IndexMap.{insert_entry, swap_remove_entry}
use Rattle.vc_seg.specs.declared.fault.RegionFault.{RegionFault}
use Rattle.vc_seg.specs.declared.fault.RegionFault.TheVariants as code
use Rattle.vc_ways.specs.Live as model
use Rattle.vc_ways.specs.Regions.{Regions, Tried, extent_sums}
use Rattle.vc_ways.specs.RegionsParts.{IsStop, IsStopped, live_of}
use Rattle.vc_ways.specs.Step.{End, Goes, Stops, TraceState, goes, goes_with}
use Rattle.vc_ways.specs.Table.{put_live, sum_of_sizes, without_live}
use Rattle.vc_ways.specs.Tally.{tallied}
use Rattle.vc_ways.specs.TraceParts.{live_table}
use Rattle.vc_ways.specs.declared.each.Each.{Each}
use Rattle.vc_ways.specs.declared.live.Live.{Live}
use Rattle.vc_ways.specs.declared.tally.Tally.{Tally}
use Rattle.vc_ways.specs.declared.way.Way.{Way}
use Rattle.vc_ways.proofs.Tables.{insert-map, insert-sum, remove-map, remove-sum}

-- a way that stops a block stops its command
pub goes-stopped : (s : TraceState) (r x : List ℕ) (call : Option Way → Tried (model.LivePlaces × Regions)) (way : Way) (why : RegionFault) → IsStop call way why → IsStopped (λ w f. Stops w f) (λ refused. goes_with s r x (call refused)) way why
goes-stopped s r x call way code.TooManySegments h = ap (goes_with s r x) h
goes-stopped s r x call way code.NoSegment h = ap (goes_with s r x) h
goes-stopped s r x call way code.OutOfMemory h = tt
goes-stopped s r x call way code.Fixed h = ap (goes_with s r x) h
goes-stopped s r x call way code.PoolSize h = ap (goes_with s r x) h
goes-stopped s r x call way code.NotLast h = ap (goes_with s r x) h
goes-stopped s r x call way code.WrongMethod h = ap (goes_with s r x) h

-- want of memory stops any command
pub memory-stops : (call : Option Way → End) (way : Way) (why : RegionFault) → why ≡ code.OutOfMemory → IsStopped (λ w f. Stops w f) call way why
memory-stops call way why e = subst (IsStopped (λ w f. Stops w f) call way) (sym e) tt

abbrev counted : model.LivePlaces → ℕ
counted k = k.size

-- the bytes of a table whose name has another block, or none
pub placed-bytes : (blocks blocks' : List (List ℕ × Live)) (x : List ℕ) (l : Live) (o : Option Live) (gone : ℕ) → blocks' ≡ insert_entry bytes_eq blocks x l → lookup (bytes_eq x) blocks ≡ o → gone ≡ unwrap_or (option_map (λ (k : Live). k.size) o) 0 → sum_of_sizes (live_table blocks') ≡ sum_of_sizes (live_table blocks) + l.size - gone
placed-bytes blocks blocks' x l o gone is found size =
    let all = insert-sum counted bytes_eq (live_table blocks) x (live_of l) in
    let was : lookup (bytes_eq x) (live_table blocks) ≡ option_map live_of o = lookup-map_values live_of (bytes_eq x) blocks ∙ ap (option_map live_of) found in
    let less : unwrap_or (option_map counted (lookup (bytes_eq x) (live_table blocks))) 0 ≡ gone = ap (λ p. unwrap_or (option_map counted p) 0) was ∙ (counts o ∙ sym size) in
    let new : sum_of_sizes (live_table blocks') ≡ sum_of_sizes (insert_entry bytes_eq (live_table blocks) x (live_of l)) = ap sum_of_sizes (ap live_table is ∙ insert-map live_of bytes_eq blocks x l) in
    omega (arith, all, less, new)
  where
    counts : (p : Option Live) → unwrap_or (option_map (λ (k : model.LivePlaces). k.size) (option_map live_of p)) 0 ≡ unwrap_or (option_map (λ (k : Live). k.size) p) 0
    counts None = refl
    counts (Some k) = refl

pub left-bytes : (blocks blocks' : List (List ℕ × Live)) (x : List ℕ) (l : Live) → blocks' ≡ swap_remove_entry (bytes_eq x) blocks → lookup (bytes_eq x) blocks ≡ Some l → sum_of_sizes (live_table blocks') ≡ sum_of_sizes (live_table blocks) - l.size
left-bytes blocks blocks' x l is found =
    let was : lookup (bytes_eq x) (live_table blocks) ≡ Some (live_of l) = lookup-map_values live_of (bytes_eq x) blocks ∙ ap (option_map live_of) found in
    let all = remove-sum counted (bytes_eq x) (live_table blocks) (live_of l) was in
    let new : sum_of_sizes (live_table blocks') ≡ sum_of_sizes (swap_remove_entry (bytes_eq x) (live_table blocks)) = ap sum_of_sizes (ap live_table is ∙ remove-map live_of (bytes_eq x) blocks) in
    omega (arith, all, new)

-- a state with other blocks
module _ (region : Option (List ℕ)) (blocks blocks' : List (List ℕ × Live)) (before mid : Regions) (tally tally' : Tally) (r : List ℕ) (live : ℕ) (e : Each) (bytes : live ≡ sum_of_sizes (live_table blocks')) (sum : e ≡ extent_sums mid) (told : tally' ≡ tallied tally live e) where
  abbrev was : TraceState
  was = record { region = region; table = live_table blocks; regions = before; tally = tally }

  abbrev is : TraceState
  is = record { region = Some r; table = live_table blocks'; regions = mid; tally = tally' }

  told-all : tallied tally (sum_of_sizes (live_table blocks')) (extent_sums mid) ≡ tally'
  told-all = ap (λ n. tallied tally n (extent_sums mid)) (sym bytes) ∙ (ap (tallied tally live) (sym sum) ∙ sym told)

  goes-on : goes was r (live_table blocks') mid ≡ Goes is
  goes-on = ap (λ (t : Tally). Goes (record { region = Some r; table = live_table blocks'; regions = mid; tally = t })) told-all

  pub goes-placed : (x : List ℕ) (l : Live) → blocks' ≡ insert_entry bytes_eq blocks x l → goes was r (put_live x (live_of l) (live_table blocks)) mid ≡ Goes is
  goes-placed x l placed = ap (λ tb. goes was r tb mid) (sym (ap live_table placed ∙ insert-map live_of bytes_eq blocks x l)) ∙ goes-on

  pub goes-left : (x : List ℕ) → blocks' ≡ swap_remove_entry (bytes_eq x) blocks → goes was r (without_live x (live_table blocks)) mid ≡ Goes is
  goes-left x left = ap (λ tb. goes was r tb mid) (sym (ap live_table left ∙ remove-map live_of (bytes_eq x) blocks)) ∙ goes-on
