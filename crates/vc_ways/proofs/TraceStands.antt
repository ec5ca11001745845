-- A trace stands after a command, and is what the definitions say.
use Rattle.vc_base.proofs.Common.{length, length-map, [], ◌∷◌, suc, map, nat_lt, lookup, and_parts, arith, false≢true, true, Bool, ◌≡◌, ◌≢◌, ℕ, ◌+◌, ◌-◌, List, All, Option, Some, None, bytes_eq, cond, option_map, unwrap_or, refl, sym, ap, ap₂, ◌∙◌, subst, Discipline}
use Rattle.std.specs.HashMap.{get}
use Rattle.std.specs.Prelude.{is_none}
use Rattle.std.proofs.lemmas.Map.Made.{lookup-map_values}
use Rattle.indexmap.specs.IndexMap.{swap_remove_entry}
use Rattle.vc_pool.specs.Parts.{pool_of}
use Rattle.vc_ways.specs.Answer.{HasOwnSegmentsOut, Holding, KeepsWays}
use Rattle.vc_ways.specs.Extents.{newest_of, with_extents}
use Rattle.vc_ways.specs.PoolParts.{holding_in}
use Rattle.vc_ways.specs.PoolWay.{class_of}
use Rattle.vc_ways.specs.Regions.{extent_sums, free_in_each}
use Rattle.vc_ways.specs.RegionsParts.{Comes, HasFlagsAndPools, IsLiveIn, StandApart, all_holdings, live_of, regions_of}
use Rattle.vc_ways.specs.Step.{Goes, goes, is_new}
use Rattle.vc_ways.specs.Table.{put_live, sum_of_sizes, without_live}
use Rattle.vc_ways.specs.Tally.{tallied}
use Rattle.vc_ways.specs.TraceParts.{CanClose, IsBlockPlaced, StandsSoFar, live_table, trace_state}
use Rattle.vc_ways.specs.declared.extent.Newests.{Newests}
use Rattle.vc_ways.specs.declared.live.Live.{Live}
use Rattle.vc_ways.specs.declared.regions.Regions.{Regions}
use Rattle.vc_ways.specs.declared.trace.Trace.{Trace}
use Rattle.vc_ways.proofs.Extents.{free-extents}
use Rattle.vc_ways.proofs.Lives.{comes-apart, comes-live, goes-apart, goes-live, kept-lent}
use Rattle.vc_ways.proofs.PoolLists.{class-few}
use Rattle.vc_ways.proofs.TraceSteps.{goes-left, goes-placed, left-bytes, placed-bytes}

module _ {I : Type 0} {V : I → Type 0} (meaning : (x : I) × V x → Discipline) (t t' : Trace I V) (mid : Regions I V) (stands : StandsSoFar meaning t) (same : t'.regions ≡ mid) where
  abbrev over : Trace I V
  over = record { region = t.region; blocks = t.blocks; regions = mid; extents = t.extents; live = t.live; tally = t.tally }

  -- the live blocks, before and after it
  abbrev blocks : List ℕ → Option Live
  blocks q = get bytes_eq t.blocks q

  abbrev blocks' : List ℕ → Option Live
  blocks' q = get bytes_eq t'.blocks q

  -- a block came, or has another size
  module _ (r x : List ℕ) (l : Live) (gone size class : ℕ) (first : Newests) (o : Option Live) (placed : IsBlockPlaced over t' r x l gone class first) (found : get bytes_eq t.blocks x ≡ o) (gone-is : gone ≡ unwrap_or (option_map (λ (k : Live). k.size) o) 0) (class-is : class ≡ class_of size) (first-is : first ≡ newest_of (regions_of t.regions) class) (grew : extent_sums (regions_of mid) ≡ with_extents (regions_of mid) (class_of size) (newest_of (regions_of t.regions) (class_of size)) (extent_sums (regions_of t.regions))) where
    new-bytes : t'.live ≡ sum_of_sizes (live_table t'.blocks.entries)
    new-bytes =
        placed.live
        ∙ (ap (λ n. n + l.size - gone) stands.bytes
        ∙ sym (placed-bytes t.blocks.entries t'.blocks.entries x l o gone placed.entries found gone-is))

    new-extents : t'.extents ≡ extent_sums (regions_of mid)
    new-extents =
        placed.extents
        ∙ (ap (with_extents (regions_of mid) class first) stands.extents
        ∙ (ap₂ (λ (k : ℕ) (f : Newests). with_extents (regions_of mid) k f (extent_sums (regions_of t.regions))) class-is (first-is ∙ ap (newest_of (regions_of t.regions)) class-is)
        ∙ sym grew))

    pub placed-goes : goes (trace_state t) r (put_live x (live_of l) (live_table t.blocks.entries)) (regions_of mid) ≡ Goes (trace_state t')
    placed-goes =
        goes-placed t.region t.blocks.entries t'.blocks.entries (regions_of t.regions) (regions_of mid) t.tally t'.tally r t'.live t'.extents new-bytes new-extents placed.tally x l placed.entries
        ∙ ap₂ (λ (name : Option (List ℕ)) (m : Regions I V). Goes (record { region = name; table = live_table t'.blocks.entries; regions = regions_of m; tally = t'.tally })) (sym placed.region) (sym same)

    pub placed-stands : (Stays : Live → Type 0) → HasFlagsAndPools mid → KeepsWays true (all_holdings meaning t.regions) (all_holdings meaning mid) → Comes Stays (regions_of t.regions) l (regions_of mid) → ((q : List ℕ) (k : Live) → x ≢ q → get bytes_eq t.blocks q ≡ Some k → Stays k) → StandsSoFar meaning t'
    placed-stands Stays whole kept comes stays =
        record {
          whole = subst (λ (m : Regions I V). HasFlagsAndPools m) (sym same) whole;
          lent = subst (λ (m : Regions I V). All HasOwnSegmentsOut (all_holdings meaning m)) (sym same) (kept-lent _ (all_holdings meaning t.regions) (all_holdings meaning mid) stands.lent kept);
          live =
              subst (λ (m : Regions I V). (q : List ℕ) (k : Live) → get bytes_eq t'.blocks q ≡ Some k → IsLiveIn (regions_of m) k) (sym same)
              (comes-live Stays (regions_of t.regions) (regions_of mid) l comes blocks blocks' x placed.updates.0 stands.live stands.apart stays);
          apart = comes-apart Stays (regions_of t.regions) (regions_of mid) l comes blocks blocks' x placed.updates.0 stands.live stands.apart stays;
          bytes = new-bytes;
          extents = new-extents ∙ ap (λ (m : Regions I V). extent_sums (regions_of m)) (sym same);
        }

  -- the block of a name is freed
  module _ (r x : List ℕ) (l : Live) (found : get bytes_eq t.blocks x ≡ Some l) (freed : regions_of mid ≡ free_in_each (regions_of t.regions) (live_of l)) (region : t'.region ≡ Some r) (entries : t'.blocks.entries ≡ swap_remove_entry (bytes_eq x) t.blocks.entries) (live : t'.live ≡ t.live - l.size) (sum : t'.extents ≡ t.extents) (told : t'.tally ≡ tallied t.tally t'.live t'.extents) where
    left-live : t'.live ≡ sum_of_sizes (live_table t'.blocks.entries)
    left-live = live ∙ (ap (λ n. n - l.size) stands.bytes ∙ sym (left-bytes t.blocks.entries t'.blocks.entries x l entries found))

    left-extents : t'.extents ≡ extent_sums (regions_of mid)
    left-extents = sum ∙ (stands.extents ∙ (sym (free-extents (regions_of t.regions) (live_of l) (length-map t.regions.pools.items pool_of ∙ stands.whole.classes) (class-few l.size (stands.live x l found).size.most)) ∙ ap extent_sums (sym freed)))

    pub left-goes : goes (trace_state t) r (without_live x (live_table t.blocks.entries)) (free_in_each (regions_of t.regions) (live_of l)) ≡ Goes (trace_state t')
    left-goes =
        ap (goes (trace_state t) r (without_live x (live_table t.blocks.entries))) (sym freed)
        ∙ (goes-left t.region t.blocks.entries t'.blocks.entries (regions_of t.regions) (regions_of mid) t.tally t'.tally r t'.live t'.extents left-live left-extents told x entries
        ∙ ap₂ (λ (name : Option (List ℕ)) (m : Regions I V). Goes (record { region = name; table = live_table t'.blocks.entries; regions = regions_of m; tally = t'.tally })) (sym region) (sym same))

    pub left-stands : HasFlagsAndPools mid → KeepsWays true (all_holdings meaning t.regions) (all_holdings meaning mid) → ((k : Live) → IsLiveIn (regions_of t.regions) k → StandApart k l → IsLiveIn (regions_of mid) k) → ((q : List ℕ) → get bytes_eq t'.blocks q ≡ cond (bytes_eq x q) None (get bytes_eq t.blocks q)) → StandsSoFar meaning t'
    left-stands whole kept others updates =
        record {
          whole = subst (λ (m : Regions I V). HasFlagsAndPools m) (sym same) whole;
          lent = subst (λ (m : Regions I V). All HasOwnSegmentsOut (all_holdings meaning m)) (sym same) (kept-lent _ (all_holdings meaning t.regions) (all_holdings meaning mid) stands.lent kept);
          live =
              subst (λ (m : Regions I V). (q : List ℕ) (k : Live) → get bytes_eq t'.blocks q ≡ Some k → IsLiveIn (regions_of m) k) (sym same)
              (goes-live (regions_of t.regions) (regions_of mid) l blocks blocks' x found others updates stands.live stands.apart);
          apart = goes-apart (regions_of t.regions) (regions_of mid) l blocks blocks' x found others updates stands.live stands.apart;
          bytes = left-live;
          extents = left-extents ∙ ap (λ (m : Regions I V). extent_sums (regions_of m)) (sym same);
        }

kept-long : (went : Bool) (xs ys : List Holding) → KeepsWays went xs ys → length ys ≡ length xs
kept-long went [] [] kept = refl
kept-long went [] (y ∷ ys) kept = absurd kept
kept-long went (x ∷ xs) [] kept = absurd kept
kept-long went (x ∷ xs) (y ∷ ys) kept = ap suc (kept-long went xs ys kept.1)

-- whatever a command answers, the trace can be closed
pub closes : {I : Type 0} {V : I → Type 0} {went : Bool} (meaning : (x : I) × V x → Discipline) (t t' : Trace I V) → StandsSoFar meaning t → KeepsWays went (all_holdings meaning t.regions) (all_holdings meaning t'.regions) → CanClose meaning t'
closes meaning t t' stands kept =
    let olds = t.regions.pools.items in
    let news = t'.regions.pools.items in
    let same : suc (suc (length (map (holding_in meaning) news))) ≡ suc (suc (length (map (holding_in meaning) olds))) = kept-long _ (all_holdings meaning t.regions) (all_holdings meaning t'.regions) kept in
    let old = length-map olds (holding_in meaning) in
    let new = length-map news (holding_in meaning) in
    record {
      classes = omega (arith, same, old, new, stands.whole.classes);
      lent = kept-lent _ (all_holdings meaning t.regions) (all_holdings meaning t'.regions) stands.lent kept;
    }

-- a name under which a block can be put has none
pub new-none : (blocks : List (List ℕ × Live)) (x : List ℕ) → is_new (live_table blocks) x ≡ true → lookup (bytes_eq x) blocks ≡ None
new-none blocks x e = by (lookup (bytes_eq x) blocks) refl
  where
    by : (o : Option Live) → lookup (bytes_eq x) blocks ≡ o → lookup (bytes_eq x) blocks ≡ None
    by None p = p
    by (Some l) p =
        let first = (and_parts (is_none (lookup (bytes_eq x) (live_table blocks))) (nat_lt (length (live_table blocks)) 1000000) e).0 in
        let some = lookup-map_values live_of (bytes_eq x) blocks ∙ ap (option_map live_of) p in
        absurd (false≢true (sym (ap is_none some) ∙ first))
