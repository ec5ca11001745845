-- A dictionary of a session, and the open region that it lies in.
use Rattle.vc_base.proofs.Common.{◌≡◌, ℕ, true, List, slice_get, Some, bytes_eq, sym, ap, ◌∙◌, subst, same_Some, Discipline}
use Rattle.vc_best.specs.declared.best.Best as best
use Rattle.vc_objects.specs.Parts.{IsWhole, dictionary_of}
use Rattle.vc_region.specs.Cells.{cells_in, rest_in}
use Rattle.vc_region.specs.Region.{is_best}
use Rattle.vc_region.specs.declared.region.Region.TheVariants.{Best}
use Rattle.vc_commands.specs.Held.{Held, home_of}
use Rattle.vc_commands.specs.Home.{is_home}
use Rattle.vc_commands.specs.declared.region.home.HomeEntry.{HomeEntry}
use Rattle.vc_commands.proofs.Firsts.{IsFirst, find-first, first-unmap}
use Rattle.vc_steps.specs.Account.{held_named}
use Rattle.vc_steps.specs.DictHomes.{IsDictOf, cells_of_held, dict_over}
use Rattle.vc_steps.proofs.DictRegion.{best_at, best_entry}
use Rattle.vc_steps.proofs.DictsStay.{Entry}
use Rattle.vc_steps.proofs.RegionAt.{RegionAt, region-first, region-stands, region_at}
use Rattle.vc_steps.proofs.SessionHere.{SessionHere, helds, whole_in}

-- it lies there
pub record DictIn {I : Type 0} {V : I → Type 0} (meaning : (x : I) × V x → Discipline) (v : HomeEntry I V) : Type 0 where
  pub here : SessionHere meaning
  pub i : ℕ
  pub e : Entry
  pub there : slice_get here.es i ≡ Some e
  pub j : ℕ
  pub region : RegionAt here.homes here.labels e.1.home j v

-- in a best one
abbrev pub in_best : {I : Type 0} {V : I → Type 0} {meaning : (x : I) × V x → Discipline} {v : HomeEntry I V} (x : DictIn meaning v) (b : best.Best I V) → v.region ≡ Best b → DictIn meaning (best_entry v.place b)
in_best x b is = record { here = x.here; i = x.i; e = x.e; there = x.there; j = x.j; region = best_at x.region b is }

module _ {I : Type 0} {V : I → Type 0} {meaning : (x : I) × V x → Discipline} {v : HomeEntry I V} (x : DictIn meaning v) where
  abbrev hs : List Held
  hs = helds x.here

  abbrev h : Held
  h = region_at meaning x.region

  abbrev pub its : IsDictOf x.here.kinds hs x.e
  its = whole_in x.here x.i x.e x.there

  pub held-first : IsFirst (λ (k : Held). bytes_eq k.name x.e.1.home) hs x.j
  held-first = first-unmap (is_home x.e.1.home) home_of hs x.j (region-first meaning x.region)

  pub found-held : held_named hs (Some x.e.1.home) ≡ Some h
  found-held = find-first (λ k. bytes_eq k.name x.e.1.home) hs x.j held-first ∙ ap (λ k. Some k) (same_Some held-first.item h (sym held-first.at ∙ region-stands meaning x.region))

  home-is : its.home ≡ h
  home-is = same_Some its.home h (sym its.found ∙ found-held)

  -- the region is a best one, and the dictionary whole in it
  pub best-there : is_best (rest_in v.region) ≡ true
  best-there = subst (λ (k : Held). is_best k.region ≡ true) home-is its.best

  pub whole-there : IsWhole its.rules x.e.1.dict (cells_in v.region)
  whole-there = subst (λ (k : Held). IsWhole its.rules x.e.1.dict k.cells) home-is its.whole

  pub dict-is : dict_over hs x.e ≡ dictionary_of x.e.1.dict (cells_in v.region)
  dict-is = ap (λ o. dictionary_of x.e.1.dict (cells_of_held o)) found-held
