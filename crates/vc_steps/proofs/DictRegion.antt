-- How a call on a dictionary changes the best region that it lies in.
use Rattle.vc_base.proofs.Common.{◌≡◌, ℕ, List, ◌++◌, Some, Option, sym, refl, ap, ◌∙◌, Discipline, HasOut}
use Rattle.vc_best.specs.declared.best.Best as best
use Rattle.vc_region.specs.Cells.{cells_in, rest_in}
use Rattle.vc_region.specs.Parts.{disc_in, region_of}
use Rattle.vc_region.specs.Region.{segments_of}
use Rattle.vc_region.specs.declared.region.Region.TheVariants.{Best}
use Rattle.vc_region.proofs.Rest.{rest-segments}
use Rattle.vc_region.proofs.RestFound.{rest-own}
use Rattle.vc_region.proofs.Sound.{own_places}
use Rattle.vc_objects.specs.Leaves.{Leaves}
use Rattle.vc_commands.specs.declared.region.home.HomeEntry.{HomeEntry}
use Rattle.vc_commands.specs.declared.region.labels.Labels.{Labels}
use Rattle.vc_commands.specs.Held.{Held, IsChange, AreLabelsOf}
use Rattle.vc_commands.specs.RegionRun.{held_of}
use Rattle.vc_commands.proofs.Answers.{KeepsOut, changed-by}
use Rattle.vc_steps.proofs.DictChange.{Touches}
use Rattle.vc_steps.proofs.RegionAt.{RegionAt}
use Rattle.vc_steps.proofs.OwnLabels.{named-labelled}

-- an entry of a best region
abbrev pub best_entry : {I : Type 0} {V : I → Type 0} → ℕ → best.Best I V → HomeEntry I V
best_entry place b = record { place = place; region = Best b }

-- where a place has an entry whose region is a best one
pub entry-best : {I : Type 0} {V : I → Type 0} (o : Option (HomeEntry I V)) (e : HomeEntry I V) (b : best.Best I V) → o ≡ Some e → e.region ≡ Best b → o ≡ Some (best_entry e.place b)
entry-best o e b at is = at ∙ ap (λ r. Some (record { place = e.place; region = r })) is

-- so stands the region of a name
abbrev pub best_at : {I : Type 0} {V : I → Type 0} {homes : List (List ℕ × HomeEntry I V)} {labels : List Labels} {r : List ℕ} {j : ℕ} {v : HomeEntry I V} (x : RegionAt homes labels r j v) (b : best.Best I V) → v.region ≡ Best b
    → RegionAt homes labels r j (best_entry v.place b)
best_at {v = v} x b is = record { named = x.named; index = x.index; value = entry-best _ v b x.value is; l = x.l; own = x.own }

module _ {I : Type 0} {V : I → Type 0} (meaning : (x : I) × V x → Discipline) (name : List ℕ) (place : ℕ) (old new : best.Best I V) (labels : Labels) (mine mine' : List ℕ) (leaves : Leaves meaning old new mine mine') where
  abbrev h : HomeEntry I V
  h = best_entry place old

  abbrev after : HomeEntry I V
  after = best_entry place new

  pub touches : Touches (held_of meaning name (best_entry place old) labels) (held_of meaning name (best_entry place new) labels) mine mine'
  touches = record { name = refl; best = refl; others = leaves.others; fresh = leaves.fresh }

  out-kept : KeepsOut (disc_in meaning h.region) (disc_in meaning after.region) (segments_of (rest_in h.region)) (segments_of (rest_in after.region))
  out-kept = λ rest at.
      leaves.disc.out rest (at ∙ ap (λ s. rest ++ s) (rest-segments (region_of h.region)))
      ∙ ap (λ s. rest ++ s) (sym (rest-segments (region_of after.region)))

  names-kept : AreLabelsOf (rest_in h.region) labels → AreLabelsOf (rest_in after.region) labels
  names-kept names =
      named-labelled labels (rest_in h.region) (rest_in after.region) leaves.labelled names (rest-own (region_of after.region) (own_places after.region)) refl

  -- its lists change as those of a region do, whatever its cells were
  pub region-change : HasOut (disc_in meaning (best_entry place old).region) (segments_of (rest_in (best_entry place old).region)) → AreLabelsOf (rest_in (best_entry place old).region) labels
      → IsChange (let k : Held = record (held_of meaning name (best_entry place old) labels) { cells = cells_in (best_entry place new).region } in k) (held_of meaning name (best_entry place new) labels)
  region-change lent names =
      changed-by (let k : Held = record (held_of meaning name h labels) { cells = cells_in after.region } in k) (disc_in meaning after.region) (rest_in after.region) (cells_in after.region) labels refl lent leaves.disc.kept out-kept (names-kept names)
