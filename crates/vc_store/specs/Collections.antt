-- What a collection shows, and what holds of it from its opening to its close.
use Rattle.std.specs.Prelude.{◌≡◌, ℕ, List}
use Rattle.vc_model.specs.Discipline.{Discipline, HasOut}
use Rattle.vc_dtdisc.specs.Rules.{Rules}
use Rattle.vc_dict.specs.declared.dict.Dict.{Dict}
use Rattle.std.specs.declared.alloc.Global.{Global}
use Rattle.std.specs.declared.dyn_box.DynBox.{DynBox}
use Rattle.vc_best.specs.Cells.{cells_in}
use Rattle.vc_best.specs.Parts.{disc_in, segments_in}
use Rattle.vc_best.specs.declared.best.Best.{Best}
use Rattle.vc_objects.specs.Leaves.{KeepsDisc}
use Rattle.vc_objects.specs.Parts.{IsWhole}
use Rattle.vc_store.specs.declared.collection.Collection.{Collection}
use Rattle.vc_store.specs.Contents.{contents_in}
use Rattle.vc_store.specs.Reading.{Contents}

module _ {D : Type 0} {I : Type 0} {V : I → Type 0} where
  -- its region, its dictionary, and the kind, by whose rules keys are told
  abbrev pub best_of : Collection D I V → Best I V
  best_of c = c.best

  abbrev pub dict_of : Collection D I V → Dict
  dict_of c = c.dict

  abbrev pub kind_of : Collection D I V → D
  kind_of c = c.kind

  -- the discipline that lends its segments, what that means, and the segments
  abbrev pub lender : Collection D I V → DynBox I Global V
  lender c = c.best.disc

  abbrev pub disc_of : Collection D I V → ((x : I) × V x → Discipline) → Discipline
  disc_of c meaning = disc_in meaning c.best

  abbrev pub lent_to : Collection D I V → List (ℕ × ℕ)
  lent_to c = segments_in c.best

  -- its method, its objects, and the place of the current one
  abbrev pub contents : Collection D I V → Contents
  contents c = contents_in c.dict c.best

  -- it is open by a kind's rules and over a discipline: it stands for its objects, each in a holder of its own, and its segments are the last that the discipline lent
  pub record IsOpen (rules : Rules) (c : Collection D I V) (disc : Discipline) : Type 0 where
    pub whole : IsWhole rules c.dict (cells_in c.best)
    pub lent : HasOut disc (segments_in c.best)

  -- a call, or several, leave it open, by the same rules and the same method; and all that its discipline had out besides its segments is out, by the same terms
  pub record StaysOpen (meaning : (x : I) × V x → Discipline) (rules_by : D → Rules) (old new : Collection D I V) : Type 0 where
    pub is_open : IsOpen (rules_by (kind_of new)) new (disc_of new meaning)
    pub rules : rules_by (kind_of new) ≡ rules_by (kind_of old)
    pub method : (contents new).method ≡ (contents old).method
    pub lends : KeepsDisc (disc_of old meaning) (disc_of new meaning) (lent_to old) (lent_to new)

  -- so with its kind, which is told of nothing
  pub record KeepsKind (meaning : (x : I) × V x → Discipline) (rules_by : D → Rules) (old new : Collection D I V) : Type 0 where
    pub kind : kind_of new ≡ kind_of old
    pub stays : StaysOpen meaning rules_by old new
