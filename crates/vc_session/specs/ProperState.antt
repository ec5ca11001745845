-- States whose regions are called by names, whose blocks are labelled by names or not at all, whose kept names are names, and whose sites are names or a hyphen.
use Rattle.std.specs.Prelude.{◌≡◌, List, Some, None, IsTrue, if◌then◌else◌}
use Rattle.std.specs.List.{AllByRecursion}
use Rattle.vc_region.specs.Region.{Region, region_with_labels, rows_in}
use Rattle.vc_script.specs.Words.{is_name}
use Rattle.vc_script.specs.Proper.{IsName}
use Rattle.vc_script.specs.ProperReply.{is_row_site}
use Rattle.vc_commands.specs.FreedNames.{FreedNames}
use Rattle.vc_model.specs.Discipline.{Discipline}
use Rattle.vc_dtdisc.specs.Rules.{Rules}
use Rattle.vc_seg.specs.declared.shelf.Shelf.{Shelf}
use Rattle.vc_steps.specs.declared.session.Session.{Session}
use Rattle.vc_steps.specs.Homes.{IsSessionOver, state_over}
use Rattle.vc_steps.specs.Told.{rules_in}
use Rattle.vc_commands.specs.Home.{Home, Label}
use Rattle.vc_steps.specs.State.{State}

-- a label that is a name; none in place of any other
abbrev pub name_or_none : Label → Label
name_or_none None = None
name_or_none (Some x) = if is_name x then Some x else None

-- the labels of a region are names: it stays the same where others are taken away
abbrev pub IsProperRegion : Region Label → Type 0
IsProperRegion r = region_with_labels name_or_none r ≡ r

-- what is kept as freed are names
abbrev pub AreProperNames : FreedNames → Type 0
AreProperNames kept = AllByRecursion (λ k. IsName k.0) kept

-- the sites of a region's rows are names, or the hyphen of the blocks without one
abbrev pub HasProperSites : Region Label → Type 0
HasProperSites r = AllByRecursion (λ row. IsTrue (is_row_site row.site)) (rows_in r)

abbrev pub IsProperHome : Home → Type 0
IsProperHome h = IsProperRegion h.region × AreProperNames h.kept × HasProperSites h.region × IsName h.name

-- the name of every region, its labels and the names that it keeps are names, and its sites are
abbrev pub IsProperState : State → Type 0
IsProperState s = AllByRecursion IsProperHome s.homes

-- a session stands over a shelf and kinds, and its state is such a one
pub record IsProperOver {I : Type 0} {V : I → Type 0} {D : Type 0} (meaning : (x : I) × V x → Discipline) (rules : D → Rules) (shelf : Shelf I V) (session : Session D I V) (kinds : List D) : Type 0 where
  pub stands : IsSessionOver meaning rules shelf session kinds
  pub proper : IsProperState (state_over meaning (rules_in rules kinds) shelf session)
