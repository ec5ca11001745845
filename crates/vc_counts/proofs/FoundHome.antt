-- The region that is found by a name, and the region of the dictionary that is found by one.
use Rattle.vc_base.proofs.Common.{◌≡◌, ℕ, ◌+◌, Bool, true, false, cond, List, [], ◌∷◌, map, length, is_some, slice_get, Some, None, Option, option_map, position, bytes_eq, unwrap_or, sym, refl, ap, ◌∙◌, subst, ⊎_elim, cases_Bool, none-some, same_Some, keys_of, lookup, values_of, Discipline}
use Rattle.vc_commands.proofs.Firsts.{find-none}
use Rattle.vc_commands.specs.Held.{Held, home_of}
use Rattle.vc_commands.specs.Home.{is_home}
use Rattle.vc_commands.specs.Labels.{name_of_tag}
use Rattle.vc_commands.specs.declared.dict.entry.DictEntry.{DictEntry}
use Rattle.vc_commands.specs.declared.region.home.HomeEntry.{HomeEntry}
use Rattle.vc_commands.specs.declared.region.labels.Labels.{Labels}
use Rattle.vc_base.proofs.Texts.{bytes_eq-swapped}
use Rattle.vc_dtdisc.specs.Rules.{Rules}
use Rattle.vc_objects.specs.Objects.{Dictionary, slots_of, table_size}
use Rattle.vc_objects.specs.Parts.{dictionary_of, table_of}
use Rattle.vc_region.proofs.Relabel.{segments-relabelled, stat-relabelled}
use Rattle.vc_region.proofs.Rest.{rest-segments, rest-stat}
use Rattle.vc_region.specs.Cells.{rest_in}
use Rattle.vc_region.specs.Parts.{region_of}
use Rattle.vc_region.specs.Region.{segments_of}
use Rattle.vc_region.specs.Stat.{stat_of}
use Rattle.vc_script.specs.declared.command.Command.{Command}
use Rattle.vc_script.specs.declared.command.Command.TheVariants.{CloseRegion, OpenDict}
use Rattle.vc_script.specs.Target as target
use Rattle.vc_script.specs.Target.{target_of}
use Rattle.vc_script.specs.declared.target.Target.TheVariants.{Region, Shelf}
use Rattle.vc_base.specs.declared.dict_method.DictMethod.{DictMethod}
use Rattle.vc_seg.specs.declared.stat.Stat.{Stat}
use Rattle.vc_steps.proofs.Helds.{any-named}
use Rattle.vc_steps.proofs.RegionAt.{RegionAt, region-named, region_at, stored_at}
use Rattle.vc_steps.proofs.DictRegions.{dicts-to, held_seen, over-seen, regions-held}
use Rattle.vc_steps.specs.DictHomes.{cells_named, dict_home, dicts_in}
use Rattle.vc_steps.specs.Dicts.{dict_of, region_asked_for}
use Rattle.vc_steps.specs.Homes.{held_all, held_in_session}
use Rattle.vc_steps.specs.State.{home_named}
use Rattle.vc_steps.specs.declared.session.Session.{Session}
use Rattle.vc_views.specs.Dicts.{AreDictsOver, DictRegion, IsDictOver, dictionary_over, region_seen}
use Rattle.vc_views.specs.Numbers.{views_by}
use Rattle.vc_views.specs.Views.{DictHome, dict_named}
use Rattle.vc_counts.specs.Holders.{AreSomeDicts, IsWholeIn}
use Rattle.vc_counts.specs.Working.{busy_in_home, dict_bytes, dict_in, holders_bytes, open_state, region_worked, segments_at, segments_at_home, table_bytes, table_at_home, worked_in}
use Rattle.vc_dict.specs.Stands.{slots_in, table_in}

module _ {I : Type 0} {V : I → Type 0} (meaning : (x : I) × V x → Discipline) (homes : List (List ℕ × HomeEntry I V)) (labels : List Labels) (r : List ℕ) (named : length labels ≡ length homes) where
  abbrev hs : List Held
  hs = held_all meaning homes labels

  -- no region has the name
  pub home-none : is_some (lookup (bytes_eq r) homes) ≡ false → home_named r (map home_of hs) ≡ None
  home-none none = find-none (is_home r) (map home_of hs) (any-named meaning homes labels r named ∙ none)

  module _ (i : ℕ) (h : HomeEntry I V) (at : position (bytes_eq r) (keys_of homes) ≡ Some i) (here : slice_get (values_of homes) i ≡ Some h) where
    own : RegionAt homes labels r i h
    own = stored_at homes labels r i named at h here

    there : home_named r (map home_of hs) ≡ Some (home_of (region_at meaning own))
    there = region-named meaning own

    -- the region of an index has the name: its blocks' bytes, and its segments
    pub busy-found : (stat_of (region_of h.region)).sbusy ≡ busy_in_home (home_named r (map home_of hs))
    busy-found = sym (ap busy_in_home there ∙ ap (λ (t : Stat). t.sbusy) (stat-relabelled (name_of_tag own.l) (rest_in h.region) ∙ rest-stat (region_of h.region)))

    pub segments-found : segments_of (region_of h.region) ≡ segments_at (Some r) (map home_of hs)
    segments-found = sym (ap segments_at_home there ∙ (segments-relabelled (name_of_tag own.l) (rest_in h.region) ∙ rest-segments (region_of h.region)))

-- what the entry of a name tells of its dictionary, whatever the cells of its region
module _ (hs : List Held) (views : ℕ → Option (List ℕ)) {A : Type 0} (told : DictHome → A) (by_entry : DictEntry → A) (same : (e : List ℕ × DictEntry) → told (dict_home hs views e) ≡ by_entry e.1) (d : List ℕ) where
  told-if : (b c : Bool) (e : List ℕ × DictEntry) (o : Option DictHome) (p : Option DictEntry) → b ≡ c → option_map told o ≡ option_map by_entry p → option_map told (cond b (Some (dict_home hs views e)) o) ≡ option_map by_entry (cond c (Some e.1) p)
  told-if true true e o p is rest = ap (λ x. Some x) (same e)
  told-if true false e o p is rest = absurd cc
  told-if false true e o p is rest = absurd cc
  told-if false false e o p is rest = rest

  dict-told : (es : List (List ℕ × DictEntry)) → option_map told (dict_named d (dicts_in hs views es)) ≡ option_map by_entry (lookup (bytes_eq d) es)
  dict-told [] = refl
  dict-told (e ∷ es) = told-if (bytes_eq e.0 d) (bytes_eq d e.0) e (dict_named d (dicts_in hs views es)) (lookup (bytes_eq d) es) (bytes_eq-swapped e.0 d) (dict-told es)

-- the region of a command in a region is the one that it names, and one on the shelf may name none
pub region-worked : (command : Command) (r : List ℕ) → target_of command ≡ Region r → worked_in command ≡ Some r
region-worked (CloseRegion q) r e = absurd cc
region-worked (OpenDict d method q kind) r e = absurd cc
region-worked command r e = ap target.region_at e

pub shelf-worked : (command : Command) → target_of command ≡ Shelf → ((d : List ℕ) (method : DictMethod) (r : List ℕ) (kind : ℕ) → command ≡ OpenDict d method r kind → ⊥) → ((r : List ℕ) → command ≡ CloseRegion r → ⊥) → worked_in command ≡ None
shelf-worked (OpenDict d method r kind) e opens closes = absurd (opens d method r kind refl)
shelf-worked (CloseRegion r) e opens closes = absurd (closes r refl)
shelf-worked command e opens closes = ap target.region_at e

-- the region of a command on a dictionary is that of its entry, where the session has one
pub dict-worked : {I : Type 0} {V : I → Type 0} {D : Type 0} (meaning : (x : I) × V x → Discipline) (session : Session D I V) (command : Command) (d : List ℕ) (o : Option DictEntry) → dict_of command ≡ Some d → o ≡ lookup (bytes_eq d) session.dicts.entries → option_map (λ (e : DictEntry). e.home) o ≡ region_worked (open_state meaning session) command
dict-worked meaning session command d o name entry =
    ap (option_map (λ (e : DictEntry). e.home)) entry
    ∙ (sym (dict-told (held_in_session meaning session) (views_by session.paths session.dicts.entries) (λ h. h.home) (λ e. e.home) (λ e. refl) d session.dicts.entries)
    ∙ ap (λ x. region_asked_for (open_state meaning session) x (worked_in command)) (sym name))

-- the bytes of the table that an entry tells
abbrev pub entry_table : DictEntry → ℕ
entry_table e = table_size (slots_of (table_of (table_in e.dict).0 (slots_in e.dict)))

-- what is read of a dictionary, by the entry of its name
module _ (read : Dictionary → ℕ) where
  abbrev reads : Option DictHome → Option ℕ
  reads o = option_map (λ (h : DictHome). read h.dict) o

  abbrev read_in : Option DictHome → ℕ
  read_in o = unwrap_or (reads o) 0

  module _ {I : Type 0} {V : I → Type 0} {D : Type 0} (meaning : (x : I) × V x → Discipline) (session : Session D I V) (d : List ℕ) where
    abbrev here : Option DictHome
    here = dict_named d (open_state meaning session).dicts

    abbrev by_entry : DictEntry → ℕ
    by_entry e = read (dictionary_of e.dict (cells_named (held_in_session meaning session) e.home))

    read-told : reads here ≡ option_map by_entry (lookup (bytes_eq d) session.dicts.entries)
    read-told = dict-told (held_in_session meaning session) (views_by session.paths session.dicts.entries) (λ h. read h.dict) by_entry (λ e. refl) d session.dicts.entries

    read-found : (e : DictEntry) → Some e ≡ lookup (bytes_eq d) session.dicts.entries → by_entry e ≡ read_in here
    read-found e entry = sym (ap (λ o. unwrap_or o 0) (read-told ∙ ap (option_map by_entry) (sym entry)))

    read-lacks : None ≡ lookup (bytes_eq d) session.dicts.entries → 0 ≡ read_in here
    read-lacks entry = sym (ap (λ o. unwrap_or o 0) (read-told ∙ ap (option_map by_entry) (sym entry)))

table-in : (o : Option DictHome) → read_in table_bytes o ≡ table_at_home o
table-in None = refl
table-in (Some h) = refl

dict-in : (o : Option DictHome) → read_in dict_bytes o ≡ dict_in o
dict-in None = refl
dict-in (Some h) = refl

module _ {I : Type 0} {V : I → Type 0} {D : Type 0} (meaning : (x : I) × V x → Discipline) (session : Session D I V) (d : List ℕ) where
  -- that of the dictionary of a name, where the session has one, and its holders too
  pub table-found : (e : DictEntry) → Some e ≡ lookup (bytes_eq d) session.dicts.entries → entry_table e ≡ table_at_home (dict_named d (open_state meaning session).dicts)
  table-found e entry = read-found table_bytes meaning session d e entry ∙ table-in (dict_named d (open_state meaning session).dicts)

  pub table-lacks : None ≡ lookup (bytes_eq d) session.dicts.entries → 0 ≡ table_at_home (dict_named d (open_state meaning session).dicts)
  table-lacks entry = read-lacks table_bytes meaning session d entry ∙ table-in (dict_named d (open_state meaning session).dicts)

  pub dict-lacks : None ≡ lookup (bytes_eq d) session.dicts.entries → 0 ≡ dict_in (dict_named d (open_state meaning session).dicts)
  dict-lacks entry = read-lacks dict_bytes meaning session d entry ∙ dict-in (dict_named d (open_state meaning session).dicts)

  pub dict-found : length session.labels.items ≡ length session.homes.entries → (e : DictEntry) → Some e ≡ lookup (bytes_eq d) session.dicts.entries → entry_table e + holders_bytes (dictionary_over (map region_seen session.homes.entries) (d, e)).objects ≡ dict_in (dict_named d (open_state meaning session).dicts)
  dict-found labels e entry =
      let held : List Held = held_in_session meaning session in
      ap (λ (x : Dictionary). entry_table e + holders_bytes x.objects)
      (ap (λ regions. dictionary_over regions (d, e)) (regions-held meaning session.homes.entries session.labels.items labels) ∙ over-seen held (d, e))
      ∙ (read-found dict_bytes meaning session d e entry ∙ dict-in (dict_named d (open_state meaning session).dicts))

-- a dictionary of a session that is found by a name is whole in its region
whole-over : (kinds : List Rules) (regions : List DictRegion) (e : List ℕ × DictEntry) → IsDictOver kinds regions e → IsWholeIn regions e.1
whole-over kinds regions e is =
    record { home = is.home; found = is.found; best = is.best; whole = record { rules = is.rules; whole = is.whole } }

whole-among : (kinds : List Rules) (regions : List DictRegion) (d : List ℕ) (es : List (List ℕ × DictEntry)) → AreDictsOver kinds regions es → (v : DictEntry) → lookup (bytes_eq d) es ≡ Some v → IsWholeIn regions v
whole-among kinds regions d [] are v e = absurd (none-some v e)
whole-among kinds regions d (x ∷ es) are v e =
    ⊎_elim
    (λ (t : bytes_eq d x.0 ≡ true).
    subst (IsWholeIn regions) (same_Some x.1 v (sym (ap (λ b. cond b (Some x.1) (lookup (bytes_eq d) es)) t) ∙ e)) (whole-over kinds regions x are.0))
    (λ (t : bytes_eq d x.0 ≡ false). whole-among kinds regions d es are.2 v (sym (ap (λ b. cond b (Some x.1) (lookup (bytes_eq d) es)) t) ∙ e))
    (cases_Bool (bytes_eq d x.0))

pub whole-found : {I : Type 0} {V : I → Type 0} {D : Type 0} (meaning : (x : I) × V x → Discipline) (session : Session D I V) (d : List ℕ) → length session.labels.items ≡ length session.homes.entries → AreSomeDicts (held_in_session meaning session) session.dicts.entries → (e : DictEntry) → Some e ≡ lookup (bytes_eq d) session.dicts.entries → IsWholeIn (map region_seen session.homes.entries) e
whole-found meaning session d labels are e entry =
    let held : List Held = held_in_session meaning session in
    subst (λ regions. IsWholeIn regions e) (sym (regions-held meaning session.homes.entries session.labels.items labels))
    (whole-among are.kinds (map held_seen held) d session.dicts.entries (dicts-to held are.kinds session.dicts.entries are.dicts) e (sym entry))
