-- What the ending of a dictionary leaves of a session.
use Rattle.vc_base.proofs.Common.{◌≡◌, ℕ, zero, suc, ◌<◌, true, false, cond, ◌||◌, List, [], ◌∷◌, map, length, take, set, slice_get, Some, None, remove, bytes_eq, sym, refl, ap, ◌∙◌, subst, ⊎_elim, cases_Bool, or_parts, none-some, same_Some, bytes_eq-Decides, AllByRecursion, list_any, lookup, Blocks, Discipline, Layout}
use Rattle.vc_base.proofs.Texts.{bytes_eq-swapped}
use Rattle.vc_dtdisc.specs.Rules.{Rules}
use Rattle.vc_region.specs.Region.{OfBest, layout_in, region_with_labels}
use Rattle.vc_region.proofs.Relabel.{layout-relabelled}
use Rattle.vc_objects.specs.Objects.{Dictionary, own_blocks}
use Rattle.vc_objects.specs.Parts.{dictionary_of, dictionary_in}
use Rattle.vc_objects.specs.Remove.{region_without}
use Rattle.vc_objects.proofs.Named.{region_without-named}
use Rattle.vc_commands.specs.Held.{Held, IsChange, home_of}
use Rattle.vc_steps.specs.Account.{IsSession, state_of, IsHeldFrom, accounts, settled_accounts}
use Rattle.vc_steps.specs.DictHomes.{AreDicts, dict_home, dicts_in, dict_over}
use Rattle.vc_steps.specs.Dicts.{shut_in, shut_state, without_dict}
use Rattle.vc_views.specs.Views.{is_dict, DictHome}
use Rattle.vc_commands.specs.Labels.{kept_of, name_of_tag}
use Rattle.vc_steps.specs.State.{State, with_region}
use Rattle.vc_commands.specs.Home.{Home, Label}
use Rattle.vc_steps.proofs.BestRegions.{best-named}
use Rattle.vc_steps.proofs.Cells.{map-remove}
use Rattle.vc_steps.proofs.RegionChange.{homes-change, session-change, settled-same}
use Rattle.vc_steps.proofs.DictChange.{IsClear, Touches, clear-others, dicts-kept, dicts-remove, homes-kept}
use Rattle.vc_steps.proofs.DictByName.{home-at}
use Rattle.vc_steps.proofs.DictsStay.{Entry, Vs}
use Rattle.vc_steps.proofs.Sessions.{held-at}
use Rattle.vc_best.specs.Cells.{cells_in, rest_in}
use Rattle.vc_best.specs.Parts.{disc_in}
use Rattle.vc_best.specs.declared.best.Best.{Best}
use Rattle.indexmap.specs.IndexMap.{set_value_at}
use Rattle.vc_objects.specs.Leaves.{Leaves}
use Rattle.vc_paths.specs.Links.{ArePaths, Links, below, is_viewed, links_with}
use Rattle.vc_commands.specs.RegionRun.{held_of}
use Rattle.vc_commands.specs.declared.region.home.HomeEntry.{HomeEntry}
use Rattle.vc_views.specs.Numbers.{AreLinked, views_by}
use Rattle.vc_views.proofs.LinkChanges.{ended-still, homes-shut, linked-shut}
use Rattle.vc_views.proofs.LinkLemmas.{number-within}
use Rattle.vc_steps.specs.Homes.{held_all}
use Rattle.vc_steps.proofs.DictRegion.{best_entry, region-change, touches}
use Rattle.vc_steps.proofs.DictThere.{DictIn, dict-is, held-first}
use Rattle.vc_steps.proofs.RegionAt.{helds-set, named-set, region-first, region-named, region-stands, region_at}
use Rattle.vc_steps.proofs.SessionHere.{helds, state_here, views, parts}

without-at : (d : List ℕ) (ks : List DictHome) (i : ℕ) (k : DictHome) → slice_get ks i ≡ Some k → is_dict d k ≡ true → list_any (is_dict d) (take i ks) ≡ false → without_dict d ks ≡ remove ks i
without-at d [] i k at passes none = absurd (none-some k at)
without-at d (l ∷ ks) zero k at passes none = ap (λ b. cond b ks (l ∷ without_dict d ks)) (ap (is_dict d) (same_Some l k at) ∙ passes)
without-at d (l ∷ ks) (suc i) k at passes none =
    let parts = or_parts (is_dict d l) (list_any (is_dict d) (take i ks)) none in
    ap (λ b. cond b ks (l ∷ without_dict d ks)) parts.0 ∙ ap (λ zs. l ∷ zs) (without-at d ks i k at passes parts.1)

-- no other one has the name, where none that is left has it
pub none-left : (hs : List Held) (vs : Vs) (es : List Entry) (d : List ℕ) (i : ℕ) → lookup (bytes_eq d) (remove es i) ≡ None → list_any (is_dict d) (take i (dicts_in hs vs es)) ≡ false
none-left hs vs [] d zero none = refl
none-left hs vs [] d (suc i) none = refl
none-left hs vs (e ∷ es) d zero none = refl
none-left hs vs (e ∷ es) d (suc i) none =
    ⊎_elim
    (λ is. absurd (none-some e.1 (sym none ∙ ap (λ b. cond b (Some e.1) (lookup (bytes_eq d) (remove es i))) is)))
    (λ is.
    ap (λ b. b || list_any (is_dict d) (take i (dicts_in hs vs es))) (bytes_eq-swapped e.0 d ∙ is)
    ∙ none-left hs vs es d i (sym (ap (λ b. cond b (Some e.1) (lookup (bytes_eq d) (remove es i))) is) ∙ none))
    (cases_Bool (bytes_eq d e.0))

-- a dictionary of a session, in its region
module _ {I : Type 0} {V : I → Type 0} {meaning : (x : I) × V x → Discipline} {v : HomeEntry I V} (x : DictIn meaning v) where
  open (parts x.here) use {kinds, slots, hs, es, vs}
  open x use {e}

  abbrev h : Held
  h = region_at meaning x.region

  abbrev d : DictHome
  d = dict_home hs vs e

  abbrev was : Dictionary
  was = dictionary_of e.1.dict h.cells

  -- its blocks go
  module _ (g : Held) {cells : Blocks} (change : IsChange (record h { cells = cells }) g) (touch : Touches h g (own_blocks was) []) (labels : g.labels ≡ h.labels) (region : layout_in g.region ≡ region_without (layout_in h.region) was) where
    abbrev gs : List Held
    gs = set hs x.j g

    clear : AllByRecursion (IsClear hs e.1.home (own_blocks was)) (remove es x.i)
    clear =
        subst (λ (y : Dictionary). AllByRecursion (IsClear hs e.1.home (own_blocks y)) (remove es x.i)) (dict-is x)
        (clear-others kinds hs e.1.home e ((bytes_eq-Decides e.1.home e.1.home).1 refl) es x.i x.there x.here.dicts)

    pub dicts-shut : AreDicts kinds gs (remove es x.i)
    dicts-shut = dicts-kept kinds hs x.j h g (own_blocks was) [] (held-first x) (region-stands meaning x.region) touch (remove es x.i) (dicts-remove kinds hs es x.i x.here.dicts) clear

    dicts-same : dicts_in gs vs (remove es x.i) ≡ dicts_in hs vs (remove es x.i)
    dicts-same = homes-kept kinds hs x.j h g (own_blocks was) [] (held-first x) (region-stands meaning x.region) touch vs (remove es x.i) (dicts-remove kinds hs es x.i x.here.dicts) clear

    abbrev made : List Home → List DictHome → State
    made homes ds = record { shelf = (state_of kinds slots hs []).shelf; homes = homes; kinds = kinds; dicts = ds }

    region-is : OfBest (region_without (layout_in (home_of h).region) d.dict) ≡ (home_of g).region
    region-is =
        ap (λ (y : Dictionary). OfBest (region_without (layout_in (home_of h).region) y)) (dict-is x)
        ∙ (ap (λ (q : Layout Label). OfBest (region_without q was)) (layout-relabelled (name_of_tag h.labels) h.region)
        ∙ (ap (λ (q : Layout Label). OfBest q) (region_without-named (name_of_tag h.labels) (layout_in h.region) was)
        ∙ (best-named (name_of_tag h.labels) g.region (region_without (layout_in h.region) was) touch.best (sym region)
        ∙ ap (λ l. region_with_labels (name_of_tag l) g.region) (sym labels))))

    region-shut : with_region e.1.home (OfBest (region_without (layout_in (home_of h).region) d.dict)) (home_of h).kept (map home_of hs) ≡ map home_of gs
    region-shut =
        ap (λ q. with_region e.1.home q (home_of h).kept (map home_of hs)) region-is
        ∙ (ap (λ l. with_region e.1.home (home_of g).region (kept_of l) (map home_of hs)) (sym labels)
        ∙ homes-change x.here.armed slots hs x.j h g (region-stands meaning x.region) x.here.held change e.1.home (region-first meaning x.region))

    pub state-shut : list_any (is_dict e.0) (take x.i (dicts_in hs vs es)) ≡ false → state_of kinds slots gs (dicts_in gs vs (remove es x.i)) ≡ shut_state (state_here x.here) d
    state-shut none =
        let ds : without_dict e.0 (dicts_in hs vs es) ≡ dicts_in gs vs (remove es x.i) =
        without-at e.0 (dicts_in hs vs es) x.i d (home-at hs vs es x.i e x.there) ((bytes_eq-Decides e.0 e.0).1 refl) none
        ∙ (sym (map-remove (dict_home hs vs) es x.i) ∙ sym dicts-same) in
        sym
        (ap (shut_in (state_here x.here) d) (region-named meaning x.region)
        ∙ (ap (λ y. made y (without_dict e.0 (dicts_in hs vs es))) region-shut ∙ ap (made (map home_of gs)) ds))

-- in a best one
module _ {I : Type 0} {V : I → Type 0} {meaning : (x : I) × V x → Discipline} (place : ℕ) (before : Best I V) (x : DictIn meaning (best_entry place before)) where
  -- no other one views it; it was ended, its kind stays, and these links and dictionaries are left, none of its name among them
  pub record DictEnded : Type 0 where
    pub unviewed : is_viewed x.here.links x.e.1.number ≡ false
    pub paths : ArePaths x.here.links
    pub after : Best I V
    pub leaves : Leaves meaning before after (own_blocks (dictionary_in x.e.1.dict before)) []
    pub region : rest_in after ≡ region_without (rest_in before) (dictionary_in x.e.1.dict before)
    pub disc : disc_in meaning after ≡ disc_in meaning before
    pub kinds' : List Rules
    pub same_kinds : kinds' ≡ x.here.kinds
    pub links' : Links
    pub ended : links' ≡ links_with x.e.1.number None x.here.links
    pub es' : List Entry
    pub left : es' ≡ remove x.here.es x.i
    pub alone : lookup (bytes_eq x.e.0) es' ≡ None

  module _ (o : DictEnded) where
    abbrev h_before : Held
    h_before = region_at meaning x.region

    abbrev h_after : Held
    h_after = held_of meaning x.e.1.home (best_entry place o.after) x.region.l

    abbrev mine : List ℕ
    mine = own_blocks (dictionary_in x.e.1.dict before)

    touch-after : Touches h_before h_after mine []
    touch-after = touches meaning x.e.1.home place before o.after x.region.l mine [] o.leaves

    change-after : IsChange (let k : Held = record h_before { cells = cells_in o.after } in k) h_after
    change-after =
        let is_held : IsHeldFrom x.here.armed x.here.slots h_before = held-at x.here.armed x.here.slots (helds x.here) x.j h_before (region-stands meaning x.region) x.here.held in
        region-change meaning x.e.1.home place before o.after x.region.l mine [] o.leaves is_held.lent is_held.names

    abbrev hs' : List Held
    hs' = held_all meaning (set_value_at x.here.homes x.j (best_entry place o.after)) x.here.labels

    held-is : hs' ≡ set (helds x.here) x.j h_after
    held-is = helds-set meaning x.region (best_entry place o.after)

    carry : (P : List Rules → List Held → Links → List Entry → Type 0) → P x.here.kinds (set (helds x.here) x.j h_after) (links_with x.e.1.number None x.here.links) (remove x.here.es x.i) → P o.kinds' hs' o.links' o.es'
    carry P p =
        subst (λ ks. P ks hs' o.links' o.es') (sym o.same_kinds)
        (subst (λ gs. P x.here.kinds gs o.links' o.es') (sym held-is)
        (subst (λ ls. P x.here.kinds (set (helds x.here) x.j h_after) ls o.es') (sym o.ended)
        (subst (P x.here.kinds (set (helds x.here) x.j h_after) (links_with x.e.1.number None x.here.links)) (sym o.left) p)))

    pub named-ended : length x.here.labels ≡ length (set_value_at x.here.homes x.j (best_entry place o.after))
    named-ended = named-set meaning x.region (best_entry place o.after)

    pub session-ended : IsSession x.here.armed x.here.slots hs'
    session-ended = carry (λ ks gs ls ds. IsSession x.here.armed x.here.slots gs) (session-change x.here.armed x.here.slots (helds x.here) x.j h_before h_after (region-stands meaning x.region) x.here.held change-after)

    pub settled-ended : settled_accounts (accounts x.here.slots) hs' ≡ settled_accounts (accounts x.here.slots) (helds x.here)
    settled-ended =
        ap (settled_accounts (accounts x.here.slots)) held-is
        ∙ settled-same x.here.armed x.here.slots (helds x.here) x.j h_before h_after (region-stands meaning x.region) x.here.held change-after (ap (λ (d : Discipline). d.faults) o.disc) (ap (λ (d : Discipline). d.exceptions) o.disc)

    pub dicts-ended : AreDicts o.kinds' hs' o.es'
    dicts-ended = carry (λ ks gs ls ds. AreDicts ks gs ds) (dicts-shut x h_after change-after touch-after refl o.region)

    number : x.e.1.number < length x.here.links
    number = number-within x.here.links x.here.es x.i x.e o.paths x.here.are.numbered x.there

    pub linked-ended : AreLinked o.links' o.es'
    linked-ended = carry (λ ks gs ls ds. AreLinked ls ds) (linked-shut x.here.links x.here.es x.here.are x.i x.e x.there o.unviewed number)

    -- what viewed none does so still
    pub below-ended : (n : ℕ) → below x.here.links n ≡ None → below o.links' n ≡ None
    below-ended n none = ap (λ ls. below ls n) o.ended ∙ ended-still x.here.links x.e.1.number n number none

    pub state-ended : state_of o.kinds' x.here.slots hs' (dicts_in hs' (views_by o.links' o.es') o.es') ≡ shut_state (state_here x.here) (dict_home (helds x.here) (views x.here) x.e)
    state-ended =
        carry (λ ks gs ls ds. state_of ks x.here.slots gs (dicts_in gs (views_by ls ds) ds) ≡ shut_state (state_here x.here) (dict_home (helds x.here) (views x.here) x.e))
        (ap (state_of x.here.kinds x.here.slots (set (helds x.here) x.j h_after)) (homes-shut x.here.links x.here.es x.here.are x.i x.e x.there o.unviewed number (dict_over (set (helds x.here) x.j h_after)))
        ∙ state-shut x h_after change-after touch-after refl o.region (none-left (helds x.here) (views x.here) x.here.es x.e.0 x.i (ap (lookup (bytes_eq x.e.0)) (sym o.left) ∙ o.alone)))
