-- What a session has in which the region of an image was opened with its dictionaries.
use Rattle.vc_base.proofs.Common.{◌≡◌, ℕ, ◌+◌, ◌-◌, ◌≤◌, true, false, List, [], ◌∷◌, ◌++◌, map, length, set, Some, None, Option, option_map, sym, refl, ap, ◌∙◌, subst, map-set, set-set, true≢false, AllByRecursion, Blocks, Discipline, at_number}
use Rattle.vc_base.proofs.Lists.{slice_get-set}
use Rattle.vc_best.specs.Cells.{cells_in as best_cells, cells_of}
use Rattle.vc_best.specs.declared.best.Best.{Best}
use Rattle.vc_commands.proofs.Answers.{front-out}
use Rattle.vc_commands.specs.Held.{Held, AreLabelsOf, home_of}
use Rattle.vc_commands.specs.Home.{Home, Label}
use Rattle.vc_commands.specs.Labels.{kept_of, name_of_tag}
use Rattle.vc_commands.specs.RegionRun.{held_of}
use Rattle.vc_commands.specs.declared.region.home.HomeEntry.{HomeEntry}
use Rattle.vc_commands.specs.declared.region.labels.Labels.{Labels}
use Rattle.vc_dict.proofs.HeadLemmas.{dict-again}
use Rattle.vc_dict.specs.Listed.{holders_of}
use Rattle.vc_dict.specs.declared.dict.Dict.{Dict}
use Rattle.vc_dtdisc.specs.Rules.{Rules}
use Rattle.vc_image.specs.Load.{AllShareNone, IsLoaded, IsWholeAmong, ShareNone, pairs_of}
use Rattle.vc_image_check.specs.Bytes.Contents.{contents_of_image}
use Rattle.vc_image.specs.Lends.Lends.{AreLent}
use Rattle.vc_best.specs.Blocks.{layout_by}
use Rattle.vc_image_run.proofs.Loading.{few-dicts, same-best, segs-are, tags-are}
use Rattle.vc_image_run.specs.Session.Copies.{copy_of}
use Rattle.vc_image_run.specs.Session.Entries.{entries_from, entry_of}
use Rattle.vc_image_run.specs.Session.Names.{region_name}
use Rattle.vc_image_run.specs.Session.State.{dict_homes, image_state, state_with}
use Rattle.vc_commands.specs.Tagged.{name_by_tag}
use Rattle.vc_model.specs.Discipline.{Exceptions, Terms, armed_as}
use Rattle.vc_region.proofs.Rest.{rest-segments}
use Rattle.vc_region.specs.Cells.{rest_in}
use Rattle.vc_region.specs.Parts.{disc_in, region_of}
use Rattle.vc_region.specs.Region as model
use Rattle.vc_region.specs.Region.{region_with_labels, segments_of}
use Rattle.vc_region.specs.declared.region.Region.TheVariants.{Best as OfBest}
use Rattle.vc_seg.specs.Segment.{Bytes, pair_of}
use Rattle.vc_steps.proofs.Cells.{at_number-from_one, at_number-map, at_number_some}
use Rattle.vc_steps.proofs.SettledShelf.{OnlyAt, counts-granted, keeps-settles, settles-set}
use Rattle.vc_steps.proofs.Sessions.{Slots}
use Rattle.vc_steps.specs.Account.{Account, IsHeldFrom, IsSession, KeepsAccounts, SameAsked, account, account_back, accounts, settled_accounts, state_of}
use Rattle.vc_steps.specs.DictHomes.{AreApartIn, AreDicts, IsDictOf, dict_over, dicts_in}
use Rattle.vc_paths.specs.Links.{no_links}
use Rattle.vc_image_run.proofs.Numbered.{entries-linked, views-none}
use Rattle.vc_image_run.specs.Session.Opens.{AreParts, OpensImage}
use Rattle.vc_seg.specs.declared.shelf.Shelf.{Shelf}
use Rattle.vc_steps.specs.Homes.{IsSessionOver, held_all, held_in_session, settled_over, slots_on, state_on, state_over}
use Rattle.vc_steps.specs.State.{State}
use Rattle.vc_steps.specs.declared.session.Session.{Session}
use Rattle.vc_views.specs.Numbers.{AreLinked, views_by}
use Rattle.vc_views.proofs.LinkLists.{map-set_same}
use Rattle.vc_views.specs.Views.{DictHome}

-- a copy of a dictionary that is whole is the same
pub copies-same : (kinds : List Rules) (b : Blocks) (ds : List Dict) → AllByRecursion (IsWholeAmong kinds b) ds → map copy_of ds ≡ ds
copies-same kinds b [] all = refl
copies-same kinds b (d ∷ ds) all =
    ap (λ c. c ∷ map copy_of ds) (dict-again all.0.rules d b (holders_of d b) all.0.whole.stands)
    ∙ ap (λ cs. d ∷ cs) (copies-same kinds b ds all.1)

abbrev pub asked_by : Exceptions → ℕ × ℕ
asked_by e = (e.told, e.yes)

-- a place with another account, where as much is out by the same terms and no fault is less
module _ (slots : Slots) (place : ℕ) (d : Discipline) (at : at_number slots place ≡ Some (Some d)) (a : Account) where
  at-account : at_number (accounts slots) place ≡ Some (Some (account d))
  at-account = at_number-map (option_map account) slots place ∙ ap (option_map (option_map account)) at

  none-at : OnlyAt place 0 []
  none-at = record { here = refl; elsewhere = λ q other. refl }

  pub kept-at : a.out ≡ d.out → a.terms ≡ d.terms → d.faults ≤ a.faults → KeepsAccounts (accounts slots) (set (accounts slots) (place - 1) (Some a))
  kept-at out terms faults =
      keeps-settles
      (settles-set {armed = true} (accounts slots) place 0 (account d) a [] at-account
      (ap (λ o. (o, a.terms)) out ∙ ap (λ t. (d.out, t)) terms)
      (λ off. absurd (true≢false off))
      (counts-granted d.faults a.faults faults (λ off. absurd (true≢false off)))
      none-at)

  pub asked-at : a.asked ≡ asked_by d.exceptions → SameAsked (accounts slots) (set (accounts slots) (place - 1) (Some a))
  asked-at same =
      map-set_same (option_map (λ (b : Account). b.asked)) (accounts slots) (place - 1) (Some (account d)) (Some a) (at_number_some (accounts slots) place (Some (account d)) at-account).1
      (ap Some same)

module _ {I : Type 0} {V : I → Type 0} (meaning : (x : I) × V x → Discipline) (place : ℕ) (best : Best I V) (labels : Labels) where
  abbrev pub home : HomeEntry I V
  home = record { place = place; region = OfBest best }

  -- the region as it is held
  abbrev pub held : Held
  held = held_of meaning region_name home labels

  -- its dictionaries
  module _ (kinds : List Rules) where
    dict-of : (i : ℕ) (d : Dict) → IsWholeAmong kinds (best_cells best) d → IsDictOf kinds (held ∷ []) (entry_of i d)
    dict-of i d w = record { home = held; found = refl; best = refl; rules = w.rules; kind = w.kind; whole = w.whole }

    all-apart : (i j : ℕ) (d : Dict) (es : List Dict) → AllByRecursion (ShareNone (best_cells best) d) es → AllByRecursion (AreApartIn (held ∷ []) (entry_of i d)) (entries_from j es)
    all-apart i j d [] all = tt
    all-apart i j d (e ∷ es) all = ((λ same a within. all.0 a within), all-apart i (j + 1) d es all.1)

    pub are-dicts : (i : ℕ) (ds : List Dict) → AllByRecursion (IsWholeAmong kinds (best_cells best)) ds → AllShareNone (best_cells best) ds → AreDicts kinds (held ∷ []) (entries_from i ds)
    are-dicts i [] whole apart = tt
    are-dicts i (d ∷ ds) whole apart =
        (dict-of i d whole.0, all-apart i (i + 1) d ds apart.0, are-dicts (i + 1) ds whole.1 apart.1)

  pub homes-are : (views : ℕ → Option (List ℕ)) → ((n : ℕ) → views n ≡ None) → (i : ℕ) (ds : List Dict) → dicts_in (held ∷ []) views (entries_from i ds) ≡ dict_homes (cells_of (layout_by best.extents.segs.items).blocks) (i + 1) ds
  homes-are views none i [] = refl
  homes-are views none i (d ∷ ds) =
      ap (λ (v : Option (List ℕ)). let h : DictHome = record { name = (entry_of i d).0; home = region_name; kind = d.kind; views = v; dict = dict_over (held ∷ []) (entry_of i d) } in h ∷ dicts_in (held ∷ []) views (entries_from (i + 1) ds)) (none i)
      ∙ ap (λ hs. let h : DictHome = record { name = (entry_of i d).0; home = region_name; kind = d.kind; views = None; dict = dict_over (held ∷ []) (entry_of i d) } in h ∷ hs) (homes-are views none (i + 1) ds)

  -- over the discipline that stood at a place of a shelf
  module _ (slots : Slots) (d : Discipline) (at : at_number slots place ≡ Some (Some d)) (image : List ℕ) (kinds : List Rules) (ds : List Dict) (loaded : IsLoaded kinds d.terms image (OfBest best) ds) (lent : AreLent (armed_as false d) (disc_in meaning (OfBest best)) (pairs_of image)) where
    abbrev after : Discipline
    after = disc_in meaning (OfBest best)

    abbrev segments : List (ℕ × ℕ)
    segments = segments_of (rest_in (OfBest best))

    segments-are : segments ≡ pairs_of image
    unfolding layout_by
    segments-are = rest-segments (region_of (OfBest best)) ∙ by
      where
        by : (layout_by best.extents.segs.items).segments ≡ pairs_of image
        by = ap (map pair_of) (segs-are kinds d.terms image best ds loaded)

    out-is : after.out ≡ d.out ++ segments
    out-is = lent.out ∙ ap (λ ps. d.out ++ ps) (sym segments-are)

    emptied : at_number (set slots (place - 1) None) place ≡ Some None
    emptied =
        at_number-from_one (set slots (place - 1) None) place (at_number_some slots place (Some d) at).0
        ∙ slice_get-set slots (place - 1) (Some d) None (at_number_some slots place (Some d) at).1

    pub held-from : AreLabelsOf (rest_in (OfBest best)) labels → IsHeldFrom false (set slots (place - 1) None) held
    held-from named = record { place = emptied; armed_so = lent.kept.armed; lent = (d.out, out-is); names = named }

    -- once it is closed
    abbrev closed : Account
    closed = account_back after segments

    settled-is : settled_accounts (accounts (set slots (place - 1) None)) (held ∷ []) ≡ set (accounts slots) (place - 1) (Some closed)
    settled-is =
        ap (λ xs. set xs (place - 1) (Some closed)) (map-set (option_map account) slots (place - 1) None)
        ∙ set-set (accounts slots) (place - 1) None (Some closed)

    pub accounts-kept : KeepsAccounts (accounts slots) (settled_accounts (accounts (set slots (place - 1) None)) (held ∷ []))
    accounts-kept = subst (KeepsAccounts (accounts slots)) (sym settled-is) (kept-at slots place d at closed (front-out d.out segments after.out out-is) lent.kept.terms lent.kept.faults)

    pub asked-same : SameAsked (accounts slots) (settled_accounts (accounts (set slots (place - 1) None)) (held ∷ []))
    asked-same = subst (SameAsked (accounts slots)) (sym settled-is) (asked-at slots place d at closed (ap asked_by (lent.kept.unarmed refl)))

    -- the state
    pub state-is : (views : ℕ → Option (List ℕ)) → ((n : ℕ) → views n ≡ None) → region_with_labels (name_of_tag labels) (rest_in (OfBest best)) ≡ region_with_labels name_by_tag (rest_in (OfBest best)) → kept_of labels ≡ []
        → state_of kinds (set slots (place - 1) None) (held ∷ []) (dicts_in (held ∷ []) views (entries_from 0 ds)) ≡ image_state (state_of kinds slots [] []) place d.terms image
    state-is views none named kept =
        ap (λ hs. state_of kinds (set slots (place - 1) None) (held ∷ []) hs) (homes-are views none 0 ds)
        ∙ (ap (λ (shelf : List (Option Terms)). state_by shelf (home_of held)) (map-set (option_map (λ (e : Discipline). e.terms)) slots (place - 1) None)
        ∙ (ap (state_by (set (map (option_map (λ (e : Discipline). e.terms)) slots) (place - 1) None)) home-is
        ∙ (ap (λ (segs : List Bytes). state_with (state_of kinds slots [] []) place d.terms segs ds) (segs-are kinds d.terms image best ds loaded)
        ∙ ap (state_with (state_of kinds slots [] []) place d.terms (contents_of_image image).segs) loaded.numbers)))
      where
        state_by : List (Option Terms) → Home → State
        state_by shelf h = record { shelf = shelf; homes = h ∷ []; kinds = kinds; dicts = dict_homes (cells_of (layout_by best.extents.segs.items).blocks) 1 ds }

        home_by : Terms → model.Region Label → List (List ℕ × ℕ) → Home
        home_by terms region kept = record { name = region_name; place = place; terms = terms; region = region; kept = kept }

        home-is : home_of held ≡ home_by d.terms (region_with_labels name_by_tag (rest_in (OfBest best))) []
        home-is =
            ap (λ t. home_by t (region_with_labels (name_of_tag labels) (rest_in (OfBest best))) (kept_of labels)) lent.kept.terms
            ∙ (ap (λ r. home_by d.terms r (kept_of labels)) named ∙ ap (home_by d.terms (region_with_labels name_by_tag (rest_in (OfBest best)))) kept)

  -- a session of these parts
  module _ {D : Type 0} (rules : D → Rules) (shelf shelf' : Shelf I V) (session : Session D I V) (ks : List D) (d : Discipline) (image : List ℕ) (ds : List Dict)
      (at : at_number (slots_on meaning shelf) place ≡ Some (Some d)) (loaded : IsLoaded (map rules ks) d.terms image (OfBest best) ds) (lent : AreLent (armed_as false d) (disc_in meaning (OfBest best)) (pairs_of image))
      (homes-is : session.homes.entries ≡ (region_name, home) ∷ []) (labels-is : session.labels.items ≡ labels ∷ []) (paths-is : session.paths ≡ no_links)
      (slots-is : slots_on meaning shelf' ≡ set (slots_on meaning shelf) (place - 1) None) (unarmed : session.is_armed ≡ false) (spent : session.is_spent ≡ false) (parts : AreParts best ds session.dicts.entries labels) where
    abbrev kinds : List Rules
    kinds = map rules ks

    abbrev slots : Slots
    slots = slots_on meaning shelf

    abbrev emptied-slots : Slots
    emptied-slots = set slots (place - 1) None

    each : AllByRecursion (IsWholeAmong kinds (best_cells best)) ds
    each = subst (λ (b : Best I V). AllByRecursion (IsWholeAmong kinds (best_cells b)) ds) (same-best kinds d.terms image best ds loaded) loaded.each

    apart : AllShareNone (best_cells best) ds
    apart = subst (λ (b : Best I V). AllShareNone (best_cells b) ds) (same-best kinds d.terms image best ds loaded) loaded.apart

    dicts-is : session.dicts.entries ≡ entries_from 0 ds
    dicts-is = parts.entries_are ∙ ap (entries_from 0) (copies-same kinds (best_cells best) ds each)

    held-is : held_in_session meaning session ≡ held ∷ []
    held-is = ap (λ hs. held_all meaning hs session.labels.items) homes-is ∙ ap (held_all meaning ((region_name, home) ∷ [])) labels-is

    stands : IsSessionOver meaning rules shelf' session ks
    stands = record {
      regions = record {
        named = ap length labels-is ∙ sym (ap length homes-is);
        held =
            subst (λ on. IsSession on (slots_on meaning shelf') (held_in_session meaning session)) (sym unarmed)
            (subst (λ s. IsSession false s (held_in_session meaning session)) (sym slots-is)
            (subst (IsSession false emptied-slots) (sym held-is) (held-from slots d at image kinds ds loaded lent parts.named, tt, tt)));
      };
      dicts = subst (λ hs. AreDicts kinds hs session.dicts.entries) (sym held-is) (subst (AreDicts kinds (held ∷ [])) (sym dicts-is) (are-dicts kinds 0 ds each apart));
      views = subst (λ links. AreLinked links session.dicts.entries) (sym paths-is) (subst (AreLinked no_links) (sym dicts-is) (entries-linked ds (few-dicts kinds d.terms image best ds loaded)));
    }

    state-here : state_over meaning kinds shelf' session ≡ image_state (state_on meaning kinds shelf) place d.terms image
    state-here =
        ap (λ s. state_of kinds s (held_in_session meaning session) (dicts_in (held_in_session meaning session) (views_by session.paths session.dicts.entries) session.dicts.entries)) slots-is
        ∙ (ap (λ hs. state_of kinds emptied-slots hs (dicts_in hs (views_by session.paths session.dicts.entries) session.dicts.entries)) held-is
        ∙ (ap (λ es. state_of kinds emptied-slots (held ∷ []) (dicts_in (held ∷ []) (views_by session.paths es) es)) dicts-is
        ∙ (ap (λ links. state_of kinds emptied-slots (held ∷ []) (dicts_in (held ∷ []) (views_by links (entries_from 0 ds)) (entries_from 0 ds))) paths-is
        ∙ state-is slots d at image kinds ds loaded lent (views_by no_links (entries_from 0 ds)) (views-none (entries_from 0 ds)) parts.names parts.kept)))

    settled-here : settled_over meaning shelf' session ≡ settled_accounts (accounts emptied-slots) (held ∷ [])
    settled-here = ap (λ s. settled_accounts (accounts s) (held_in_session meaning session)) slots-is ∙ ap (settled_accounts (accounts emptied-slots)) held-is

    pub opens-image : OpensImage meaning rules place image shelf ks shelf' session
    opens-image = record {
      stands = stands;
      is = record {
        disc = d;
        here = at;
        sound = loaded.sound;
        allowed = loaded.allowed;
        tags = tags-are kinds d.terms image best ds loaded ∙ parts.own;
        state_is = state-here;
        keeps = subst (KeepsAccounts (accounts slots)) (sym settled-here) (accounts-kept slots d at image kinds ds loaded lent);
        asked = subst (SameAsked (accounts slots)) (sym settled-here) (asked-same slots d at image kinds ds loaded lent);
      };
      unarmed = unarmed;
      spent = spent;
    }
