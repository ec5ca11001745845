-- The dictionaries of a session over its regions, as the layers of view paths see them.
use Rattle.vc_base.proofs.Common.{◌≡◌, ℕ, List, [], ◌∷◌, map, length, Some, None, Option, option_map, bytes_eq, sym, refl, ap, ◌∙◌, subst, arith, AllByRecursion, contains, Discipline}
use Rattle.vc_base.proofs.Lists.{find-map}
use Rattle.vc_base.proofs.Options.{option_map-Some}
use Rattle.vc_dtdisc.specs.Rules.{Rules}
use Rattle.vc_objects.specs.Objects.{Dictionary, own_blocks}
use Rattle.vc_objects.specs.Parts.{IsWhole, dictionary_of}
use Rattle.vc_region.specs.Region.{is_best}
use Rattle.vc_commands.specs.Held.{Held}
use Rattle.vc_commands.specs.declared.region.home.HomeEntry.{HomeEntry}
use Rattle.vc_commands.specs.declared.region.labels.Labels.{Labels}
use Rattle.vc_steps.specs.Account.{held_named}
use Rattle.vc_steps.specs.DictHomes.{AreApartIn, AreDicts, IsDictOf, cells_of_held, dict_over}
use Rattle.vc_steps.specs.Homes.{held_all}
use Rattle.vc_steps.proofs.DictsStay.{Entry}
use Rattle.vc_views.specs.Dicts.{AreApartOver, AreDictsOver, DictRegion, IsDictOver, dictionary_over, region_named, region_seen}
use Rattle.vc_views.specs.Dicts as views

-- an open region as dictionaries see it
abbrev pub held_seen : Held → DictRegion
held_seen h = record { name = h.name; best = is_best h.region; cells = h.cells }

-- those of a session are its regions
pub regions-held : {I : Type 0} {V : I → Type 0} (meaning : (x : I) × V x → Discipline) (homes : List (List ℕ × HomeEntry I V)) (labels : List Labels)
    → length labels ≡ length homes → map region_seen homes ≡ map held_seen (held_all meaning homes labels)
regions-held meaning [] labels same = refl
regions-held meaning (e ∷ es) [] same = absurd (omega (arith, same))
regions-held meaning (e ∷ es) (l ∷ ls) same = ap (λ rs. region_seen e ∷ rs) (regions-held meaning es ls (omega (arith, same)))

cells-seen : (o : Option Held) → views.cells_held (option_map held_seen o) ≡ cells_of_held o
cells-seen None = refl
cells-seen (Some h) = refl

module _ (hs : List Held) where
  abbrev pub seen : List DictRegion
  seen = map held_seen hs

  region-found : (r : List ℕ) → region_named seen r ≡ option_map held_seen (held_named hs (Some r))
  region-found r = find-map held_seen (λ h. bytes_eq h.name r) hs

  -- each dictionary is the same over both
  pub over-seen : (e : Entry) → dictionary_over seen e ≡ dict_over hs e
  over-seen e =
      ap (λ o. dictionary_of e.1.dict (views.cells_held o)) (region-found e.1.home)
      ∙ ap (dictionary_of e.1.dict) (cells-seen (held_named hs (Some e.1.home)))

  module _ (kinds : List Rules) where
    dict-to : (e : Entry) → IsDictOf kinds hs e → IsDictOver kinds seen e
    dict-to e is = record {
      home = held_seen is.home;
      found = region-found e.1.home ∙ ap (λ o. option_map held_seen o) is.found;
      best = is.best;
      rules = is.rules;
      kind = is.kind;
      whole = is.whole;
    }

    dict-from : (e : Entry) → IsDictOver kinds seen e → IsDictOf kinds hs e
    dict-from e is =
        let h = option_map-Some held_seen (held_named hs (Some e.1.home)) is.home (sym (region-found e.1.home) ∙ is.found) in
        record {
          home = h.0;
          found = h.1;
          best = ap (λ (r : DictRegion). r.best) h.2 ∙ is.best;
          rules = is.rules;
          kind = is.kind;
          whole = subst (λ (r : DictRegion). IsWhole is.rules e.1.dict r.cells) (sym h.2) is.whole;
        }

    apart-to : (e : Entry) (es : List Entry) → AllByRecursion (AreApartIn hs e) es → AllByRecursion (AreApartOver seen e) es
    apart-to e [] all = tt
    apart-to e (f ∷ fs) all = (
      (λ near a mine.
          ap (λ (d : Dictionary). contains (own_blocks d) a) (over-seen f)
          ∙ all.0 near a (ap (λ (d : Dictionary). contains (own_blocks d) a) (sym (over-seen e)) ∙ mine)),
      apart-to e fs all.1,
    )

    apart-from : (e : Entry) (es : List Entry) → AllByRecursion (AreApartOver seen e) es → AllByRecursion (AreApartIn hs e) es
    apart-from e [] all = tt
    apart-from e (f ∷ fs) all = (
      (λ near a mine.
          ap (λ (d : Dictionary). contains (own_blocks d) a) (sym (over-seen f))
          ∙ all.0 near a (ap (λ (d : Dictionary). contains (own_blocks d) a) (over-seen e) ∙ mine)),
      apart-from e fs all.1,
    )

    -- and all are whole over both
    pub dicts-to : (es : List Entry) → AreDicts kinds hs es → AreDictsOver kinds seen es
    dicts-to [] are = tt
    dicts-to (e ∷ es) are = (dict-to e are.0, apart-to e es are.1, dicts-to es are.2)

    pub dicts-from : (es : List Entry) → AreDictsOver kinds seen es → AreDicts kinds hs es
    dicts-from [] are = tt
    dicts-from (e ∷ es) are = (dict-from e are.0, apart-from e es are.1, dicts-from es are.2)
