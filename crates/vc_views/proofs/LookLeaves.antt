-- What a look at one dictionary leaves of its region and of all dictionaries.
use Rattle.vc_model.specs.Discipline.{no_exceptions}
use Rattle.vc_base.proofs.Common.{◌≡◌, ℕ, zero, suc, false, List, [], ◌∷◌, map, set, slice_get, Some, None, option_map, remove, position, bytes_eq, Global, sym, refl, ap, ◌∙◌, subst, none-some, same_Some, AllByRecursion, keys_of, values_of, contains, Discipline, Layout, at_number}
use Rattle.std.specs.declared.dyn_box.DynBox.{DynBox}
use Rattle.indexmap.specs.IndexMap.{set_value_at}
use Rattle.vc_base.proofs.Texts.{bytes_eq-swapped, same_bytes}
use Rattle.vc_dtdisc.specs.Rules.{Rules}
use Rattle.vc_dict.specs.Listed.{holders_of}
use Rattle.vc_dict.specs.Stands.{Became}
use Rattle.vc_dict.specs.declared.dict.Dict.{Dict}
use Rattle.vc_best.specs.Cells.{StaysButCells, cells_in, rest_in}
use Rattle.vc_best.specs.declared.best.Best as best
use Rattle.vc_region.specs.Region.{OfBest}
use Rattle.vc_region.specs.declared.region.Region.TheVariants.{Best}
use Rattle.vc_objects.specs.Leaves.{Looks}
use Rattle.vc_objects.specs.Objects.{Dictionary, own_blocks}
use Rattle.vc_objects.specs.Parts.{IsWhole, dictionary_of}
use Rattle.vc_objects.proofs.Looking.{Looks-became}
use Rattle.vc_commands.specs.declared.dict.entry.DictEntry.{DictEntry}
use Rattle.vc_commands.specs.declared.region.home.HomeEntry.{HomeEntry}
use Rattle.vc_commands.proofs.Firsts.{IsFirst, find-first, find-set}
use Rattle.vc_views.specs.Dicts.{AreDictsOver, DictRegion, DictSeen, HomeRest, IsDictOver, cells_held, dict_seen, dictionary_over, home_rest, region_named, region_seen}
use Rattle.vc_views.specs.LayerLaws.{Entry}
use Rattle.vc_views.specs.Leaves.{LooksAt}
use Rattle.vc_views.proofs.LinkLists.{found-set, map-set_same}
use Rattle.vc_views.proofs.Firsts.{named-first, named-found, value-read, value-set}
use Rattle.vc_views.proofs.BlockChanges.{IsClear, clear-others, dicts-set, each-whole, seen-set}

-- a look asks no discipline, so any meaning of boxes serves
abbrev no_discipline : Discipline
no_discipline = record { out = []; faults = 0; terms = record { round = 32; grows = false }; room = None; exceptions = no_exceptions }

module _ {I : Type 0} {V : I → Type 0} (es : List (List ℕ × HomeEntry I V)) (r : List ℕ) (j : ℕ) (v : HomeEntry I V) (b : best.Best I V)
    (at : position (bytes_eq r) (keys_of es) ≡ Some j) (read : slice_get (values_of es) j ≡ Some v) (is : v.region ≡ Best b) where
  abbrev first : IsFirst (λ (e : List ℕ × HomeEntry I V). bytes_eq e.0 r) es j
  first = named-first es r j at

  abbrev name : List ℕ
  name = first.item.0

  abbrev entry_of : best.Best I V → HomeEntry I V
  entry_of c = record { place = v.place; region = Best c }

  item-is : first.item ≡ (name, entry_of b)
  item-is = ap (λ w. (name, w)) (value-read es j first.item v first.at read ∙ ap (λ q. let w : HomeEntry I V = record { place = v.place; region = q } in w) is)

  name-is : name ≡ r
  name-is = same_bytes name r first.passes

  pub was-named : region_named (map region_seen es) r ≡ Some (region_seen (name, entry_of b))
  was-named = named-found es r ∙ ap (option_map region_seen) (find-first (λ e. bytes_eq e.0 r) es j first) ∙ ap (λ e. Some (region_seen e)) item-is

  -- its cells are those of the best region
  pub held-is : cells_held (region_named (map region_seen es) r) ≡ cells_in b
  held-is = ap cells_held was-named

  module _ (c : best.Best I V) (stays : StaysButCells b c) where
    abbrev after : List (List ℕ × HomeEntry I V)
    after = set_value_at es j (entry_of c)

    after-is : after ≡ set es j (name, entry_of c)
    after-is = value-set es j first.item (entry_of c) first.at

    now-named : region_named (map region_seen after) r ≡ Some (region_seen (name, entry_of c))
    now-named =
        ap (λ z. region_named (map region_seen z) r) after-is ∙ named-found (set es j (name, entry_of c)) r
        ∙ ap (option_map region_seen) (find-set (λ e. bytes_eq e.0 r) es j first.item (name, entry_of c) first.at first.before first.passes)

    other-named : (q : List ℕ) → bytes_eq q r ≡ false → region_named (map region_seen after) q ≡ region_named (map region_seen es) q
    other-named q away =
        let fails : bytes_eq name q ≡ false = ap (λ n. bytes_eq n q) name-is ∙ bytes_eq-swapped r q ∙ away in
        ap (λ z. region_named (map region_seen z) q) after-is ∙ named-found (set es j (name, entry_of c)) q
        ∙ ap (option_map region_seen) (found-set (λ e. bytes_eq e.0 q) es j first.item (name, entry_of c) first.at fails fails) ∙ sym (named-found es q)

    abbrev rest_with : Layout ℕ → DynBox I Global V → HomeRest I V
    rest_with layout disc = record { name = name; place = v.place; region = OfBest layout; disc = disc }

    rest-same : home_rest (name, entry_of c) ≡ home_rest first.item
    rest-same = ap (λ l. rest_with l c.disc) stays.layout ∙ ap (λ d. rest_with (rest_in b) d) stays.disc ∙ ap home_rest (sym item-is)

    -- what a look leaves of each region stays
    pub rest-kept : map home_rest after ≡ map home_rest es
    rest-kept = ap (map home_rest) after-is ∙ map-set_same home_rest es j first.item (name, entry_of c) first.at rest-same

    module _ (rules : Rules) (old new : Dict) (whole : IsWhole rules old (cells_in b)) (became : Became rules (holders_of old (cells_in b)) old (cells_in b) new (cells_in c) (holders_of old (cells_in b)) old.current.0) where
      looks : Looks (λ _. no_discipline) rules b old c new
      looks = Looks-became (λ _. no_discipline) rules b c old new whole became stays

      pub looked : LooksAt rules r (map region_seen es) old (map region_seen after) new
      looked = record {
        before = region_seen (name, entry_of b);
        was = was-named;
        touched = record {
          before = region_seen (name, entry_of b);
          after = region_seen (name, entry_of c);
          was = was-named;
          now = now-named;
          best = refl;
          others = λ a apart. looks.leaves.rest.others a apart (ap (λ d. contains (own_blocks d) a) looks.dict ∙ apart);
          elsewhere = other-named;
        };
        whole = looks.leaves.whole;
        same = looks.dict;
        kind = looks.leaves.kind;
      }

pub pair-at : {A : Type 0} (es : List (List ℕ × A)) (i : ℕ) (v : A) → slice_get (values_of es) i ≡ Some v → (n : List ℕ) × (slice_get es i ≡ Some (n, v))
pair-at [] i v read = absurd (none-some v read)
pair-at (e ∷ es) zero v read = (e.0, ap (λ w. Some (e.0, w)) (same_Some e.1 v read))
pair-at (e ∷ es) (suc i) v read = pair-at es i v read

pub dict-at : (kinds : List Rules) (regions : List DictRegion) (es : List Entry) (i : ℕ) (e : Entry) → slice_get es i ≡ Some e → AreDictsOver kinds regions es → IsDictOver kinds regions e
dict-at kinds regions [] i e there are = absurd (none-some e there)
dict-at kinds regions (x ∷ es) zero e there are = subst (IsDictOver kinds regions) (same_Some x e there) are.0
dict-at kinds regions (x ∷ es) (suc i) e there are = dict-at kinds regions es i e there are.2

module _ (kinds : List Rules) (old new : List DictRegion) (es : List Entry) (i : ℕ) (n : List ℕ) (v : DictEntry) (there : slice_get es i ≡ Some (n, v)) (are : AreDictsOver kinds old es)
    (rules : Rules) (kind : at_number kinds v.dict.kind ≡ Some rules) (dict : Dict) (looks : LooksAt rules v.home old v.dict new dict) where
  abbrev pub looked_entry : Entry
  looked_entry = (n, record { home = v.home; number = v.number; dict = dict })

  abbrev own : List ℕ
  own = own_blocks (dictionary_of v.dict looks.before.cells)

  over-was : dictionary_over old (n, v) ≡ dictionary_of v.dict looks.before.cells
  over-was = ap (λ o. dictionary_of v.dict (cells_held o)) looks.was

  clear : AllByRecursion (IsClear old v.home own) (remove es i)
  clear = subst (λ d. AllByRecursion (IsClear old v.home (own_blocks d)) (remove es i)) over-was (clear-others kinds old (n, v) es i there are)

  abbrev seen_with : ℕ → Dictionary → DictSeen
  seen_with k d = record { name = n; home = v.home; number = v.number; kind = k; dict = d }

  same-seen : dict_seen new looked_entry ≡ dict_seen old (n, v)
  same-seen =
      ap (λ k. seen_with k (dictionary_over new looked_entry)) looks.kind
      ∙ ap (seen_with v.dict.kind) (ap (λ o. dictionary_of dict (cells_held o)) looks.touched.now ∙ looks.same ∙ sym over-was)

  whole-now : IsDictOver kinds new looked_entry
  whole-now = record {
    home = looks.touched.after;
    found = looks.touched.now;
    best = looks.touched.best;
    rules = rules;
    kind = ap (at_number kinds) looks.kind ∙ kind;
    whole = looks.whole;
  }

  -- all dictionaries stay whole and the same
  pub dicts-looked : AreDictsOver kinds new (set es i looked_entry)
  dicts-looked = dicts-set kinds v.home own old new looks.touched (n, v) looked_entry same-seen whole-now es i there are clear

  pub seen-looked : map (dict_seen new) (set es i looked_entry) ≡ map (dict_seen old) es
  seen-looked = seen-set kinds v.home own old new looks.touched (n, v) looked_entry same-seen whole-now es i there (each-whole kinds old es are) clear
