-- What a look at the dictionary of a number leaves of a store, and what it leaves of it that is taken out.
use Rattle.vc_base.proofs.Common.{◌≡◌, ◌<◌, ℕ, Option, Some, None, is_some, option_map, get_or, slice_get, refl, sym, ap, ◌∙◌, subst, Discipline}
use Rattle.vc_dtdisc.specs.Rules.{Rules}
use Rattle.vc_dict.specs.Listed.{holders_of}
use Rattle.vc_dict.specs.Stands.{Became}
use Rattle.vc_dict.specs.declared.dict.Dict.{Dict}
use Rattle.vc_best.specs.Cells.{StaysButCells, cells_in}
use Rattle.vc_best.specs.declared.best.Best.{Best}
use Rattle.vc_best.proofs.CellCalls.{stays-disc, stays-segments}
use Rattle.vc_objects.specs.Leaves.{Looks}
use Rattle.vc_objects.specs.Parts.{dictionary_in}
use Rattle.vc_objects.proofs.Leaving.{keeps-same}
use Rattle.vc_objects.proofs.Looking.{Looks-became}
use Rattle.vc_paths.specs.Layers.{Same}
use Rattle.vc_store.specs.Contents.{contents_of}
use Rattle.vc_store.specs.Stores.Alike.{HasLayer, Keeps, dictionary_or, held_at, layered_of}
use Rattle.vc_algebra.specs.InRegion.{rules_or}
use Rattle.vc_store.specs.Stores.Stores.{AllStay, HasDict, IsOpen, StaysOpen, contents_or, dict_at, dicts_of, disc_of, kinds_of, lent_to, numbers_of, rules_at, shown}
use Rattle.vc_store.specs.declared.stores.store.Store.{Store}
use Rattle.vc_store.proofs.Changed.{Call, by-number, others-held, same-numbers, stays-there, there-now}
use Rattle.vc_store.proofs.Here.{below-there, call-kept, found-there, whole-here, with_dict}
use Rattle.std.proofs.Math.Path.{fun_ext}

module _ {D : Type 0} {I : Type 0} {V : I → Type 0} (rules_by : D → Rules) (s : Store D I V) (like n : ℕ) (has : HasLayer rules_by s like n)
    (o : Option Dict) (d : Dict) (k : D) (read : o ≡ get_or (dicts_of s) n o) (found : o ≡ Some d) (kind : k ≡ get_or (kinds_of s) n k) (b : Best I V) (d' : Dict)
    (t : Became (rules_by k) (holders_of d (cells_in s.best)) d (cells_in s.best) d' (cells_in b) (holders_of d (cells_in s.best)) d.current.0) (stays : StaysButCells s.best b) where
  below : n < numbers_of s
  below = below-there (dicts_of s) n has.there

  at : dict_at s n ≡ Some d
  at = found-there s n o d has.there read found

  abbrev after : Store D I V
  after = with_dict s n b d'

  -- whatever the region's discipline is
  abbrev over : Discipline → (x : I) × V x → Discipline
  over disc = λ _. disc

  looks : (disc : Discipline) → IsOpen rules_by s disc → Looks (over disc) (rules_by k) s.best d b d'
  looks disc is = Looks-became (over disc) (rules_by k) s.best b d d' (whole-here rules_by s n is below k kind d at) t stays

  call : (disc : Discipline) → IsOpen rules_by s disc → Call (over disc) rules_by s after n d d' k k
  call disc is = call-kept (over disc) rules_by s n (record { is_open = is; there = has.there }) o d k read found kind b d' (looks disc is).leaves

  pub look-keeps : Keeps rules_by s after
  look-keeps =
      let c = call has.disc has.is_open in
      let here : held_at after n ≡ held_at s n =
      ap (option_map (λ e. dictionary_in e b)) (there-now c)
      ∙ ap Some (looks has.disc has.is_open).dict
      ∙ sym (ap (option_map (λ e. dictionary_in e s.best)) at) in
      record {
        region = stays;
        numbers = same-numbers c;
        kinds = refl;
        dicts = by-number c (λ m. held_at after m ≡ held_at s m) here (others-held c);
        is_open = λ disc is. (stays-there (call disc is) t.method).is_open;
      }

-- whether there is one is told by what it is made into
some-same : {A B : Type 0} (f g : A → B) (o p : Option A) → option_map f o ≡ option_map g p → is_some o ≡ is_some p
some-same f g None None e = refl
some-same f g None (Some y) e = ap is_some e
some-same f g (Some x) None e = ap is_some e
some-same f g (Some x) (Some y) e = refl

map-over : {A B C : Type 0} (f : A → B) (g : B → C) (o : Option A) → option_map (λ x. g (f x)) o ≡ option_map g (option_map f o)
map-over f g None = refl
map-over f g (Some x) = refl

module _ {D : Type 0} {I : Type 0} {V : I → Type 0} {rules_by : D → Rules} {s t : Store D I V} (k : Keeps rules_by s t) where
  pub rules-kept : (n : ℕ) → rules_at rules_by t n ≡ rules_at rules_by s n
  rules-kept n = ap (λ ks. rules_or (option_map rules_by (slice_get ks n))) k.kinds

  has-kept : (n : ℕ) → HasDict s n → HasDict t n
  has-kept n h = some-same (λ d. dictionary_in d t.best) (λ d. dictionary_in d s.best) (dict_at t n) (dict_at s n) (k.dicts n) ∙ h

  shown-kept : (n : ℕ) → shown t n ≡ shown s n
  shown-kept n =
      map-over (λ d. dictionary_in d t.best) contents_of (dict_at t n)
      ∙ ap (option_map contents_of) (k.dicts n)
      ∙ sym (map-over (λ d. dictionary_in d s.best) contents_of (dict_at s n))

  pub all-stay : AllStay s t
  all-stay = record { shown = shown-kept; kinds = k.kinds; numbers = k.numbers }

  pub stays-open : (meaning : (x : I) × V x → Discipline) → IsOpen rules_by s (disc_of s meaning) → StaysOpen meaning rules_by s t
  stays-open meaning is =
      let disc : disc_of t meaning ≡ disc_of s meaning = stays-disc meaning s.best t.best k.region in
      record {
        is_open = subst (IsOpen rules_by t) (sym disc) (k.is_open (disc_of s meaning) is);
        there = has-kept;
        rules = λ n _. rules-kept n;
        methods = λ n _. ap (λ o. (contents_or o).method) (shown-kept n);
        lends = keeps-same (disc_of s meaning) (disc_of t meaning) (lent_to s) (lent_to t) disc (stays-segments s.best t.best k.region);
      }

  -- the layers are those of before, and each number that was one of theirs is
  pub layers-same : (like like' : ℕ) → like' ≡ like → Same (layered_of rules_by s like) (layered_of rules_by t like')
  layers-same like like' same = record {
    has = λ d h. record {
      disc = h.disc;
      is_open = k.is_open h.disc h.is_open;
      there = has-kept d h.there;
      rules = rules-kept d ∙ h.rules ∙ sym (rules-kept like) ∙ sym (ap (rules_at rules_by t) same);
    };
    layers = fun_ext (λ d.
        ap (λ z. record { method = (dictionary_or (held_at t d)).method; kind = 1; rules = z; objects = (dictionary_or (held_at t d)).objects }) (ap (rules_at rules_by t) same ∙ rules-kept like)
        ∙ ap (λ z. record { method = (dictionary_or z).method; kind = 1; rules = rules_at rules_by s like; objects = (dictionary_or z).objects }) (k.dicts d));
  }
